-- Each turn writes the line of the next run behind those written, until the room or the runs are used up.
use native.Mathlib.Omega.{arith}
use mathlib.Core.Path.{refl}
use Rattle.lists.proofs.Asking.{Ready, ready_few, asking_none, asking_begun, asking_some, asking_next}
use Rattle.lists.proofs.ask.write_runs.Goals as goal
use Rattle.lists.proofs.ask.write_runs.Goals.{After-shown-k}

ready : (c : After-shown-k) → let a = c.args in Ready a.x.now a.count a.start c.shown-k.result a.out.now
ready c = record { sound = c.requires.0; is = c.requires.1; room = c.shown-k.ensures }

pub returns-then-k-eq0 : goal.returns-then-k-eq0
returns-then-k-eq0 c = asking_none (ready (goal.at.returns-then-k-eq0 c).After-shown-k) c.if-k-eq0.true

pub loop-i-init : goal.loop-i-init
loop-i-init c = asking_begun (ready (goal.at.loop-i-init c).After-shown-k) c.behind-at.ensures

pub overflow_mul-result : goal.overflow_mul-result
overflow_mul-result c = omega (arith, ready_few c.loop-i.invariant.ready)

pub returns-in_default : goal.returns-in_default
returns-in_default c = absurd (asking_some c.loop-i.invariant c.run_from.ensures c.loop-i-test.true c.in_default.is)

pub loop-i-preserved : goal.loop-i-preserved
loop-i-preserved c =
    asking_next c.loop-i.invariant c.run_from.ensures c.loop-i-test.true c.in-Some.is _ refl c.run_line-f.ensures c.write.ensures

pub overflow_mul-result-2 : goal.overflow_mul-result-2
overflow_mul-result-2 c = omega (arith, ready_few (ready (goal.at.overflow_mul-result-2 c).After-shown-k))
