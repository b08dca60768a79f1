-- Each turn passes a line that asks from `least` on, and what is left to say is said by the lines behind it, from its last index on.
use mathlib.Core.Path.{sym}
use Rattle.model.specs.Request.{ascend}
use Rattle.frame.specs.Fields.{fields_of}
use Rattle.requests.proofs.Judging.{ascend_off, ascend_on, ascend_end}
use Rattle.requests.proofs.Cutting.{Read, test_bad, test_off, test_on, test_end}
use Rattle.requests.proofs.reading.ascending.Goals as goal
use Rattle.requests.proofs.reading.ascending.Goals.{In-Some}

read : (c : In-Some) → Read c.args.n c.loop-i.i c.args.request.now (fields_of c.in-Some.f)
read c = record { more = c.loop-i-test.true; line = sym c.in-Some.ensures }

pub returns-in_default : goal.returns-in_default
returns-in_default c = test_bad _ _ _ (ascend _ _ _) c.loop-i.invariant c.loop-i-test.true (sym c.in_default.ensures)

pub returns-then-not-asks_from : goal.returns-then-not-asks_from
returns-then-not-asks_from c =
    test_off (read (goal.at.returns-then-not-asks_from c).In-Some) (ascend _ _ _) c.loop-i.invariant (λ fs. ascend_off _ _ _ _ fs (sym c.if-not-asks_from.ensures))

pub loop-i-preserved : goal.loop-i-preserved
loop-i-preserved c =
    test_on (read (goal.at.loop-i-preserved c).In-Some) (ascend _ _ _) c.loop-i.invariant (ascend _ _ _) (λ fs. ascend_on _ _ _ _ fs (sym c.if-not-asks_from.ensures) c.last_of-least.ensures)

pub returns : goal.returns
returns c = test_end _ _ _ (ascend _ _ _) c.loop-i.invariant c.loop-i-test.false (ascend_end _ _ _)
