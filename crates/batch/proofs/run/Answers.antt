-- After i records the call holds the tree that they made, and what the others do from there the whole batch does from its start.
use native.Mathlib.Omega.{arith}
use Rattle.batch.proofs.Going.{going_start, going_stop, going_next, going_end}
use Rattle.batch.proofs.run.Goals as goal

pub loop-i-init : goal.loop-i-init
loop-i-init c = let p = c.requires in (going_start _ _ p.0 p.1 p.2, p.5)

pub edit-requires : goal.edit-requires
edit-requires c = let I = c.loop-i.invariant.0 in ((I.holds, I.named, omega (arith, I.small, c.loop-i-test.true, c.requires.3)), c.loop-i.invariant.1)

pub returns-in_err-top : goal.returns-in_err-top
returns-in_err-top c = rw c.from_residual.ensures (going_stop c.loop-i.invariant.0 c.loop-i-test.true c.in_err-top.ensures.0, c.edit.ensures.1)

pub loop-i-preserved : goal.loop-i-preserved
loop-i-preserved c = (going_next c.loop-i.invariant.0 c.loop-i-test.true c.edit.auto.b c.in_ok-top.ensures.0, c.edit.ensures.1)

pub shape_of-b : goal.shape_of-b
shape_of-b c = c.loop-i.invariant.0.long

pub returns : goal.returns
returns c = (going_end c.loop-i.invariant.0 c.loop-i-test.false, c.loop-i.invariant.1)
