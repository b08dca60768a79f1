-- Before each step all nodes below i have references.
use native.Mathlib.Omega.{arith}
use Rattle.model.proofs.running.Ends.{tidied_then}
use Rattle.block.proofs.ends.tidy_word.Goals as goal

pub loop-n-preserved : goal.loop-n-preserved
loop-n-preserved c =
    let I = c.loop-n.invariant in
    (omega arith, omega arith, tidied_then I.2 c.tidy.ensures)
