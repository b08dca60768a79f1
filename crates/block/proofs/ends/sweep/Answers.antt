-- Before each step all nodes below i have references, and i is a node of word w; at the end all nodes do. A word of 0 has no node to look at.
use native.Mathlib.Omega.{arith}
use Prim.Native.Nat.{◌+◌, ◌*◌}
use Rattle.model.proofs.running.Ends.{tidied_over, tidied_then}
use Rattle.block.proofs.Runs.{tidied_words}
use Rattle.block.proofs.ends.sweep.Goals as goal

pub loop-w-preserved-then-word-ne0 : goal.loop-w-preserved-then-word-ne0
loop-w-preserved-then-word-ne0 c =
    let I = c.loop-w.invariant in
    (I.0, omega arith, omega arith, tidied_then I.3 c.tidy_word.ensures)

pub loop-w-preserved : goal.loop-w-preserved
loop-w-preserved c =
    let at = c.loop-w in
    let E = c.pass-w.ensures in
    let here = tidied_over at.w at.invariant.3 (omega (arith, at.invariant.1, at.invariant.2)) c.if-word-ne0.false in
    (at.invariant.0, omega arith, omega arith, tidied_words _ (at.w + 1) (32 * at.w + 33) (32 * c.pass-w.result + 1) (omega arith) (omega (arith, E.0)) E.2 here)
