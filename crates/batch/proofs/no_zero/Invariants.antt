-- No record so far puts the value 0; the first that does ends the loop.
use Prim.Native.Nat.{ℕ, ◌<◌}
use Rattle.batch.proofs.Words.{SparedAt}
use Rattle.batch.proofs.no_zero.Given as goal

abbrev pub invariant-loop-i : goal.invariant-loop-i
invariant-loop-i l = (j : ℕ) → j < l.i → SparedAt l.words j
