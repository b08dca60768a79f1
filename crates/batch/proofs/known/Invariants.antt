-- Each record so far puts or removes; the first that does not ends the loop.
use Prim.Native.Nat.{ℕ, ◌<◌}
use Rattle.batch.proofs.Words.{KnownAt}
use Rattle.batch.proofs.known.Given as goal

abbrev pub invariant-loop-i : goal.invariant-loop-i
invariant-loop-i l = (j : ℕ) → j < l.i → KnownAt l.words j
