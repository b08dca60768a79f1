-- Every key before pair i is below the key; the first that is not ends the search.
use Prim.Native.Nat.{ℕ, ◌<◌}
use Rattle.model.specs.Kiosk.{key_at}
use Rattle.kiosk.proofs.slice.place.Given as goal

abbrev pub invariant-loop-i : goal.invariant-loop-i
invariant-loop-i l = (t : ℕ) → t < l.i → key_at l.k t < l.key
