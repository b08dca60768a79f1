use Prim.Native.Nat.{ℕ, ◌+◌, ◌<◌}
use Rattle.model.specs.Kiosk.{key_at}
use Rattle.kiosk.proofs.slice.ascending.Given as goal

-- The keys before pair i ascend.
abbrev pub invariant-loop-i : goal.invariant-loop-i
invariant-loop-i l = (t : ℕ) → t + 1 < l.i → key_at l.k t < key_at l.k (t + 1)
