use mathlib.Core.Path.{◌≡◌}
use Prim.Native.Nat.{ℕ, ◌+◌, ◌≤◌, ◌<◌}
use Rattle.model.specs.Block.{word}
use Rattle.audit.proofs.whole.used.Given as goal

-- From w on all occupancy words are 0.
abbrev pub invariant-loop-w : goal.invariant-loop-w
invariant-loop-w l = (v : ℕ) → l.w ≤ v → v < l.k → word l.b (17 + v) ≡ 0
