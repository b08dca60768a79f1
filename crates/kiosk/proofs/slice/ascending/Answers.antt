-- A key that is not above the one before it is where they do not ascend.
use mathlib.Core.Path.{◌≡◌, ap}
use Prim.Native.Nat.{ℕ, zero, suc, ◌+◌, ◌-◌, ◌*◌, ◌≤◌, ◌<◌}
use mathlib.Core.List.{List}
use native.Mathlib.Omega.{arith}
use Rattle.model.specs.Block.{word}
use Rattle.model.specs.Kiosk.{key_at}
use Rattle.kiosk.specs.Places.{Ascend}
use Rattle.kiosk.proofs.slice.ascending.Goals as goal

descends : (k : List ℕ) (n i : ℕ) → 0 < i → i < n → word k (1 + 2 * i) ≤ word k (2 * i - 1) → Ascend k n → ⊥
descends k n zero p q h a = omega arith
descends k n (suc i) p q h a =
    let e : key_at k (i + 1) ≡ key_at k (suc i) = ap (key_at k) (omega arith) in
    let f : word k (2 * suc i - 1) ≡ key_at k i = ap (word k) (omega arith) in
    omega (arith, a i (omega arith))

pub returns-then-k-i : goal.returns-then-k-i
returns-then-k-i c = descends _ _ _ c.loop-i.auto.i c.loop-i-test.true c.if-k-i.true
