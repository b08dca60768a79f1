-- References taken from a tally, one after another.
use mathlib.Core.Path.{◌≡◌, refl, sym, ap}
use mathlib.Core.Logic.{◌≢◌}
use Prim.Native.Nat.{ℕ, zero, suc, ◌+◌, ◌-◌, ◌≤◌, ◌<◌}
use mathlib.Core.Bool.{Bool, true, false}
use mathlib.Core.List.{List}
use lib.ListN.{length, get_or, set, length-set}
use lib.Seq.{get_or-set_same, get_or-set_other}
use native.Mathlib.Omega.{arith}
use native.Mathlib.Decide.{ℕ_discrete}
use Rattle.model.specs.Heap.{hit, hits}
use Rattle.model.specs.Tells.{Tells}
use Rattle.model.proofs.block.Counts.{hit_yes, hit_no}
use Rattle.area.specs.Turns.{Enough, Lowered}

pub hit_le : (x n : ℕ) → hit x n ≤ 1
hit_le x n = go (ℕ_discrete x n)
  where
    go : Dec (x ≡ n) → hit x n ≤ 1
    go (yes e) = omega (arith, hit_yes x n e)
    go (no e) = omega (arith, hit_no x n e)

pub hits_most : (f : ℕ → ℕ) (x k : ℕ) → hits f x k ≤ k
unfolding hits
hits_most f x zero = omega arith
hits_most f x (suc k) = omega (arith, hit_le (f k) x, hits_most f x k)

-- one reference to x less
pub lowered : (t u : List ℕ) (x : ℕ) → x < length t → get_or t x 0 ≢ 0 → u ≡ set t x (get_or t x 0 - 1) → (y : ℕ) → get_or u y 0 + hit x y ≡ get_or t y 0
lowered t u x lt p eu y = rw eu (go (ℕ_discrete x y))
  where
    go : Dec (x ≡ y) → get_or (set t x (get_or t x 0 - 1)) y 0 + hit x y ≡ get_or t y 0
    go (yes e) = rw (← e) (omega (arith, get_or-set_same t x (get_or t x 0 - 1) 0 lt, hit_yes x x refl))
    go (no e) = omega (arith, get_or-set_other t x y (get_or t x 0 - 1) 0 (λ z. e (sym z)), hit_no x y e)

-- the links l and r of a node, where place 0 is filled up before
module _ (t : List ℕ) (l r : ℕ) (ll : l < length t) (lr : r < length t) where
  abbrev t₁ : List ℕ
  t₁ = set t 0 2

  full : get_or t₁ 0 0 ≡ 2
  full = get_or-set_same t 0 2 0 (omega arith)

  kept : (y : ℕ) → 1 ≤ y → get_or t₁ y 0 ≡ get_or t y 0
  kept y p = get_or-set_other t 0 y 2 0 (omega arith)

  pub first_no : (get_or t₁ l 0 ≢ 0 → ⊥) → Enough t l r → ⊥
  first_no f E = f (λ z. go z (ℕ_discrete l 0))
    where
      go : get_or t₁ l 0 ≡ 0 → Dec (l ≡ 0) → ⊥
      go z (yes e) = omega (arith, full, ap (λ y. get_or t₁ y 0) e)
      go z (no e) = omega (arith, kept l (omega arith), E l (omega arith), hit_yes l l refl)

  module _ (u : List ℕ) (p : get_or t₁ l 0 ≢ 0) (eu : u ≡ set t₁ l (get_or t₁ l 0 - 1)) where
    one : (y : ℕ) → get_or u y 0 + hit l y ≡ get_or t₁ y 0
    one = lowered t₁ u l (omega (arith, length-set t 0 2)) p eu

    pub second_lowers : (v : List ℕ) → get_or u r 0 ≢ 0 → v ≡ set u r (get_or u r 0 - 1) → Lowered t v l r
    second_lowers v q ev y z = omega (arith, lowered u v r (omega (arith, ap length eu, length-set t₁ l (get_or t₁ l 0 - 1), length-set t 0 2)) q ev y, one y, kept y z)

    -- there is a second one, or the two are too many
    pub second_tells : (b : Bool) → Tells b (get_or u r 0 ≢ 0) → (v : List ℕ) → (b ≡ true → v ≡ set u r (get_or u r 0 - 1)) → Tells b (Enough t l r)
    second_tells true q v ev = λ y z. omega (arith, second_lowers v q (ev refl) y z)
    second_tells false q v ev = λ E. q (λ z. go E z (ℕ_discrete r 0))
      where
        go : Enough t l r → get_or u r 0 ≡ 0 → Dec (r ≡ 0) → ⊥
        go E z (yes e) = omega (arith, one 0, full, hit_le l 0, ap (λ y. get_or u y 0) e)
        go E z (no e) = omega (arith, one r, kept r (omega arith), E r (omega arith), hit_yes r r refl)
