-- Answers of tests, and tests one after another.
use mathlib.Core.Path.{◌≡◌, refl, sym}
use Prim.Native.Nat.{ℕ, ◌+◌, ◌≤◌, ◌<◌}
use mathlib.Core.Bool.{Bool, true, false, not, true≢false}
use lib.Dec.{eqb, ltb}
use borrow.Author.Tests.{eqb-true, eqb-false, ltb-true, ltb-false}
use native.Mathlib.Omega.{arith}
use native.Mathlib.Decide.{ℕ_discrete, dec_le}
use Rattle.model.specs.Tells.{Tells, Each}

-- where the code went on after `if !r { return .. }`, and where it did not
pub tells_yes : {P : Type 0} (r : Bool) → Tells r P → not r ≡ false → P
tells_yes true t e = t
tells_yes false t e = absurd (true≢false e)

pub tells_no : {P : Type 0} (r : Bool) → Tells r P → not r ≡ true → P → ⊥
tells_no true t e = absurd (true≢false (sym e))
tells_no false t e = t

pub tells_map : {P Q : Type 0} (r : Bool) → (P → Q) → (Q → P) → Tells r P → Tells r Q
tells_map true f g t = f t
tells_map false f g t = λ q. t (g q)

pub tells_eqb : (x y : ℕ) {P : Type 0} → (x ≡ y → P) → (P → x ≡ y) → Tells (eqb x y) P
tells_eqb x y {P} f g = go (eqb x y) refl
  where
    go : (r : Bool) → eqb x y ≡ r → Tells r P
    go true e = f (eqb-true x y e)
    go false e = λ p. eqb-false x y e (g p)

pub tells_ltb : (x y : ℕ) {P : Type 0} → (x < y → P) → (P → x < y) → Tells (ltb x y) P
tells_ltb x y {P} f g = go (ltb x y) refl
  where
    go : (r : Bool) → ltb x y ≡ r → Tells r P
    go true e = f (ltb-true x y e)
    go false e = λ p. let h = g p in omega (arith, ltb-false x y e)

-- one number after another
pub each_none : (k : ℕ) (P : ℕ → Type 0) → Each k k P
each_none k P i p q = absurd (omega arith)

pub each_more : (k n : ℕ) (P : ℕ → Type 0) → Each k n P → P (n + 1) → Each k (n + 1) P
each_more k n P f z i p q = go (ℕ_discrete i (n + 1))
  where
    go : Dec (i ≡ n + 1) → P i
    go (yes e) = rw e z
    go (no e) = f i p (omega arith)

pub each_join : (k m n : ℕ) (P : ℕ → Type 0) → Each k m P → Each m n P → Each k n P
each_join k m n P f g i p q = go (dec_le i m)
  where
    go : Dec (i ≤ m) → P i
    go (yes h) = f i p h
    go (no h) = g i (omega arith) q
