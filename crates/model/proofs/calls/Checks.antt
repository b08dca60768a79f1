-- Checks one after another: either way of a check taken on, and what holds where the number that they give is 0.
use mathlib.Core.Path.{◌≡◌, sym, ◌∙◌}
use mathlib.Core.Logic.{◌≢◌, ◌↔◌}
use Prim.Native.Nat.{ℕ, suc}
use native.Mathlib.Omega.{arith}
use Rattle.model.specs.Numbers.{SHAPE, DAMAGED}
use Rattle.model.specs.Calls.{Check, fails, passes}

pub check_map : {P R S M N : Type 0} → Check P R M → (R → S) → (M → N) → Check P S N
check_map (fails p r) f g = fails p (f r)
check_map (passes p m) f g = passes p (g m)

-- a check that gives suc k where it fails
module _ {P M : Type 0} {n : ℕ} (k : ℕ) where
  pub check_holds : Check P (n ≡ suc k) M → n ≡ 0 → P
  check_holds (fails p e) z = let f : suc k ≡ 0 = sym e ∙ z in absurd (omega arith)
  check_holds (passes p m) z = p

  pub check_next : Check P (n ≡ suc k) M → n ≡ 0 → M
  check_next (fails p e) z = let f : suc k ≡ 0 = sym e ∙ z in absurd (omega arith)
  check_next (passes p m) z = m

-- shape, then soundness
pub check_sound : {Shape Sound : Type 0} {n : ℕ} → Check Shape (n ≡ SHAPE) (Check Sound (n ≡ DAMAGED) (n ≡ 0)) → n ≡ 0 → Sound
check_sound C z = check_holds 1 (check_next 0 C z) z

-- a refusal's number is not 0
pub not_done : {n : ℕ} (k : ℕ) → n ≡ suc k → n ≡ 0 → ⊥
not_done k e z = let p : suc k ≡ 0 = sym e ∙ z in omega arith

-- the number k is given where it is n, and no other is
module _ {n k c : ℕ} {X : Type 0} (e : n ≡ c) where
  pub given : c ≡ k → X → (n ≡ k) ↔ X
  given z x = ((λ _. x), (λ _. e ∙ z))

  pub other : c ≢ k → (X → ⊥) → (n ≡ k) ↔ X
  other ne f = ((λ z. absurd (ne (sym e ∙ z))), (λ x. absurd (f x)))

-- a check whose premise is known, or whose refusal did not come
pub passed : {P R M : Type 0} → P → Check P R M → M
passed p (fails q r) = absurd (q p)
passed p (passes q m) = m

pub failed : {P R M : Type 0} → (P → ⊥) → Check P R M → R
failed p (fails q r) = r
failed p (passes q m) = absurd (p q)

pub unless : {P R M : Type 0} → (R → ⊥) → Check P R M → M
unless n (fails p r) = absurd (n r)
unless n (passes p m) = m
