-- Words are cleared from the start: those before the place reached are zeros.
use mathlib.Core.Path.{◌≡◌, refl, ap, sym, ◌∙◌}
use Prim.Native.Nat.{ℕ, zero, suc, ◌+◌, ◌≤◌, ◌<◌}
use mathlib.Core.List.{List, [], ◌∷◌}
use native.Mathlib.Numerals.{add-one}
use native.Mathlib.Omega.{arith}
use lib.ListN.{length, take, set, replicate, length-set}
use lib.Seq.{take_all}

-- the first i words of x are zeros
pub record Zeros (x₀ x : List ℕ) (i : ℕ) : Type 0 where
  pub long : length x ≡ length x₀
  pub within : i ≤ length x
  pub zeros : take i x ≡ replicate i 0

pub zeros_none : (x : List ℕ) → Zeros x x 0
zeros_none x = record { long = refl; within = omega arith; zeros = refl }

take-zero : (x : List ℕ) (i : ℕ) → i < length x → take i x ≡ replicate i 0 → take (suc i) (set x i 0) ≡ replicate (suc i) 0
take-zero [] i h e = absurd (omega arith)
take-zero (a ∷ x) zero h e = refl
take-zero (a ∷ x) (suc i) h e =
    let first : a ≡ 0 = cc e in
    let rest : take i x ≡ replicate i 0 = cc e in
    rw first (ap (λ (y : List ℕ). 0 ∷ y) (take-zero x i (omega arith) rest))

pub zeros_more : {x₀ x : List ℕ} {i : ℕ} → Zeros x₀ x i → i < length x → Zeros x₀ (set x i 0) (i + 1)
zeros_more {x₀} {x} {i} Z h = record {
  long = length-set x i 0 ∙ Z.long;
  within = rw (length-set x i 0) (omega arith);
  zeros = rw add-one (take-zero x i h Z.zeros);
}

pub zeros_all : {x₀ x : List ℕ} {i : ℕ} → Zeros x₀ x i → length x ≤ i → x ≡ replicate (length x₀) 0
zeros_all {x₀} {x} {i} Z h =
    let e : i ≡ length x₀ = omega (arith, Z.long, Z.within) in
    sym (take_all i x h) ∙ Z.zeros ∙ rw e
