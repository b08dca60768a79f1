-- What stands in a list, by place and by key.
use mathlib.Core.Path.{◌≡◌, refl, sym}
use mathlib.Core.Logic.{◌≢◌, ◌⊎◌, inl, inr, ⊎_elim}
use Prim.Native.Nat.{ℕ, zero, suc, ◌<◌}
use mathlib.Core.List.{List, [], ◌∷◌, ◌++◌}
use lib.ListN.{length, get_or}
use native.Mathlib.Omega.{arith}
use Rattle.model.specs.Listing.{◌∈◌, Ascending}
use Rattle.model.specs.Delta.{Distinct}

module _ {A : Type 0} where
  pub in_at : (xs : List A) (d : A) (i : ℕ) → i < length xs → get_or xs i d ∈ xs
  unfolding ◌∈◌
  in_at [] d i p = absurd (omega arith)
  in_at (x ∷ xs) d zero p = inl refl
  in_at (x ∷ xs) d (suc i) p = inr (in_at xs d i (omega arith))

  pub at_in : (xs : List A) (d x : A) → x ∈ xs → (i : ℕ) × (i < length xs) × (get_or xs i d ≡ x)
  unfolding ◌∈◌
  at_in [] d x m = absurd m
  at_in (y ∷ ys) d x (inl e) = (0, omega arith, sym e)
  at_in (y ∷ ys) d x (inr m) = let w = at_in ys d x m in (suc w.0, omega arith, w.2)

  pub in_left : (x : A) (xs ys : List A) → x ∈ xs → x ∈ (xs ++ ys)
  unfolding ◌∈◌
  in_left x [] ys m = absurd m
  in_left x (z ∷ xs) ys (inl e) = inl e
  in_left x (z ∷ xs) ys (inr m) = inr (in_left x xs ys m)

  pub in_right : (x : A) (xs ys : List A) → x ∈ ys → x ∈ (xs ++ ys)
  unfolding ◌∈◌
  in_right x [] ys m = m
  in_right x (z ∷ xs) ys m = inr (in_right x xs ys m)

  pub in_either : (x : A) (xs ys : List A) → x ∈ (xs ++ ys) → (x ∈ xs) ⊎ (x ∈ ys)
  unfolding ◌∈◌
  in_either x [] ys m = inr m
  in_either x (z ∷ xs) ys (inl e) = inl (inl e)
  in_either x (z ∷ xs) ys (inr m) = ⊎_elim (λ w. inl (inr w)) inr (in_either x xs ys m)

  pub none_in : (xs : List A) → ((x : A) → x ∈ xs → ⊥) → xs ≡ []
  unfolding ◌∈◌
  none_in [] f = refl
  none_in (x ∷ xs) f = absurd (f x (inl refl))

  pub ascending_distinct : (key : A → ℕ) (xs : List A) → Ascending key xs → Distinct key xs
  unfolding Ascending Distinct
  ascending_distinct key [] a = tt
  ascending_distinct key (x ∷ xs) a = (λ y m e. omega (arith, a.0 y m), ascending_distinct key xs a.1)

  pub distinct_append : (key : A → ℕ) (xs ys : List A) → Distinct key xs → Distinct key ys → ((x y : A) → x ∈ xs → y ∈ ys → key x ≢ key y)
      → Distinct key (xs ++ ys)
  unfolding Distinct ◌∈◌
  distinct_append key [] ys d e f = e
  distinct_append key (x ∷ xs) ys d e f = (
    λ y m. ⊎_elim (λ w. d.0 y w) (λ w. f x y (inl refl) w) (in_either y xs ys m),
    distinct_append key xs ys d.1 e (λ z y m n. f z y (inr m) n),
  )
