-- The sums of two maps: they fit exactly when no key of both has one above 4,294,967,295; and how a walk over the one map may narrow the other.
use mathlib.Core.Path.{◌≡◌, refl, ap, ap₂, sym, ◌∙◌}
use mathlib.Core.Logic.{◌≢◌}
use Prim.Native.Nat.{ℕ, ◌+◌, ◌≤◌, ◌<◌, compare, Ordering}
use mathlib.Core.Bool.{Bool, true, false, ◌&&◌, true≢false}
use mathlib.Core.Option.{Option, none, some}
use mathlib.Core.List.{List, [], ◌∷◌, ◌++◌}
use borrow.Author.Tests.{leb-true, leb-false, le-leb, eq-eqb, ne_eqb}
use native.Mathlib.Omega.{arith}
use native.Mathlib.Decide.{dec_lt, ℕ_discrete}
use Rattle.model.specs.Tree.{Entry, cut, find, AllBelow, AllAbove, Sorted}
use Rattle.model.specs.Sums.{minutes}
use Rattle.model.specs.Rules.{sum_fits, sums_fit, fits}
use Rattle.model.proofs.maps.Compare.{cmp_eq}
use Rattle.model.proofs.maps.Tests.{both}
use Rattle.model.proofs.maps.Finds.{above_none, past, found_first}

-- a key that both maps have, with a sum above 4,294,967,295
pub record Exceeds (xs ys : List Entry) : Type 0 where
  pub key : ℕ
  pub left : ℕ
  pub right : ℕ
  pub left_is : find xs key ≡ some left
  pub right_is : find ys key ≡ some right
  pub above : 4294967295 < left + right

-- one key's sum
sum-within : (x y : ℕ) (o : Option ℕ) → sum_fits x o ≡ true → o ≡ some y → x + y ≤ 4294967295
sum-within x y none t e = let z : ◌≡◌ {A = ℕ} 0 1 = cc e in absurd (omega arith)
sum-within x y (some w) t e = let q : w ≡ y = cc e in omega (arith, leb-true (x + w) 4294967295 t)

sum_above : (x : ℕ) (o : Option ℕ) → sum_fits x o ≡ false → (y : ℕ) × (o ≡ some y) × (4294967295 < x + y)
sum_above x none t = absurd (true≢false t)
sum_above x (some y) t = (y, refl, leb-false (x + y) 4294967295 t)

-- where they fit, the sum of every key of both does
pub fit_sum : (xs ys : List Entry) → sums_fit xs ys ≡ true → (k x y : ℕ) → find xs k ≡ some x → find ys k ≡ some y → x + y ≤ 4294967295
unfolding sums_fit cut
fit_sum [] ys t k x y p q = let z : ◌≡◌ {A = ℕ} 0 1 = cc p in absurd (omega arith)
fit_sum (e ∷ es) ys t k x y p q = go (compare k e.0) refl p (both _ _ t) (fit_sum es ys)
  where
    go : (c : Ordering) → compare k e.0 ≡ c → find (e ∷ es) k ≡ some x → (sum_fits e.1 (find ys e.0) ≡ true) × (sums_fit es ys ≡ true)
        → (sums_fit es ys ≡ true → (k x y : ℕ) → find es k ≡ some x → find ys k ≡ some y → x + y ≤ 4294967295) → x + y ≤ 4294967295
    go Ordering.lt c p t ih = let z : ◌≡◌ {A = ℕ} 0 1 = cc (rw (c, find) at p) in absurd (omega arith)
    go Ordering.eq c p t ih = let v : e.1 ≡ x = cc (rw (c, find) at p) in omega (arith, sum-within e.1 y (find ys e.0) t.0 (rw (cmp_eq k e.0 c) at q))
    go Ordering.gt c p t ih = ih t.1 k x y (rw (c, find) at p) q

-- where they do not, some key's sum does not
pub unfit_key : (xs ys : List Entry) → Sorted xs → sums_fit xs ys ≡ false → Exceeds xs ys
unfolding sums_fit Sorted
unfit_key [] ys s t = absurd (true≢false t)
unfit_key (e ∷ es) ys s t = go (sum_fits e.1 (find ys e.0)) refl t (unfit_key es ys s.1)
  where
    later : Exceeds es ys → Exceeds (e ∷ es) ys
    later E = on (dec_lt e.0 E.key)
      where
        on : Dec (e.0 < E.key) → Exceeds (e ∷ es) ys
        on (yes p) = record { key = E.key; left = E.left; right = E.right; left_is = sym (past e es E.key p) ∙ E.left_is; right_is = E.right_is; above = E.above }
        on (no p) = let z : ◌≡◌ {A = ℕ} 0 1 = cc (E.left_is, above_none es e.0 E.key s.0 (omega arith)) in absurd (omega arith)

    go : (f : Bool) → sum_fits e.1 (find ys e.0) ≡ f → (f && sums_fit es ys) ≡ false → (sums_fit es ys ≡ false → Exceeds es ys) → Exceeds (e ∷ es) ys
    go true q t ih = later (ih t)
    go false q t ih = let (y, is, above) = sum_above e.1 (find ys e.0) q in record { key = e.0; left = e.1; right = y; left_is = found_first e es; right_is = is; above = above }

-- Laws for a walk over the left map.

-- the other map has no keys
pub fit_none : (xs : List Entry) → sums_fit xs [] ≡ true
unfolding sums_fit cut
fit_none [] = refl
fit_none (e ∷ es) = fit_none es

-- no value is above the sum of all
found_most : (ys : List Entry) (k y : ℕ) → find ys k ≡ some y → y ≤ minutes ys
unfolding minutes cut
found_most [] k y e = let z : ◌≡◌ {A = ℕ} 0 1 = cc e in absurd (omega arith)
found_most (x ∷ xs) k y e = go (compare k x.0) refl e (found_most xs k y)
  where
    go : (c : Ordering) → compare k x.0 ≡ c → find (x ∷ xs) k ≡ some y → (find xs k ≡ some y → y ≤ minutes xs) → y ≤ minutes (x ∷ xs)
    go Ordering.lt c e ih = let z : ◌≡◌ {A = ℕ} 0 1 = cc (rw (c, find) at e) in absurd (omega arith)
    go Ordering.eq c e ih = let v : x.1 ≡ y = cc (rw (c, find) at e) in omega arith
    go Ordering.gt c e ih = omega (arith, ih (rw (c, find) at e))

-- two maps that hold no more than 4,294,967,295 together
pub fit_small : (xs ys : List Entry) → minutes xs + minutes ys ≤ 4294967295 → sums_fit xs ys ≡ true
unfolding sums_fit minutes
fit_small [] ys le = refl
fit_small (e ∷ es) ys le = ap₂ ◌&&◌ (one (find ys e.0) refl) (fit_small es ys (omega arith))
  where
    one : (o : Option ℕ) → find ys e.0 ≡ o → sum_fits e.1 o ≡ true
    one none q = refl
    one (some y) q = le-leb (e.1 + y) 4294967295 (omega (arith, found_most ys e.0 y q))

-- an entry between two parts
pub fit_around : (xs : List Entry) (k v : ℕ) (ys zs : List Entry) → sums_fit (xs ++ (k, v) ∷ ys) zs ≡ (sums_fit xs zs && (sum_fits v (find zs k) && sums_fit ys zs))
unfolding sums_fit
fit_around [] k v ys zs = refl
fit_around (x ∷ xs) k v ys zs = ap (λ t. sum_fits x.1 (find zs x.0) && t) (fit_around xs k v ys zs) ∙ onward (sum_fits x.1 (find zs x.0)) (sums_fit xs zs) (sum_fits v (find zs k) && sums_fit ys zs)
  where
    onward : (t u w : Bool) → (t && (u && w)) ≡ ((t && u) && w)
    onward true u w = refl
    onward false u w = refl

-- keys below h are looked for where keys below h are, and those above it likewise
pub fit_below : (xs ys zs : List Entry) (h : ℕ) → AllBelow h xs → ((k : ℕ) → k < h → find ys k ≡ find zs k) → sums_fit xs ys ≡ sums_fit xs zs
unfolding sums_fit AllBelow
fit_below [] ys zs h a f = refl
fit_below (x ∷ xs) ys zs h a f = ap₂ ◌&&◌ (ap (sum_fits x.1) (f x.0 a.0)) (fit_below xs ys zs h a.1 f)

pub fit_above : (xs ys zs : List Entry) (h : ℕ) → AllAbove h xs → ((k : ℕ) → h < k → find ys k ≡ find zs k) → sums_fit xs ys ≡ sums_fit xs zs
unfolding sums_fit AllAbove
fit_above [] ys zs h a f = refl
fit_above (x ∷ xs) ys zs h a f = ap₂ ◌&&◌ (ap (sum_fits x.1) (f x.0 a.0)) (fit_above xs ys zs h a.1 f)

-- what a union's rule asks: under rule 4 alone the sums must fit
pub fits_sums : (rule : ℕ) (xs ys : List Entry) → rule ≡ 4 → fits rule xs ys ≡ sums_fit xs ys
unfolding fits
fits_sums rule xs ys e = rw (eq-eqb rule 4 e, fits)

pub fits-free : (rule : ℕ) (xs ys : List Entry) → rule ≢ 4 → fits rule xs ys ≡ true
unfolding fits
fits-free rule xs ys ne = rw (ne_eqb rule 4 ne, fits)

-- so they do not exactly when the rule is 4 and some key's sum is above
pub unfit_means : (rule : ℕ) (xs ys : List Entry) → Sorted xs → ¬ (fits rule xs ys ≡ true) → (rule ≡ 4) × Exceeds xs ys
unfit_means rule xs ys s f = go (ℕ_discrete rule 4)
  where
    four : rule ≡ 4 → (t : Bool) → sums_fit xs ys ≡ t → Exceeds xs ys
    four e true t = absurd (f (fits_sums rule xs ys e ∙ t))
    four e false t = unfit_key xs ys s t

    go : Dec (rule ≡ 4) → (rule ≡ 4) × Exceeds xs ys
    go (yes e) = (e, four e (sums_fit xs ys) refl)
    go (no ne) = absurd (f (fits-free rule xs ys ne))

pub means_unfit : (rule : ℕ) (xs ys : List Entry) → rule ≡ 4 → Exceeds xs ys → ¬ (fits rule xs ys ≡ true)
means_unfit rule xs ys e E t = omega (arith, fit_sum xs ys (sym (fits_sums rule xs ys e) ∙ t) E.key E.left E.right E.left_is E.right_is, E.above)

-- 4,294,967,295 fits, one more does not, and a map beside itself counts its own keys twice
pub limit_fits : sums_fit ((1, 4294967294) ∷ (2, 7) ∷ []) ((1, 1) ∷ []) ≡ true
unfolding sums_fit cut
limit_fits = refl

pub limit_exceeded : sums_fit ((1, 4294967294) ∷ (2, 7) ∷ []) ((1, 2) ∷ []) ≡ false
unfolding sums_fit cut
limit_exceeded = refl

pub beside_itself : sums_fit ((1, 3000000000) ∷ []) ((1, 3000000000) ∷ []) ≡ false
unfolding sums_fit cut
beside_itself = refl
