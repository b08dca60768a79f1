-- The tree that is built from the middle: it holds the entries in their order, makes a node for each and no more, and is balanced.
use mathlib.Core.Path.{◌≡◌, refl, ap, sym, ◌∙◌}
use mathlib.Core.Logic.{◌↔◌}
use Prim.Native.Nat.{ℕ, zero, suc, ◌+◌, ◌-◌, ◌≤◌, ◌<◌}
use mathlib.Core.Bool.{Bool, true, false, ◌||◌, true≢false}
use mathlib.Core.List.{List, [], ◌∷◌, ◌++◌}
use native.Mathlib.Omega.{arith}
use lib.ListN.{length, get_or, take, drop, length-take, length-drop}
use lib.Seq.{split_at}
use Rattle.model.specs.Tree.{leaf, Entry, size, entries, Sorted, Ordered}
use Rattle.model.specs.Supply.{Supply, after_first, is_none, taken, short}
use Rattle.model.specs.Balance.{Balanced}
use Rattle.model.specs.Restore.{middle, built}
use Rattle.model.proofs.rules.Splits.{size-length}
use Rattle.model.proofs.maps.Sorts.{sorted_ordered}
use Rattle.model.proofs.rules.Steady.{Onward, make_onward}

-- the two sides are smaller than the whole
pub left_fits : (e : Entry) (es : List Entry) (fuel : ℕ) → length (e ∷ es) ≤ suc fuel → length (take (middle (e ∷ es)) (e ∷ es)) ≤ fuel
left_fits e es fuel h = omega (arith, length-take (middle (e ∷ es)) (e ∷ es))

pub right_fits : (e : Entry) (es : List Entry) (fuel : ℕ) → length (e ∷ es) ≤ suc fuel → length (drop (suc (middle (e ∷ es))) (e ∷ es)) ≤ fuel
right_fits e es fuel h = omega (arith, length-drop (suc (middle (e ∷ es))) (e ∷ es))

-- the entries are those that it is built of
pub built-entries : (fuel : ℕ) (es : List Entry) (s : Supply) → length es ≤ fuel → entries (built fuel es s).0 ≡ es
unfolding built entries
built-entries zero [] s h = refl
built-entries zero (e ∷ es) s h = absurd (omega arith)
built-entries (suc fuel) [] s h = refl
built-entries (suc fuel) (e ∷ es) s h =
    let all : List Entry = e ∷ es in
    let m = middle all in
    let l = built fuel (take m all) s in
    rw (built-entries fuel (take m all) s (left_fits e es fuel h), built-entries fuel (drop (suc m) all) l.1 (right_fits e es fuel h)) (sym (split_at all m e (omega arith)))

pub built-size : (fuel : ℕ) (es : List Entry) (s : Supply) → length es ≤ fuel → size (built fuel es s).0 ≡ length es
built-size fuel es s h = size-length (built fuel es s).0 ∙ ap length (built-entries fuel es s h)

-- ascending entries make an ordered tree
pub built_ordered : (fuel : ℕ) (es : List Entry) (s : Supply) → length es ≤ fuel → Sorted es → Ordered (built fuel es s).0
built_ordered fuel es s h o = sorted_ordered (built fuel es s).0 (rw (built-entries fuel es s h) o)

-- each of two sides' weights is at most 3 times the other's: they differ by one at the most
pub built-balanced : (fuel : ℕ) (es : List Entry) (s : Supply) → length es ≤ fuel → Balanced (built fuel es s).0
unfolding built Balanced
built-balanced zero es s h = tt
built-balanced (suc fuel) [] s h = tt
built-balanced (suc fuel) (e ∷ es) s h =
    let all : List Entry = e ∷ es in
    let m = middle all in
    let l = built fuel (take m all) s in
    let a = built-size fuel (take m all) s (left_fits e es fuel h) in
    let b = built-size fuel (drop (suc m) all) l.1 (right_fits e es fuel h) in
    let c = length-take m all in
    let d = length-drop (suc m) all in
    ((omega (arith, a, b, c, d), omega (arith, a, b, c, d)), built-balanced fuel (take m all) s (left_fits e es fuel h), built-balanced fuel (drop (suc m) all) l.1 (right_fits e es fuel h))

pub built_onward : (fuel : ℕ) (es : List Entry) → Onward (built fuel es)
unfolding built
built_onward zero es s p = p
built_onward (suc fuel) [] s p = p
built_onward (suc fuel) (e ∷ es) s p =
    let all : List Entry = e ∷ es in
    let m = middle all in
    make_onward 0 0 leaf leaf _ (built_onward fuel (drop (suc m) all) _ (built_onward fuel (take m all) s p))

-- Its makes.

-- the supply after n makes
unfoldable pub makes : ℕ → Supply → Supply
makes zero s = s
makes (suc n) s = makes n (taken s)

makes_then : (m n : ℕ) (s : Supply) → makes (m + n) s ≡ makes n (makes m s)
unfolding makes
makes_then zero n s = let e : 0 + n ≡ n = omega arith in rw e refl
makes_then (suc m) n s = let e : suc m + n ≡ suc (m + n) = omega arith in rw e (makes_then m n (taken s))

-- a node for each entry, and no more
pub built_makes : (fuel : ℕ) (es : List Entry) (s : Supply) → length es ≤ fuel → (built fuel es s).1 ≡ makes (length es) s
unfolding built makes
built_makes zero [] s h = refl
built_makes zero (e ∷ es) s h = absurd (omega arith)
built_makes (suc fuel) [] s h = refl
built_makes (suc fuel) (e ∷ es) s h =
    let all : List Entry = e ∷ es in
    let m = middle all in
    let x = length (take m all) in
    let y = length (drop (suc m) all) in
    let n : suc (length es) ≡ (x + y) + 1 = omega (arith, length-take m all, length-drop (suc m) all) in
    ap taken (built_makes fuel (drop (suc m) all) (built fuel (take m all) s).1 (right_fits e es fuel h) ∙ ap (makes y) (built_makes fuel (take m all) s (left_fits e es fuel h)) ∙ sym (makes_then x y s))
    ∙ sym (ap (λ k. makes k s) n ∙ makes_then (x + y) 1 s)

-- n makes take n of the free numbers, and fall short exactly where fewer are free
pub makes_short : (n : ℕ) (s : Supply) → short s ≡ false → (short (makes n s) ≡ false) ↔ (n ≤ length s.free)
unfolding makes short taken is_none after_first
makes_short zero s p = ((λ e. omega arith), (λ h. p))
makes_short (suc n) s p = go s.free refl (makes_short n (taken s))
  where
    dry : (n : ℕ) (s : Supply) → s.dry ≡ true → (makes n s).dry ≡ true
    dry zero s p = p
    dry (suc n) s p = dry n (taken s) (either (is_none s.free) s.dry p)
      where
        either : (a b : Bool) → b ≡ true → (a || b) ≡ true
        either true b q = refl
        either false b q = q

    go : (ns : List ℕ) → s.free ≡ ns → (short (taken s) ≡ false → (short (makes n (taken s)) ≡ false) ↔ (n ≤ length (taken s).free))
        → (short (makes n (taken s)) ≡ false) ↔ (suc n ≤ length s.free)
    go [] f ih = ((λ e. absurd (true≢false (sym (dry n (taken s) (rw f)) ∙ e))), (λ h. absurd (omega (arith, rw f at h))))
    go (k ∷ ns) f ih = let r = ih (rw f p) in ((λ e. rw f (let h = rw f at (r.0 e) in omega (arith, h))), (λ h. r.1 (rw f (let g = rw f at h in omega (arith, g)))))
