-- Ascending lists as maps: what is found in them, cut, joined or put one behind the other; and that a map has one such list.
use mathlib.Core.Path.{◌≡◌, refl, ap, ap₂, sym, ◌∙◌}
use Prim.Native.Nat.{ℕ, ◌+◌, ◌≤◌, ◌<◌, compare, Ordering}
use mathlib.Core.Option.{Option, none, some}
use mathlib.Core.List.{List, [], ◌∷◌, ◌++◌}
use lib.ListN.{length}
use native.Mathlib.Omega.{arith}
use native.Mathlib.Decide.{dec_lt}
use Rattle.model.specs.Tree.{Entry, cut, find, without, AllBelow, AllAbove, Sorted, less, Is}
use Rattle.model.proofs.maps.Compare.{cmp_lt, cmp_eq, cmp_gt, lt_cmp, eq_cmp, gt_cmp}
use Rattle.model.proofs.rules.Entries.{cut-less, cut_same, cut_more}
use Rattle.model.proofs.maps.Sorts.{sorted_split, all_above_trans, all_above_append}

pub find_around : (xs ys : List Entry) (h w k : ℕ) → Sorted (xs ++ (h, w) ∷ ys)
    → find (xs ++ (h, w) ∷ ys) k ≡ elim (compare k h) [ Ordering.lt ↦ find xs k | Ordering.eq ↦ some w | Ordering.gt ↦ find ys k ]
find_around xs ys h w k s = go (compare k h) refl
  where
    b : AllBelow h xs
    b = (sorted_split xs h w ys s).1

    go : (c : Ordering) → compare k h ≡ c
        → find (xs ++ (h, w) ∷ ys) k ≡ elim (compare k h) [ Ordering.lt ↦ find xs k | Ordering.eq ↦ some w | Ordering.gt ↦ find ys k ]
    go Ordering.lt e = ap (λ c. c.found) (cut-less xs ys h w k e) ∙ rw e
    go Ordering.eq e = ap (λ c. c.found) (cut_same xs ys h w k e b) ∙ rw e
    go Ordering.gt e = ap (λ c. c.found) (cut_more xs ys h w k e b) ∙ rw e

-- nothing is found at or above a bound, at or below one
pub below_none : (es : List Entry) (h k : ℕ) → AllBelow h es → h ≤ k → find es k ≡ none
unfolding cut AllBelow
below_none [] h k b p = refl
below_none (x ∷ xs) h k b p = rw (gt_cmp k x.0 (omega arith), find) (below_none xs h k b.1 p)

pub above_none : (es : List Entry) (h k : ℕ) → AllAbove h es → k ≤ h → find es k ≡ none
unfolding cut AllAbove
above_none [] h k b p = refl
above_none (x ∷ xs) h k b p = rw (lt_cmp k x.0 (omega arith), find)

pub past : (x : Entry) (xs : List Entry) (k : ℕ) → x.0 < k → find xs k ≡ find (x ∷ xs) k
unfolding cut
past x xs k p = rw (gt_cmp k x.0 p, find)

pub found_first : (x : Entry) (xs : List Entry) → find (x ∷ xs) x.0 ≡ some x.1
unfolding cut
found_first x xs = rw (eq_cmp x.0 x.0 refl, find)

-- and the other way round
pub none_below : (es : List Entry) (h : ℕ) → Sorted es → ((k : ℕ) → h ≤ k → find es k ≡ none) → AllBelow h es
unfolding AllBelow Sorted
none_below [] h s f = tt
none_below (x ∷ xs) h s f = go (dec_lt x.0 h) (none_below xs h s.1)
  where
    go : Dec (x.0 < h) → (((k : ℕ) → h ≤ k → find xs k ≡ none) → AllBelow h xs) → AllBelow h (x ∷ xs)
    go (yes p) ih = (p, ih (λ k q. past x xs k (omega arith) ∙ f k q))
    go (no p) ih = let z : ◌≡◌ {A = ℕ} 0 1 = cc (found_first x xs, f x.0 (omega arith)) in absurd (omega arith)

pub none_above : (es : List Entry) (h : ℕ) → Sorted es → ((k : ℕ) → k ≤ h → find es k ≡ none) → AllAbove h es
unfolding AllAbove Sorted
none_above [] h s f = tt
none_above (x ∷ xs) h s f = go (dec_lt h x.0)
  where
    go : Dec (h < x.0) → AllAbove h (x ∷ xs)
    go (yes p) = (p, all_above_trans h x.0 xs p s.0)
    go (no p) = let z : ◌≡◌ {A = ℕ} 0 1 = cc (found_first x xs, f x.0 (omega arith)) in absurd (omega arith)

-- a list cut at h
pub record CutFacts (es : List Entry) (h : ℕ) : Type 0 where
  pub below : AllBelow h (cut es h).before
  pub above : AllAbove h (cut es h).after
  pub sorted_before : Sorted (cut es h).before
  pub sorted_after : Sorted (cut es h).after
  pub within : (j : ℕ) → AllAbove j es → AllAbove j (cut es h).before
  pub shorter : length (cut es h).before + length (cut es h).after ≤ length es
  pub less : (k : ℕ) → k < h → find (cut es h).before k ≡ find es k
  pub more : (k : ℕ) → h < k → find (cut es h).after k ≡ find es k

pub cut_facts : (es : List Entry) (h : ℕ) → Sorted es → CutFacts es h
unfolding cut AllBelow AllAbove Sorted
cut_facts [] h s = record { below = tt; above = tt; sorted_before = tt; sorted_after = tt; within = λ j a. tt; shorter = omega arith; less = λ k p. refl; more = λ k p. refl }
cut_facts (x ∷ xs) h s = go (compare h x.0) refl (cut_facts xs h s.1)
  where
    go : (c : Ordering) → compare h x.0 ≡ c → CutFacts xs h → CutFacts (x ∷ xs) h
    go Ordering.lt e F = record {
      below = rw (e, cut) tt;
      above = rw (e, cut) (cmp_lt h x.0 e, all_above_trans h x.0 xs (cmp_lt h x.0 e) s.0);
      sorted_before = rw (e, cut) tt;
      sorted_after = rw (e, cut) s;
      within = λ j a. rw (e, cut) tt;
      shorter = rw (e, cut) (omega arith);
      less = λ k p. rw (e, cut) (sym (above_none (x ∷ xs) h k (cmp_lt h x.0 e, all_above_trans h x.0 xs (cmp_lt h x.0 e) s.0) (omega arith)));
      more = λ k p. rw (e, cut) refl;
    }
    go Ordering.eq e F =
        let q = cmp_eq h x.0 e in
        record {
          below = rw (e, cut) tt;
          above = rw (e, cut) (rw q s.0);
          sorted_before = rw (e, cut) tt;
          sorted_after = rw (e, cut) s.1;
          within = λ j a. rw (e, cut) tt;
          shorter = rw (e, cut) (omega arith);
          less = λ k p. rw (e, cut) (sym (rw (lt_cmp k x.0 (omega arith), find)));
          more = λ k p. rw (e, cut) (past x xs k (omega arith));
        }
    go Ordering.gt e F =
        let q = cmp_gt h x.0 e in
        record {
          below = rw (e, cut) (q, F.below);
          above = rw (e, cut) F.above;
          sorted_before = rw (e, cut) (F.within x.0 s.0, F.sorted_before);
          sorted_after = rw (e, cut) F.sorted_after;
          within = λ j a. rw (e, cut) (a.0, F.within j a.1);
          shorter = rw (e, cut) (omega (arith, F.shorter));
          less = λ k p. rw (e, cut) (less k (F.less k p) (compare k x.0) refl);
          more = λ k p. rw (e, cut) (F.more k p ∙ past x xs k (omega arith));
        }
      where
        less : (k : ℕ) → find (cut xs h).before k ≡ find xs k → (c : Ordering) → compare k x.0 ≡ c → find (x ∷ (cut xs h).before) k ≡ find (x ∷ xs) k
        less k ih Ordering.lt p = rw (p, find)
        less k ih Ordering.eq p = rw (p, find)
        less k ih Ordering.gt p = rw (p, find) ih

-- two lists, all of one below h and all of the other above it
sorted_append : (h : ℕ) (xs ys : List Entry) → Sorted xs → AllBelow h xs → AllAbove h ys → Sorted ys → Sorted (xs ++ ys)
unfolding Sorted AllBelow
sorted_append h [] ys a b c d = d
sorted_append h (x ∷ xs) ys a b c d = (all_above_append x.0 xs ys a.0 (all_above_trans x.0 h ys b.0 c), sorted_append h xs ys a.1 b.1 c d)

find-append_low : (h : ℕ) (xs ys : List Entry) (k : ℕ) → AllAbove h ys → k ≤ h → find (xs ++ ys) k ≡ find xs k
unfolding cut
find-append_low h [] ys k c p = above_none ys h k c p
find-append_low h (x ∷ xs) ys k c p = go (compare k x.0) refl (find-append_low h xs ys k c p)
  where
    go : (o : Ordering) → compare k x.0 ≡ o → find (xs ++ ys) k ≡ find xs k → find (x ∷ xs ++ ys) k ≡ find (x ∷ xs) k
    go Ordering.lt e ih = rw (e, find)
    go Ordering.eq e ih = rw (e, find)
    go Ordering.gt e ih = rw (e, find) ih

find-append_high : (h : ℕ) (xs ys : List Entry) (k : ℕ) → AllBelow h xs → h ≤ k → find (xs ++ ys) k ≡ find ys k
unfolding cut AllBelow
find-append_high h [] ys k b p = refl
find-append_high h (x ∷ xs) ys k b p = rw (gt_cmp k x.0 (omega arith), find) (find-append_high h xs ys k b.1 p)

pub append_is : (h : ℕ) (xs ys : List Entry) (f g F : ℕ → Option ℕ) → Is xs f → Is ys g
    → ((k : ℕ) → h ≤ k → f k ≡ none) → ((k : ℕ) → k ≤ h → g k ≡ none)
    → ((k : ℕ) → k < h → f k ≡ F k) → none ≡ F h → ((k : ℕ) → h < k → g k ≡ F k) → Is (xs ++ ys) F
append_is h xs ys f g F A B f0 g0 low at high = record { sorted = sorted_append h xs ys A.sorted below above B.sorted; finds = λ k. go k (compare k h) refl }
  where
    below : AllBelow h xs
    below = none_below xs h A.sorted (λ k p. A.finds k ∙ f0 k p)

    above : AllAbove h ys
    above = none_above ys h B.sorted (λ k p. B.finds k ∙ g0 k p)

    go : (k : ℕ) (c : Ordering) → compare k h ≡ c → find (xs ++ ys) k ≡ F k
    go k Ordering.lt e = find-append_low h xs ys k above (omega (arith, cmp_lt k h e)) ∙ A.finds k ∙ low k (cmp_lt k h e)
    go k Ordering.eq e = let q = cmp_eq k h e in find-append_low h xs ys k above (omega arith) ∙ A.finds k ∙ f0 k (omega arith) ∙ at ∙ ap F (sym q)
    go k Ordering.gt e = find-append_high h xs ys k below (omega (arith, cmp_gt k h e)) ∙ B.finds k ∙ high k (cmp_gt k h e)

-- a list without a key still ascends
pub sorted_without : (es : List Entry) (k : ℕ) → Sorted es → Sorted (without es k)
sorted_without es k s = let C = cut_facts es k s in sorted_append k (cut es k).before (cut es k).after C.sorted_before C.below C.above C.sorted_after

-- a map has one ascending list
pub sorted_ext : (xs ys : List Entry) → Sorted xs → Sorted ys → ((k : ℕ) → find xs k ≡ find ys k) → xs ≡ ys
unfolding Sorted cut AllAbove
sorted_ext [] [] a b e = refl
sorted_ext [] (y ∷ ys) a b e = let z : ◌≡◌ {A = ℕ} 0 1 = cc (e y.0, found_first y ys) in absurd (omega arith)
sorted_ext (x ∷ xs) [] a b e = let z : ◌≡◌ {A = ℕ} 0 1 = cc (e x.0, found_first x xs) in absurd (omega arith)
sorted_ext (x ∷ xs) (y ∷ ys) a b e = go (compare x.0 y.0) refl (sorted_ext xs ys a.1 b.1)
  where
    go : (c : Ordering) → compare x.0 y.0 ≡ c → (((k : ℕ) → find xs k ≡ find ys k) → xs ≡ ys) → x ∷ xs ≡ y ∷ ys
    go Ordering.lt p ih = let z : ◌≡◌ {A = ℕ} 0 1 = cc (found_first x xs, rw (p, find) at (e x.0)) in absurd (omega arith)
    go Ordering.gt p ih =
        let q = cmp_gt x.0 y.0 p in
        let n : find (x ∷ xs) y.0 ≡ none = rw (lt_cmp y.0 x.0 q, find) refl in
        let z : ◌≡◌ {A = ℕ} 0 1 = cc (e y.0, found_first y ys, n) in absurd (omega arith)
    go Ordering.eq p ih =
        let q = cmp_eq x.0 y.0 p in
        let v : some x.1 ≡ some y.1 = sym (found_first x xs) ∙ e x.0 ∙ ap (find (y ∷ ys)) q ∙ found_first y ys in
        let v' : x.1 ≡ y.1 = cc v in
        let h : x ≡ y = λ i. (q i, v' i) in
        ap₂ (λ (t : Entry) (ts : List Entry). t ∷ ts) h (ih (λ k. tail k (dec_lt x.0 k)))
      where
        tail : (k : ℕ) → Dec (x.0 < k) → find xs k ≡ find ys k
        tail k (yes l) = past x xs k l ∙ e k ∙ sym (past y ys k (omega (arith, cmp_eq x.0 y.0 p)))
        tail k (no l) = above_none xs x.0 k a.0 (omega arith) ∙ sym (above_none ys y.0 k b.0 (omega (arith, cmp_eq x.0 y.0 p)))

pub is_once : (f : ℕ → Option ℕ) (xs ys : List Entry) → Is xs f → Is ys f → xs ≡ ys
is_once f xs ys X Y = sorted_ext xs ys X.sorted Y.sorted (λ k. X.finds k ∙ sym (Y.finds k))
