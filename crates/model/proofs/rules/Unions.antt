-- Union against maps: both sides are found key by key, merged where both have the key.
use mathlib.Core.Path.{◌≡◌, refl, ap, ap₂, sym, ◌∙◌, fun_ext}
use Prim.Native.Nat.{ℕ, zero, suc, ◌+◌, ◌≤◌, ◌<◌, compare, Ordering}
use mathlib.Core.Bool.{Bool, true, false}
use mathlib.Core.Option.{Option, none, some}
use mathlib.Core.List.{◌∷◌, ◌++◌}
use lib.ListN.{length}
use lib.Dec.{leb}
use native.Mathlib.Omega.{arith}
use native.Mathlib.Decide.{dec_lt}
use Rattle.model.specs.Tree.{Tree, leaf, node, size, entries, cut, find, Ordered, Sorted, both, less, Is}
use Rattle.model.specs.Supply.{Supply, given}
use Rattle.model.specs.Rules.{join, Parts, split, merged_left, merged_right, union_by, union}
use Rattle.model.proofs.maps.Compare.{cmp_lt, cmp_eq, cmp_gt, lt_cmp, eq_cmp, gt_cmp}
use Rattle.model.proofs.rules.Entries.{join_keeps}
use Rattle.model.proofs.rules.Splits.{size-length, shown, split-entries}
use Rattle.model.proofs.maps.Sorts.{sorted_join, ordered_sorted, sorted_ordered}
use Rattle.model.proofs.maps.Finds.{find_around, below_none, above_none, none_below, none_above, CutFacts, cut_facts}

-- a join holds the map F if its sides hold F below h and above h
pub join_is : (h w : ℕ) (a b : Tree) (s : Supply) (f g F : ℕ → Option ℕ) → Is (entries a) f → Is (entries b) g
    → ((k : ℕ) → h ≤ k → f k ≡ none) → ((k : ℕ) → k ≤ h → g k ≡ none)
    → ((k : ℕ) → k < h → f k ≡ F k) → some w ≡ F h → ((k : ℕ) → h < k → g k ≡ F k) → Is (entries (join h w a b s).0) F
join_is h w a b s f g F A B f0 g0 low at high = record { sorted = rw (join_keeps h w a b s) whole; finds = λ k. rw (join_keeps h w a b s) (find_around (entries a) (entries b) h w k whole ∙ go k (compare k h) refl) }
  where
    whole : Sorted (entries a ++ (h, w) ∷ entries b)
    whole = sorted_join (entries a) h w (entries b) A.sorted (none_below (entries a) h A.sorted (λ k p. A.finds k ∙ f0 k p)) (none_above (entries b) h B.sorted (λ k p. B.finds k ∙ g0 k p)) B.sorted

    go : (k : ℕ) (c : Ordering) → compare k h ≡ c → elim c [ Ordering.lt ↦ find (entries a) k | Ordering.eq ↦ some w | Ordering.gt ↦ find (entries b) k ] ≡ F k
    go k Ordering.lt e = A.finds k ∙ low k (cmp_lt k h e)
    go k Ordering.eq e = at ∙ ap F (sym (cmp_eq k h e))
    go k Ordering.gt e = B.finds k ∙ high k (cmp_gt k h e)

-- what a split comes to
pub record SplitFacts (t : Tree) (h : ℕ) (p : Parts) : Type 0 where
  pub ordered_left : Ordered p.left
  pub ordered_right : Ordered p.right
  pub smaller : size p.left + size p.right ≤ size t
  pub found : p.found ≡ find (entries t) h
  pub low : (k : ℕ) → k < h → find (entries p.left) k ≡ find (entries t) k
  pub low_none : (k : ℕ) → h ≤ k → find (entries p.left) k ≡ none
  pub high : (k : ℕ) → h < k → find (entries p.right) k ≡ find (entries t) k
  pub high_none : (k : ℕ) → k ≤ h → find (entries p.right) k ≡ none

pub split_facts : (t : Tree) (h : ℕ) (s : Supply) → Ordered t → SplitFacts t h (split t h s).0
split_facts t h s o = record {
  ordered_left = sorted_ordered p.left (rw l C.sorted_before);
  ordered_right = sorted_ordered p.right (rw r C.sorted_after);
  smaller = omega (arith, C.shorter, size-length t, size-length p.left, size-length p.right, ap length l, ap length r);
  found = ap (λ c. c.found) e;
  low = λ k q. rw l (C.less k q);
  low_none = λ k q. rw l (below_none (cut (entries t) h).before h k C.below q);
  high = λ k q. rw r (C.more k q);
  high_none = λ k q. rw r (above_none (cut (entries t) h).after h k C.above q);
}
  where
    p : Parts
    p = (split t h s).0

    e : shown p ≡ cut (entries t) h
    e = split-entries t h s o

    l : entries p.left ≡ (cut (entries t) h).before
    l = ap (λ c. c.before) e

    r : entries p.right ≡ (cut (entries t) h).after
    r = ap (λ c. c.after) e

    C : CutFacts (entries t) h
    C = cut_facts (entries t) h (ordered_sorted t o)

-- an ordered node's finds
pub record NodeFacts (i h w : ℕ) (l r : Tree) : Type 0 where
  pub low : (k : ℕ) → k < h → find (entries l) k ≡ find (entries (node i h w l r)) k
  pub low_none : (k : ℕ) → h ≤ k → find (entries l) k ≡ none
  pub at : find (entries (node i h w l r)) h ≡ some w
  pub high : (k : ℕ) → h < k → find (entries r) k ≡ find (entries (node i h w l r)) k
  pub high_none : (k : ℕ) → k ≤ h → find (entries r) k ≡ none

pub node_facts : (i h w : ℕ) (l r : Tree) → Ordered (node i h w l r) → NodeFacts i h w l r
unfolding entries Ordered
node_facts i h w l r o = record {
  low = λ k p. sym (find_around (entries l) (entries r) h w k s ∙ rw (lt_cmp k h p));
  low_none = λ k p. below_none (entries l) h k o.0 p;
  at = find_around (entries l) (entries r) h w h s ∙ rw (eq_cmp h h refl);
  high = λ k p. sym (find_around (entries l) (entries r) h w k s ∙ rw (gt_cmp k h p));
  high_none = λ k p. above_none (entries r) h k o.1 p;
}
  where
    s : Sorted (entries l ++ (h, w) ∷ entries r)
    s = ordered_sorted (node i h w l r) o

-- the union of two trees as a map
abbrev pub Union : (ℕ → ℕ → ℕ) → Tree → Tree → ℕ → Option ℕ
Union merge l r k = both merge (find (entries l) k) (find (entries r) k)

both_none_right : (merge : ℕ → ℕ → ℕ) (x : Option ℕ) → both merge x none ≡ x
unfolding both
both_none_right merge none = refl
both_none_right merge (some x) = refl

merged_left-both : (merge : ℕ → ℕ → ℕ) (w : ℕ) (y : Option ℕ) → some (merged_left merge w y) ≡ both merge (some w) y
unfolding both
merged_left-both merge w none = refl
merged_left-both merge w (some y) = refl

merged_right-both : (merge : ℕ → ℕ → ℕ) (x : Option ℕ) (w : ℕ) → some (merged_right merge x w) ≡ both merge x (some w)
unfolding both
merged_right-both merge none w = refl
merged_right-both merge (some x) w = refl

module _ (merge : ℕ → ℕ → ℕ) (i h w : ℕ) (l r : Tree) (t : Tree) (p : Parts) (N : NodeFacts i h w l r) (S : SplitFacts t h p) (a b : Tree) (s : Supply) where
  left_step : Is (entries a) (Union merge l p.left) → Is (entries b) (Union merge r p.right)
      → Is (entries (join h (merged_left merge w p.found) a b s).0) (Union merge (node i h w l r) t)
  unfolding both
  left_step A B = join_is h (merged_left merge w p.found) a b s (Union merge l p.left) (Union merge r p.right) (Union merge (node i h w l r) t) A B
      (λ k q. ap₂ (both merge) (N.low_none k q) (S.low_none k q))
      (λ k q. ap₂ (both merge) (N.high_none k q) (S.high_none k q))
      (λ k q. ap₂ (both merge) (N.low k q) (S.low k q))
      (merged_left-both merge w p.found ∙ ap₂ (both merge) (sym N.at) S.found)
      (λ k q. ap₂ (both merge) (N.high k q) (S.high k q))

  right_step : Is (entries a) (Union merge p.left l) → Is (entries b) (Union merge p.right r)
      → Is (entries (join h (merged_right merge p.found w) a b s).0) (Union merge t (node i h w l r))
  unfolding both
  right_step A B = join_is h (merged_right merge p.found w) a b s (Union merge p.left l) (Union merge p.right r) (Union merge t (node i h w l r)) A B
      (λ k q. ap₂ (both merge) (S.low_none k q) (N.low_none k q))
      (λ k q. ap₂ (both merge) (S.high_none k q) (N.high_none k q))
      (λ k q. ap₂ (both merge) (S.low k q) (N.low k q))
      (merged_right-both merge p.found w ∙ ap₂ (both merge) S.found (sym N.at))
      (λ k q. ap₂ (both merge) (S.high k q) (N.high k q))

pub union_by_is : (merge : ℕ → ℕ → ℕ) (fuel : ℕ) (l r : Tree) (s : Supply) → size l + size r < fuel → Ordered l → Ordered r
    → Is (entries (union_by merge fuel l r s).0) (Union merge l r)
unfolding union_by both entries cut size Ordered
union_by_is merge zero l r s lt ol or = absurd (omega arith)
union_by_is merge (suc fuel) leaf r s lt ol or = record { sorted = ordered_sorted r or; finds = λ k. refl }
union_by_is merge (suc fuel) (node i h w ll lr) leaf s lt ol or = record { sorted = ordered_sorted (node i h w ll lr) ol; finds = λ k. sym (both_none_right merge _) }
union_by_is merge (suc fuel) (node i h w ll lr) (node j g u rl rr) s lt ol or = go (leb (size R) (size L)) refl (λ x y s' q p₁ p₂. union_by_is merge fuel x y s' q p₁ p₂)
  where
    L : Tree
    L = node i h w ll lr

    R : Tree
    R = node j g u rl rr

    go : (b : Bool) → leb (size R) (size L) ≡ b
        → ((x y : Tree) (s' : Supply) → size x + size y < fuel → Ordered x → Ordered y → Is (entries (union_by merge fuel x y s').0) (Union merge x y))
        → Is (entries (union_by merge (suc fuel) L R s).0) (Union merge L R)
    go true e ih =
        let p = split R h (given i s) in
        let S : SplitFacts R h p.0 = split_facts R h (given i s) or in
        let a = union_by merge fuel ll p.0.left p.1 in
        let b = union_by merge fuel lr p.0.right a.1 in
        rw (e, entries) (left_step merge i h w ll lr R p.0 (node_facts i h w ll lr ol) S a.0 b.0 b.1
        (ih ll p.0.left p.1 (omega (arith, S.smaller)) ol.2 S.ordered_left)
        (ih lr p.0.right a.1 (omega (arith, S.smaller)) ol.3 S.ordered_right))
    go false e ih =
        let p = split L g (given j s) in
        let S : SplitFacts L g p.0 = split_facts L g (given j s) ol in
        let a = union_by merge fuel p.0.left rl p.1 in
        let b = union_by merge fuel p.0.right rr a.1 in
        rw (e, entries) (right_step merge j g u rl rr L p.0 (node_facts j g u rl rr or) S a.0 b.0 b.1
        (ih p.0.left rl p.1 (omega (arith, S.smaller)) S.ordered_left or.2)
        (ih p.0.right rr a.1 (omega (arith, S.smaller)) S.ordered_right or.3))

pub union_is : (merge : ℕ → ℕ → ℕ) (l r : Tree) (s : Supply) → Ordered l → Ordered r → Is (entries (union merge l r s).0) (Union merge l r)
unfolding union
union_is merge l r s ol or = union_by_is merge (suc (size l + size r)) l r s (omega arith) ol or

-- merges that agree on the keys of both sides make the same union, node for node
module _ (f g : ℕ → ℕ → ℕ) where
  abbrev Agree : Tree → Tree → Type 0
  Agree l r = (k x y : ℕ) → find (entries l) k ≡ some x → find (entries r) k ≡ some y → f x y ≡ g x y

  left_agrees : (w : ℕ) (o : Option ℕ) → ((y : ℕ) → o ≡ some y → f w y ≡ g w y) → merged_left f w o ≡ merged_left g w o
  left_agrees w none a = refl
  left_agrees w (some y) a = a y refl

  right_agrees : (o : Option ℕ) (w : ℕ) → ((x : ℕ) → o ≡ some x → f x w ≡ g x w) → merged_right f o w ≡ merged_right g o w
  right_agrees none w a = refl
  right_agrees (some x) w a = a x refl

  -- what is found in parts of two trees, below a key or above it, is found in the trees
  part_agrees : (l r x y : Tree) (p : ℕ → Type 0) → ((k : ℕ) → Dec (p k)) → ((k : ℕ) → p k → find (entries x) k ≡ find (entries l) k)
      → ((k : ℕ) → ¬ p k → find (entries x) k ≡ none)
      → ((k : ℕ) → p k → find (entries y) k ≡ find (entries r) k) → Agree l r → Agree x y
  part_agrees l r x y p d in_x out_x in_y A k v w e q = go (d k)
    where
      go : Dec (p k) → f v w ≡ g v w
      go (yes t) = A k v w (sym (in_x k t) ∙ e) (sym (in_y k t) ∙ q)
      go (no t) = let z : ◌≡◌ {A = ℕ} 0 1 = cc (e, out_x k t) in absurd (omega arith)

  -- the two parts, then the join
  abbrev ended : ℕ → ℕ → Tree × Supply → (Supply → Tree × Supply) → Tree × Supply
  ended h v a B = let b = B a.1 in join h v a.0 b.0 b.1

  ends_agree : (h : ℕ) {v w : ℕ} {a c : Tree × Supply} {B C : Supply → Tree × Supply} → v ≡ w → a ≡ c → ((s : Supply) → B s ≡ C s)
      → ended h v a B ≡ ended h w c C
  ends_agree h {v} {w} {a} {c} {B} {C} e p q = ap₂ (λ x y. ended h x y B) e p ∙ ap (λ b. join h w c.0 b.0 b.1) (q c.1)

  pub union_by_agrees : (fuel : ℕ) (l r : Tree) (s : Supply) → Ordered l → Ordered r → Agree l r → union_by f fuel l r s ≡ union_by g fuel l r s
  unfolding union_by Ordered
  union_by_agrees zero l r s ol or A = refl
  union_by_agrees (suc fuel) leaf r s ol or A = refl
  union_by_agrees (suc fuel) (node i h w ll lr) leaf s ol or A = refl
  union_by_agrees (suc fuel) (node i h w ll lr) (node j k u rl rr) s ol or A = go (leb (size R) (size L)) refl (λ x y s' p q A. union_by_agrees fuel x y s' p q A)
    where
      L : Tree
      L = node i h w ll lr

      R : Tree
      R = node j k u rl rr

      go : (b : Bool) → leb (size R) (size L) ≡ b
          → ((x y : Tree) (s' : Supply) → Ordered x → Ordered y → Agree x y → union_by f fuel x y s' ≡ union_by g fuel x y s')
          → union_by f (suc fuel) L R s ≡ union_by g (suc fuel) L R s
      go true e ih =
          let p = split R h (given i s) in
          let S : SplitFacts R h p.0 = split_facts R h (given i s) or in
          let N = node_facts i h w ll lr ol in
          rw (e, union_by) (ends_agree h
          (left_agrees w p.0.found (λ y q. A h w y N.at (sym S.found ∙ q)))
          (ih ll p.0.left p.1 ol.2 S.ordered_left (part_agrees L R ll p.0.left (λ x. x < h) (λ x. dec_lt x h) N.low (λ x q. N.low_none x (omega arith)) S.low A))
          (λ s'. ih lr p.0.right s' ol.3 S.ordered_right (part_agrees L R lr p.0.right (λ x. h < x) (λ x. dec_lt h x) N.high (λ x q. N.high_none x (omega arith)) S.high A)))
      go false e ih =
          let p = split L k (given j s) in
          let S : SplitFacts L k p.0 = split_facts L k (given j s) ol in
          let N = node_facts j k u rl rr or in
          rw (e, union_by) (ends_agree k
          (right_agrees p.0.found u (λ x q. A k x u (sym S.found ∙ q) N.at))
          (ih p.0.left rl p.1 S.ordered_left or.2 (part_agrees L R p.0.left rl (λ x. x < k) (λ x. dec_lt x k) S.low (λ x q. S.low_none x (omega arith)) N.low A))
          (λ s'. ih p.0.right rr s' S.ordered_right or.3 (part_agrees L R p.0.right rr (λ x. k < x) (λ x. dec_lt k x) S.high (λ x q. S.high_none x (omega arith)) N.high A)))

  pub union_agrees : (l r : Tree) → Ordered l → Ordered r → Agree l r → union f l r ≡ union g l r
  unfolding union
  union_agrees l r ol or A = fun_ext (λ s. union_by_agrees (suc (size l + size r)) l r s ol or A)
