-- What a listing lists: left-only keys and common keys, strictly ascending; omitted common keys have equal values.
use mathlib.Core.Path.{◌≡◌, refl, ap, sym, ◌∙◌}
use Prim.Native.Nat.{ℕ, zero, suc, ◌≤◌, ◌<◌, compare, Ordering}
use mathlib.Core.Bool.{Bool, true, false, true≢false}
use mathlib.Core.Option.{none, some}
use mathlib.Core.List.{List, [], ◌∷◌, ◌++◌, append_assoc, append-nil}
use lib.Dec.{eqb, leb}
use borrow.Author.Tests.{eqb-true}
use native.Mathlib.Omega.{arith}
use Rattle.model.specs.Tree.{Tree, leaf, node, Entry, size, id_of, entries, cut, find, AllAbove, Sorted, Ordered}
use Rattle.model.specs.Listing.{Item, tree, entry, Sides, Row, Turn, over, on, yield, Walk, pend, opened, turn, too_deep, walk, start, turns, listing, left_entries, ◌∈◌, Listed}
use Rattle.model.specs.Heap.{Heap, version, Linked, Sound}
use Rattle.model.specs.Heap as H
use Rattle.model.proofs.block.Versions.{version_ordered}
use Rattle.model.proofs.rules.Cancel.{Stands, stands_left, stands_right, stands_known, tree_stands}
use Rattle.model.proofs.maps.Compare.{cmp_lt, cmp_eq, cmp_gt}
use Rattle.model.proofs.maps.Finds.{above_none, past, found_first}
use Rattle.model.proofs.maps.Sorts.{all_above_trans, ordered_sorted}
use Rattle.model.proofs.listing.Turns.{cost, costs, turn_falls, Falls, costs_start}
use Rattle.model.proofs.maps.Members.{in_left}
use Rattle.model.proofs.listing.Rows.{found_above, nil_listed, swap_listed, yield_listed, skip_listed, all_listed}

-- the entries that a side has still to show
spread : List Item → List Entry
spread [] = []
spread (tree t ∷ is) = entries t ++ spread is
spread (entry k v ∷ is) = (k, v) ∷ spread is

spread_pend : (t : Tree) (is : List Item) → spread (pend t is) ≡ entries t ++ spread is
unfolding spread entries
spread_pend leaf is = refl
spread_pend (node i k v l r) is = refl

spread_opened : (t : Tree) (is : List Item) → spread (opened t is) ≡ entries t ++ spread is
unfolding spread entries
spread_opened leaf is = refl
spread_opened (node i k v l r) is = spread_pend l (entry k v ∷ pend r is) ∙ rw (spread_pend r is) (simp append_assoc)

sorted_right : (zs xs : List Entry) → Sorted (zs ++ xs) → Sorted xs
unfolding Sorted
sorted_right [] xs s = s
sorted_right (z ∷ zs) xs s = sorted_right zs xs s.1

-- The rows of a walk

abbrev Lists : Sides → List Row → Type 0
Lists s rows = Listed (find (spread s.left)) (find (spread s.right)) rows

module _ (h : Heap) (L : Linked h) where
  Standing : List Item → Type 0
  Standing [] = Unit {0}
  Standing (tree t ∷ is) = Stands h L t × Standing is
  Standing (entry k v ∷ is) = Standing is

  -- a side whose trees stand in the heap and whose keys ascend
  record Side (is : List Item) : Type 0 where
    stands : Standing is
    sorted : Sorted (spread is)

  standing_pend : (t : Tree) (is : List Item) → Stands h L t → Standing is → Standing (pend t is)
  unfolding Standing
  standing_pend leaf is g f = f
  standing_pend (node i k v l r) is g f = (g, f)

  standing_opened : (t : Tree) (is : List Item) → Stands h L t → Standing is → Standing (opened t is)
  unfolding Standing
  standing_opened leaf is g f = f
  standing_opened (node i k v l r) is g f = standing_pend l (entry k v ∷ pend r is) (stands_left h L i k v l r g) (standing_pend r is (stands_right h L i k v l r g) f)

  side_opened : (t : Tree) (is : List Item) → Side (tree t ∷ is) → Side (opened t is)
  unfolding Standing spread
  side_opened t is S = record { stands = standing_opened t is S.stands.0 S.stands.1; sorted = rw (spread_opened t is) S.sorted }

  side_rest : (t : Tree) (is : List Item) → Side (tree t ∷ is) → Side is
  unfolding Standing spread
  side_rest t is S = record { stands = S.stands.1; sorted = sorted_right (entries t) (spread is) S.sorted }

  side_next : (k v : ℕ) (is : List Item) → Side (entry k v ∷ is) → Side is
  unfolding Standing spread Sorted
  side_next k v is S = record { stands = S.stands; sorted = S.sorted.1 }

  -- a turn leaves two such sides; rows of what it leaves, after the row that it yields, are rows of what it found
  record Leads (s t : Sides) (more : List Row → List Row) : Type 0 where
    left : Side t.left
    right : Side t.right
    listed : (rows : List Row) → Lists t rows → Lists s (more rows)

  Tells : Sides → Turn → Type 0
  Tells s over = spread s.left ≡ []
  Tells s (on t) = Leads s t (λ rows. rows)
  Tells s (yield r t) = Leads s t (λ rows. r ∷ rows)

  open_left : (t : Tree) (ls rs : List Item) → Side (tree t ∷ ls) → Side rs
      → Leads (record { left = tree t ∷ ls; right = rs }) (record { left = opened t ls; right = rs }) (λ rows. rows)
  unfolding spread
  open_left t ls rs l r = record { left = side_opened t ls l; right = r; listed = λ rows I. rw (spread_opened t ls) at I }

  open_right : (u : Tree) (ls rs : List Item) → Side ls → Side (tree u ∷ rs)
      → Leads (record { left = ls; right = tree u ∷ rs }) (record { left = ls; right = opened u rs }) (λ rows. rows)
  unfolding spread
  open_right u ls rs l r = record { left = l; right = side_opened u rs r; listed = λ rows I. rw (spread_opened u rs) at I }

  turn_tells : (ls rs : List Item) → Side ls → Side rs → Tells (record { left = ls; right = rs }) (turn ls rs)
  unfolding Tells turn spread Standing Sorted AllAbove cut
  turn_tells [] rs l r = refl
  turn_tells (tree t ∷ ls) [] l r = open_left t ls [] l r
  turn_tells (tree t ∷ ls) (entry h w ∷ rs) l r = open_left t ls (entry h w ∷ rs) l r
  turn_tells (tree t ∷ ls) (tree u ∷ rs) l r = same (eqb (id_of t) (id_of u)) refl
    where
      Goal : Type 0
      Goal = Tells (record { left = tree t ∷ ls; right = tree u ∷ rs }) (turn (tree t ∷ ls) (tree u ∷ rs))

      larger : (b : Bool) → leb (size u) (size t) ≡ b → eqb (id_of t) (id_of u) ≡ false → Goal
      larger true e d = rw (d, turn) (rw e (open_left t ls (tree u ∷ rs) l r))
      larger false e d = rw (d, turn) (rw e (open_right u (tree t ∷ ls) rs l r))

      same : (b : Bool) → eqb (id_of t) (id_of u) ≡ b → Goal
      same true e =
          let q : u ≡ t = stands_known h L u r.stands.0 ∙ sym (ap (H.tree h) (eqb-true (id_of t) (id_of u) e)) ∙ sym (stands_known h L t l.stands.0) in
          rw (e, turn) (record { left = side_rest t ls l; right = side_rest u rs r; listed = λ rows I. rw q (skip_listed (entries t) (spread ls) (spread rs) rows l.sorted I) })
      same false e = larger (leb (size u) (size t)) refl e
  turn_tells (entry k v ∷ ls) [] l r = record {
    left = side_next k v ls l;
    right = r;
    listed = λ rows. yield_listed k v none (spread ls) (find []) (find []) rows l.sorted.0 refl (λ j p. refl);
  }
  turn_tells (entry k v ∷ ls) (tree u ∷ rs) l r = open_right u (entry k v ∷ ls) rs l r
  turn_tells (entry k v ∷ ls) (entry j w ∷ rs) l r = go (compare k j) refl
    where
      ys : List Entry
      ys = (j, w) ∷ spread rs

      go : (o : Ordering) → compare k j ≡ o → Tells (record { left = entry k v ∷ ls; right = entry j w ∷ rs }) (turn (entry k v ∷ ls) (entry j w ∷ rs))
      go Ordering.lt e =
          let p = cmp_lt k j e in
          let n : find ys k ≡ none = above_none ys k k (p, all_above_trans k j (spread rs) p r.sorted.0) (omega arith) in
          rw (e, turn) (record {
            left = side_next k v ls l;
            right = r;
            listed = λ rows. yield_listed k v none (spread ls) (find ys) (find ys) rows l.sorted.0 n (λ i q. refl);
          })
      go Ordering.eq e =
          let p = cmp_eq k j e in
          let f : find ys k ≡ some w = ap (find ys) p ∙ found_first (j, w) (spread rs) in
          let later : (i : ℕ) → k < i → find ys i ≡ find (spread rs) i = λ i q. sym (past (j, w) (spread rs) i (omega arith)) in
          rw (e, turn) (record {
            left = side_next k v ls l;
            right = side_next j w rs r;
            listed = λ rows. yield_listed k v (some w) (spread ls) (find (spread rs)) (find ys) rows l.sorted.0 f later;
          })
      go Ordering.gt e =
          let p = cmp_gt k j e in
          let a : AllAbove j ((k, v) ∷ spread ls) = (p, all_above_trans j k (spread ls) p l.sorted.0) in
          rw (e, turn) (record {
            left = l;
            right = side_next j w rs r;
            listed = λ rows. swap_listed (find ((k, v) ∷ spread ls)) (find (spread rs)) (find ys) rows (λ i x q. sym (past (j, w) (spread rs) i (found_above ((k, v) ∷ spread ls) j i x a q)));
          })

  -- rows of a whole walk are all; those of one that was given up begin a list that is
  abbrev Begins : Sides → Walk → Type 0
  Begins s w = (more : List Row) × Lists s (w.rows ++ more) × (w.deep ≡ false → more ≡ [])

  over_begins : (s : Sides) → spread s.left ≡ [] → Begins s (record { rows = []; deep = false })
  over_begins s q = ([], rw q (nil_listed (find (spread s.right))), λ d. refl)

  walk_listed : (f : ℕ) (s : Sides) → costs s ≤ f → Side s.left → Side s.right → Begins s (walk f s)
  unfolding walk Falls Tells
  walk_listed zero s c l r = go (turn s.left s.right) (turn_falls s.left s.right) (turn_tells s.left s.right l r)
    where
      go : (o : Turn) → Falls s o → Tells s o → Begins s (record { rows = []; deep = false })
      go over p q = over_begins s q
      go (on t) p q = absurd (omega arith)
      go (yield x t) p q = absurd (omega (arith, p.0))
  walk_listed (suc f) s c l r = go (turn s.left s.right) refl (turn_falls s.left s.right) (turn_tells s.left s.right l r) (walk_listed f)
    where
      go : (o : Turn) → turn s.left s.right ≡ o → Falls s o → Tells s o
          → ((t : Sides) → costs t ≤ f → Side t.left → Side t.right → Begins t (walk f t)) → Begins s (walk (suc f) s)
      go over e p q ih = rw (e, walk) (over_begins s q)
      go (on t) e p q ih = by (too_deep t) refl
        where
          by : (b : Bool) → too_deep t ≡ b → Begins s (walk (suc f) s)
          by true z =
              let all = all_listed (spread t.left) (find (spread t.right)) q.left.sorted in
              rw (e, walk) (rw z (all.0, q.listed all.0 all.1, λ d. absurd (true≢false d)))
          by false z = let w = ih t (omega arith) q.left q.right in rw (e, walk) (rw z (w.0, q.listed ((walk f t).rows ++ w.0) w.1, w.2))
      go (yield x t) e p q ih = let w = ih t (omega (arith, p.0)) q.left q.right in rw (e, walk) (w.0, q.listed ((walk f t).rows ++ w.0) w.1, w.2)

  side_start : (t : Tree) → Stands h L t → Ordered t → Side (pend t [])
  unfolding Standing spread
  side_start t g o = record { stands = standing_pend t [] g tt; sorted = rw (spread_pend t [], append-nil (entries t)) (ordered_sorted t o) }

-- two ordered trees of one heap
pub record OneHeap (a b : Tree) : Type 0 where
  pub heap : Heap
  pub linked : Linked heap
  pub stands_left : Stands heap linked a
  pub stands_right : Stands heap linked b
  pub ordered_left : Ordered a
  pub ordered_right : Ordered b

pub turned : (a b : Tree) → OneHeap a b → OneHeap b a
turned a b O = record { heap = O.heap; linked = O.linked; stands_left = O.stands_right; stands_right = O.stands_left; ordered_left = O.ordered_right; ordered_right = O.ordered_left }

-- any two versions of a sound heap are such trees
pub versions_one-heap : (h : Heap) → Sound h → (v w : ℕ) → v < 16 → w < 16 → OneHeap (version h v) (version h w)
versions_one-heap h S v w p q =
    let L = S.kept.linked in
    record {
      heap = h;
      linked = L;
      stands_left = tree_stands h L (h.root v) (L.roots v p);
      stands_right = tree_stands h L (h.root w) (L.roots w q);
      ordered_left = version_ordered S v p;
      ordered_right = version_ordered S w q;
    }

-- The theorems

-- the rows of a listing, and those that it did not come to where it is too deep
listing_begins : (a b : Tree) → OneHeap a b
    → (more : List Row) × Listed (find (entries a)) (find (entries b)) ((listing a b).rows ++ more) × ((listing a b).deep ≡ false → more ≡ [])
unfolding listing spread
listing_begins a b O =
    rw (spread_pend a [], spread_pend b [], append-nil (entries a), append-nil (entries b)) at
    (walk_listed O.heap O.linked (turns a b) (start a b) (costs_start a b)
    (side_start O.heap O.linked a O.stands_left O.ordered_left)
    (side_start O.heap O.linked b O.stands_right O.ordered_right))

-- a listing that is not too deep: rows ascend strictly, each is right, and a key without a row has the same value on the right
pub listing-listed : (a b : Tree) → OneHeap a b → (listing a b).deep ≡ false → Listed (find (entries a)) (find (entries b)) (listing a b).rows
listing-listed a b O d = let w = listing_begins a b O in rw (w.2 d, append-nil (listing a b).rows) at w.1

-- each row is right, of a listing that is too deep too
pub row_right : (a b : Tree) → OneHeap a b → (r : Row) → r ∈ (listing a b).rows
    → (find (entries a) r.key ≡ some r.left) × (find (entries b) r.key ≡ r.right)
row_right a b O r m = let w = listing_begins a b O in w.1.right r (in_left r (listing a b).rows w.0 m)

-- the same of two versions of a sound heap
pub versions_listed : (h : Heap) → Sound h → (v w : ℕ) → v < 16 → w < 16 → (listing (version h v) (version h w)).deep ≡ false
    → Listed (find (entries (version h v))) (find (entries (version h w))) (listing (version h v) (version h w)).rows
versions_listed h S v w p q = listing-listed (version h v) (version h w) (versions_one-heap h S v w p q)

-- Against an empty side every entry is shown.

abbrev alone : List Item → Sides
alone ls = record { left = ls; right = [] }

walk_alone : (f : ℕ) (ls : List Item) → costs (alone ls) ≤ f → (walk f (alone ls)).deep ≡ false → left_entries (walk f (alone ls)).rows ≡ spread ls
unfolding walk turn Falls spread left_entries costs cost
walk_alone zero ls c d = go ls c
  where
    go : (ls : List Item) → costs (alone ls) ≤ 0 → [] ≡ spread ls
    go [] c = refl
    go (tree t ∷ ls) c = absurd (omega (arith, turn_falls (tree t ∷ ls) []))
    go (entry k v ∷ ls) c = absurd (omega arith)
walk_alone (suc f) ls c d = go ls c d (walk_alone f)
  where
    go : (ls : List Item) → costs (alone ls) ≤ suc f → (walk (suc f) (alone ls)).deep ≡ false
        → ((ms : List Item) → costs (alone ms) ≤ f → (walk f (alone ms)).deep ≡ false → left_entries (walk f (alone ms)).rows ≡ spread ms)
        → left_entries (walk (suc f) (alone ls)).rows ≡ spread ls
    go [] c d ih = refl
    go (tree t ∷ ls) c d ih = by (too_deep (alone (opened t ls))) refl
      where
        by : (b : Bool) → too_deep (alone (opened t ls)) ≡ b → left_entries (walk (suc f) (alone (tree t ∷ ls))).rows ≡ entries t ++ spread ls
        by true z = absurd (true≢false (rw (z, walk) at d))
        by false z =
            let same : walk (suc f) (alone (tree t ∷ ls)) ≡ walk f (alone (opened t ls)) = rw (z, walk) refl in
            ap (λ (w : Walk). left_entries w.rows) same ∙ ih (opened t ls) (omega (arith, turn_falls (tree t ∷ ls) [])) (ap (λ (w : Walk). w.deep) (sym same) ∙ d) ∙ spread_opened t ls
    go (entry k v ∷ ls) c d ih = ap (λ (es : List Entry). (k, v) ∷ es) (ih ls (omega arith) d)

-- the listing of a version against an empty one is its entries
pub listing_alone : (t : Tree) → (listing t leaf).deep ≡ false → left_entries (listing t leaf).rows ≡ entries t
unfolding listing spread
listing_alone t d = walk_alone (turns t leaf) (pend t []) (costs_start t leaf) d ∙ spread_pend t [] ∙ append-nil (entries t)
