-- Two trees of at most 64 entries are never too deep to be listed: each pending item holds an entry of its own, so there are at most 64 on a side.
use mathlib.Core.Path.{◌≡◌, refl, ap, sym, ◌∙◌}
use mathlib.Core.Logic.{inl, inr, ⊎_elim}
use Prim.Native.Nat.{ℕ, zero, suc, ◌+◌, ◌≤◌, ◌<◌, compare, Ordering}
use mathlib.Core.Bool.{Bool, true, false}
use mathlib.Core.Option.{none}
use mathlib.Core.List.{List, [], ◌∷◌, map}
use lib.ListN.{length}
use lib.Dec.{eqb, leb}
use native.Mathlib.Omega.{arith}
use Rattle.model.specs.Tree.{Tree, leaf, node, size, id_of, entries, cut}
use Rattle.model.specs.Listing.{Item, tree, entry, Sides, Row, Turn, over, on, yield, pend, opened, turn, start, listing, next_sides, after, left_entries, ◌∈◌}
use Rattle.model.specs.Heap.{Heap, version, Sound}
use Rattle.model.specs.Lists.{row_words}
use Rattle.model.specs.Kiosk.{entry_words}
use Rattle.model.proofs.listing.Turns.{too_deep_exactly}
use Rattle.model.proofs.listing.Listings.{listing_alone, row_right, versions_one-heap}

-- the entries that a side has still to show
held : List Item → ℕ
held [] = 0
held (tree t ∷ is) = size t + held is
held (entry k v ∷ is) = 1 + held is

-- no empty tree is pending
Full : List Item → Type 0
Full [] = Unit {0}
Full (tree leaf ∷ is) = ⊥
Full (tree (node i k v l r) ∷ is) = Full is
Full (entry k v ∷ is) = Full is

-- a side with at most 64 entries to show, and an entry in each item
record Few (is : List Item) : Type 0 where
  full : Full is
  few : held is ≤ 64

few_length : (is : List Item) → Full is → length is ≤ held is
unfolding held Full size
few_length [] f = omega arith
few_length (tree leaf ∷ is) f = absurd f
few_length (tree (node i k v l r) ∷ is) f = omega (arith, few_length is f)
few_length (entry k v ∷ is) f = omega (arith, few_length is f)

held-pend : (t : Tree) (is : List Item) → held (pend t is) ≡ size t + held is
unfolding held size
held-pend leaf is = omega arith
held-pend (node i k v l r) is = refl

full_pend : (t : Tree) (is : List Item) → Full is → Full (pend t is)
unfolding Full
full_pend leaf is f = f
full_pend (node i k v l r) is f = f

few_opened : (t : Tree) (is : List Item) → Few (tree t ∷ is) → Few (opened t is)
unfolding held Full size
few_opened leaf is F = absurd F.full
few_opened (node i k v l r) is F = record {
  full = full_pend l (entry k v ∷ pend r is) (full_pend r is F.full);
  few = omega (arith, held-pend l (entry k v ∷ pend r is), held-pend r is, F.few);
}

few_rest : (t : Tree) (is : List Item) → Few (tree t ∷ is) → Few is
unfolding held Full size
few_rest leaf is F = absurd F.full
few_rest (node i k v l r) is F = record { full = F.full; few = omega (arith, F.few) }

few_next : (k v : ℕ) (is : List Item) → Few (entry k v ∷ is) → Few is
unfolding held Full
few_next k v is F = record { full = F.full; few = omega (arith, F.few) }

-- a turn leaves such sides
Leaves : Turn → Type 0
Leaves over = Unit {0}
Leaves (on t) = Few t.left × Few t.right
Leaves (yield r t) = Few t.left × Few t.right

turn_few : (ls rs : List Item) → Few ls → Few rs → Leaves (turn ls rs)
unfolding Leaves turn
turn_few [] rs l r = tt
turn_few (tree t ∷ ls) [] l r = (few_opened t ls l, r)
turn_few (tree t ∷ ls) (entry h w ∷ rs) l r = (few_opened t ls l, r)
turn_few (tree t ∷ ls) (tree u ∷ rs) l r = same (eqb (id_of t) (id_of u)) refl
  where
    larger : (b : Bool) → leb (size u) (size t) ≡ b → eqb (id_of t) (id_of u) ≡ false → Leaves (turn (tree t ∷ ls) (tree u ∷ rs))
    larger true e d = rw (d, turn) (rw e (few_opened t ls l, r))
    larger false e d = rw (d, turn) (rw e (l, few_opened u rs r))

    same : (b : Bool) → eqb (id_of t) (id_of u) ≡ b → Leaves (turn (tree t ∷ ls) (tree u ∷ rs))
    same true e = rw (e, turn) (few_rest t ls l, few_rest u rs r)
    same false e = larger (leb (size u) (size t)) refl e
turn_few (entry k v ∷ ls) [] l r = (few_next k v ls l, r)
turn_few (entry k v ∷ ls) (tree u ∷ rs) l r = (l, few_opened u rs r)
turn_few (entry k v ∷ ls) (entry h w ∷ rs) l r = go (compare k h) refl
  where
    go : (o : Ordering) → compare k h ≡ o → Leaves (turn (entry k v ∷ ls) (entry h w ∷ rs))
    go Ordering.lt e = rw (e, turn) (few_next k v ls l, r)
    go Ordering.eq e = rw (e, turn) (few_next k v ls l, few_next h w rs r)
    go Ordering.gt e = rw (e, turn) (l, few_next h w rs r)

next_few : (s : Sides) → Few s.left → Few s.right → Few (next_sides s).left × Few (next_sides s).right
unfolding next_sides Leaves
next_few s l r = go (turn s.left s.right) refl (turn_few s.left s.right l r)
  where
    go : (o : Turn) → turn s.left s.right ≡ o → Leaves o → Few (next_sides s).left × Few (next_sides s).right
    go over e p = rw (e, next_sides) (l, r)
    go (on t) e p = rw (e, next_sides) p
    go (yield y t) e p = rw (e, next_sides) p

after_few : (n : ℕ) (s : Sides) → Few s.left → Few s.right → Few (after n s).left × Few (after n s).right
unfolding after
after_few zero s l r = (l, r)
after_few (suc n) s l r = let w = next_few s l r in after_few n (next_sides s) w.0 w.1

few_start : (t : Tree) → size t ≤ 64 → Few (pend t [])
unfolding held Full
few_start t h = record { full = full_pend t [] tt; few = omega (arith, held-pend t []) }

-- no listing of two such trees is TOO_DEEP
pub few_never_deep : (a b : Tree) → size a ≤ 64 → size b ≤ 64 → (listing a b).deep ≡ false
few_never_deep a b p q = go (listing a b).deep refl
  where
    go : (d : Bool) → (listing a b).deep ≡ d → (listing a b).deep ≡ false
    go false e = e
    go true e =
        let w = (too_deep_exactly a b).0 e in
        let F = after_few w.0 (start a b) (few_start a p) (few_start b q) in
        let L = few_length (after w.0 (start a b)).left F.0.full in
        let R = few_length (after w.0 (start a b)).right F.1.full in
        absurd (⊎_elim (λ h. omega (arith, h, L, F.0.few)) (λ h. omega (arith, h, R, F.1.few)) w.1)

-- rows with no right side are entries with two zeros behind them
rows_words : (rows : List Row) → ((r : Row) → r ∈ rows → r.right ≡ none) → map row_words rows ≡ map entry_words (left_entries rows)
unfolding left_entries ◌∈◌ row_words
rows_words [] h = refl
rows_words (r ∷ rs) h = rw (rows_words rs (λ q m. h q (inr m)), h r (inl refl), row_words)

-- the listing of a version of few entries against an empty one
pub listing_few : (h : Heap) → Sound h → (v e : ℕ) → v < 16 → e < 16 → version h e ≡ leaf → size (version h v) ≤ 64
    → ((listing (version h v) (version h e)).deep ≡ false) × (map row_words (listing (version h v) (version h e)).rows ≡ map entry_words (entries (version h v)))
unfolding entries cut size
listing_few h S v e lv le z few = (shallow, words)
  where
    shallow : (listing (version h v) (version h e)).deep ≡ false
    shallow = few_never_deep (version h v) (version h e) few (rw z (omega arith))

    bare : (r : Row) → r ∈ (listing (version h v) (version h e)).rows → r.right ≡ none
    bare r m = sym (row_right (version h v) (version h e) (versions_one-heap h S v e lv le) r m).1 ∙ rw z

    alone : left_entries (listing (version h v) (version h e)).rows ≡ entries (version h v)
    alone = rw z (listing_alone (version h v) (rw z at shallow))

    words : map row_words (listing (version h v) (version h e)).rows ≡ map entry_words (entries (version h v))
    words = rows_words _ bare ∙ ap (map entry_words) alone
