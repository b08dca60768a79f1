-- A block whose soundness can be computed: the clauses as tests, number by number.
use mathlib.Core.Path.{◌≡◌, sym}
use Prim.Native.Nat.{ℕ, zero, suc, ◌+◌, ◌≤◌, ◌<◌}
use mathlib.Core.Bool.{Bool, true, false, ◌&&◌, true≢false}
use mathlib.Core.List.{List, [], ◌∷◌}
use lib.Dec.{eqb, ltb, leb}
use borrow.Author.Tests.{eqb-true, ltb-true, leb-true}
use native.Mathlib.Omega.{arith}
use native.Mathlib.Decide.{ℕ_discrete}
use Rattle.model.specs.Tree.{Tree, leaf, node, Entry, entries, AllBelow, AllAbove, Ordered}
use Rattle.model.specs.Heap.{Heap, Occupied, Named, size_at, sum_at, tree, refs, Blank, Sound}
use Rattle.model.specs.Block.{occupied_at, heap, Shaped, SoundBlock}
use Rattle.model.proofs.maps.Tests.{both}

-- p at the numbers below n
unfoldable pub up_to : (ℕ → Bool) → ℕ → Bool
up_to p zero = true
up_to p (suc n) = p n && up_to p n

pub up_to_at : (p : ℕ → Bool) (n m : ℕ) → up_to p n ≡ true → m < n → p m ≡ true
unfolding up_to
up_to_at p zero m e h = absurd (omega arith)
up_to_at p (suc n) m e h = let q = both (p n) (up_to p n) e in go (ℕ_discrete m n) q.0 (up_to_at p n m q.1)
  where
    go : Dec (m ≡ n) → p n ≡ true → (m < n → p m ≡ true) → p m ≡ true
    go (yes q) here later = rw q here
    go (no q) here later = later (omega arith)

-- Order.

unfoldable pub below : ℕ → List Entry → Bool
below k [] = true
below k (e ∷ es) = ltb e.0 k && below k es

unfoldable pub above : ℕ → List Entry → Bool
above k [] = true
above k (e ∷ es) = ltb k e.0 && above k es

unfoldable pub ordered : Tree → Bool
ordered leaf = true
ordered (node i k v l r) = (below k (entries l) && above k (entries r)) && (ordered l && ordered r)

below_says : (k : ℕ) (es : List Entry) → below k es ≡ true → AllBelow k es
unfolding below AllBelow
below_says k [] p = tt
below_says k (e ∷ es) p = let q = both (ltb e.0 k) (below k es) p in (ltb-true e.0 k q.0, below_says k es q.1)

above_says : (k : ℕ) (es : List Entry) → above k es ≡ true → AllAbove k es
unfolding above AllAbove
above_says k [] p = tt
above_says k (e ∷ es) p = let q = both (ltb k e.0) (above k es) p in (ltb-true k e.0 q.0, above_says k es q.1)

ordered_says : (t : Tree) → ordered t ≡ true → Ordered t
unfolding ordered Ordered
ordered_says leaf p = tt
ordered_says (node i k v l r) p =
    let q = both (below k (entries l) && above k (entries r)) (ordered l && ordered r) p in
    let s = both (below k (entries l)) (above k (entries r)) q.0 in
    let t = both (ordered l) (ordered r) q.1 in
    (below_says k (entries l) s.0, above_says k (entries r) s.1, ordered_says l t.0, ordered_says r t.1)

-- The nodes of a heap.

module _ (h : Heap) where
  abbrev named : ℕ → Bool
  named zero = true
  named (suc n) = h.occupied (suc n)

  named_says : (n : ℕ) → named n ≡ true → Named h n
  named_says zero p = tt
  named_says (suc n) p = p

  abbrev links : ℕ → Bool
  links n = named (h.left n) && named (h.right n)

  abbrev sums : ℕ → Bool
  sums n = eqb (h.size n) (suc (size_at h (h.left n) + size_at h (h.right n))) && eqb (h.sum n) (h.value n + (sum_at h (h.left n) + sum_at h (h.right n)))

  abbrev counts : ℕ → Bool
  counts n = eqb (h.count n) (refs h n) && leb 1 (h.count n)

  abbrev full : ℕ → Bool
  full n = (links n && sums n) && (counts n && ordered (tree h n))

  abbrev blank : ℕ → Bool
  blank n = (eqb (h.key n) 0 && eqb (h.value n) 0) && ((eqb (h.left n) 0 && eqb (h.right n) 0) && ((eqb (h.size n) 0 && eqb (h.count n) 0) && eqb (h.sum n) 0))

  abbrev fine : ℕ → Bool
  fine n = elim (h.occupied n) [ true ↦ full n | false ↦ blank n ]

  record Full (n : ℕ) : Type 0 where
    left : Named h (h.left n)
    right : Named h (h.right n)
    size : h.size n ≡ suc (size_at h (h.left n) + size_at h (h.right n))
    sum : h.sum n ≡ h.value n + (sum_at h (h.left n) + sum_at h (h.right n))
    count : h.count n ≡ refs h n
    held : 1 ≤ h.count n
    order : Ordered (tree h n)

  full_says : (n : ℕ) → full n ≡ true → Full n
  full_says n p =
      let q = both (links n && sums n) (counts n && ordered (tree h n)) p in
      let ls = both (links n) (sums n) q.0 in
      let co = both (counts n) (ordered (tree h n)) q.1 in
      let l = both (named (h.left n)) (named (h.right n)) ls.0 in
      let s = both (eqb (h.size n) (suc (size_at h (h.left n) + size_at h (h.right n)))) (eqb (h.sum n) (h.value n + (sum_at h (h.left n) + sum_at h (h.right n)))) ls.1 in
      let c = both (eqb (h.count n) (refs h n)) (leb 1 (h.count n)) co.0 in
      record {
        left = named_says (h.left n) l.0;
        right = named_says (h.right n) l.1;
        size = eqb-true _ _ s.0;
        sum = eqb-true _ _ s.1;
        count = eqb-true _ _ c.0;
        held = leb-true _ _ c.1;
        order = ordered_says (tree h n) co.1;
      }

  blank_says : (n : ℕ) → blank n ≡ true → Blank h n
  blank_says n p =
      let a = both (eqb (h.key n) 0 && eqb (h.value n) 0) _ p in
      let b = both (eqb (h.left n) 0 && eqb (h.right n) 0) _ a.1 in
      let c = both (eqb (h.size n) 0 && eqb (h.count n) 0) _ b.1 in
      let kv = both (eqb (h.key n) 0) _ a.0 in
      let lr = both (eqb (h.left n) 0) _ b.0 in
      let sc = both (eqb (h.size n) 0) _ c.0 in
      record {
        key = eqb-true _ _ kv.0;
        value = eqb-true _ _ kv.1;
        left = eqb-true _ _ lr.0;
        right = eqb-true _ _ lr.1;
        size = eqb-true _ _ sc.0;
        count = eqb-true _ _ sc.1;
        sum = eqb-true _ _ c.1;
      }

  -- every number passes, and no other is occupied
  module _ (within : (n : ℕ) → Occupied h n → (1 ≤ n) × (n ≤ h.room)) (nodes : up_to (λ i. fine (suc i)) h.room ≡ true) (roots : up_to (λ v. named (h.root v)) 16 ≡ true) where
    fine_at : (n : ℕ) → 1 ≤ n → n ≤ h.room → fine n ≡ true
    fine_at zero lo hi = absurd (omega arith)
    fine_at (suc n) lo hi = up_to_at (λ i. fine (suc i)) h.room n nodes (omega arith)

    full_at : (n : ℕ) → Occupied h n → Full n
    full_at n o = let w = within n o in full_says n (rw (o, fine) at (fine_at n w.0 w.1))

    blank_at : (n : ℕ) → 1 ≤ n → n ≤ h.room → h.occupied n ≡ false → Blank h n
    blank_at n lo hi o = blank_says n (rw (o, fine) at (fine_at n lo hi))

    pub tested_sound : Sound h
    tested_sound = record {
      kept = record {
        linked = record {
          within = within;
          roots = λ v lt. named_says (h.root v) (up_to_at (λ u. named (h.root u)) 16 v roots lt);
          lefts = λ n o. (full_at n o).left;
          rights = λ n o. (full_at n o).right;
          sizes = λ n o. (full_at n o).size;
          sums = λ n o. (full_at n o).sum;
          blank = blank_at;
        };
        counts = λ n o. (full_at n o).count;
        held = λ n o. (full_at n o).held;
      };
      ordered = λ n o. (full_at n o).order;
    }

-- an occupied number is one of 1 to N
occupied_within : (b : List ℕ) (n : ℕ) → occupied_at b n ≡ true → (1 ≤ n) × (n ≤ (heap b).room)
occupied_within b zero o = absurd (true≢false (sym o))
occupied_within b (suc n) o = (omega arith, omega (arith, ltb-true n (heap b).room (both (ltb n (heap b).room) _ o).0))

-- the nodes and the roots of a block pass
abbrev pub Passes : List ℕ → Type 0
Passes b = (up_to (λ i. fine (heap b) (suc i)) (heap b).room ≡ true) × (up_to (λ v. named (heap b) ((heap b).root v)) 16 ≡ true)

pub block_tested : (b : List ℕ) → Shaped b → Passes b → SoundBlock b
block_tested b S p = record { shaped = S; sound = tested_sound (heap b) (occupied_within b) p.0 p.1 }
