-- The least and the greatest key of a tree, from those of its two sides.
use mathlib.Core.Path.{◌≡◌, subst}
use mathlib.Core.Logic.{◌≢◌}
use Prim.Native.Nat.{ℕ, ◌≤◌, ◌<◌, min, max}
use mathlib.Core.List.{List, [], ◌∷◌, ◌++◌}
use native.Mathlib.Omega.{arith}
use native.Mathlib.Decide.{ℕ_discrete}
use Rattle.model.specs.Tree.{node, Entry, entries, AllBelow, AllAbove, Ordered}
use Rattle.model.specs.Heap.{Heap, Occupied, load, tree, Linked}
use Rattle.model.proofs.block.Loads.{tree_node}
use Rattle.area.specs.Turns.{Spans}

module _ (b k v : ℕ) where
  below_mid : (xs ys : List Entry) → AllBelow b (xs ++ (k, v) ∷ ys) → AllBelow b xs × (k < b) × AllBelow b ys
  unfolding AllBelow
  below_mid [] ys h = (tt, h.0, h.1)
  below_mid (x ∷ xs) ys h = let r = below_mid xs ys h.1 in ((h.0, r.0), r.1, r.2)

  mid_below : (xs ys : List Entry) → AllBelow b xs → k < b → AllBelow b ys → AllBelow b (xs ++ (k, v) ∷ ys)
  unfolding AllBelow
  mid_below [] ys p q r = (q, r)
  mid_below (x ∷ xs) ys p q r = (p.0, mid_below xs ys p.1 q r)

  above_mid : (xs ys : List Entry) → AllAbove b (xs ++ (k, v) ∷ ys) → AllAbove b xs × (b < k) × AllAbove b ys
  unfolding AllAbove
  above_mid [] ys h = (tt, h.0, h.1)
  above_mid (x ∷ xs) ys h = let r = above_mid xs ys h.1 in ((h.0, r.0), r.1, r.2)

  mid_above : (xs ys : List Entry) → AllAbove b xs → b < k → AllAbove b ys → AllAbove b (xs ++ (k, v) ∷ ys)
  unfolding AllAbove
  mid_above [] ys p q r = (q, r)
  mid_above (x ∷ xs) ys p q r = (p.0, mid_above xs ys p.1 q r)

module _ (j k : ℕ) (le : j ≤ k) where
  below_on : (xs : List Entry) → AllBelow j xs → AllBelow k xs
  unfolding AllBelow
  below_on [] p = tt
  below_on (x ∷ xs) p = (omega (arith, p.0), below_on xs p.1)

  above_on : (xs : List Entry) → AllAbove k xs → AllAbove j xs
  unfolding AllAbove
  above_on [] p = tt
  above_on (x ∷ xs) p = (omega (arith, p.0), above_on xs p.1)

-- one side of a node with key k: lo and hi are its bounds, or it is empty
module _ (h : Heap) (y k lo hi : ℕ) (S : y ≢ 0 → Spans (tree h y) lo hi) where
  abbrev es : List Entry
  es = entries (tree h y)

  none : (P : List Entry → Type 0) → P [] → y ≡ 0 → P es
  unfolding tree load entries
  none P p e = rw e p

  ordered_side : Ordered (tree h y)
  unfolding Ordered tree load
  ordered_side = go (ℕ_discrete y 0)
    where
      go : Dec (y ≡ 0) → Ordered (tree h y)
      go (yes e) = rw e tt
      go (no e) = (S e).ordered

  side_below : (y ≢ 0 → hi < k) → AllBelow k es
  unfolding AllBelow
  side_below q = go (ℕ_discrete y 0)
    where
      go : Dec (y ≡ 0) → AllBelow k es
      go (yes e) = none (AllBelow k) tt e
      go (no e) = (S e).below k (q e)

  side_above : (y ≢ 0 → k < lo) → AllAbove k es
  unfolding AllAbove
  side_above q = go (ℕ_discrete y 0)
    where
      go : Dec (y ≡ 0) → AllAbove k es
      go (yes e) = none (AllAbove k) tt e
      go (no e) = (S e).above k (q e)

  least_above : (b : ℕ) → b < min lo k → AllAbove b es
  unfolding AllAbove
  least_above b lt = go (ℕ_discrete y 0)
    where
      go : Dec (y ≡ 0) → AllAbove b es
      go (yes e) = none (AllAbove b) tt e
      go (no e) = (S e).above b (omega arith)

  above_least : (y ≡ 0 → k ≤ lo) → (b : ℕ) → AllAbove b es → b < k → b < min lo k
  above_least q b p lt = go (ℕ_discrete y 0)
    where
      go : Dec (y ≡ 0) → b < min lo k
      go (yes e) = omega (arith, q e)
      go (no e) = omega (arith, (S e).over b p)

  greatest_below : (b : ℕ) → max hi k < b → AllBelow b es
  unfolding AllBelow
  greatest_below b lt = go (ℕ_discrete y 0)
    where
      go : Dec (y ≡ 0) → AllBelow b es
      go (yes e) = none (AllBelow b) tt e
      go (no e) = (S e).below b (omega arith)

  below_greatest : (y ≡ 0 → hi ≤ k) → (b : ℕ) → AllBelow b es → k < b → max hi k < b
  below_greatest q b p lt = go (ℕ_discrete y 0)
    where
      go : Dec (y ≡ 0) → max hi k < b
      go (yes e) = omega (arith, q e)
      go (no e) = omega (arith, (S e).under b p)

module _ (h : Heap) (L : Linked h) (x : ℕ) (o : Occupied h x) (lo hi lo' hi' : ℕ) (S : h.left x ≢ 0 → Spans (tree h (h.left x)) lo hi) (T : h.right x ≢ 0 → Spans (tree h (h.right x)) lo' hi') where
  abbrev k : ℕ
  k = h.key x

  abbrev xs : List Entry
  xs = entries (tree h (h.left x))

  abbrev ys : List Entry
  ys = entries (tree h (h.right x))

  entries_node : entries (tree h x) ≡ xs ++ (k, h.value x) ∷ ys
  unfolding entries
  entries_node = rw (tree_node h L x o)

  pub spans_node : (h.left x ≡ 0 → k ≤ lo) → (h.right x ≡ 0 → hi' ≤ k) → (h.left x ≢ 0 → hi < k) → (h.right x ≢ 0 → k < lo')
      → Spans (tree h x) (min lo k) (max hi' k)
  unfolding Ordered
  spans_node zl zr pl pr = record {
    ordered = rw (tree_node h L x o) (B, A, ordered_side h (h.left x) k lo hi S, ordered_side h (h.right x) k lo' hi' T);
    below = λ b lt. rw entries_node (mid_below b k (h.value x) xs ys (below_on k b (omega arith) xs B) (omega arith) (greatest_below h (h.right x) k lo' hi' T b lt));
    under = λ b p. let q = below_mid b k (h.value x) xs ys (rw entries_node at p) in below_greatest h (h.right x) k lo' hi' T zr b q.2 q.1;
    above = λ b lt. rw entries_node (mid_above b k (h.value x) xs ys (least_above h (h.left x) k lo hi S b lt) (omega arith) (above_on b k (omega arith) ys A));
    over = λ b p. let q = above_mid b k (h.value x) xs ys (rw entries_node at p) in above_least h (h.left x) k lo hi S zl b q.0 q.1;
  }
    where
      B : AllBelow k xs
      B = side_below h (h.left x) k lo hi S pl

      A : AllAbove k ys
      A = side_above h (h.right x) k lo' hi' T pr

  -- where the order test fails the tree is not ordered
  pub ordered_sides : Ordered (tree h x) → (h.left x ≢ 0 → hi < k) × (h.right x ≢ 0 → k < lo')
  unfolding Ordered
  ordered_sides q = let r = opened in (λ p. (S p).under k r.0, λ p. (T p).over k r.1)
    where
      opened : AllBelow k xs × AllAbove k ys
      opened = let z : Ordered (node x k (h.value x) (tree h (h.left x)) (tree h (h.right x))) = subst Ordered (tree_node h L x o) q in (z.0, z.1)
