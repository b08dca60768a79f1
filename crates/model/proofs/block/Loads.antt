-- The tree below a node.
use mathlib.Core.Path.{◌≡◌, refl}
use Prim.Native.Nat.{ℕ, zero, suc, ◌+◌, ◌≤◌}
use native.Mathlib.Omega.{arith}
use Rattle.model.specs.Tree.{Tree, leaf, node, size, total, id_of}
use Rattle.model.specs.Heap.{Heap, Occupied, Named, size_at, sum_at, load, tree, Linked}

module _ (h : Heap) (L : Linked h) where
  size_pos : (n : ℕ) → Occupied h n → 1 ≤ h.size n
  size_pos n o = omega (arith, L.sizes n o)

  -- fuel beyond the size changes nothing
  load_fuel : (f g n : ℕ) → Named h n → size_at h n ≤ f → size_at h n ≤ g → load h f n ≡ load h g n
  unfolding load
  load_fuel zero zero n o p q = refl
  load_fuel zero (suc g) zero o p q = refl
  load_fuel zero (suc g) (suc n) o p q = absurd (omega (arith, size_pos (suc n) o))
  load_fuel (suc f) zero zero o p q = refl
  load_fuel (suc f) zero (suc n) o p q = absurd (omega (arith, size_pos (suc n) o))
  load_fuel (suc f) (suc g) zero o p q = refl
  load_fuel (suc f) (suc g) (suc n) o p q =
      let e = L.sizes (suc n) o in
      let l = load_fuel f g (h.left (suc n)) (L.lefts (suc n) o) (omega arith) (omega arith) in
      let r = load_fuel f g (h.right (suc n)) (L.rights (suc n) o) (omega arith) (omega arith) in
      rw (l, r)

  pub tree_node : (n : ℕ) → Occupied h n → tree h n ≡ node n (h.key n) (h.value n) (tree h (h.left n)) (tree h (h.right n))
  unfolding load tree
  tree_node zero o = absurd (omega (arith, L.within zero o))
  tree_node (suc n) o =
      let a = size_at h (h.left (suc n)) in
      let b = size_at h (h.right (suc n)) in
      let l = load_fuel (a + b) a (h.left (suc n)) (L.lefts (suc n) o) (omega arith) (omega arith) in
      let r = load_fuel (a + b) b (h.right (suc n)) (L.rights (suc n) o) (omega arith) (omega arith) in
      rw (L.sizes (suc n) o) (rw (l, r))

  -- what holds of leaf, and of each node if it holds below it, holds of the tree of every link
  pub tree_ind : (P : ℕ → Tree → Type 0) → P 0 leaf
      → ((n : ℕ) → Occupied h n → P (h.left n) (tree h (h.left n)) → P (h.right n) (tree h (h.right n)) → P n (node n (h.key n) (h.value n) (tree h (h.left n)) (tree h (h.right n))))
      → (n : ℕ) → Named h n → P n (tree h n)
  unfolding tree load
  tree_ind P base step n o = go (size_at h n) n o (omega arith)
    where
      go : (f n : ℕ) → Named h n → size_at h n ≤ f → P n (tree h n)
      go zero zero o p = base
      go (suc f) zero o p = base
      go zero (suc n) o p = absurd (omega (arith, size_pos (suc n) o))
      go (suc f) (suc n) o p =
          let e = L.sizes (suc n) o in
          rw (tree_node (suc n) o) (step (suc n) o (go f (h.left (suc n)) (L.lefts (suc n) o) (omega arith)) (go f (h.right (suc n)) (L.rights (suc n) o) (omega arith)))

  pub tree_id : (n : ℕ) → Named h n → id_of (tree h n) ≡ n
  unfolding tree load id_of
  tree_id zero o = refl
  tree_id (suc n) o = rw (tree_node (suc n) o)

  pub size_at_occupied : (n : ℕ) → Occupied h n → size_at h n ≡ h.size n
  size_at_occupied zero o = absurd (omega (arith, L.within zero o))
  size_at_occupied (suc n) o = refl

  tree_size_step : (n : ℕ) → Occupied h n → size (tree h (h.left n)) ≡ size_at h (h.left n)
      → size (tree h (h.right n)) ≡ size_at h (h.right n) → suc (size (tree h (h.left n)) + size (tree h (h.right n))) ≡ size_at h n
  tree_size_step n o l r = omega (arith, L.sizes n o, size_at_occupied n o)

  pub tree-size : (n : ℕ) → Named h n → size (tree h n) ≡ size_at h n
  unfolding size
  tree-size = tree_ind (λ n t. size t ≡ size_at h n) refl (λ n o l r. tree_size_step n o l r)

  pub sum_at_occupied : (n : ℕ) → Occupied h n → sum_at h n ≡ h.sum n
  sum_at_occupied zero o = absurd (omega (arith, L.within zero o))
  sum_at_occupied (suc n) o = refl

  -- the stored sum is the tree's
  pub tree-sum : (n : ℕ) → Named h n → total (tree h n) ≡ sum_at h n
  unfolding total
  tree-sum = tree_ind (λ n t. total t ≡ sum_at h n) refl (λ n o l r. tree_sum_step n o l r)
    where
      tree_sum_step : (n : ℕ) → Occupied h n → total (tree h (h.left n)) ≡ sum_at h (h.left n)
          → total (tree h (h.right n)) ≡ sum_at h (h.right n)
          → h.value n + (total (tree h (h.left n)) + total (tree h (h.right n))) ≡ sum_at h n
      tree_sum_step n o l r = omega (arith, L.sums n o, sum_at_occupied n o)

-- a heap that agrees with h at h's occupied nodes has the same trees there
pub frame : (h g : Heap) → Linked h → ((n : ℕ) → Occupied h n → g.key n ≡ h.key n) → ((n : ℕ) → Occupied h n → g.value n ≡ h.value n)
    → ((n : ℕ) → Occupied h n → g.left n ≡ h.left n) → ((n : ℕ) → Occupied h n → g.right n ≡ h.right n)
    → (f n : ℕ) → Named h n → load g f n ≡ load h f n
unfolding load
frame h g L ks vs ls rs zero n o = refl
frame h g L ks vs ls rs (suc f) zero o = refl
frame h g L ks vs ls rs (suc f) (suc n) o =
    let l = frame h g L ks vs ls rs f (h.left (suc n)) (L.lefts (suc n) o) in
    let r = frame h g L ks vs ls rs f (h.right (suc n)) (L.rights (suc n) o) in
    rw (ks (suc n) o, vs (suc n) o, ls (suc n) o, rs (suc n) o, l, r)
