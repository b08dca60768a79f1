-- Lookup, one node at a time.
use mathlib.Core.Path.{◌≡◌, refl, ap, sym, ◌∙◌}
use mathlib.Core.Logic.{◌≢◌}
use Prim.Native.Nat.{ℕ, zero, suc, ◌≤◌, ◌<◌}
use mathlib.Core.Option.{none, some}
use native.Mathlib.Omega.{arith}
use Rattle.model.specs.Tree.{lookup}
use Rattle.model.specs.Heap.{Heap, Occupied, Named, size_at, load, tree, Linked}
use Rattle.model.proofs.maps.Compare.{lt_cmp, eq_cmp, gt_cmp}
use Rattle.model.proofs.block.Loads.{tree_node, size_at_occupied}

pub lookup_none : (h : Heap) (k : ℕ) → lookup (tree h 0) k ≡ none
unfolding lookup tree load
lookup_none h k = refl

module _ (h : Heap) (L : Linked h) (n k : ℕ) (o : Occupied h n) where
  pub lookup_same : h.key n ≡ k → lookup (tree h n) k ≡ some (h.value n)
  unfolding lookup
  lookup_same e = rw (tree_node h L n o) (rw (eq_cmp k (h.key n) (sym e), lookup))

  pub lookup-less : k < h.key n → lookup (tree h n) k ≡ lookup (tree h (h.left n)) k
  unfolding lookup
  lookup-less e = rw (tree_node h L n o) (rw (lt_cmp k (h.key n) e, lookup))

  pub lookup_more : h.key n < k → lookup (tree h n) k ≡ lookup (tree h (h.right n)) k
  unfolding lookup
  lookup_more e = rw (tree_node h L n o) (rw (gt_cmp k (h.key n) e, lookup))

  pub left_falls : size_at h (h.left n) < size_at h n
  left_falls = omega (arith, L.sizes n o, size_at_occupied h L n o)

  pub right_falls : size_at h (h.right n) < size_at h n
  right_falls = omega (arith, L.sizes n o, size_at_occupied h L n o)

-- a link that is not 0
pub link_occupied : (h : Heap) (n : ℕ) → Named h n → n ≢ 0 → Occupied h n
link_occupied h zero o p = absurd (p refl)
link_occupied h (suc n) o p = o

-- a walk down from `root` that looks for k has come to n
pub record Walk (h : Heap) (root k n : ℕ) : Type 0 where
  pub named : Named h n
  pub looks : lookup (tree h n) k ≡ lookup (tree h root) k

module _ (h : Heap) (L : Linked h) (root k n : ℕ) (W : Walk h root k n) (p : n ≢ 0) where
  pub at_node : Occupied h n
  at_node = link_occupied h n W.named p

  pub within-room : (1 ≤ n) × (n ≤ h.room)
  within-room = L.within n at_node

  pub go_left : (x m : ℕ) → x ≡ h.key n → k < x → m ≡ h.left n → Walk h root k m
  go_left x m e lt f = rw f (record { named = L.lefts n at_node; looks = sym (lookup-less h L n k at_node (omega (arith, e))) ∙ W.looks })

  pub go_right : (x m : ℕ) → x ≡ h.key n → x ≤ k → x ≢ k → m ≡ h.right n → Walk h root k m
  go_right x m e le ne f = rw f (record { named = L.rights n at_node; looks = sym (lookup_more h L n k at_node (omega (arith, e))) ∙ W.looks })

  pub stop_here : (x : ℕ) → x ≡ h.key n → x ≡ k → lookup (tree h root) k ≡ some (h.value n)
  stop_here x e f = sym W.looks ∙ lookup_same h L n k at_node (sym e ∙ f)

  pub left_less : (m : ℕ) → m ≡ h.left n → size_at h m < size_at h n
  left_less m f = rw f (left_falls h L n k at_node)

  pub right_less : (m : ℕ) → m ≡ h.right n → size_at h m < size_at h n
  right_less m f = rw f (right_falls h L n k at_node)

pub walked_out : (h : Heap) (root k n : ℕ) → Walk h root k n → n ≡ 0 → lookup (tree h root) k ≡ none
walked_out h root k n W e = sym W.looks ∙ ap (λ m. lookup (tree h m) k) e ∙ lookup_none h k
