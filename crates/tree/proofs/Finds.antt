-- A lookup is right because at each node it goes to the side that the key is on, so what it looks for stays the same.
use mathlib.Core.Path.{◌≡◌, ap, sym, ◌∙◌}
use mathlib.Core.Logic.{◌≢◌}
use Prim.Native.Nat.{ℕ, ◌≤◌, ◌<◌}
use mathlib.Core.Option.{some}
use mathlib.Core.List.{List}
use Rattle.model.specs.Tree.{lookup}
use Rattle.model.specs.Heap.{size_at, tree, Linked}
use Rattle.model.specs.Block.{heap}
use Rattle.model.proofs.block.Lookups.{Walk, go_left, go_right, stop_here, left_less, right_less}
use Rattle.block.specs.declared.Node.{Node}
use Rattle.block.specs.Outcome.{node_of}

-- the walk from `root` that looks for k has read node n as m
pub record Step (b : List ℕ) (root k n : ℕ) (m : Node) : Type 0 where
  pub linked : Linked (heap b)
  pub walk : Walk (heap b) root k n
  pub there : n ≢ 0
  pub is : m ≡ node_of (heap b) n

module _ {b : List ℕ} {root k n : ℕ} {m : Node} (S : Step b root k n m) where
  pub look_here : k ≡ m.key → some m.value ≡ lookup (tree (heap b) root) k
  look_here p = ap (λ z. some z.value) S.is ∙ sym (stop_here (heap b) S.linked root k n S.walk S.there m.key (ap (λ z. z.key) S.is) (sym p))

  pub look_left : k < m.key → Walk (heap b) root k m.left
  look_left p = go_left (heap b) S.linked root k n S.walk S.there m.key m.left (ap (λ z. z.key) S.is) p (ap (λ z. z.left) S.is)

  pub look_right : k ≢ m.key → m.key ≤ k → Walk (heap b) root k m.right
  look_right p o = go_right (heap b) S.linked root k n S.walk S.there m.key m.right (ap (λ z. z.key) S.is) o (λ e. p (sym e)) (ap (λ z. z.right) S.is)

  pub less_left : size_at (heap b) m.left < size_at (heap b) n
  less_left = left_less (heap b) S.linked root k n S.walk S.there m.left (ap (λ z. z.left) S.is)

  pub less_right : size_at (heap b) m.right < size_at (heap b) n
  less_right = right_less (heap b) S.linked root k n S.walk S.there m.right (ap (λ z. z.right) S.is)
