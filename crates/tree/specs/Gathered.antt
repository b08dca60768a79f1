-- What gathering a sum asks, and where two boundary paths part.
use Rattle.std.specs.Prelude.{◌≡◌, ◌≢◌, ℕ, ◌≤◌, ◌<◌, List}
use Rattle.model.specs.Tree.{Ordered}
use Rattle.model.specs.Heap.{Named, size_at, tree, Linked}
use Rattle.model.specs.Block.{heap, Shaped}
use Rattle.model.specs.Sums.{within, sum_below}

-- the tree below root is ordered, and small enough that its sum fits
pub record Summable (b : List ℕ) (root : ℕ) : Type 0 where
  pub shaped : Shaped b
  pub linked : Linked (heap b)
  pub named : Named (heap b) root
  pub ordered : Ordered (tree (heap b) root)
  pub small : size_at (heap b) root < 1048576

-- all keys from first to last are below n, and n's is one of them
pub record Parting (b : List ℕ) (root first last n : ℕ) : Type 0 where
  pub summable : Summable b n
  pub same : sum_below (heap b) (within first last) n ≡ sum_below (heap b) (within first last) root
  pub low : n ≢ 0 → first ≤ (heap b).key n
  pub high : n ≢ 0 → (heap b).key n ≤ last
