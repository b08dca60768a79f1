-- The part of a tree that can have the keys on one side of a key.
use Rattle.std.specs.Prelude.{◌≡◌, ℕ, ◌<◌, List}
use Rattle.model.specs.Tree.{entries, find}
use Rattle.model.specs.Heap.{tree}
use Rattle.model.specs.Block.{heap}
use Rattle.tree.specs.Gathered.{Summable}
use Rattle.sets.specs.declared.sums.Sides.{Sides}

-- below key the tree below n has what its part `low` has, and above key what its part `high` has
pub record Narrowed (b : List ℕ) (n key : ℕ) (s : Sides) : Type 0 where
  pub low : Summable b s.low
  pub high : Summable b s.high
  pub below : (k : ℕ) → k < key → find (entries (tree (heap b) s.low)) k ≡ find (entries (tree (heap b) n)) k
  pub above : (k : ℕ) → key < k → find (entries (tree (heap b) s.high)) k ≡ find (entries (tree (heap b) n)) k
