-- One tree that a call changes.
use Rattle.std.specs.Prelude.{ℕ, ◌<◌, List, [], ◌∷◌, Option}
use Rattle.model.specs.Tree.{Tree}
use Rattle.model.specs.Supply.{Make}
use Rattle.model.specs.Heap.{Named, size_at, tree}
use Rattle.model.specs.Block.{heap}
use Rattle.model.specs.Moves.{Holding}
use Rattle.block.specs.Outcome.{Outcome}

-- the call holds the tree below n, which has room for one more
abbrev pub Single : List ℕ → (n : ℕ) → Type 0
Single b n = Holding b (n ∷ []) × Named (heap b) n × (size_at (heap b) n < 1048575)

-- b became e by the rule of the tree below n
abbrev pub Changed : (b e : List ℕ) (n : ℕ) → Option ℕ → (Tree → Make Tree) → Type 0
Changed b e n q rule = Outcome b e (n ∷ []) q (rule (tree (heap b) n))
