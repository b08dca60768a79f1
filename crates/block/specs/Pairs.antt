-- Two trees that a call makes one of.
use Rattle.std.specs.Prelude.{ℕ, ◌+◌, ◌<◌, List, [], ◌∷◌, Option}
use Rattle.model.specs.Tree.{Tree}
use Rattle.model.specs.Supply.{Make}
use Rattle.model.specs.Heap.{Named, size_at, tree}
use Rattle.model.specs.Block.{heap}
use Rattle.model.specs.Moves.{Holding}
use Rattle.block.specs.Outcome.{Outcome}

-- the call holds the trees below l and r, and together they are small enough
abbrev pub Pair : List ℕ → (l r : ℕ) → Type 0
Pair b l r = Holding b (l ∷ r ∷ []) × Named (heap b) l × Named (heap b) r × (size_at (heap b) l + size_at (heap b) r < 1048576)

-- b became e by the rule of the trees below l and r
abbrev pub Combined : (b e : List ℕ) (l r : ℕ) → Option ℕ → (Tree → Tree → Make Tree) → Type 0
Combined b e l r q rule = Outcome b e (l ∷ r ∷ []) q (rule (tree (heap b) l) (tree (heap b) r))
