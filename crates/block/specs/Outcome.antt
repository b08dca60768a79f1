-- What a function that makes nodes gives back, and how an edit ends.
use Rattle.std.specs.Prelude.{◌≡◌, ℕ, List, [], ◌∷◌, Option, Some, None}
use Rattle.std.proofs.Math.Option as maybe
use Rattle.model.specs.Tree.{Tree}
use Rattle.model.specs.Supply.{Make}
use Rattle.model.specs.Heap.{Heap, Named, tree}
use Rattle.model.specs.Block.{heap}
use Rattle.model.specs.Numbers.{NO_ROOM}
use Rattle.model.specs.Moves.{Came, Swept, Finished}
use Rattle.block.specs.declared.Node.{Node}
pub use Rattle.answers.specs.Answers.{answer}

-- the tree below what was made
abbrev pub tree_at : Heap → Option ℕ → maybe.Option Tree
tree_at g (Some n) = maybe.some (tree g n)
tree_at g None = maybe.none

-- what was made stands
abbrev pub Stands : Heap → Option ℕ → Type 0
Stands g (Some n) = Named g n
Stands g None = Unit {0}

-- the piece that was made
abbrev pub piece_of : Option ℕ → List ℕ
piece_of (Some n) = n ∷ []
piece_of None = []

-- b became e by the rule m, of the pieces ps: its tree is below the answer, or a make of m finds no free node
pub record Outcome (b e ps : List ℕ) (q : Option ℕ) (m : Make Tree) : Type 0 where
  pub named : Stands (heap e) q
  pub came : Came Tree b e ps (piece_of q) (tree_at (heap e) q) m

-- node n without its size and count
abbrev pub node_of : Heap → ℕ → Node
node_of h n = record { key = h.key n; value = h.value n; left = h.left n; right = h.right n }

-- version v took what was made, or what was made is given up again
abbrev pub Settled : (b e : List ℕ) (v : ℕ) → Option ℕ → ℕ → Type 0
Settled b e v (Some n) r = (r ≡ 0) × Finished b e v n
Settled b e v None r = (r ≡ NO_ROOM) × Swept b e
