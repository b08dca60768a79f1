-- What taking the minimum out of a tree gives back.
use Rattle.std.specs.Prelude.{ℕ, List, [], ◌∷◌, Option, Some, None}
use Rattle.std.proofs.Math.Option as maybe
use Rattle.model.specs.Supply.{Make, apart, ◌>>◌}
use Rattle.model.specs.Rules.{Least, remove_min}
use Rattle.model.specs.Heap.{Heap, Named, tree}
use Rattle.model.specs.Block.{heap}
use Rattle.model.specs.Moves.{Came}
use Rattle.tree.specs.declared.Rest.{Rest}

-- the rule for node n, which is taken apart
abbrev pub minimum : Heap → ℕ → Make Least
minimum h n = apart n >> remove_min (h.key n) (h.value n) (tree h (h.left n)) (tree h (h.right n))

-- the entry taken out, and the tree that is left
abbrev pub least_at : Heap → Option Rest → maybe.Option Least
least_at g (Some p) = maybe.some (record { key = p.key; value = p.value; rest = tree g p.node })
least_at g None = maybe.none

-- what is left stands
abbrev pub Remains : Heap → Option Rest → Type 0
Remains g (Some p) = Named g p.node
Remains g None = Unit {0}

-- the piece that is left
abbrev pub rest_of : Option Rest → List ℕ
rest_of (Some p) = p.node ∷ []
rest_of None = []

-- b became e by the rule m, of the pieces ps: its entry and its tree are the answer, or a make of m finds no free node
pub record Removal (b e ps : List ℕ) (q : Option Rest) (m : Make Least) : Type 0 where
  pub named : Remains (heap e) q
  pub came : Came Least b e ps (rest_of q) (least_at (heap e) q) m
