-- What a split gives back.
use Rattle.std.specs.Prelude.{ℕ, List, [], ◌∷◌, Option, Some, None}
use Rattle.std.proofs.Math.Option as maybe
use Rattle.model.specs.Supply.{Make}
use Rattle.model.specs.Rules.{Parts}
use Rattle.model.specs.Heap.{Heap, Named, tree}
use Rattle.model.specs.Block.{heap}
use Rattle.model.specs.Moves.{Came}
use Rattle.answers.specs.Answers.{answer}
use Rattle.join.specs.declared.Pieces.{Pieces}

-- what is left of a key, its value, and what is right of it
abbrev pub into : ℕ → Option ℕ → ℕ → Option Pieces
into l f r = Some (record { left = l; found = f; right = r })

-- the trees of the pieces, and the value that was found
abbrev pub parts_of : Heap → Pieces → Parts
parts_of g p = record { left = tree g p.left; found = answer p.found; right = tree g p.right }

-- the same, if there was room
abbrev pub parts_at : Heap → Option Pieces → maybe.Option Parts
parts_at g (Some p) = maybe.some (parts_of g p)
parts_at g None = maybe.none

-- the left piece, the right piece; 0 where there is none
abbrev pub left_of : Option Pieces → ℕ
left_of (Some p) = p.left
left_of None = 0

abbrev pub right_of : Option Pieces → ℕ
right_of (Some p) = p.right
right_of None = 0

-- the two pieces
abbrev pub pieces_of : Option Pieces → List ℕ
pieces_of (Some p) = p.left ∷ p.right ∷ []
pieces_of None = []

-- b became e by the rule m, of the pieces ps: its parts are below the pieces, or a make of m finds no free node
pub record Division (b e ps : List ℕ) (q : Option Pieces) (m : Make Parts) : Type 0 where
  pub left : Named (heap e) (left_of q)
  pub right : Named (heap e) (right_of q)
  pub came : Came Parts b e ps (pieces_of q) (parts_at (heap e) q) m
