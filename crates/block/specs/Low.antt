-- Where a make begins to look for a free node.
use Rattle.std.specs.Prelude.{ℕ, ◌≤◌, List}
use Rattle.model.specs.Moves.{FullBelow}
use Rattle.model.specs.Block.{heap}

-- no node below n is free; of the others nothing is said
abbrev pub Low : List ℕ → ℕ → Type 0
Low b n = (1 ≤ n) × FullBelow (heap b) n
