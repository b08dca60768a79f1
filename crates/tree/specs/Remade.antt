-- How insert remakes a node of its path.
use Rattle.std.specs.Prelude.{ℕ, Bool, true, false}
use Rattle.model.specs.Tree.{Tree}
use Rattle.model.specs.Supply.{Make, make}
use Rattle.model.specs.Rules.{balanced}

-- a new key uses balanced makes, an equal key plain ones
abbrev pub remade : Bool → ℕ → ℕ → Tree → Tree → Make Tree
remade true = balanced
remade false = make
