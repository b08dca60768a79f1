-- Trees that are balanced: what insert, remove and join keep, and why no walk of a table's own trees is too deep.
use Rattle.std.specs.Prelude.{ℕ, ◌*◌, ◌≤◌}
use Rattle.model.specs.Tree.{Tree, leaf, node}
use Rattle.model.specs.Rules.{weight}

-- each of two weights is at most 3 times the other
abbrev pub Level : ℕ → ℕ → Type 0
Level a b = (a ≤ 3 * b) × (b ≤ 3 * a)

-- at every node the children's weights are level
unfoldable pub Balanced : Tree → Type 0
Balanced leaf = Unit {0}
Balanced (node i k v l r) = Level (weight l) (weight r) × Balanced l × Balanced r
