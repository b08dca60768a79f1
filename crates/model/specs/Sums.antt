-- Sums of values: over entries, and over those whose keys pass a test.
use Rattle.std.specs.Prelude.{ℕ, ◌+◌, Bool, true, false, ◌&&◌, List, [], ◌∷◌, leb}
use Rattle.model.specs.Tree.{Entry, entries}
use Rattle.model.specs.Heap.{Heap, tree}

-- the minutes that entries hold together
unfoldable pub minutes : List Entry → ℕ
minutes [] = 0
minutes (e ∷ es) = e.1 + minutes es

-- the entries whose keys pass a test
unfoldable pub those : (ℕ → Bool) → List Entry → List Entry
those p [] = []
those p (e ∷ es) = elim (p e.0) [ true ↦ e ∷ those p es | false ↦ those p es ]

-- keys from first on, keys up to last, and keys that are both: ends included
abbrev pub from : (first : ℕ) → ℕ → Bool
from first k = leb first k

abbrev pub upto : (last : ℕ) → ℕ → Bool
upto last k = leb k last

abbrev pub within : (first last : ℕ) → ℕ → Bool
within first last k = leb first k && leb k last

-- the minutes of the entries below n whose keys pass
abbrev pub sum_below : Heap → (ℕ → Bool) → ℕ → ℕ
sum_below h p n = minutes (those p (entries (tree h n)))
