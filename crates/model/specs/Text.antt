-- Entries as text, a line each: as the receiving program prints them, and as restore reads them.
use Rattle.std.specs.Prelude.{ℕ, zero, suc, ◌+◌, ◌*◌, ◌/◌, true, false, ◌&&◌, List, [], ◌∷◌, ◌++◌, length, get_or, take, drop, eqb}
use Rattle.std.proofs.Math.Option.{Option, none, some}
use Rattle.model.specs.Tree.{Entry}
use Rattle.model.specs.Frame.{◌>>=◌, digits, field}

-- an entry: key then value, 16 digits and a newline
unfoldable pub entry_line : Entry → List ℕ
entry_line e = digits 8 e.0 ++ (digits 8 e.1 ++ 10 ∷ [])

-- entries one after another
unfoldable pub entry_lines : List Entry → List ℕ
entry_lines [] = []
entry_lines (e ∷ es) = entry_line e ++ entry_lines es

-- the numbers in a line's 16 digits
unfoldable pub numbers_of : List ℕ → Option Entry
numbers_of cs = do
  key ← field cs 0 8
  value ← field cs 8 8
  some (key, value)

-- the entry of a line; one that is not 17 bytes, 16 digits and a newline, is malformed and has none
unfoldable pub entry_of : List ℕ → Option Entry
entry_of cs = elim (eqb (length cs) 17 && eqb (get_or cs 16 0) 10) [ true ↦ numbers_of cs | false ↦ none ]

-- line i of a text that is cut every 17 bytes; the last may be short
abbrev pub line_at : List ℕ → ℕ → List ℕ
line_at text i = take 17 (drop (17 * i) text)

-- how many lines, a short one counted
abbrev pub line_count : List ℕ → ℕ
line_count text = (length text + 16) / 17

-- the entry of line i; zeros where the line is malformed
unfoldable pub entry_at : List ℕ → ℕ → Entry
entry_at text i = elim (entry_of (line_at text i)) [ none ↦ (0, 0) | some e ↦ e ]

-- the entries of k lines from line i on
unfoldable pub entries_from : List ℕ → ℕ → ℕ → List Entry
entries_from text i zero = []
entries_from text i (suc k) = entry_at text i ∷ entries_from text (suc i) k

-- the entries of all whole lines
abbrev pub entries_of : List ℕ → List Entry
entries_of text = entries_from text 0 (length text / 17)
