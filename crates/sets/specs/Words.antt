-- The union rules as words carry them out.
use Rattle.std.specs.Prelude.{ℕ, ◌+◌, ◌%◌, true, false, nat_le}
use Rattle.model.specs.Rules.{merge_by}

-- rules 0 to 3 as they are, a sum modulo 2^32: the sum itself wherever it fits
unfoldable pub word_by : ℕ → ℕ → ℕ → ℕ
word_by rule x y = elim (nat_le rule 3) [ true ↦ merge_by rule x y | false ↦ (x + y) % 4294967296 ]
