-- Cancelling across an export is a number.
use Rattle.std.specs.Prelude.{ℕ, true, false, ltb}

-- 0 or 1 asks the rule as it is; any other number is an unknown rule
abbrev pub rule_for : (cancel rule : ℕ) → ℕ
rule_for cancel rule = elim (ltb cancel 2) [ true ↦ rule | false ↦ 4294967295 ]
