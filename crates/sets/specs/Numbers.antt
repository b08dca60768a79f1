-- The rules of unions and differences by the numbers that calls name them by.
use Rattle.std.specs.Prelude.{◌≡◌, ℕ, ◌<◌, Result, MatchResult}
use Rattle.answers.specs.declared.Refusal.{Refusal}
use Rattle.answers.specs.declared.Refusal.TheVariants.{Rule}
use Rattle.sets.specs.declared.values.UnionRule.{UnionRule}
use Rattle.sets.specs.declared.values.UnionRule.TheVariants as unions
use Rattle.sets.specs.declared.values.DifferenceRule.{DifferenceRule}
use Rattle.sets.specs.declared.values.DifferenceRule.TheVariants as differences

abbrev pub union_number : UnionRule → ℕ
union_number unions.Left = 0
union_number unions.Right = 1
union_number unions.Smaller = 2
union_number unions.Larger = 3
union_number unions.Sum = 4

abbrev pub difference_number : DifferenceRule → ℕ
difference_number differences.Drop = 0
difference_number differences.DropEqual = 1
difference_number differences.Left = 2
difference_number differences.Minus = 3

-- the rule of a number, or that no rule has it
abbrev pub UnionRuleOf : ℕ → Result UnionRule Refusal → Type 0
UnionRuleOf n r = MatchResult r (λ rule. union_number rule ≡ n) (λ e. (e ≡ Rule) × (4 < n))

abbrev pub DifferenceRuleOf : ℕ → Result DifferenceRule Refusal → Type 0
DifferenceRuleOf n r = MatchResult r (λ rule. difference_number rule ≡ n) (λ e. (e ≡ Rule) × (3 < n))
