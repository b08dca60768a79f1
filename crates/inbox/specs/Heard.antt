-- The heard words, one at a time, and how many lines are missing.
use Rattle.std.specs.Prelude.{◌≡◌, ℕ, ◌+◌, ◌*◌, ◌≤◌, ◌<◌, List, Result, Ok, Err}
use Rattle.model.specs.Block.{word, bit}
use Rattle.answers.specs.declared.Refusal.{Refusal}

-- heard word w has no bit at or above count
unfoldable pub WordClear : List ℕ → ℕ → ℕ → Type 0
WordClear x count w = (j : ℕ) → j < 32 → count ≤ 32 * w + j → bit (word x (2 + w)) j ≡ 0

-- of the 32 indexes from `at`, the first k are below count
pub record Below (count at k : ℕ) : Type 0 where
  pub most : k ≤ 32
  pub from : (j : ℕ) → j < 32 → count ≤ at + j → k ≤ j
  pub to : (j : ℕ) → j < 32 → k ≤ j → count ≤ at + j

-- how many are missing; 0 beside a refusal
abbrev pub missing_of : Result ℕ Refusal → ℕ
missing_of (Ok m) = m
missing_of (Err r) = 0
