-- Digits at every other place.
use Rattle.std.specs.Prelude.{ℕ, zero, suc, ◌+◌, ◌*◌, ◌/◌, ◌%◌}
use Rattle.model.specs.Frame.{digit}

-- the lowest digit of n and every second one from there, k of them, as the bytes of one number, the lowest first
unfoldable pub alternate : ℕ → ℕ → ℕ
alternate zero n = 0
alternate (suc k) n = digit (n % 16) + 256 * alternate k (n / 256)
