-- What a test's answer says.
use Rattle.std.specs.Prelude.{ℕ, ◌≤◌, ◌<◌, Bool, true, false}

-- the answer says whether P, exactly
abbrev pub Tells : Bool → Type 0 → Type 0
Tells true P = P
Tells false P = P → ⊥

-- P at each of the numbers k + 1 to n
abbrev pub Each : ℕ → ℕ → (ℕ → Type 0) → Type 0
Each k n P = (i : ℕ) → k < i → i ≤ n → P i
