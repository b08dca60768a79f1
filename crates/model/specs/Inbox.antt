-- The inbox: 130 words, batch, count and 128 heard words.
use Rattle.std.specs.Prelude.{◌≡◌, ℕ, zero, suc, ◌+◌, ◌-◌, ◌/◌, ◌%◌, ◌^◌, ◌≤◌, ◌<◌, Bool, true, false, List, ◌∷◌, length, replicate, set, eqb}
use Rattle.std.specs.Int.Count.{ones}
use Rattle.model.specs.Block.{word, bit}

-- the batch that is being heard
abbrev pub batch_of : List ℕ → ℕ
batch_of x = word x 0

-- the batch's number of frames, 0 while unknown
abbrev pub count_of : List ℕ → ℕ
count_of x = word x 1

-- bit b of heard word w is index 32w + b
abbrev pub heard_bit : List ℕ → ℕ → ℕ
heard_bit x i = bit (word x (2 + i / 32)) (i % 32)

-- index i is heard
abbrev pub heard_at : List ℕ → ℕ → Bool
heard_at x i = eqb (heard_bit x i) 1

-- count at most 4,096 and no bit at or above count
pub record SoundInbox (x : List ℕ) : Type 0 where
  pub long : length x ≡ 130
  pub small : count_of x ≤ 4096
  pub clear : (i : ℕ) → count_of x ≤ i → i < 4096 → heard_at x i ≡ false

-- begin: the batch and zeros
unfoldable pub begun : ℕ → List ℕ
begun batch = batch ∷ replicate 129 0

-- an accepted line sets count and marks its index
unfoldable pub marked : List ℕ → (count index : ℕ) → List ℕ
marked x count index = set (set x 1 count) (2 + index / 32) (word x (2 + index / 32) + 2 ^ (index % 32))

-- the bits heard in the first k heard words
unfoldable pub heard_in : List ℕ → ℕ → ℕ
heard_in x zero = 0
heard_in x (suc k) = ones (word x (2 + k)) + heard_in x k

-- count less bits heard
unfoldable pub missing : List ℕ → ℕ
missing x = count_of x - heard_in x 128

-- the missing question on its own: 4,294,967,295 while count is 0
unfoldable pub question : List ℕ → ℕ
question x = elim (eqb (count_of x) 0) [ true ↦ 4294967295 | false ↦ missing x ]

-- count above 0 and none missing
pub record Complete (x : List ℕ) : Type 0 where
  pub counted : 0 < count_of x
  pub none : missing x ≡ 0
