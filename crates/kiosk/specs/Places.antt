-- Where a key stands, and what each step does to the words.
use Rattle.std.specs.Prelude.{◌≡◌, ℕ, ◌+◌, ◌*◌, ◌≤◌, ◌<◌, List, length}
use Rattle.model.specs.Tree.{put, set_by}
use Rattle.model.specs.Block.{word}
use Rattle.model.specs.Numbers.{NO_ROOM}
use Rattle.model.specs.Calls.{Check}
use Rattle.model.specs.Kiosk.{count, key_at, pairs, Full, Holds}

-- the first n keys ascend strictly
abbrev pub Ascend : List ℕ → ℕ → Type 0
Ascend k n = (i : ℕ) → i + 1 < n → key_at k i < key_at k (i + 1)

-- every word behind n pairs is 0
abbrev pub Unused : List ℕ → ℕ → Type 0
Unused k n = (w : ℕ) → 1 + 2 * n ≤ w → w < 129 → word k w ≡ 0

-- the keys before pair i are below the key, and pair i's is not
pub record Place (k : List ℕ) (key i : ℕ) : Type 0 where
  pub within : i ≤ count k
  pub below : (t : ℕ) → t < i → key_at k t < key
  pub from : i < count k → key ≤ key_at k i

-- the words of the pairs from i on stand two higher
pub record Opened (k after : List ℕ) (i : ℕ) : Type 0 where
  pub long : length after ≡ 129
  pub before : (w : ℕ) → w < 1 + 2 * i → word after w ≡ word k w
  pub moved : (w : ℕ) → 1 + 2 * i ≤ w → w < 1 + 2 * count k → word after (w + 2) ≡ word k w
  pub behind : (w : ℕ) → 3 + 2 * count k ≤ w → word after w ≡ word k w

-- the words of the pairs behind i stand two lower, and the last pair is zero
pub record Closed (k after : List ℕ) (i : ℕ) : Type 0 where
  pub long : length after ≡ 129
  pub before : (w : ℕ) → w < 1 + 2 * i → word after w ≡ word k w
  pub moved : (w : ℕ) → 1 + 2 * i ≤ w → w + 2 < 1 + 2 * count k → word after w ≡ word k (w + 2)
  pub last : (w : ℕ) → 1 + 2 * count k ≤ w + 2 → w < 1 + 2 * count k → word after w ≡ 0
  pub behind : (w : ℕ) → 1 + 2 * count k ≤ w → word after w ≡ word k w

-- a put: NO_ROOM where a new key meets 64 entries
abbrev pub Putting : (k after : List ℕ) (key value n : ℕ) → Type 0
Putting k after key value n = Check (¬ Full (pairs k) key) ((n ≡ NO_ROOM) × (after ≡ k)) ((n ≡ 0) × Holds after (put (pairs k) key value))

-- the edit of a frame by its kind
abbrev pub Editing : (k after : List ℕ) (kind key value n : ℕ) → Type 0
Editing k after kind key value n =
    Check (¬ ((kind ≡ 1) × Full (pairs k) key)) ((n ≡ NO_ROOM) × (after ≡ k)) ((n ≡ 0) × Holds after (set_by kind key value (pairs k)))
