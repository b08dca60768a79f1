-- The kiosk's flat table: 129 words, the number of entries and then 64 pairs of key and value; what its calls answer.
use Rattle.std.specs.Prelude.{◌≡◌, ℕ, zero, suc, ◌+◌, ◌*◌, ◌≤◌, ◌<◌, List, [], ◌∷◌, map, length, replicate}
use Rattle.std.proofs.Math.Option.{none}
use Rattle.model.specs.Tree.{Entry, find, put, without, set_by}
use Rattle.model.specs.Block.{word}
use Rattle.model.specs.Frame.{Frame, read}
use Rattle.model.specs.Inbox.{SoundInbox}
use Rattle.model.specs.Numbers.{SHAPE, DAMAGED, NO_ROOM, ZERO}
use Rattle.model.specs.Calls.{Check, Answer, refusal, finding}
use Rattle.model.specs.Lists.{Report, part, over}
use Rattle.model.specs.Link.{Step, turned_away, refused_at, repeated, accepted, Judges}

-- how many entries there are
abbrev pub count : List ℕ → ℕ
count k = word k 0

-- the key and the value of pair i, counted from 0
abbrev pub key_at : List ℕ → ℕ → ℕ
key_at k i = word k (1 + 2 * i)

abbrev pub value_at : List ℕ → ℕ → ℕ
value_at k i = word k (2 + 2 * i)

-- the n pairs from pair i on
unfoldable pub pairs_from : (k : List ℕ) (i n : ℕ) → List Entry
pairs_from k i zero = []
pairs_from k i (suc n) = (key_at k i, value_at k i) ∷ pairs_from k (suc i) n

-- the entries
abbrev pub pairs : List ℕ → List Entry
pairs k = pairs_from k 0 (count k)

-- the number is at most 64, keys strictly ascend and unused pairs are zero
pub record SoundKiosk (k : List ℕ) : Type 0 where
  pub long : length k ≡ 129
  pub few : count k ≤ 64
  pub ascends : (i : ℕ) → i + 1 < count k → key_at k i < key_at k (i + 1)
  pub unused : (w : ℕ) → 1 + 2 * count k ≤ w → w < 129 → word k w ≡ 0

-- no entries
unfoldable pub empty_kiosk : List ℕ
empty_kiosk = replicate 129 0

-- a sound kiosk of these entries
pub record Holds (k : List ℕ) (es : List Entry) : Type 0 where
  pub sound : SoundKiosk k
  pub is : pairs k ≡ es

-- a new key meets 64 entries
abbrev pub Full : List Entry → ℕ → Type 0
Full es key = (find es key ≡ none) × (64 ≤ length es)

-- key, value, 0, 0
abbrev pub entry_words : Entry → List ℕ
entry_words e = e.0 ∷ e.1 ∷ 0 ∷ 0 ∷ []

-- The calls.

-- fresh checks the length only
abbrev pub Fresh : (k after : List ℕ) (number : ℕ) → Type 0
Fresh k after number = Check (length k ≡ 129) ((number ≡ SHAPE) × (after ≡ k)) ((number ≡ 0) × (after ≡ empty_kiosk))

-- shape, then soundness; number is 0 where they pass
abbrev pub Checked : (k : List ℕ) (number : ℕ) → Type 0
Checked k number = Check (length k ≡ 129) (number ≡ SHAPE) (Check (SoundKiosk k) (number ≡ DAMAGED) (number ≡ 0))

-- the value under a key; an absent key is a plain "absent"
abbrev pub Lookup : (k : List ℕ) (key : ℕ) → Answer → Type 0
Lookup k key a = Check (length k ≡ 129) (a ≡ refusal SHAPE) (Check (SoundKiosk k) (a ≡ refusal DAMAGED) (a ≡ finding (find (pairs k) key)))

-- insert answers the old value; 0 minutes are refused, and then a new key that meets 64 entries
abbrev pub Insert : (k after : List ℕ) (key value : ℕ) → Answer → Type 0
Insert k after key value a =
    Check (length k ≡ 129) ((a ≡ refusal SHAPE) × (after ≡ k))
    (Check (SoundKiosk k) ((a ≡ refusal DAMAGED) × (after ≡ k))
    (Check (0 < value) ((a ≡ refusal ZERO) × (after ≡ k))
    (Check (¬ Full (pairs k) key) ((a ≡ refusal NO_ROOM) × (after ≡ k))
    ((a ≡ finding (find (pairs k) key)) × Holds after (put (pairs k) key value)))))

-- remove answers what it took out; an absent key changes nothing
abbrev pub Remove : (k after : List ℕ) (key : ℕ) → Answer → Type 0
Remove k after key a =
    Check (length k ≡ 129) ((a ≡ refusal SHAPE) × (after ≡ k))
    (Check (SoundKiosk k) ((a ≡ refusal DAMAGED) × (after ≡ k))
    ((a ≡ finding (find (pairs k) key)) × Holds after (without (pairs k) key)))

-- the entries, four words each, from a start index into the caller's output; a refusal leaves the output as it was
abbrev pub Lists : (k out after : List ℕ) (start : ℕ) → Report → Type 0
Lists k out after start a =
    let pieces = map entry_words (pairs k) in
    Check (length k ≡ 129) ((a ≡ record { number = SHAPE; written = 0; total = 0 }) × (after ≡ out))
    (Check (SoundKiosk k) ((a ≡ record { number = DAMAGED; written = 0; total = 0 }) × (after ≡ out))
    ((a ≡ record { number = 0; written = length (part 4 start (length out) pieces); total = length pieces }) × (after ≡ over (part 4 start (length out) pieces) out)))

-- of a new line the edit is done, if it finds room, and the index is marked
abbrev pub Takes : Step → Frame → Type 0
Takes s f =
    Check (¬ ((f.kind ≡ 1) × Full (pairs s.block) f.key)) (turned_away s NO_ROOM)
    (accepted s f (Holds s.block' (set_by f.kind f.key f.value (pairs s.block))))

-- shape and soundness, kiosk before inbox in each; then the line, as at the table. The step's block is the kiosk.
abbrev pub Receive : Step → (line : List ℕ) → Type 0
Receive s line =
    Check (length s.block ≡ 129) (turned_away s SHAPE)
    (Check (length s.inbox ≡ 130) (turned_away s SHAPE)
    (Check (SoundKiosk s.block) (turned_away s DAMAGED)
    (Check (SoundInbox s.inbox) (turned_away s DAMAGED)
    (Judges s.inbox (refused_at s) (repeated s) (Takes s) (read line)))))
