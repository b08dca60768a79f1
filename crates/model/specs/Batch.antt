-- A batch of edits: its records, their rule, and what the call answers.
use Rattle.std.specs.Prelude.{◌≡◌, ◌≢◌, ℕ, zero, suc, ◌+◌, ◌*◌, ◌/◌, ◌%◌, ◌≤◌, ◌<◌, false, List, [], ◌∷◌, length, get_or}
use Rattle.model.specs.Tree.{Tree, Entry, set_by}
use Rattle.model.specs.Supply.{Make, done, short, ◌>>=◌}
use Rattle.model.specs.Rules.{edit_by}
use Rattle.model.specs.Heap.{version, supply}
use Rattle.model.specs.Block.{heap, Shaped, SoundBlock}
use Rattle.model.specs.Numbers.{SHAPE, DAMAGED, VERSION, NO_ROOM, ZERO, EDIT}
use Rattle.model.specs.Calls.{Check, Versions, Edited}

-- a record: kind 1 puts, kind 2 removes; the value of a remove is not read
pub record Record : Type 0 where
  pub kind : ℕ
  pub key : ℕ
  pub value : ℕ

-- record i of a batch
abbrev pub nth : List Record → ℕ → Record
nth es i = get_or es i (record { kind = 0; key = 0; value = 0 })

-- at most 512 records, each a put or a remove
pub record Legal (es : List Record) : Type 0 where
  pub few : length es ≤ 512
  pub known : (i : ℕ) → i < length es → (1 ≤ (nth es i).kind) × ((nth es i).kind ≤ 2)

-- no record puts the value 0
abbrev pub NoZero : List Record → Type 0
NoZero es = (i : ℕ) → i < length es → (nth es i).kind ≡ 1 → (nth es i).value ≢ 0

-- the edits in order; makes go on from one to the next
unfoldable pub batch_rule : List Record → Tree → Make Tree
batch_rule [] t = done t
batch_rule (e ∷ es) t = do
  u ← edit_by e.kind e.key e.value t
  batch_rule es u

-- the same edits of a plain map
unfoldable pub set_all : List Record → List Entry → List Entry
set_all [] xs = xs
set_all (e ∷ es) xs = set_all es (set_by e.kind e.key e.value xs)

-- block, versions, records, zero puts, then room: all edits take effect, or none
abbrev pub Batched : (b after : List ℕ) (dst src : ℕ) (legal : Type 0) → List Record → ℕ → Type 0
Batched b after dst src legal es n =
    Check (Shaped b) ((n ≡ SHAPE) × (after ≡ b))
    (Check (SoundBlock b) ((n ≡ DAMAGED) × (after ≡ b))
    (Check (Versions (dst ∷ src ∷ [])) ((n ≡ VERSION) × (after ≡ b))
    (Check legal ((n ≡ EDIT) × (after ≡ b))
    (Check (NoZero es) ((n ≡ ZERO) × (after ≡ b))
    (Check (short (batch_rule es (version (heap b) src) (supply (heap b))).1 ≡ false) ((n ≡ NO_ROOM) × (after ≡ b))
    ((n ≡ 0) × Edited b after dst (batch_rule es (version (heap b) src) (supply (heap b))).0))))))

-- version dst becomes version src after the edits of the records
abbrev pub Batch : (b after : List ℕ) (dst src : ℕ) → List Record → ℕ → Type 0
Batch b after dst src es n = Batched b after dst src (Legal es) es n

-- The same over words, three a record: kind, key, value.

abbrev pub record_at : List ℕ → ℕ → Record
record_at ws i = record { kind = get_or ws (3 * i) 0; key = get_or ws (3 * i + 1) 0; value = get_or ws (3 * i + 2) 0 }

-- k records from number i on
unfoldable pub records_from : List ℕ → ℕ → ℕ → List Record
records_from ws i zero = []
records_from ws i (suc k) = record_at ws i ∷ records_from ws (suc i) k

abbrev pub records_of : List ℕ → List Record
records_of ws = records_from ws 0 (length ws / 3)

-- a length that is no multiple of 3 is no batch
abbrev pub BatchWords : (b after : List ℕ) (dst src : ℕ) → List ℕ → ℕ → Type 0
BatchWords b after dst src ws n = Batched b after dst src ((length ws % 3 ≡ 0) × Legal (records_of ws)) (records_of ws) n
