-- The blocks that the table's own calls reach from a fresh one: a step for each call that changes a block, by its contract.
use Rattle.std.specs.Prelude.{◌≡◌, ℕ, ◌<◌, Bool, List}
use Rattle.model.specs.Balance.{Balanced}
use Rattle.model.specs.Heap.{version}
use Rattle.model.specs.Block.{heap, SoundBlock}
use Rattle.model.specs.Calls.{Answer, Edit, Edits, Fresh, inserting, removing, copying, clearing, uniting, lessening}
use Rattle.model.specs.Batch.{Record, Batch, BatchWords}
use Rattle.model.specs.Link.{Heard, Receive}
use Rattle.model.specs.Restore.{Restore}

-- a call that edits, with what it is given
pub data Call : Type 0 where
  insert : (dst src key value : ℕ) → Call
  remove : (dst src key : ℕ) → Call
  copy : (dst src : ℕ) → Call
  clear : (v : ℕ) → Call
  union : (dst left right rule : ℕ) → Call
  difference : (dst left right rule : ℕ) (cancel : Bool) → Call

-- the edit that it is of the block b
abbrev pub edit_of : (b : List ℕ) → Call → Edit
edit_of b (insert dst src key value) = inserting b dst src key value
edit_of b (remove dst src key) = removing b dst src key
edit_of b (copy dst src) = copying b dst src
edit_of b (clear v) = clearing v
edit_of b (union dst left right rule) = uniting b dst left right rule
edit_of b (difference dst left right rule cancel) = lessening b dst left right rule cancel

-- a fresh block, then edits, batches, lines and restores in any order, whatever they answer; the other calls change no block
pub data Reached : List ℕ → Type 0 where
  fresh : {b after : List ℕ} {a : Answer} (n : ℕ) → Fresh b after n a → a.number ≡ 0 → Reached after
  edited : {b after : List ℕ} {a : Answer} (c : Call) → Reached b → Edits b after (edit_of b c) a → Reached after
  batched : {b after : List ℕ} {n : ℕ} (dst src : ℕ) (es : List Record) → Reached b → Batch b after dst src es n → Reached after
  batched_words : {b after : List ℕ} {n : ℕ} (dst src : ℕ) (ws : List ℕ) → Reached b → BatchWords b after dst src ws n → Reached after
  received : {b x b' x' : List ℕ} {a : Heard} (v : ℕ) (line : List ℕ) → Reached b → Receive (record { block = b; inbox = x; block' = b'; inbox' = x'; answer = a }) v line → Reached b'
  restored : {b after : List ℕ} {n line : ℕ} (v : ℕ) (text : List ℕ) → Reached b → Restore b after v text n line → Reached after

-- a sound block whose sixteen versions are balanced
pub record BalancedBlock (b : List ℕ) : Type 0 where
  pub sound : SoundBlock b
  pub balanced : (v : ℕ) → v < 16 → Balanced (version (heap b) v)
