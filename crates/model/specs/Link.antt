-- What the calls of the link answer: parse, begin, receive and the missing question.
use Rattle.std.specs.Prelude.{◌≡◌, ◌⊎◌, ℕ, ◌<◌, Bool, true, false, List, length}
use Rattle.model.specs.Tree.{Tree}
use Rattle.model.specs.Supply.{Make, short}
use Rattle.model.specs.Rules.{edit_by}
use Rattle.model.specs.Heap.{version, supply}
use Rattle.model.specs.Block.{heap, Shaped, SoundBlock}
use Rattle.model.specs.Frame.{Frame, Reading, good, fault, read}
use Rattle.model.specs.Inbox.{batch_of, count_of, heard_at, SoundInbox, begun, marked, missing, question}
use Rattle.model.specs.Numbers.{SHAPE, DAMAGED, VERSION, NO_ROOM, BATCH, COUNT, ZERO}
use Rattle.model.specs.Calls.{Check, Edited}

-- parse gives what is wrong with the line and the place of a bad digit, or the six fields
abbrev pub Parse : (said : Reading) (number : ℕ) (fields : Frame) (place : ℕ) → Type 0
Parse (fault n p) number fields place = (number ≡ n) × (fields ≡ record { batch = 0; index = 0; count = 0; kind = 0; key = 0; value = 0 }) × (place ≡ p)
Parse (good f) number fields place = (number ≡ 0) × (fields ≡ f) × (place ≡ 0)

-- the checks of an inbox; n is 0 where they pass
abbrev pub CheckedInbox : (x : List ℕ) (n : ℕ) → Type 0
CheckedInbox x n = Check (length x ≡ 130) (n ≡ SHAPE) (Check (SoundInbox x) (n ≡ DAMAGED) (n ≡ 0))

-- begin checks the length only, then writes the batch and zeros
abbrev pub Begin : (x after : List ℕ) (batch number : ℕ) → Type 0
Begin x after batch number = Check (length x ≡ 130) ((number ≡ SHAPE) × (after ≡ x)) ((number ≡ 0) × (after ≡ begun batch))

-- the missing question on its own
abbrev pub Missing : (x : List ℕ) (number missing : ℕ) → Type 0
Missing x number missing =
    Check (length x ≡ 130) ((number ≡ SHAPE) × (missing ≡ 0)) (Check (SoundInbox x) ((number ≡ DAMAGED) × (missing ≡ 0)) ((number ≡ 0) × (missing ≡ question x)))

-- what receive answers: its number, 1 for a repeat, how many are missing, and the place of a bad digit
pub record Heard : Type 0 where
  pub number : ℕ
  pub again : ℕ
  pub missing : ℕ
  pub place : ℕ

-- the edit of a frame
unfoldable pub frame_rule : Frame → Tree → Make Tree
frame_rule f t = edit_by f.kind f.key f.value t

-- the block and the inbox before and after a line, and the answer
pub record Step : Type 0 where
  pub block : List ℕ
  pub inbox : List ℕ
  pub block' : List ℕ
  pub inbox' : List ℕ
  pub answer : Heard

-- nothing has changed
abbrev pub unchanged : Step → Heard → Type 0
unchanged s a = (s.answer ≡ a) × (s.block' ≡ s.block) × (s.inbox' ≡ s.inbox)

-- a refusal returns its number and zeros
abbrev pub turned_away : Step → ℕ → Type 0
turned_away s n = unchanged s (record { number = n; again = 0; missing = 0; place = 0 })

-- a put of 0 minutes, which would later read like a release
abbrev pub PutsZero : Frame → Type 0
PutsZero f = (f.kind ≡ 1) × (f.value ≡ 0)

-- a line of the batch is a repeat, where its index is heard, or new
abbrev pub Heeds : (repeat new : Type 0) (heard : Bool) → Type 0
Heeds repeat new true = repeat
Heeds repeat new false = new

-- a line against an inbox: a fault is refused with that number, and the place of a bad digit; else batch and count are checked, then, of a repeat too, that no 0 is put
abbrev pub Judges : (x : List ℕ) (refused : (number place : ℕ) → Type 0) (repeat : Type 0) (new : Frame → Type 0) → Reading → Type 0
Judges x refused repeat new (fault n p) = refused n p
Judges x refused repeat new (good f) =
    Check (f.batch ≡ batch_of x) (refused BATCH 0)
    (Check ((count_of x ≡ 0) ⊎ (count_of x ≡ f.count)) (refused COUNT 0)
    (Check (¬ PutsZero f) (refused ZERO 0) (Heeds repeat (new f) (heard_at x f.index))))

-- refused, with a number and the place of a bad digit
abbrev pub refused_at : Step → (number place : ℕ) → Type 0
refused_at s n p = unchanged s (record { number = n; again = 0; missing = 0; place = p })

-- an index already heard changes nothing
abbrev pub repeated : Step → Type 0
repeated s = unchanged s (record { number = 0; again = 1; missing = missing s.inbox; place = 0 })

-- an accepted line has its index marked, and the answer counts what is then missing
abbrev pub accepted : Step → Frame → (changed : Type 0) → Type 0
accepted s f changed =
    (s.answer ≡ record { number = 0; again = 0; missing = missing (marked s.inbox f.count f.index); place = 0 })
    × changed
    × (s.inbox' ≡ marked s.inbox f.count f.index)

-- a repeat changes nothing; of a new line the edit is done, if it finds room, and the index is marked
abbrev pub Takes : Step → (v : ℕ) → Frame → (heard : Bool) → Type 0
Takes s v f heard =
    Heeds (repeated s)
    (Check (short (frame_rule f (version (heap s.block) v) (supply (heap s.block))).1 ≡ false) (turned_away s NO_ROOM)
    (accepted s f (Edited s.block s.block' v (frame_rule f (version (heap s.block) v) (supply (heap s.block))).0)))
    heard

-- what a line says, judged against the inbox, and then done on version v
abbrev pub Says : Step → (v : ℕ) → Reading → Type 0
Says s v said = Judges s.inbox (refused_at s) (repeated s) (λ f. Takes s v f false) said

-- shape and soundness, block before inbox in each; version; then the line
abbrev pub Receive : Step → (v : ℕ) (line : List ℕ) → Type 0
Receive s v line =
    Check (Shaped s.block) (turned_away s SHAPE)
    (Check (length s.inbox ≡ 130) (turned_away s SHAPE)
    (Check (SoundBlock s.block) (turned_away s DAMAGED)
    (Check (SoundInbox s.inbox) (turned_away s DAMAGED)
    (Check (v < 16) (turned_away s VERSION) (Says s v (read line))))))
