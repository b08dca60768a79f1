-- Demand 3: a standby that hears the lines of a batch, one after another.
use Rattle.std.specs.Prelude.{◌≡◌, ◌≢◌, ◌⊎◌, ◌↔◌, ℕ, ◌<◌, true, false, List, [], ◌∷◌, length}
use Rattle.std.proofs.Math.Option.{some}
use Rattle.model.specs.Tree.{Tree, Entry, entries, find}
use Rattle.model.specs.Heap.{version}
use Rattle.model.specs.Block.{heap, SoundBlock}
use Rattle.model.specs.Frame.{Frame, parse, frames, frame_at}
use Rattle.model.specs.Inbox.{heard_at, SoundInbox, begun, Complete}
use Rattle.model.specs.Numbers.{NO_ROOM}
use Rattle.model.specs.Link.{Missing, Heard, Step, Receive}
use Rattle.model.specs.Kiosk.{pairs, SoundKiosk}
use Rattle.model.specs.Kiosk as kiosk

-- no zero is sent: one that B holds stands in A already. Zeros of A alone are removed or overwritten, and ask for nothing.
abbrev pub NoZeroSent : (A B : Tree) → Type 0
NoZeroSent A B = (k : ℕ) → find (entries B) k ≡ some 0 → find (entries A) k ≡ some 0

-- what a standby keeps its entries in: version v of a block, or a kiosk
pub data Store : Type 0 where
  table : (v : ℕ) → Store
  flat : Store

-- its words are sound
abbrev pub SoundIn : Store → List ℕ → Type 0
SoundIn (table v) b = SoundBlock b
SoundIn flat b = SoundKiosk b

-- the entries that they hold
abbrev pub entries_in : Store → List ℕ → List Entry
entries_in (table v) b = entries (version (heap b) v)
entries_in flat b = pairs b

-- one line received there
abbrev pub Receives : Store → Step → (line : List ℕ) → Type 0
Receives (table v) s line = Receive s v line
Receives flat s line = kiosk.Receive s line

-- nothing is done between two lines
abbrev pub Nothing : (b b' : List ℕ) → Type 0
Nothing b b' = b' ≡ b

-- anything is done there that keeps the words sound and the entries
pub record Beside (store : Store) (b b' : List ℕ) : Type 0 where
  pub sound : SoundIn store b → SoundIn store b'
  pub same : entries_in store b' ≡ entries_in store b

-- at a table: that keeps the block sound and the entries of version v
abbrev pub Elsewhere : (v : ℕ) (b b' : List ℕ) → Type 0
Elsewhere v = Beside (table v)

-- what a standby has after hearing lines: its words and its inbox. Before each line its host does what it may.
pub data HearingIn (host : List ℕ → List ℕ → Type 0) (store : Store) : (block inbox : List ℕ) → List (List ℕ) → (block' inbox' : List ℕ) → Type 0 where
  still : {b x : List ℕ} → HearingIn host store b x [] b x
  then : {b x a b' x' c y : List ℕ} {line : List ℕ} {lines : List (List ℕ)} (answer : Heard) → host b a
      → Receives store (record { block = a; inbox = x; block' = b'; inbox' = x'; answer = answer }) line → HearingIn host store b' x' lines c y → HearingIn host store b x (line ∷ lines) c y

-- a standby with a table
abbrev pub Hearing : (host : List ℕ → List ℕ → Type 0) (v : ℕ) (block inbox : List ℕ) → List (List ℕ) → (block' inbox' : List ℕ) → Type 0
Hearing host v = HearingIn host (table v)

-- P of each line, and of one at least
module _ (P : Step → List ℕ → Type 0) where
  unfoldable pub Each : {host : List ℕ → List ℕ → Type 0} {store : Store} {b x : List ℕ} {lines : List (List ℕ)} {c y : List ℕ} → HearingIn host store b x lines c y → Type 0
  Each still = Unit {0}
  Each (then {x = x} {a = a} {b' = b'} {x' = x'} {line = line} answer h r later) = P (record { block = a; inbox = x; block' = b'; inbox' = x'; answer = answer }) line × Each later

  unfoldable pub Some : {host : List ℕ → List ℕ → Type 0} {store : Store} {b x : List ℕ} {lines : List (List ℕ)} {c y : List ℕ} → HearingIn host store b x lines c y → Type 0
  Some still = ⊥
  Some (then {x = x} {a = a} {b' = b'} {x' = x'} {line = line} answer h r later) = P (record { block = a; inbox = x; block' = b'; inbox' = x'; answer = answer }) line ⊎ Some later

-- the line says one of the frames
abbrev pub OneOf : List Frame → List ℕ → Type 0
OneOf fs line = (i : ℕ) × (i < length fs) × (parse line ≡ some (frame_at fs i))

-- the line was answered 0 and says frame i
abbrev pub Took : List Frame → ℕ → Step → List ℕ → Type 0
Took fs i s line = (s.answer.number ≡ 0) × (parse line ≡ some (frame_at fs i))

-- a line that is answered 0 says one of the frames; all that is refused may say anything
abbrev pub Genuine : List Frame → Step → List ℕ → Type 0
Genuine fs s line = s.answer.number ≡ 0 → OneOf fs line

-- no other version changes; a kiosk has none
abbrev pub Others : Store → Step → Type 0
Others (table v) s = (w : ℕ) → w < 16 → w ≢ v → version (heap s.block') w ≡ version (heap s.block) w
Others flat s = Unit {0}

-- what the answer to a line says
pub record Heeded (fs : List Frame) (store : Store) (s : Step) (line : List ℕ) : Type 0 where
  -- answered 0, it has as missing what the question on its own would then answer
  pub reports : s.answer.number ≡ 0 → Missing s.inbox' 0 s.answer.missing
  -- it says whether the frame is new (0) or a repeat (1)
  pub again : (i : ℕ) → i < length fs → Took fs i s line → ((heard_at s.inbox i ≡ false) × (s.answer.again ≡ 0)) ⊎ ((heard_at s.inbox i ≡ true) × (s.answer.again ≡ 1))
  -- one of the frames is refused only for room
  pub only_room : OneOf fs line → (s.answer.number ≡ 0) ⊎ (s.answer.number ≡ NO_ROOM)
  -- no other version changes
  pub others : Others store s

-- A standby that held A's entries in its words b, began the batch and heard these lines has come to the words c and the inbox y.
pub record ReplicatedIn (store : Store) (A B : Tree) (batch : ℕ) {b : List ℕ} {lines : List (List ℕ)} {c y : List ℕ} (run : HearingIn (Beside store) store b (begun batch) lines c y) : Type 0 where
  -- it is complete exactly when each frame has been accepted at least once
  pub complete : Complete y ↔ ((i : ℕ) → i < length (frames batch A B) → Some (Took (frames batch A B) i) run)
  -- and it reports so: the missing question then, and only then, answers 0
  pub reports : (n m : ℕ) → Missing y n m → (n ≡ 0) × ((m ≡ 0) ↔ Complete y)
  -- its entries then equal B's exactly
  pub equal : Complete y → entries_in store c ≡ entries B
  -- and until then every key stands as in A or as in B
  pub between : (k : ℕ) → (find (entries_in store c) k ≡ find (entries A) k) ⊎ (find (entries_in store c) k ≡ find (entries B) k)
  -- each answer on the way
  pub answers : Each (Heeded (frames batch A B) store) run
  -- words and inbox stay sound
  pub sound_block : SoundIn store c
  pub sound_inbox : SoundInbox y

-- the same of version v of a table
abbrev pub Replicated : (A B : Tree) (batch v : ℕ) {b : List ℕ} {lines : List (List ℕ)} {c y : List ℕ} (run : Hearing (Elsewhere v) v b (begun batch) lines c y) → Type 0
Replicated A B batch v run = ReplicatedIn (table v) A B batch run
