-- Asking for lost lines (#109): the lines of a request, the request of an inbox, reading one, and what ask and resend answer.
use Rattle.std.specs.Prelude.{◌≡◌, ◌≢◌, ℕ, zero, suc, ◌+◌, ◌/◌, Bool, true, false, ◌&&◌, ◌||◌, List, [], ◌∷◌, map, length, get_or, take, drop, eqb, ltb, leb}
use Rattle.std.proofs.Math.Option.{Option, none, some}
use Rattle.model.specs.Tree.{Tree, entries}
use Rattle.model.specs.Delta.{delta_deep}
use Rattle.model.specs.Heap.{version}
use Rattle.model.specs.Block.{heap, Shaped, SoundBlock}
use Rattle.model.specs.Frame.{Frame, ◌>>=◌, line, fields, parse, frames, frame_at}
use Rattle.model.specs.Inbox.{batch_of, count_of, heard_at, SoundInbox, Complete}
use Rattle.model.specs.Numbers.{SHAPE, DAMAGED, VERSION, NO_ROOM, TOO_DEEP, BATCH, REQUEST}
use Rattle.model.specs.Calls.{Check, Versions}
use Rattle.model.specs.Lists.{part, over, Report}
use Rattle.model.specs.Link.{Step}

-- neighbouring indexes, from the first to the last
pub record Run : Type 0 where
  pub first : ℕ
  pub last : ℕ

-- kind 10 asks for one index, in key; 11 for a run, first index in key and last in value; index and count are the line's place and the number of lines
unfoldable pub run_line : (batch count place : ℕ) → Run → Frame
run_line batch count place r = elim (eqb r.first r.last) [
  | true ↦ record { batch = batch; index = place; count = count; kind = 16; key = r.first; value = 0 }
  | false ↦ record { batch = batch; index = place; count = count; kind = 17; key = r.first; value = r.last }
]

-- the lines of runs, from `place` on
unfoldable pub placed : (batch count place : ℕ) → List Run → List Frame
placed batch count place [] = []
placed batch count place (r ∷ rs) = run_line batch count place r ∷ placed batch count (suc place) rs

-- kind 12 says complete
abbrev pub complete_line : ℕ → Frame
complete_line batch = record { batch = batch; index = 0; count = 1; kind = 18; key = 0; value = 0 }

-- with no run the request is the one line of kind 12
unfoldable pub request_lines : ℕ → List Run → List Frame
request_lines batch [] = complete_line batch ∷ []
request_lines batch (r ∷ rs) = placed batch (length (r ∷ rs)) 0 (r ∷ rs)

-- an index before all of the runs is one of its own, unless it neighbours the first of them
unfoldable pub in_front : ℕ → List Run → List Run
in_front i [] = record { first = i; last = i } ∷ []
in_front i (r ∷ rs) = elim (eqb (suc i) r.first) [
  | true ↦ record { first = i; last = r.last } ∷ rs
  | false ↦ record { first = i; last = i } ∷ r ∷ rs
]

-- the runs of those of n indexes, from i on, that are not heard
unfoldable pub unheard : (heard : ℕ → Bool) → (i n : ℕ) → List Run
unheard heard i zero = []
unheard heard i (suc n) = elim (heard i) [ true ↦ unheard heard (suc i) n | false ↦ in_front i (unheard heard (suc i) n) ]

-- the missing indexes; 0 to 4,095 while the count is unknown
unfoldable pub missing_runs : List ℕ → List Run
missing_runs x = elim (eqb (count_of x) 0) [ true ↦ record { first = 0; last = 4095 } ∷ [] | false ↦ unheard (heard_at x) 0 (count_of x) ]

-- what the standby asks
unfoldable pub request_of : List ℕ → List Frame
request_of x = request_lines (batch_of x) (missing_runs x)

-- the last index that a line asks for
unfoldable pub last_of : Frame → ℕ
last_of f = elim (eqb f.kind 16) [ true ↦ f.key | false ↦ f.value ]

-- the line asks for index i
unfoldable pub asks : Frame → ℕ → Bool
asks f i = (eqb f.kind 16 || eqb f.kind 17) && leb f.key i && leb i (last_of f)

-- some line does
unfoldable pub asked : List Frame → ℕ → Bool
asked [] i = false
asked (f ∷ fs) i = asks f i || asked fs i

-- index and count are the line's place and the number of lines
unfoldable pub in_place : (count place : ℕ) → Frame → Bool
in_place count place f = eqb f.index place && eqb f.count count

-- kind 10 has value 0, kind 11 a key below its value, and there is no other kind that asks
unfoldable pub right_kind : Frame → Bool
right_kind f = (eqb f.kind 16 && eqb f.value 0) || (eqb f.kind 17 && ltb f.key f.value)

-- lines that ask, from `place` on: no index is below `least` or above 4,095, and each is above the one before
unfoldable pub ascend : (count place least : ℕ) → List Frame → Bool
ascend count place least [] = true
ascend count place least (f ∷ fs) = in_place count place f && right_kind f && leb least f.key && leb (last_of f) 4095 && ascend count (suc place) (suc (last_of f)) fs

-- kind 12 has key and value 0 and stands alone
unfoldable pub says_complete : List Frame → Bool
says_complete [] = false
says_complete (f ∷ []) = in_place 1 0 f && eqb f.kind 18 && eqb f.key 0 && eqb f.value 0
says_complete (f ∷ g ∷ fs) = false

-- not empty, and all that asks or says complete does it rightly
unfoldable pub well_formed : List Frame → Bool
well_formed [] = false
well_formed (f ∷ fs) = says_complete (f ∷ fs) || ascend (length (f ∷ fs)) 0 0 (f ∷ fs)

-- n pieces of 35 bytes; the last may be short
unfoldable pub cutting : ℕ → List ℕ → List (List ℕ)
cutting zero cs = []
cutting (suc n) cs = take 35 cs ∷ cutting n (drop 35 cs)

-- the six fields of 35 bytes of digits and newline
unfoldable pub six_fields : List ℕ → Option Frame
six_fields cs = elim (eqb (length cs) 35 && eqb (get_or cs 34 0) 10) [ true ↦ fields cs | false ↦ none ]

-- those of every piece
unfoldable pub all_fields : List (List ℕ) → Option (List Frame)
all_fields [] = some []
all_fields (p ∷ ps) = do
  f ← six_fields p
  fs ← all_fields ps
  some (f ∷ fs)

-- the lines of a request, cut every 35 bytes, if it is well formed
unfoldable pub read_request : List ℕ → Option (List Frame)
read_request cs = do
  fs ← all_fields (cutting ((length cs + 34) / 35) cs)
  elim (well_formed fs) [ true ↦ some fs | false ↦ none ]

-- every line is of the batch
unfoldable pub all_of : ℕ → List Frame → Bool
all_of batch [] = true
all_of batch (f ∷ fs) = eqb f.batch batch && all_of batch fs

-- the data frames whose place, from i on, is wanted
unfoldable pub wanted : (ℕ → Bool) → ℕ → List Frame → List Frame
wanted want i [] = []
wanted want i (f ∷ fs) = elim (want i) [ true ↦ f ∷ wanted want (suc i) fs | false ↦ wanted want (suc i) fs ]

-- a refusal leaves the output as it was
abbrev pub Refused : (out after : List ℕ) → Report → ℕ → Type 0
Refused out after a n = (a ≡ record { number = n; written = 0; total = 0 }) × (after ≡ out)

-- lines from a start index on, while there is room for one more
abbrev pub Writes : (out after : List ℕ) (start : ℕ) → List Frame → Report → Type 0
Writes out after start fs a =
    (a ≡ record { number = 0; written = length (part 35 start (length out) (map line fs)); total = length fs }) × (after ≡ over (part 35 start (length out) (map line fs)) out)

-- ask, at the standby: the inbox, then the request's lines
abbrev pub Ask : (x out after : List ℕ) (start : ℕ) → Report → Type 0
Ask x out after start a = Check (length x ≡ 130) (Refused out after a SHAPE) (Check (SoundInbox x) (Refused out after a DAMAGED) (Writes out after start (request_of x) a))

-- resend, at the primary: two versions of its block, and the batch number
pub record Primary : Type 0 where
  pub block : List ℕ
  pub from : ℕ
  pub to : ℕ
  pub batch : ℕ

-- a request that has been read: its batch, then the depth, which is the versions' alone, then the asked frames
abbrev pub Sends : Primary → Option (List Frame) → (out after : List ℕ) (start : ℕ) → Report → Type 0
Sends p none out after start a = Refused out after a REQUEST
Sends p (some fs) out after start a =
    let A = version (heap p.block) p.from in
    let B = version (heap p.block) p.to in
    Check (all_of p.batch fs ≡ true) (Refused out after a BATCH)
    (Check (delta_deep A B ≡ false) (Refused out after a TOO_DEEP) (Writes out after start (wanted (asked fs) 0 (frames p.batch A B)) a))

-- block and versions, then the request
abbrev pub Resend : Primary → (request out after : List ℕ) (start : ℕ) → Report → Type 0
Resend p request out after start a =
    Check (Shaped p.block) (Refused out after a SHAPE)
    (Check (SoundBlock p.block) (Refused out after a DAMAGED)
    (Check (Versions (p.from ∷ p.to ∷ [])) (Refused out after a VERSION) (Sends p (read_request request) out after start a)))

-- the line says frame i, and its edit finds room
abbrev pub Arrives : List Frame → ℕ → Step → List ℕ → Type 0
Arrives fs i s line = (s.answer.number ≢ NO_ROOM) × (parse line ≡ some (frame_at fs i))

-- A standby that is carried to B in version v, asked, and has heard what it asked for has come to the block c and the inbox y.
pub record Repaired (B : Tree) (v : ℕ) (c y : List ℕ) : Type 0 where
  -- it is complete, and its entries equal B's exactly
  pub complete : Complete y
  pub equal : entries (version (heap c) v) ≡ entries B
  -- were it to ask again it would say complete
  pub ends : request_of y ≡ complete_line (batch_of y) ∷ []
