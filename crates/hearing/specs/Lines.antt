-- Bytes cut into lines, and what the standby's programs do with the lines.
use Rattle.std.specs.Prelude.{◌≡◌, ℕ, min, Bool, true, false, List, [], ◌∷◌, ◌++◌, length, take, eqb}
use Rattle.std.proofs.Math.Option.{none, some}
use Rattle.model.specs.Frame.{Frame, parse}
use Rattle.model.specs.Inbox.{begun}
use Rattle.model.specs.Replica.{Nothing, Hearing}
use Rattle.hearing.specs.declared.kept.Progress.{Progress}

-- the lines that end in `bytes`, where `held` came before: a line ends at its newline (10)
unfoldable pub lines_of : (held bytes : List ℕ) → List (List ℕ)
lines_of held [] = []
lines_of held (c ∷ cs) = elim (eqb c 10) [ true ↦ (held ++ c ∷ []) ∷ lines_of [] cs | false ↦ lines_of (held ++ c ∷ []) cs ]

-- the bytes after the last newline
unfoldable pub rest_of : (held bytes : List ℕ) → List ℕ
rest_of held [] = held
rest_of held (c ∷ cs) = elim (eqb c 10) [ true ↦ rest_of [] cs | false ↦ rest_of (held ++ c ∷ []) cs ]

-- the buffer keeps the first 36 of the bytes held, so a line of at most 35 is kept whole
pub record Keeps (line : List ℕ) (len : ℕ) (held : List ℕ) : Type 0 where
  pub room : length line ≡ 36
  pub size : len ≡ min 36 (length held)
  pub bytes : take len line ≡ take 36 held

-- Lines heard into version 0, with nothing done between them: from a block and an inbox, and whether a batch has begun, to what they are then.
pub data Runs : (b x : List ℕ) (started : Bool) → List (List ℕ) → (b' x' : List ℕ) (started' : Bool) → Type 0 where
  -- no line was well formed
  idle : {b x : List ℕ} → Runs b x false [] b x false
  -- before the first well-formed line all are passed over
  waits : {b x b' x' line : List ℕ} {lines : List (List ℕ)} {started' : Bool} → parse line ≡ none → Runs b x false lines b' x' started' → Runs b x false (line ∷ lines) b' x' started'
  -- the program begins with that line's batch, and hears it and all that follow
  begins : {b x b' x' line : List ℕ} {lines : List (List ℕ)} (f : Frame) → parse line ≡ some f → Hearing Nothing 0 b (begun f.batch) (line ∷ lines) b' x' → Runs b x false (line ∷ lines) b' x' true
  -- once a batch has begun every line is heard
  hears : {b x b' x' : List ℕ} {lines : List (List ℕ)} → Hearing Nothing 0 b x lines b' x' → Runs b x true lines b' x' true

-- the program between two bytes: its block and inbox, whether a batch has begun, and what it keeps of the line
pub record State : Type 0 where
  pub block : List ℕ
  pub inbox : List ℕ
  pub started : Bool
  pub line : List ℕ
  pub len : ℕ

abbrev pub state : (b x : List ℕ) → Progress → State
state b x p = record { block = b; inbox = x; started = p.begun; line = p.line; len = p.len }

-- bytes are fed: whatever was held, the lines that end in them are heard one after the other, and the rest is kept
pub record Fed (s : State) (bytes : List ℕ) (t : State) : Type 0 where
  pub heard : (held : List ℕ) → Keeps s.line s.len held → Runs s.block s.inbox s.started (lines_of held bytes) t.block t.inbox t.started
  pub rest : (held : List ℕ) → Keeps s.line s.len held → Keeps t.line t.len (rest_of held bytes)

-- No contract can name what is read from standard input. There are bytes of which this is true: nothing else happens to block, inbox and line.
abbrev pub FedSome : State → State → Type 0
FedSome s t = (bytes : List ℕ) × Fed s bytes t

-- from a block and an inbox, the lines of some bytes are heard one after the other, and no batch has begun before them
abbrev pub HearsSome : (b x b' x' : List ℕ) → Type 0
HearsSome b x b' x' = (bytes : List ℕ) × (started : Bool) × Runs b x false (lines_of [] bytes) b' x' started
