-- A host's calls one after another, on the kiosk or on one version of the table.
use Rattle.std.specs.Prelude.{◌≡◌, ◌≢◌, ℕ, List, [], ◌∷◌}
use Rattle.model.specs.Numbers.{NO_ROOM}
use Rattle.model.specs.Calls.{Answer, Edits, inserting, removing}
use Rattle.model.specs.Calls as calls
use Rattle.model.specs.Lists.{Report, listed}
use Rattle.model.specs.Lists as lists
use Rattle.model.specs.Link.{Missing, Heard, Step}
use Rattle.model.specs.Link as link
use Rattle.model.specs.Kiosk as kiosk

-- a call; a listing is given its start index and the output that it writes to
pub data Call : Type 0 where
  lookup : (key : ℕ) → Call
  insert : (key value : ℕ) → Call
  remove : (key : ℕ) → Call
  list : (start : ℕ) (out : List ℕ) → Call
  receive : (line : List ℕ) → Call
  missing : Call

-- number and missing, as the question on its own answers
pub record Lack : Type 0 where
  pub number : ℕ
  pub missing : ℕ

-- a listing's report, and its output afterwards
pub record Shown : Type 0 where
  pub report : Report
  pub out : List ℕ

-- what a call answers
abbrev pub Reply : Call → Type 0
Reply (lookup key) = Answer
Reply (insert key value) = Answer
Reply (remove key) = Answer
Reply (list start out) = Shown
Reply (receive line) = Heard
Reply missing = Lack

-- the number of an answer
abbrev pub number_of : (c : Call) → Reply c → ℕ
number_of (lookup key) r = r.number
number_of (insert key value) r = r.number
number_of (remove key) r = r.number
number_of (list start out) r = r.report.number
number_of (receive line) r = r.number
number_of missing r = r.number

-- the contracts of an engine's calls on the words that it is lent
pub record Engine : Type 1 where
  pub Lookup : (words : List ℕ) (key : ℕ) → Answer → Type 0
  pub Insert : (words after : List ℕ) (key value : ℕ) → Answer → Type 0
  pub Remove : (words after : List ℕ) (key : ℕ) → Answer → Type 0
  pub Lists : (words out after : List ℕ) (start : ℕ) → Report → Type 0
  pub Receive : Step → (line : List ℕ) → Type 0

-- the flat table
abbrev pub flat : Engine
flat = record { Lookup = kiosk.Lookup; Insert = kiosk.Insert; Remove = kiosk.Remove; Lists = kiosk.Lists; Receive = kiosk.Receive }

-- the table's calls, all on version v; version e is the empty one that v is listed against
abbrev pub tree : (v e : ℕ) → Engine
tree v e = record {
  Lookup = λ b key a. calls.Lookup b v key a;
  Insert = λ b after key value a. Edits b after (inserting b v v key value) a;
  Remove = λ b after key a. Edits b after (removing b v v key) a;
  Lists = λ b out after start a. lists.Lists b out after start (listed b v e) a;
  Receive = λ s line. link.Receive s v line;
}

-- one call, from the words and the inbox before it to those after it
abbrev pub Does : Engine → (c : Call) (words inbox words' inbox' : List ℕ) → Reply c → Type 0
Does E (lookup key) b x b' x' r = E.Lookup b key r × (b' ≡ b) × (x' ≡ x)
Does E (insert key value) b x b' x' r = E.Insert b b' key value r × (x' ≡ x)
Does E (remove key) b x b' x' r = E.Remove b b' key r × (x' ≡ x)
Does E (list start out) b x b' x' r = E.Lists b out r.out start r.report × (b' ≡ b) × (x' ≡ x)
Does E (receive line) b x b' x' r = E.Receive (record { block = b; inbox = x; block' = b'; inbox' = x'; answer = r }) line
Does E missing b x b' x' r = Missing x r.number r.missing × (b' ≡ b) × (x' ≡ x)

-- one answer for each call
abbrev pub Replies : List Call → Type 0
Replies [] = Unit {0}
Replies (c ∷ cs) = Reply c × Replies cs

-- the calls in order, each on what the one before it left
abbrev pub Runs : Engine → (calls : List Call) (words inbox : List ℕ) → Replies calls → Type 0
Runs E [] b x rs = Unit {0}
Runs E (c ∷ cs) b x rs = (b' : List ℕ) × (x' : List ℕ) × Does E c b x b' x' rs.0 × Runs E cs b' x' rs.1

-- no call is refused for room
abbrev pub Roomy : (calls : List Call) → Replies calls → Type 0
Roomy [] rs = Unit {0}
Roomy (c ∷ cs) rs = (number_of c rs.0 ≢ NO_ROOM) × Roomy cs rs.1
