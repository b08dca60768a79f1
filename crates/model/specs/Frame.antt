-- Frame lines.
use Rattle.std.specs.Prelude.{ℕ, zero, suc, ◌+◌, ◌-◌, ◌*◌, ◌/◌, ◌%◌, ◌^◌, ◌<◌, Bool, true, false, ◌&&◌, ◌||◌, List, [], ◌∷◌, ◌++◌, length, get_or, take, drop, eqb, ltb, leb}
use Rattle.std.proofs.Math.Option.{Option, none, some}
use Rattle.model.specs.Tree.{Tree}
use Rattle.model.specs.Delta.{Change, delta}
use Rattle.model.specs.Numbers.{FRAME, DIGIT, KIND, RANGE}

-- one reading after another; what is no number makes the whole none
infixr 10 ◌>>=◌
abbrev pub ◌>>=◌ : {A B : Type 0} → Option A → (A → Option B) → Option B
◌>>=◌ none f = none
◌>>=◌ (some a) f = f a

-- the fields of a line
pub record Frame : Type 0 where
  pub batch : ℕ
  pub index : ℕ
  pub count : ℕ
  pub kind : ℕ
  pub key : ℕ
  pub value : ℕ

-- the byte of a digit below 16: 0 to 9, a to f
unfoldable pub digit : ℕ → ℕ
digit n = elim (ltb n 10) [ true ↦ 48 + n | false ↦ 87 + n ]

-- the digit that a byte stands for: lower case only
unfoldable pub value : ℕ → Option ℕ
value c = elim (leb 48 c && ltb c 58) [
  | true ↦ some (c - 48)
  | false ↦ elim (leb 97 c && ltb c 103) [ true ↦ some (c - 87) | false ↦ none ]
]

-- n in k digits, the high digit first
unfoldable pub digits : ℕ → ℕ → List ℕ
digits zero n = []
digits (suc k) n = digits k (n / 16) ++ digit (n % 16) ∷ []

-- the number that digits stand for, behind those that gave n
unfoldable pub number : ℕ → List ℕ → Option ℕ
number n [] = some n
number n (c ∷ cs) = elim (value c) [ none ↦ none | some d ↦ number (n * 16 + d) cs ]

-- 34 digits and a newline: batch (8), index (4), count (4), kind (2), key (8), value (8)
unfoldable pub line : Frame → List ℕ
line f = digits 8 f.batch ++ digits 4 f.index ++ digits 4 f.count ++ digits 2 f.kind ++ digits 8 f.key ++ digits 8 f.value ++ 10 ∷ []

-- kind 01 puts; 02 removes, value 0; 00 says "nothing changed", only with index 0, count 1, key 0, value 0
unfoldable pub kind_legal : Frame → Bool
kind_legal f = elim f.kind [
  | zero ↦ eqb f.index 0 && eqb f.count 1 && eqb f.key 0 && eqb f.value 0
  | suc k ↦ eqb k 0 || (eqb k 1 && eqb f.value 0)
]

-- count is 1 to 4,096, index below count, and the kind's rule holds
unfoldable pub legal : Frame → Bool
legal f = leb 1 f.count && leb f.count 4096 && ltb f.index f.count && kind_legal f

-- batch, key and value are any that fit eight digits
pub record Fitting (f : Frame) : Type 0 where
  pub batch : f.batch < 2 ^ 32
  pub key : f.key < 2 ^ 32
  pub value : f.value < 2 ^ 32

-- the number in k digits of the line from place `at` on
abbrev pub field : List ℕ → ℕ → ℕ → Option ℕ
field cs at k = number 0 (take k (drop at cs))

-- the six fields, where all are numbers
unfoldable pub fields : List ℕ → Option Frame
fields cs = do
  batch ← field cs 0 8
  index ← field cs 8 4
  count ← field cs 12 4
  kind ← field cs 16 2
  key ← field cs 18 8
  value ← field cs 26 8
  some (record { batch = batch; index = index; count = count; kind = kind; key = key; value = value })

-- what reading a line gives: its frame, or the number of what is wrong with it and the place of a bad digit, which is 0 beside every other number
pub data Reading : Type 0 where
  good : Frame → Reading
  fault : (number place : ℕ) → Reading

-- the place of the first byte that is no digit
unfoldable pub first_bad : List ℕ → ℕ
first_bad [] = 0
first_bad (c ∷ cs) = elim (value c) [ none ↦ 0 | some d ↦ suc (first_bad cs) ]

-- a kind above 2 is KIND, any other field rule broken is RANGE
unfoldable pub judged : Frame → Reading
judged f = elim (leb f.kind 2) [
  | true ↦ elim (legal f) [ true ↦ good f | false ↦ fault RANGE 0 ]
  | false ↦ fault KIND 0
]

-- not 35 bytes or no closing newline is FRAME, a bad digit is DIGIT and its place, the first one counting; then the fields are judged
unfoldable pub read : List ℕ → Reading
read cs = elim (eqb (length cs) 35 && eqb (get_or cs 34 0) 10) [
  | true ↦ elim (fields cs) [ some f ↦ judged f | none ↦ fault DIGIT (first_bad cs) ]
  | false ↦ fault FRAME 0
]

-- the frame of a line with nothing wrong
unfoldable pub parse : List ℕ → Option Frame
parse cs = elim (read cs) [ good f ↦ some f | fault n p ↦ none ]

-- the frame of one change among `count`
unfoldable pub frame_of : (batch count index : ℕ) → Change → Frame
frame_of batch count index c = elim c.now [
  | some v ↦ record { batch = batch; index = index; count = count; kind = 1; key = c.key; value = v }
  | none ↦ record { batch = batch; index = index; count = count; kind = 2; key = c.key; value = 0 }
]

-- "nothing changed"
abbrev pub nothing : ℕ → Frame
nothing batch = record { batch = batch; index = 0; count = 1; kind = 0; key = 0; value = 0 }

-- the frames of changes, numbered from `index` on
unfoldable pub numbered : (batch count index : ℕ) → List Change → List Frame
numbered batch count index [] = []
numbered batch count index (c ∷ cs) = frame_of batch count index c ∷ numbered batch count (suc index) cs

-- an empty delta is the single "nothing" frame
unfoldable pub frames_of : ℕ → List Change → List Frame
frames_of batch [] = nothing batch ∷ []
frames_of batch (c ∷ cs) = numbered batch (length (c ∷ cs)) 0 (c ∷ cs)

-- frame i of the list
abbrev pub frame_at : List Frame → ℕ → Frame
frame_at fs i = get_or fs i (nothing 0)

-- the frames that carry a to b
abbrev pub frames : ℕ → Tree → Tree → List Frame
frames batch a b = frames_of batch (delta a b)
