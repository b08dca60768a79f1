-- What the code reads of a request, and the indexes that it chooses.
use Rattle.std.specs.Prelude.{◌≡◌, ℕ, zero, suc, ◌+◌, ◌/◌, Bool, true, false, List, [], ◌∷◌, length, take}
use Rattle.std.specs.Prelude as code
use Rattle.std.proofs.Math.Option.{Option, none, some}
use Rattle.model.specs.Frame as model
use Rattle.model.specs.Request.{asked}
use Rattle.frame.specs.declared.Frame.{Frame}
use Rattle.frame.specs.Fields.{fields_of}

-- the six fields, if the line has them
abbrev pub six_of : code.Option Frame → Option model.Frame
six_of (code.Some f) = some (fields_of f)
six_of code.None = none

-- the test holds of the lines, if all are lines
abbrev pub holds : (List model.Frame → Bool) → Option (List model.Frame) → Bool
holds test none = false
holds test (some fs) = test fs

-- how many pieces a request is cut into
abbrev pub counting : List ℕ → ℕ
counting cs = (length cs + 34) / 35

-- those of n indexes, from i on, that are wanted
unfoldable pub choice : (want : ℕ → Bool) → (i n : ℕ) → List ℕ
choice want i zero = []
choice want i (suc n) = elim (want i) [ true ↦ i ∷ choice want (suc i) n | false ↦ choice want (suc i) n ]

-- the first r words are the indexes below end that the lines ask for
abbrev pub Chooses : Option (List model.Frame) → (end r : ℕ) (ws : List ℕ) → Type 0
Chooses none end r ws = ⊥
Chooses (some fs) end r ws = (r ≡ length (choice (asked fs) 0 end)) × (take r ws ≡ choice (asked fs) 0 end)
