-- A delta as words hold it, and its lines.
use Rattle.std.specs.Prelude.{◌≡◌, ℕ, zero, suc, ◌+◌, ◌*◌, ◌<◌, ◌≤◌, true, false, List, [], ◌∷◌, map, length, get_or, take, ltb, Result, Ok, Err}
use Rattle.std.proofs.Math.Option.{none, some}
use Rattle.model.specs.Tree.{Tree}
use Rattle.model.specs.Delta.{Change, delta, delta_deep}
use Rattle.model.specs.Frame.{Frame, line, frame_of, nothing, frame_at}
use Rattle.frame.specs.declared.Frame as code
use Rattle.frame.specs.Fields.{fields_of}
use Rattle.answers.specs.declared.Refusal.{Refusal}
use Rattle.answers.specs.declared.Refusal.TheVariants.{TooDeep}
use Rattle.lists.specs.declared.changes.Changes.{Changes}

-- change i, in two words: its key, and its value or 0; the changes before index `puts` are puts
unfoldable pub change_in : (puts : ℕ) (ws : List ℕ) (i : ℕ) → Change
change_in puts ws i = elim (ltb i puts) [
  | true ↦ record { key = get_or ws (2 * i) 0; now = some (get_or ws (2 * i + 1) 0) }
  | false ↦ record { key = get_or ws (2 * i) 0; now = none }
]

-- n changes from i on
unfoldable pub changes_in : (puts : ℕ) (ws : List ℕ) (n i : ℕ) → List Change
changes_in puts ws zero i = []
changes_in puts ws (suc n) i = change_in puts ws i ∷ changes_in puts ws n (suc i)

-- the words hold the delta from a to c, if no walk is too deep
abbrev pub Collects : (a c : Tree) (ws : List ℕ) → Result Changes Refusal → Type 0
Collects a c ws (Ok k) = (delta_deep a c ≡ false) × (changes_in k.puts ws k.count 0 ≡ delta a c) × (k.count ≤ 4096)
Collects a c ws (Err r) = (r ≡ TooDeep) × (delta_deep a c ≡ true)

-- the frames that a closure gives, one for each index below total
abbrev pub Gives : (post : ℕ → code.Frame → Type 0) → (total : ℕ) → List Frame → Type 0
Gives post total fs = (length fs ≡ total) × ((i : ℕ) (f : code.Frame) → i < total → post i f → fields_of f ≡ frame_at fs i)

-- an empty delta is one frame
abbrev pub at_least_one : ℕ → ℕ
at_least_one zero = 1
at_least_one (suc n) = suc n

-- frame i of `count` changes
unfoldable pub frame_in : (batch puts count : ℕ) (ws : List ℕ) (i : ℕ) → Frame
frame_in batch puts zero ws i = nothing batch
frame_in batch puts (suc n) ws i = frame_of batch (suc n) i (change_in puts ws i)

-- the lines of the changes that are chosen, by the first n of some words
unfoldable pub chosen_in : (batch puts count : ℕ) (ws : List ℕ) (n : ℕ) (chosen : List ℕ) → List (List ℕ)
chosen_in batch puts count ws n chosen = map (λ i. line (frame_in batch puts count ws i)) (take n chosen)
