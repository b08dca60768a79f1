-- Restore from a sorted listing: what is wrong with a line, the tree that is built of the entries, and what the call answers.
use Rattle.std.specs.Prelude.{◌≡◌, ◌≢◌, ℕ, zero, suc, ◌/◌, ◌<◌, Bool, true, false, List, [], ◌∷◌, length, get_or, take, drop, ltb}
use Rattle.std.proofs.Math.Option.{none, some}
use Rattle.model.specs.Tree.{Tree, leaf, Entry}
use Rattle.model.specs.Supply.{Make, make, done, short, ◌>>=◌}
use Rattle.model.specs.Heap.{supply}
use Rattle.model.specs.Block.{heap, Shaped, SoundBlock}
use Rattle.model.specs.Numbers.{SHAPE, DAMAGED, VERSION, NO_ROOM, ZERO, LINE, ORDER}
use Rattle.model.specs.Calls.{Check, Versions, Edited}
use Rattle.model.specs.Text.{entry_of, line_at, line_count, entry_at, entries_of}

-- the key of line i is above its predecessor's; line 0 has none
unfoldable pub ascends : List ℕ → (i key : ℕ) → Bool
ascends text zero key = true
ascends text (suc j) key = ltb (entry_at text j).0 key

-- what is wrong with line i, 0 for nothing: malformed goes before a value of 0, and that before a key not above its predecessor
unfoldable pub fault_at : List ℕ → ℕ → ℕ
fault_at text i = elim (entry_of (line_at text i)) [
  | none ↦ LINE
  | some e ↦ elim e.1 [
    | zero ↦ ZERO
    | suc v ↦ elim (ascends text i e.0) [ true ↦ 0 | false ↦ ORDER ]
  ]
]

-- no line is faulty
abbrev pub Faultless : List ℕ → Type 0
Faultless text = (i : ℕ) → i < line_count text → fault_at text i ≡ 0

-- the first faulty line decides: n is what is wrong with it, `line` its number from 0
pub record FirstFault (text : List ℕ) (n line : ℕ) : Type 0 where
  pub there : line < line_count text
  pub is : n ≡ fault_at text line
  pub faulty : n ≢ 0
  pub first : (i : ℕ) → i < line → fault_at text i ≡ 0

-- entry n/2 of n, rounded down, counting from 0
abbrev pub middle : List Entry → ℕ
middle es = length es / 2

-- the middle entry at the root; each side of its own part, the left side first, then the node. It goes no deeper than `fuel`
unfoldable pub built : (fuel : ℕ) → List Entry → Make Tree
built zero es = done leaf
built (suc fuel) [] = done leaf
built (suc fuel) (e ∷ es) =
    let all : List Entry = e ∷ es in
    do
      l ← built fuel (take (middle all) all)
      r ← built fuel (drop (suc (middle all)) all)
      make (get_or all (middle all) e).0 (get_or all (middle all) e).1 l r

-- the tree of the lines' entries
abbrev pub restored : List ℕ → Make Tree
restored text = built (length (entries_of text)) (entries_of text)

-- block, version, the first faulty line, then room: version v becomes the tree of the lines
abbrev pub Restore : (b after : List ℕ) (v : ℕ) (text : List ℕ) (n line : ℕ) → Type 0
Restore b after v text n line =
    Check (Shaped b) ((n ≡ SHAPE) × (line ≡ 0) × (after ≡ b))
    (Check (SoundBlock b) ((n ≡ DAMAGED) × (line ≡ 0) × (after ≡ b))
    (Check (Versions (v ∷ [])) ((n ≡ VERSION) × (line ≡ 0) × (after ≡ b))
    (Check (Faultless text) (FirstFault text n line × (after ≡ b))
    (Check (short (restored text (supply (heap b))).1 ≡ false) ((n ≡ NO_ROOM) × (line ≡ 0) × (after ≡ b))
    ((n ≡ 0) × (line ≡ 0) × Edited b after v (restored text (supply (heap b))).0)))))
