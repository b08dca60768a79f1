-- What the calls that list answer: listing and frames, each from a start index into the caller's output; and same, which walks and writes nothing.
use Rattle.std.specs.Prelude.{◌≡◌, ℕ, ◌/◌, Bool, true, false, List, [], ◌∷◌, ◌++◌, map, length, take, drop, eqb}
use Rattle.std.proofs.Math.Option.{none, some}
use Rattle.model.specs.Tree.{Tree, size}
use Rattle.model.specs.Listing.{Row, Walk, listing, until}
use Rattle.model.specs.Delta.{changed, puts, delta_deep}
use Rattle.model.specs.Heap.{version}
use Rattle.model.specs.Block.{heap, Shaped, SoundBlock}
use Rattle.model.specs.Frame.{line, frames}
use Rattle.model.specs.Numbers.{SHAPE, DAMAGED, VERSION, TOO_DEEP}
use Rattle.model.specs.Calls.{Check, Answer, refusal, giving, Versions}

-- key, left value, 1 if common else 0, right value or 0
unfoldable pub row_words : Row → List ℕ
row_words r = elim r.right [ none ↦ r.key ∷ r.left ∷ 0 ∷ 0 ∷ [] | some v ↦ r.key ∷ r.left ∷ 1 ∷ v ∷ [] ]

-- pieces one after another
unfoldable pub laid : List (List ℕ) → List ℕ
laid [] = []
laid (p ∷ ps) = p ++ laid ps

-- the pieces from the start index on, while `room` has room for one more of this width
abbrev pub part : (width start room : ℕ) → List (List ℕ) → List ℕ
part width start room pieces = laid (take (room / width) (drop start pieces))

-- the output afterwards: the part, and what stood after it
abbrev pub over : List ℕ → List ℕ → List ℕ
over written out = written ++ drop (length written) out

-- the number, how many words or bytes were written, and how many pieces there are in all
pub record Report : Type 0 where
  pub number : ℕ
  pub written : ℕ
  pub total : ℕ

-- what is listed: the versions it names, whether a walk is too deep, and its pieces, all of one width
pub record Pieces : Type 0 where
  pub versions : List ℕ
  pub deep : Bool
  pub width : ℕ
  pub pieces : List (List ℕ)

-- block, versions, depth; a refusal leaves the output as it was
abbrev pub Lists : (b out after : List ℕ) (start : ℕ) → Pieces → Report → Type 0
Lists b out after start p a =
    Check (Shaped b) ((a ≡ record { number = SHAPE; written = 0; total = 0 }) × (after ≡ out))
    (Check (SoundBlock b) ((a ≡ record { number = DAMAGED; written = 0; total = 0 }) × (after ≡ out))
    (Check (Versions p.versions) ((a ≡ record { number = VERSION; written = 0; total = 0 }) × (after ≡ out))
    (Check (p.deep ≡ false) ((a ≡ record { number = TOO_DEEP; written = 0; total = 0 }) × (after ≡ out))
    ((a ≡ record { number = 0; written = length (part p.width start (length out) p.pieces); total = length p.pieces })
    × (after ≡ over (part p.width start (length out) p.pieces) out)))))

-- the entries of version left against version right, four words each
abbrev pub listed : (b : List ℕ) (left right : ℕ) → Pieces
listed b left right =
    let w = listing (version (heap b) left) (version (heap b) right) in
    record { versions = left ∷ right ∷ []; deep = w.deep; width = 4; pieces = map row_words w.rows }

-- the lines that carry version a to version c, 35 bytes each
abbrev pub framed : (b : List ℕ) (a c batch : ℕ) → Pieces
framed b a c batch = record {
  versions = a ∷ c ∷ [];
  deep = delta_deep (version (heap b) a) (version (heap b) c);
  width = 35;
  pieces = map line (frames batch (version (heap b) a) (version (heap b) c));
}

-- c is walked against a, and left at the first entry that differs
abbrev pub drift : (a c : Tree) → Walk
drift a c = let w = listing c a in until changed w.rows w.deep

-- 1 for yes: no put turns up, and the sizes are equal
unfoldable pub alike : (a c : Tree) → ℕ
alike a c = elim (puts (drift a c).rows) [
  | [] ↦ elim (eqb (size a) (size c)) [ true ↦ 1 | false ↦ 0 ]
  | p ∷ ps ↦ 0
]

-- whether two versions hold the same entries: block, versions, depth up to the first entry that differs
abbrev pub Same : (b : List ℕ) (from to : ℕ) → Answer → Type 0
Same b from to r =
    Check (Shaped b) (r ≡ refusal SHAPE)
    (Check (SoundBlock b) (r ≡ refusal DAMAGED)
    (Check (Versions (from ∷ to ∷ [])) (r ≡ refusal VERSION)
    (Check ((drift (version (heap b) from) (version (heap b) to)).deep ≡ false) (r ≡ refusal TOO_DEEP)
    (r ≡ giving (alike (version (heap b) from) (version (heap b) to))))))
