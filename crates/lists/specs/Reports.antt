-- What is written of lines, and what the call that returns a part answers.
use Rattle.std.specs.Prelude.{◌≡◌, ℕ, false, List, [], length}
use Rattle.model.specs.Block.{Shaped, SoundBlock}
use Rattle.model.specs.Numbers.{SHAPE, DAMAGED, VERSION, TOO_DEEP}
use Rattle.model.specs.Calls.{Check, Versions}
use Rattle.model.specs.Lists.{Pieces, part, over}
use Rattle.model.specs.Lists as lists

-- a refusal returns its number and zeros
abbrev pub refused : ℕ → lists.Report
refused n = record { number = n; written = 0; total = 0 }

-- n bytes of the lines from `start` on are written to out, which is `after` then
abbrev pub Wrote : (lines : List (List ℕ)) (start : ℕ) (out : List ℕ) (n : ℕ) (after : List ℕ) → Type 0
Wrote lines start out n after = (n ≡ length (part 35 start (length out) lines)) × (after ≡ over (part 35 start (length out) lines) out)

-- a refusal's number, a total of 0 and an empty part
abbrev pub Empty : (shown : List ℕ) (number total n : ℕ) → Type 0
Empty shown number total n = (shown ≡ []) × (number ≡ n) × (total ≡ 0)

-- what Lists says, of the part that is returned and the two lent numbers
abbrev pub Shows : (b out : List ℕ) (start : ℕ) → Pieces → (shown : List ℕ) (number total : ℕ) → Type 0
Shows b out start p shown number total =
    Check (Shaped b) (Empty shown number total SHAPE)
    (Check (SoundBlock b) (Empty shown number total DAMAGED)
    (Check (Versions p.versions) (Empty shown number total VERSION)
    (Check (p.deep ≡ false) (Empty shown number total TOO_DEEP)
    ((shown ≡ part p.width start (length out) p.pieces) × (number ≡ 0) × (total ≡ length p.pieces)))))
