-- The bit is cleared and zeros are written; nothing else changes.
use mathlib.Core.Bool.{false}
use Prim.Native.Nat.{ℕ}
use Rattle.model.specs.Moves.{Writing}
use Rattle.block.proofs.Writes.{Uncounted, fields, occupied_within, freed, uncounted, wrote, emptied}
use Rattle.block.proofs.ends.clear.Goals as goal
use Rattle.block.proofs.ends.clear.Goals.{After-turn_bit, After-set_word}

pub turn_bit-requires : goal.turn_bit-requires
turn_bit-requires c = let w = occupied_within c.args.b.now c.args.n c.requires.1 in (c.requires.0, w.0, w.1)

-- the bit is cleared
bit : (c : After-turn_bit) (xs : ℕ → ℕ) → Writing c.args.b.now c.turn_bit.new.b c.args.n false xs 0
bit c xs = freed c.args.n xs c.requires.0 c.requires.1 c.turn_bit.ensures

-- so is the count
count : (c : After-set_word) (xs : ℕ → ℕ)
    → Uncounted c.args.b.now c.set_word.new.b c.args.n false xs 0
count c xs = uncounted c.args.n (bit c.before.before.before.before xs) c.set_word.ensures

pub returns : goal.returns
returns c =
    let W = wrote c.args.n 0 0 0 0 0 0 (count (goal.at.returns c).After-set_word (fields 0 0 0 0 0 0)) c.write.ensures in
    (W.shaped, emptied W c.requires.1)
