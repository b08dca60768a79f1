use mathlib.Core.Path.{◌≡◌}
use Rattle.block.specs.Words.{WordsAre}
use Rattle.block.proofs.occupancy.eight_are.Given as goal

-- What is gathered is 0 only where each of the words is WORD.
abbrev pub invariant-loop-word : goal.invariant-loop-word
invariant-loop-word g l = l.other ≡ 0 → WordsAre l.b l.w l.word-index g.row.WORD
