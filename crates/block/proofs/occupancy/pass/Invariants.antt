-- All words from the first on are WORD up to w.
use Prim.Native.Nat.{◌-◌, ◌≤◌}
use Rattle.block.specs.Words.{WordsAre}
use Rattle.block.proofs.occupancy.pass.Given as goal

abbrev pub invariant-loop-w : goal.invariant-loop-w
invariant-loop-w g l = (l.from ≤ l.w) × (l.w ≤ l.m) × WordsAre l.b l.from (l.w - l.from) g.row.WORD

abbrev pub decreases-loop-w : goal.decreases-loop-w
decreases-loop-w g l = l.m - l.w
