use Prim.Native.Nat.{◌*◌}
use Rattle.area.specs.Notes.{Holds}
use Rattle.audit.specs.Whole.{MarksOk}
use Rattle.audit.proofs.whole.words_ok.Given as goal

-- One occupancy word after another.
abbrev pub invariant-loop-w : goal.invariant-loop-w
invariant-loop-w g l = MarksOk l.b l.a 0 (32 * l.w) × Holds l.a l.notes (32 * l.w)
