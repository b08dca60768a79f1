use mathlib.Core.Path.{◌≡◌}
use Prim.Native.Nat.{◌+◌, ◌*◌, ◌/◌, ◌^◌}
use Rattle.model.specs.Block.{word}
use Rattle.area.specs.Notes.{Holds}
use Rattle.audit.specs.Whole.{MarksOk}
use Rattle.audit.proofs.whole.bits_ok.Given as goal

-- After j turns m is the occupancy word shifted right by j, so its lowest bit is that of node 32w + j + 1.
abbrev pub invariant-loop-j : goal.invariant-loop-j
invariant-loop-j g l = (l.m ≡ word l.b (17 + l.w) / 2 ^ l.j) × MarksOk l.b l.a (32 * l.w) (32 * l.w + l.j) × Holds l.a l.notes (32 * l.w + l.j)
