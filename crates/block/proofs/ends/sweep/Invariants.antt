use mathlib.Core.Path.{◌≡◌}
use Prim.Native.Nat.{◌-◌, ◌/◌, ◌≤◌}
use Rattle.model.specs.Block.{room}
use Rattle.model.specs.Moves.{Tidied}
use Rattle.block.proofs.ends.sweep.Given as goal

-- Before each step all nodes below i have references, and i is a node of word w; at the end all nodes do. A word of 0 has no node to look at.
abbrev pub invariant-loop-w : goal.invariant-loop-w
invariant-loop-w l = (l.m ≡ room l.initial.b / 32) × (1 ≤ l.i) × (l.w ≡ (l.i - 1) / 32) × Tidied l.initial.b l.b l.i

abbrev pub decreases-loop-w : goal.decreases-loop-w
decreases-loop-w l = l.m - l.w
