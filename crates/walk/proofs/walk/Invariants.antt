use mathlib.Core.Path.{◌≡◌}
use Prim.Native.Nat.{◌-◌, ◌≤◌}
use lib.ListN.{length}
use Rattle.model.specs.Block.{heap}
use Rattle.model.specs.Heap.{tree}
use Rattle.model.specs.Listing.{listing}
use Rattle.walk.proofs.Goings.{told, Going}
use Rattle.walk.proofs.walk.Given as goal

-- Each turn does what the listing's turn does, so what is told so far and what is still to come stay the same answer; the turns run out with the listing's.
abbrev pub invariant-loop-turn : goal.invariant-loop-turn
invariant-loop-turn l = Going (heap l.b) l.once l.wanted l.start (told l.once l.wanted l.start (listing (tree (heap l.b) l.left) (tree (heap l.b) l.right)) 0 l.initial.out) l.l l.r l.n (l.turns - l._turn) l.out × (l.n ≤ l._turn) × (length l.out ≡ length l.initial.out)
