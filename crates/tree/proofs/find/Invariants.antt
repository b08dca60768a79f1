use Rattle.model.specs.Heap.{size_at}
use Rattle.model.specs.Block.{heap}
use Rattle.model.proofs.block.Lookups.{Walk}
use Rattle.tree.proofs.find.Given as goal

-- At each node the lookup goes on in the side that the key is on. The node's size falls.
abbrev pub invariant-loop-n : goal.invariant-loop-n
invariant-loop-n l = Walk (heap l.b) l.root l.key l.n

abbrev pub decreases-loop-n : goal.decreases-loop-n
decreases-loop-n l = size_at (heap l.b) l.n
