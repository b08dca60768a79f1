use Rattle.model.specs.Heap.{size_at}
use Rattle.model.specs.Block.{heap}
use Rattle.model.specs.Sums.{upto}
use Rattle.tree.proofs.Gathers.{Gather}
use Rattle.tree.proofs.held.sum_upto.Given as goal

-- At each node whose key is within the bound its value and the side wholly within go in by the stored sum, and the way goes on in the other side; else one side is wholly beyond.
abbrev pub invariant-loop-n : goal.invariant-loop-n
invariant-loop-n l = Gather l.b (upto l.last) l.root l.n l.sum

abbrev pub decreases-loop-n : goal.decreases-loop-n
decreases-loop-n l = size_at (heap l.b) l.n
