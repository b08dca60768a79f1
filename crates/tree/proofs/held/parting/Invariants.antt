use Rattle.model.specs.Heap.{size_at}
use Rattle.model.specs.Block.{heap}
use Rattle.tree.proofs.Gathers.{Way}
use Rattle.tree.proofs.held.parting.Given as goal

-- Keys below first and above last are passed by, with all that is on their far side; the first node that is neither is where the paths part.
abbrev pub invariant-loop-n : goal.invariant-loop-n
invariant-loop-n l = Way l.b l.root l.first l.last l.n

abbrev pub decreases-loop-n : goal.decreases-loop-n
decreases-loop-n l = size_at (heap l.b) l.n
