use Rattle.model.specs.Block.{heap}
use Rattle.model.specs.Heap.{size_at}
use Rattle.tree.proofs.+remove_min.Given as goal

abbrev pub decreases-remove_min : goal.decreases-remove_min
decreases-remove_min l = size_at (heap l.b.now) l.n
