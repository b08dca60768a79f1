use Rattle.model.specs.Block.{heap}
use Rattle.model.specs.Heap.{size_at}
use Rattle.tree.proofs.+remove.Given as goal

abbrev pub decreases-remove : goal.decreases-remove
decreases-remove l = size_at (heap l.b.now) l.n
