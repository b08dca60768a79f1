use Rattle.model.specs.Block.{heap}
use Rattle.model.specs.Heap.{size_at}
use Rattle.sets.proofs.+difference.Given as goal

abbrev pub decreases-difference : goal.decreases-difference
decreases-difference l = size_at (heap l.b.now) l.left
