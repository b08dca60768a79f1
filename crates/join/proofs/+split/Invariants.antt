use Rattle.model.specs.Block.{heap}
use Rattle.model.specs.Heap.{size_at}
use Rattle.join.proofs.+split.Given as goal

abbrev pub decreases-split : goal.decreases-split
decreases-split l = size_at (heap l.b.now) l.n
