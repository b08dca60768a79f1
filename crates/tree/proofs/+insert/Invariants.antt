use Rattle.model.specs.Block.{heap}
use Rattle.model.specs.Heap.{size_at}
use Rattle.tree.proofs.+insert.Given as goal

abbrev pub decreases-insert : goal.decreases-insert
decreases-insert l = size_at (heap l.b.now) l.n
