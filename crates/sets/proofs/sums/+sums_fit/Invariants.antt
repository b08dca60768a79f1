use Rattle.model.specs.Block.{heap}
use Rattle.model.specs.Heap.{size_at}
use Rattle.sets.proofs.sums.+sums_fit.Given as goal

abbrev pub decreases-sums_fit : goal.decreases-sums_fit
decreases-sums_fit l = size_at (heap l.b.now) l.left
