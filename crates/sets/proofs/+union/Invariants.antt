use Rattle.std.proofs.Common.{◌+◌}
use Rattle.model.specs.Block.{heap}
use Rattle.model.specs.Heap.{size_at}
use Rattle.sets.proofs.+union.Given as goal

abbrev pub decreases-union : goal.decreases-union
decreases-union l = size_at (heap l.b.now) l.left + size_at (heap l.b.now) l.right
