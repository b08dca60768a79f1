use Prim.Native.Nat.{◌+◌}
use Rattle.model.specs.Block.{heap}
use Rattle.model.specs.Heap.{size_at}
use Rattle.join.proofs.+join.Given as goal

abbrev pub decreases-join : goal.decreases-join
decreases-join l = size_at (heap l.b.now) l.left + size_at (heap l.b.now) l.right
