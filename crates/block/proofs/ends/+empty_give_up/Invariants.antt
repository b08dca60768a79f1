use Prim.Native.Nat.{◌+◌, ◌*◌}
use Rattle.model.specs.Heap.{size_at}
use Rattle.model.specs.Block.{heap}
use Rattle.block.proofs.ends.+empty_give_up.Given as goal

abbrev pub decreases-empty : goal.decreases-empty
decreases-empty l = 2 * (heap l.b.now).size l.n

abbrev pub decreases-give_up : goal.decreases-give_up
decreases-give_up l = 2 * size_at (heap l.b.now) l.n + 1
