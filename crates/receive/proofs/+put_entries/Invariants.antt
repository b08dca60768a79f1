-- The node's size falls.
use Rattle.model.specs.Heap.{size_at}
use Rattle.model.specs.Block.{heap}
use Rattle.receive.proofs.+put_entries.Given as goal

abbrev pub decreases-put_entries : goal.decreases-put_entries
decreases-put_entries l = size_at (heap l.b.now) l.n
