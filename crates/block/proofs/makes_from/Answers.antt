-- All nodes below the lowest free one are occupied, and all nodes are where none is free.
use Rattle.block.proofs.Low.{low_found}
use Rattle.block.proofs.makes_from.Goals as goal

pub returns : goal.returns
returns c = rw c.unwrap_or.ensures (low_found c.args.b.now c.lowest_free.result c.lowest_free.ensures)
