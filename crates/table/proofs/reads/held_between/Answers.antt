-- What is gathered from the version's root is the sum over its entries between the two keys.
use mathlib.Core.Path.{ap}
use Rattle.model.specs.Calls.{giving}
use Rattle.table.proofs.Admitting.{opened, source_done}
use Rattle.table.proofs.Settling.{source_summable, source_between}
use Rattle.table.proofs.reads.held_between.Goals as goal

pub sum_between-requires : goal.sum_between-requires
sum_between-requires c = source_summable (opened c.in_ok-root.was c.version_root.ensures)

pub returns : goal.returns
returns c = let S = opened c.in_ok-root.was c.version_root.ensures in source_done S (ap giving (source_between S c.args.first c.args.last c.sum_between.ensures))
