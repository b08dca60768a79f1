-- The stored sum of the version's root is the sum of its entries' values.
use mathlib.Core.Path.{◌∙◌, ap}
use Rattle.model.specs.Calls.{giving}
use Rattle.table.proofs.Admitting.{opened, source_done}
use Rattle.table.proofs.Settling.{source_held}
use Rattle.table.proofs.reads.held.Goals as goal

pub returns : goal.returns
returns c = let S = opened c.in_ok-root.was c.version_root.ensures in source_done S (ap giving (c.sum_at.ensures.0 ∙ source_held S))
