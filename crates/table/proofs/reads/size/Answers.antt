-- The size word of the version's root is the version's size.
use mathlib.Core.Path.{◌∙◌, ap}
use Rattle.model.specs.Calls.{giving}
use Rattle.table.proofs.Admitting.{opened, source_done}
use Rattle.table.proofs.Settling.{source_size}
use Rattle.table.proofs.reads.size.Goals as goal

pub returns : goal.returns
returns c = let S = opened c.in_ok-root.was c.version_root.ensures in source_done S (ap giving (c.size_at.ensures ∙ source_size S))
