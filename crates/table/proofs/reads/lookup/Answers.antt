-- What the walk from the version's root finds is the version's value under the key.
use mathlib.Core.Path.{ap}
use mathlib.Core.List.{[], ◌∷◌}
use Rattle.model.specs.Calls.{finding}
use Rattle.table.proofs.Admitting.{opened, source_done}
use Rattle.table.proofs.Settling.{source_found}
use Rattle.table.proofs.reads.lookup.Goals as goal

pub returns : goal.returns
returns c = let S = opened c.in_ok-root.was c.version_root.ensures in source_done S (ap finding (source_found S c.args.key c.find.ensures))
