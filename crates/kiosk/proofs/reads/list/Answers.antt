-- The checks, then as many entries as there are from the start index on and as the output has room for.
use mathlib.Core.Path.{refl}
use Rattle.model.proofs.calls.Checks.{check_sound}
use Rattle.kiosk.proofs.Writing.{listed}
use Rattle.kiosk.proofs.reads.list.Goals as goal

pub returns : goal.returns
returns c = listed _ (check_sound c.in_ok-check.ensures refl) c.shown-n.ensures c.write.ensures
