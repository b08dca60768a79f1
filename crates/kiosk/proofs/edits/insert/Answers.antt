-- The checks, then the value, then the place of the key.
use mathlib.Core.Path.{refl, ap}
use Rattle.model.specs.Calls.{finding}
use Rattle.model.proofs.calls.Checks.{check_sound}
use Rattle.kiosk.proofs.Calling.{insert_done}
use Rattle.kiosk.proofs.edits.insert.Goals as goal

pub returns : goal.returns
returns c = insert_done (check_sound c.in_ok-check.ensures refl) _ _ c.if-value-eq0.false c.in_ok-put.ensures (ap finding c.value_at-old.ensures)
