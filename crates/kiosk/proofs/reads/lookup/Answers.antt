-- The checks, then the place of the key.
use mathlib.Core.Path.{refl, ap}
use Rattle.model.specs.Calls.{passes, finding}
use Rattle.model.specs.Kiosk.{SoundKiosk}
use Rattle.model.proofs.calls.Checks.{check_sound}
use Rattle.kiosk.proofs.reads.lookup.Goals as goal

pub returns : goal.returns
returns c =
    let S : SoundKiosk c.args.k.now = check_sound c.in_ok-check.ensures refl in
    passes S.long (passes S (ap finding c.value_at.ensures))
