-- Where the key stands its pair goes, and those behind it close up.
use mathlib.Core.Path.{◌≡◌}
use Prim.Native.Nat.{◌<◌}
use Rattle.model.specs.Kiosk.{count, key_at}
use Rattle.kiosk.proofs.Testing.{says_yes, says_no}
use Rattle.kiosk.proofs.Moving.{take-over, take_none}
use Rattle.kiosk.proofs.edits.take_out.Goals as goal
use Rattle.kiosk.proofs.edits.take_out.Goals.{Else-not-has, Then-not-has}

there : (c : Else-not-has) → let a = c.args in (a.i < count a.k.now) × (key_at a.k.now a.i ≡ a.key)
there c = says_yes c.has.result c.has.ensures c.if-not-has.false

lacks : (c : Then-not-has) → let a = c.args in (a.i < count a.k.now) × (key_at a.k.now a.i ≡ a.key) → ⊥
lacks c = says_no c.has.result c.has.ensures c.if-not-has.true

pub returns-then-not-has : goal.returns-then-not-has
returns-then-not-has c =
    take_none c.requires.0 c.requires.1 (lacks c)

pub returns : goal.returns
returns c =
    let y = there (goal.at.returns c).Else-not-has in
    take-over c.requires.0 c.requires.1 y.0 y.1 c.close_up.ensures
