-- An equal key keeps its place; a new one is refused where there are 64, and else put where the pairs behind it made room.
use mathlib.Core.Path.{◌≡◌}
use Prim.Native.Nat.{◌<◌}
use Rattle.model.specs.Kiosk.{count, key_at}
use native.Mathlib.Omega.{arith}
use Rattle.kiosk.proofs.Testing.{says_yes, says_no}
use Rattle.kiosk.proofs.Moving.{putting_over, putting_full, putting_new}
use Rattle.kiosk.proofs.edits.put.Goals as goal
use Rattle.kiosk.proofs.edits.put.Goals.{Else-has, Then-has}

there : (c : Then-has) → let a = c.args in (a.i < count a.k.now) × (key_at a.k.now a.i ≡ a.key)
there c = says_yes c.has.result c.has.ensures c.if-has.true

lacks : (c : Else-has) → let a = c.args in (a.i < count a.k.now) × (key_at a.k.now a.i ≡ a.key) → ⊥
lacks c = says_no c.has.result c.has.ensures c.if-has.false

pub returns-then-has : goal.returns-then-has
returns-then-has c =
    putting_over c.requires.0 c.requires.1 _ (there c)

pub returns-then-n-ge64 : goal.returns-then-n-ge64
returns-then-n-ge64 c =
    putting_full c.requires.0 c.requires.1 _ (lacks (goal.at.returns-then-n-ge64 c).Else-has) c.if-n-ge64.true

pub returns : goal.returns
returns c =
    putting_new c.requires.0 c.requires.1 _ (lacks (goal.at.returns c).Else-has) (omega (arith, c.if-n-ge64.false)) c.open_up.ensures
