-- The shift leaves exactly the bits at or above count, so it gives 0 exactly when they are clear.
use mathlib.Core.Path.{refl}
use Prim.Native.Nat.{◌+◌}
use native.Mathlib.Omega.{arith}
use Rattle.inbox.proofs.Highs.{word_clear}
use Rattle.inbox.proofs.word_clear.Goals as goal

pub returns : goal.returns
returns c = word_clear c.args.x.now _ c.args.w _ _ c.below-k.ensures refl (omega (arith, c.type_inv.x (2 + c.args.w)))
