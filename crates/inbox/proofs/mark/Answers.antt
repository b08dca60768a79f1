-- The index's bit is 0, so adding it sets it and carries nothing.
use native.Mathlib.Omega.{arith}
use Prim.Native.Nat.{◌+◌, ◌/◌}
use Rattle.inbox.proofs.Marks.{mark_fits, mark_is}
use Rattle.inbox.proofs.mark.Goals as goal

pub overflow_add-bits : goal.overflow_add-bits
overflow_add-bits c =
    let a = c.args in
    omega (arith, mark_fits a.x.now a.count a.index c.requires.2 (omega (arith, c.slice_known-1.given (2 + a.index / 32))))

pub returns : goal.returns
returns c = mark_is c.args.x.now _ _
