-- After w turns the sum is that of the first w pairs of heard words; it is whole where count is reached by either end.
use mathlib.Core.Path.{refl}
use Prim.Native.Nat.{◌+◌, ◌*◌}
use native.Mathlib.Omega.{arith}
use Rattle.inbox.proofs.Sums.{sum_none, sum_more, sum-all}
use Rattle.inbox.proofs.heard_in.Goals as goal

pub loop-w-init : goal.loop-w-init
loop-w-init c = sum_none _

pub loop-w-preserved : goal.loop-w-preserved
loop-w-preserved c =
    let w = c.loop-w.w in
    sum_more c.loop-w.invariant (omega arith) refl refl (omega (arith, c.type_inv.x (2 + 2 * w))) (omega (arith, c.type_inv.x (3 + 2 * w)))

pub returns : goal.returns
returns c = sum-all c.args.x.now c.requires (λ i. omega (arith, c.type_inv.x i)) c.loop-w.invariant (omega arith)
