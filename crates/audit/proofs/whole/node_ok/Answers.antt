-- An occupied node is noted, a free one is zeros.
use Prim.Native.Nat.{◌*◌}
use native.Mathlib.Omega.{arith}
use Rattle.area.proofs.Gathers.{zeros_part}
use Rattle.area.proofs.Noting.{noted_pass}
use Rattle.audit.proofs.Marks.{mark_free}
use Rattle.audit.proofs.whole.node_ok.Goals as goal

pub returns : goal.returns
returns g c =
    let a = c.args.a.now in
    let z = c.zeros in
    let Z = zeros_part a (8 * c.args.i) 8 _ (omega arith) (omega arith) z.result z.ensures in
    (mark_free a c.args.i c.args.m z.result (omega arith) Z, λ e. noted_pass c.requires.3 (rw e at Z))
