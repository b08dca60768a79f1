-- An occupancy word of 0 has no node, so the words of its 32 are zeros.
use mathlib.Core.Path.{◌≡◌, subst}
use Prim.Native.Nat.{◌*◌}
use native.Mathlib.Omega.{arith}
use Rattle.area.specs.Notes.{Zeros}
use Rattle.area.proofs.Gathers.{zeros_part}
use Rattle.area.proofs.Noting.{noted_run}
use Rattle.audit.proofs.Marks.{marks_none}
use Rattle.audit.proofs.whole.word_ok.Goals as goal

pub returns-then-b-w-eq0 : goal.returns-then-b-w-eq0
returns-then-b-w-eq0 g c =
    let a = c.args.a.now in
    let w = c.args.w in
    let z = c.zeros in
    let Z = zeros_part a (256 * w) 256 _ (omega (arith, c.requires.0.long)) (omega arith) z.result z.ensures in
    let e : 256 * w ≡ 8 * (32 * w) = omega arith in (
      marks_none c.args.b.now a w (omega (arith, c.requires.0.within)) c.if-b-w-eq0.true z.result Z,
      λ q. noted_run 32 (subst (λ y. Zeros a y 256) e (rw q at Z)) c.requires.3,
    )
