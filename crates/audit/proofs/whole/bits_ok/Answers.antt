-- After j turns m is the occupancy word shifted right by j, so its lowest bit is that of node 32w + j + 1.
use mathlib.Core.Path.{◌≡◌, refl, sym, subst}
use mathlib.Core.Bool.{true≢false}
use Prim.Native.Nat.{◌+◌, ◌*◌, ◌<◌}
use native.Mathlib.Omega.{arith}
use Rattle.model.specs.Block.{room}
use Rattle.area.specs.Notes.{Holds}
use Rattle.audit.proofs.Marks.{marks_more, marks_no, bits_next}
use Rattle.audit.proofs.whole.bits_ok.Goals as goal

pub returns-then-not-node_ok : goal.returns-then-not-node_ok
returns-then-not-node_ok g c =
    let lp = c.loop-j in
    let r : 32 * c.args.w + lp.j < room c.args.b.now = omega (arith, c.requires.0.within) in
    (marks_no c.args.b.now c.args.a.now c.args.w lp.j lp.m (omega arith) r lp.invariant.0 c.if-not-node_ok.ensures.0, λ e. absurd (true≢false (sym e)))

pub loop-j-preserved : goal.loop-j-preserved
loop-j-preserved g c =
    let b = c.args.b.now in
    let a = c.args.a.now in
    let w = c.args.w in
    let lp = c.loop-j in
    let I = lp.invariant in
    let r : 32 * w + lp.j < room b = omega (arith, c.requires.0.within) in
    let e : 32 * w + lp.j + 1 ≡ 32 * w + (lp.j + 1) = omega arith in (
      bits_next b a w lp.j lp.m (omega arith) r I.0,
      marks_more b a w lp.j lp.m (omega arith) r I.0 I.1 c.if-not-node_ok.ensures.0,
      subst (Holds a c.node_ok.new.notes) e (c.if-not-node_ok.ensures.1 refl),
    )
