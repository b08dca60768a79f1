-- A root is taken if it is at most n and t has a reference to it left.
use mathlib.Core.Path.{refl, sym, ◌∙◌}
use mathlib.Core.Bool.{true≢false}
use lib.ListN.{set, length-set}
use native.Mathlib.Omega.{arith}
use Rattle.audit.proofs.Roots.{taking_none, taking_more, taking_no, filled, roots_filled}
use Rattle.audit.proofs.whole.roots_ok.Goals as goal

pub loop-v-init : goal.loop-v-init
loop-v-init c =
    let t = c.args.t.now in
    (refl, taking_none c.args.b.now c.args.n (set t 0 16) (filled c.args.b.now c.args.n t (omega arith)))

pub returns-then-not-take : goal.returns-then-not-take
returns-then-not-take c =
    let lp = c.loop-v in
    let t = c.args.t.now in
    (λ R. taking_no c.args.b.now c.args.n (set t 0 16) lp.t lp.v _ lp.invariant.1 refl (omega arith) c.if-not-take.ensures.0 (roots_filled c.args.b.now c.args.n t R), λ e. absurd (true≢false (sym e)))

pub loop-v-preserved : goal.loop-v-preserved
loop-v-preserved c =
    let lp = c.loop-v in
    let I = lp.invariant in
    let t = c.args.t.now in
    let k = c.take in
    (k.auto.t ∙ I.0, taking_more c.args.b.now c.args.n (set t 0 16) lp.t lp.v _ I.1 refl k.new.t (omega arith) (omega (arith, I.0, length-set t 0 16)) c.if-not-take.ensures.0 (c.if-not-take.ensures.1 refl))
