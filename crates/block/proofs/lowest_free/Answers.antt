-- Words whose nodes are all occupied are passed over; in the first other word the lowest bit that is 0 is the node.
use native.Mathlib.Omega.{arith}
use mathlib.Core.Path.{◌≡◌, sym, ap, ◌∙◌}
use Prim.Native.Nat.{suc, ◌+◌, ◌-◌, ◌*◌, ◌/◌}
use Rattle.model.specs.Block.{room, occupied_at}
use Rattle.std.specs.Prelude.{slice_get}
use Rattle.model.specs.Heap.{free_from}
use Rattle.block.proofs.Free.{over_word, over_run, in_word, none_left}
use Rattle.block.proofs.Low.{low_words}
use Rattle.block.proofs.lowest_free.Goals as goal

pub returns-then-t-lt32 : goal.returns-then-t-lt32
returns-then-t-lt32 c =
    let low = c.args.low in
    let fits = c.type_inv.b (17 + (low - 1) / 32) in
    sym (in_word c.args.b.now ((low - 1) / 32) (omega arith) c.requires.0.whole (omega arith) _ c.first_zero-t.ensures c.if-t-lt32.true) ∙ ap (λ fs. slice_get fs 0) (low_words low c.requires.0 c.requires.1)

pub loop-w-init : goal.loop-w-init
loop-w-init c =
    let ran = c.pass-w.ensures in
    over_run c.args.b.now ((c.args.low - 1) / 32) c.pass-w.result c.requires.0.whole ran.0 ran.1 ran.2 ∙ low_words c.args.low c.requires.0 c.requires.1

pub returns-then-t-lt32-2 : goal.returns-then-t-lt32-2
returns-then-t-lt32-2 c =
    let at = c.loop-w in
    let fits = c.type_inv.b (17 + at.w) in
    sym (in_word c.args.b.now at.w (omega arith) c.requires.0.whole (omega arith) _ c.first_zero-t-in-loop-w.ensures c.if-t-lt32-2.true) ∙ ap (λ fs. slice_get fs 0) at.invariant

pub loop-w-preserved : goal.loop-w-preserved
loop-w-preserved c =
    let at = c.loop-w in
    let fits = c.type_inv.b (17 + at.w) in
    sym (over_word c.args.b.now at.w (omega arith) c.requires.0.whole (omega arith) _ c.first_zero-t-in-loop-w.ensures c.if-t-lt32-2.false) ∙ at.invariant

pub returns : goal.returns
returns c =
    let b = c.args.b.now in
    let at = c.loop-w in
    let none : room b - 32 * at.w ≡ 0 = omega arith in
    sym (none_left (occupied_at b) (suc (32 * at.w))) ∙ ap (λ k. slice_get (free_from (occupied_at b) (suc (32 * at.w)) k) 0) (sym none) ∙ ap (λ fs. slice_get fs 0) at.invariant
