-- Each turn writes the next line behind those written, until the room or the lines are used up.
use native.Mathlib.Omega.{arith}
use mathlib.Core.Path.{refl, ap, sym, ◌∙◌}
use mathlib.Core.List.{[]}
use Prim.Native.Nat.{◌+◌, ◌<◌}
use lib.ListN.{length-map}
use Rattle.model.specs.Frame.{line, nothing}
use Rattle.model.proofs.link.Lines.{line-length}
use Rattle.model.proofs.listing.Cutting.{map_at, wide_map}
use Rattle.lists.proofs.Laying.{laid_none, laid_next}
use Rattle.lists.proofs.lines.write_lines.Goals as goal

pub loop-i-init : goal.loop-i-init
loop-i-init g c = λ fs G. laid_none (wide_map 35 line line-length fs) (rw (length-map fs line, G.0) c.shown-k.ensures)

pub loop-i-preserved : goal.loop-i-preserved
loop-i-preserved g c = λ fs G.
    let n = c.args.start + c.loop-i.i in
    let here : n < c.args.total = omega (arith, c.shown-k.ensures) in
    let is = ap line (G.1 n c.frame.result here c.frame.ensures) ∙ sym (map_at line fs n (nothing 0) [] (omega (arith, G.0))) in
    laid_next (c.loop-i.invariant fs G) _ _ refl (omega arith) is c.write.ensures
