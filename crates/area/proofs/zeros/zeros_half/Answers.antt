-- The words gathered by `|` are 0 exactly when each of them is.
use Rattle.area.proofs.Gathers.{gathered_more}
use Rattle.area.proofs.zeros.zeros_half.Goals as goal

pub loop-half-preserved : goal.loop-half-preserved
loop-half-preserved c =
    let lp = c.loop-half in
    gathered_more c.args.halves.now lp.half-index lp.any lp.invariant
