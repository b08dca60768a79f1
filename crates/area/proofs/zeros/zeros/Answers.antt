-- The words gathered by `|` are 0 exactly when each of them is.
use Rattle.area.proofs.Gathers.{gathered_more}
use Rattle.area.proofs.zeros.zeros.Goals as goal

pub loop-word-preserved : goal.loop-word-preserved
loop-word-preserved c =
    let lp = c.loop-word in
    gathered_more c.args.words.now lp.word-index lp.any lp.invariant
