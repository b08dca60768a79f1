-- Word 0 is n, and the fill makes every other word 0.
use mathlib.Core.Path.{refl}
use Rattle.model.specs.Calls.{passes}
use Rattle.audit.proofs.FreshWords.{filled}
use Rattle.audit.proofs.fresh.Goals as goal

pub returns : goal.returns
returns c =
    let F = c.if-not-fits.ensures in
    passes F (refl, filled c.args.b.now c.fill.new.self c.args.n F (c.fill.ensures.after (λ y e. e)))
