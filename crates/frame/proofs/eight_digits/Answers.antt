-- The two halves hold the digits at even and at odd places, and the sums turn all eight into their bytes.
use mathlib.Core.Path.{◌∙◌}
use Rattle.frame.proofs.Eights.{eight}
use Rattle.frame.proofs.eight_digits.Goals as goal

pub returns : goal.returns
returns c = c.texts.ensures ∙ eight c.args.x
