-- Each kind of walk has its own test of a row.
use mathlib.Core.Path.{◌∙◌}
use Rattle.walk.proofs.Cases.{changed_row}
use Rattle.walk.proofs.Yield.is_wanted.Goals as goal

pub returns-in-Puts : goal.returns-in-Puts
returns-in-Puts c = rw c.in-Puts.is (c.ne.ensures ∙ changed_row c.args.self)
