use mathlib.Core.Path.{◌≡◌}
use Rattle.model.specs.Request.{cutting, all_fields, ascend}
use Rattle.requests.specs.Reading.{holds}
use Rattle.requests.proofs.Cutting.{lines_from}
use Rattle.requests.proofs.reading.ascending.Given as goal

-- Each turn passes a line that asks from `least` on, and what is left to say is said by the lines behind it, from its last index on.
abbrev pub invariant-loop-i : goal.invariant-loop-i
invariant-loop-i l = holds (ascend l.n l.i l.least) (lines_from l.n l.request l.i) ≡ holds (ascend l.n 0 0) (all_fields (cutting l.n l.request))
