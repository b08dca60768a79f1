use mathlib.Core.Path.{◌≡◌}
use Rattle.model.specs.Request.{cutting, all_fields, all_of}
use Rattle.requests.specs.Reading.{holds}
use Rattle.requests.proofs.Cutting.{lines_from}
use Rattle.requests.proofs.reading.of_batch.Given as goal

-- Each turn passes a line of the batch, and what is left to say is said by the lines behind it.
abbrev pub invariant-loop-i : goal.invariant-loop-i
invariant-loop-i l = holds (all_of l.batch) (lines_from l.n l.request l.i) ≡ holds (all_of l.batch) (all_fields (cutting l.n l.request))
