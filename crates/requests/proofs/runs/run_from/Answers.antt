-- The search for a missing index, and from there the search for a heard one, end at the run's two ends.
use Rattle.requests.proofs.Finding.{runs_none, runs_some}
use Rattle.requests.proofs.runs.run_from.Goals as goal

pub returns-then-first-count : goal.returns-then-first-count
returns-then-first-count c = runs_none c.reach-first.ensures c.if-first-count.true

pub returns : goal.returns
returns c = runs_some c.reach-first.ensures c.if-first-count.false c.reach-after.ensures
