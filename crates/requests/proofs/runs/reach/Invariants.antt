use Rattle.requests.proofs.Finding.{Passed}
use Rattle.requests.proofs.runs.reach.Given as goal

-- Each turn passes an index that is as `is` says, so that the first which is not is the answer.
abbrev pub invariant-loop-i : goal.invariant-loop-i
invariant-loop-i l = Passed l.x l.from l.end l.is l.i
