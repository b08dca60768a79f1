use Rattle.requests.proofs.Finding.{Behind}
use Rattle.requests.proofs.runs.behind.Given as goal

-- Each turn passes one run; where none is left there is none behind more of them either.
abbrev pub invariant-loop-k : goal.invariant-loop-k
invariant-loop-k l = Behind l.x l.i l._k
