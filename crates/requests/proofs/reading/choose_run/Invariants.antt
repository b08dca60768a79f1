use Rattle.requests.proofs.Choices.{Written}
use Rattle.requests.proofs.reading.choose_run.Given as goal

-- Each turn writes one index behind those before it.
abbrev pub invariant-loop-i : goal.invariant-loop-i
invariant-loop-i l = Written l.k l.first l.end l.initial.chosen l.chosen l.i l.n
