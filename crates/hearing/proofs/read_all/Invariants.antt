-- The reads so far have fed some bytes.
use Rattle.hearing.specs.Lines.{state, FedSome}
use Rattle.hearing.proofs.read_all.Given as goal

abbrev pub invariant-loop : goal.invariant-loop
invariant-loop g l = FedSome (state l.fn.b l.fn.x l.initial.progress) (state l.b l.x l.progress)
