use Rattle.block.specs.Low.{Low}
use Rattle.batch.proofs.Going.{Going}
use Rattle.batch.proofs.run.Given as goal

-- After i records the call holds the tree that they made, and what the others do from there the whole batch does from its start.
abbrev pub invariant-loop-i : goal.invariant-loop-i
invariant-loop-i l = Going l.initial.b l.b l.start l.top l.words l.n l.i × Low l.b l.low
