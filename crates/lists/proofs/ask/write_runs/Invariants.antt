use Rattle.lists.proofs.Asking.{Asking}
use Rattle.lists.proofs.ask.write_runs.Given as goal

-- Each turn writes the line of the next run behind those written, until the room or the runs are used up.
abbrev pub invariant-loop-i : goal.invariant-loop-i
invariant-loop-i l = Asking l.x l.count l.start l.k l.initial.out l.out l.at l.i
