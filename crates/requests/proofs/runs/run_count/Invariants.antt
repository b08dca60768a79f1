-- Each turn passes one run, so that the runs passed and those left are all of them.
use Prim.Native.Nat.{◌-◌}
use Rattle.model.specs.Inbox.{count_of}
use Rattle.requests.proofs.Finding.{Counted}
use Rattle.requests.proofs.runs.run_count.Given as goal

abbrev pub invariant-loop-run : goal.invariant-loop-run
invariant-loop-run l = Counted l.x l.i l.n

abbrev pub decreases-loop-run : goal.decreases-loop-run
decreases-loop-run l = count_of l.x - l.i
