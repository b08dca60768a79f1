use Rattle.inbox.proofs.Sums.{Sum}
use Rattle.inbox.proofs.heard_in.Given as goal

-- After w turns the sum is that of the first w pairs of heard words; it is whole where count is reached by either end.
abbrev pub invariant-loop-w : goal.invariant-loop-w
invariant-loop-w l = Sum l.x l.n l.w
