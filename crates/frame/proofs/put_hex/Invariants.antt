use Rattle.frame.proofs.Writing.{Halves}
use Rattle.frame.proofs.put_hex.Given as goal

-- Each turn writes the low digit of what is left of x in front of those written, until all k stand there.
abbrev pub invariant-loop-j : goal.invariant-loop-j
invariant-loop-j l = Halves l.initial.out l.out l.at l.k l.x l.j l.low l.high
