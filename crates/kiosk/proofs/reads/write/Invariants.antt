use Rattle.kiosk.proofs.Writing.{Written}
use Rattle.kiosk.proofs.reads.write.Given as goal

-- Each turn puts the next entry behind those written.
abbrev pub invariant-loop-j : goal.invariant-loop-j
invariant-loop-j l = Written l.k l.start l.n l.initial.out l.out l.j
