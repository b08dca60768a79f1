use Prim.Native.Nat.{◌-◌}
use Rattle.frame.proofs.Reading.{Reads}
use Rattle.frame.proofs.read_hex.Given as goal

-- Each turn takes one digit into the number, and the digits left, behind it, still say what the whole field says.
abbrev pub invariant-loop-i : goal.invariant-loop-i
invariant-loop-i l = Reads l.line l.at l.k l.n (l.i - l.at)
