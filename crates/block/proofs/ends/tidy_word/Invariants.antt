use Prim.Native.Nat.{◌≤◌}
use Rattle.model.specs.Moves.{Tidied}
use Rattle.block.proofs.ends.tidy_word.Given as goal

-- Before each step all nodes below i have references.
abbrev pub invariant-loop-n : goal.invariant-loop-n
invariant-loop-n l = (1 ≤ l.n) × (l.n ≤ l.end) × Tidied l.initial.b l.b l.n
