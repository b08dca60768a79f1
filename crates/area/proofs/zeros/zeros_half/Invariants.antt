use Rattle.area.proofs.Gathers.{Gathered}
use Rattle.area.proofs.zeros.zeros_half.Given as goal

-- The words gathered by `|` are 0 exactly when each of them is.
abbrev pub invariant-loop-half : goal.invariant-loop-half
invariant-loop-half l = Gathered l.halves l.half-index l.any
