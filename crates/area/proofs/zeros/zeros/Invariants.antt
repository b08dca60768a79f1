use Rattle.area.proofs.Gathers.{Gathered}
use Rattle.area.proofs.zeros.zeros.Given as goal

-- The words gathered by `|` are 0 exactly when each of them is.
abbrev pub invariant-loop-word : goal.invariant-loop-word
invariant-loop-word l = Gathered l.words l.word-index l.any
