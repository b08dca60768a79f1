use mathlib.Core.Path.{◌≡◌}
use lib.ListN.{length}
use Rattle.audit.proofs.Roots.{Taking}
use Rattle.audit.proofs.whole.roots_ok.Given as goal

-- A root is taken if it is at most n and t has a reference to it left.
abbrev pub invariant-loop-v : goal.invariant-loop-v
invariant-loop-v l = (length l.t ≡ length l.initial.t) × Taking l.b l.n l.initial.t l.t l.v
