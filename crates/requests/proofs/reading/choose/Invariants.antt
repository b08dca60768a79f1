use mathlib.Core.Path.{◌≡◌}
use lib.ListN.{length}
use Rattle.requests.proofs.Choosing.{Chosen}
use Rattle.requests.proofs.reading.choose.Given as goal

-- Each turn chooses what one line asks for, and what is left to choose is asked for by the lines behind it.
abbrev pub invariant-loop-i : goal.invariant-loop-i
invariant-loop-i l = Chosen l.n l.request l.end l.i l.k l.chosen × (length l.chosen ≡ 4096)
