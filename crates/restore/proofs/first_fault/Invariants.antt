use mathlib.Core.Path.{◌≡◌}
use Prim.Native.Nat.{◌*◌}
use lib.ListN.{drop}
use Rattle.restore.proofs.Looking.{Looked}
use Rattle.restore.proofs.first_fault.Given as goal

-- Each turn looks at one line; those before it are good, and the least key that it may have is one above the last.
abbrev pub invariant-loop-i : goal.invariant-loop-i
invariant-loop-i l =
    let at = l.i-iterator in
    (goal.iterator-loop-i).can_next at × (goal.iterator-loop-i).is_finite at × (at.iter.size ≡ 17) × (at.iter.rest.now ≡ drop (17 * at.count) l.text) × Looked l.text at.count l.least
