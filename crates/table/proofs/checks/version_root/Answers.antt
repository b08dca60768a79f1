-- An admitted block is sound and has the version.
use mathlib.Core.List.{[]}
use Rattle.table.proofs.Admitting.{admission, known_first}
use Rattle.table.proofs.checks.version_root.Goals as goal

pub root-requires : goal.root-requires
root-requires c = let A = admission c.in_ok-admit.was c.admit.ensures in (A.sound.shaped, known_first [] A.versions)

pub returns : goal.returns
returns c = let A = admission c.in_ok-admit.was c.admit.ensures in record { sound = A.sound; known = known_first [] A.versions; is = c.root.ensures }
