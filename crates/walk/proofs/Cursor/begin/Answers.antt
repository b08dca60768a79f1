-- One place is taken if there is a root, which stands in all of them.
use mathlib.Core.Path.{refl}
use Rattle.walk.proofs.Piles.{begun_pile}
use Rattle.walk.proofs.Cursor.begin.Goals as goal

pub returns : goal.returns
returns c = begun_pile _ c.args.root c.from.result c.from.ensures refl
