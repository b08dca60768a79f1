-- Words one after another, as `written` has them.
use mathlib.Core.Path.{refl}
use Rattle.block.specs.Words.{written}
use Rattle.block.proofs.words.write.Goals as goal

pub returns : goal.returns
unfolding written
returns c = rw c.node_at-k.ensures.0 refl
