-- The library puts the first byte highest too.
use mathlib.Core.Path.{◌∙◌}
use Rattle.frame.proofs.Decoding.{high_eight}
use Rattle.frame.proofs.word.bytes_at.Goals as goal

pub returns : goal.returns
returns c = c.from_be_bytes.ensures ∙ high_eight _ c.args.at c.requires
