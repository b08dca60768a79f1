-- The lookup says whether the key is there: an absent one makes nothing.
use mathlib.Core.Path.{◌∙◌, ap}
use mathlib.Core.Bool.{not}
use Rattle.tree.proofs.Told.{removed_absent, removed_present}
use Rattle.tree.proofs.without.Goals as goal

pub returns-then-is_none : goal.returns-then-is_none
returns-then-is_none c = (removed_absent c.args.f c.args.key c.requires.0.0.0.running c.requires.0.0.1 c.requires.0.1 (c.is_none.ensures ∙ ap not c.if-is_none.true), c.requires.1)

pub returns : goal.returns
returns c = (removed_present c.args.f c.args.n c.args.key c.requires.0.1 (c.is_none.ensures ∙ ap not c.if-is_none.false) c.remove.ensures.0, c.remove.ensures.1)
