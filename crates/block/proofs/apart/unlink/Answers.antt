-- One word is set, and it is a count; where n is 0 there is none.
use Rattle.model.proofs.running.Giveups.{owed_occupied}
use Rattle.model.proofs.running.Aparts.{unlinked_lowered, unlinked_none}
use borrow.Author.Rules.{rules}
use Rattle.block.proofs.apart.unlink.Goals as goal

pub lower-requires : goal.lower-requires
lower-requires c =
    let o = owed_occupied c.args.n c.requires.2 c.if-n-ne0.true in
    (c.requires.0, c.requires.1, o.0, o.1)

pub returns-then-n-ne0 : goal.returns-then-n-ne0
returns-then-n-ne0 c = let low = c.lower.ensures in (low.0, unlinked_lowered c.requires.1 low.1)

pub returns-else-n-ne0 : goal.returns-else-n-ne0
returns-else-n-ne0 c = (c.requires.0, unlinked_none c.requires.1 (search rules))
