-- The arrays are zeros, and long enough.
use borrow.Author.Rules.{rules}
use Rattle.area.proofs.Noting.{noted_none}
use Rattle.model.proofs.block.FreshBlock.{zeros_at}
use Rattle.audit.proofs.whole.passes_ok.Goals as goal

pub begun_ok-requires : goal.begun_ok-requires
begun_ok-requires g c =
    let z = zeros_at g.row.N in
    (search rules, (c.requires.0, c.requires.1, noted_none c.args.a.now _ _ _ _ z z z z))
