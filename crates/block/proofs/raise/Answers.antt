-- One word is set, and it is a count; where n is 0 there is none.
use mathlib.Core.Path.{ap}
use Prim.Native.Nat.{◌+◌}
use Rattle.model.proofs.block.Words.{raises, raised_none}
use borrow.Author.Rules.{rules}
use Rattle.block.proofs.raise.Goals as goal

pub returns-then-n-ne0 : goal.returns-then-n-ne0
returns-then-n-ne0 c =
    let count = c.node_word-c in
    let set = c.set_word in
    let some = c.if-n-ne0.true in
    raises c.args.b.now set.new.b c.args.n (count.result + 1) c.requires.0 some c.requires.1 (ap (λ y. y + 1) count.ensures) set.ensures

pub returns-else-n-ne0 : goal.returns-else-n-ne0
returns-else-n-ne0 c = (c.requires.0, raised_none c.args.b.now c.args.n (search rules))
