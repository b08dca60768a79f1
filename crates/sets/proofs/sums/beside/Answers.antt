-- Each side of the key is on one side of the node's, or not cut off by it.
use Rattle.tree.proofs.Gathers.{AtNode}
use Rattle.sets.proofs.SumTest.{key_less, key_more, key_same}
use Rattle.sets.proofs.sums.beside.Goals as goal
use Rattle.sets.proofs.sums.beside.Goals.{After-read-m}

node : (c : After-read-m) → AtNode c.args.b.now c.args.n c.read-m.result
node c = record { summable = c.requires.0; there = c.requires.1; is = c.read-m.ensures }

pub returns-then-key-m : goal.returns-then-key-m
returns-then-key-m c = key_less (node (goal.at.returns-then-key-m c).After-read-m) c.if-key-m.true

pub returns-then-m-key : goal.returns-then-m-key
returns-then-m-key c = key_more (node (goal.at.returns-then-m-key c).After-read-m) c.if-m-key.true

pub returns : goal.returns
returns c = key_same (node (goal.at.returns c).After-read-m) c.if-key-m.false c.if-m-key.false
