-- At each node the lookup goes on in the side that the key is on. The node's size falls.
use mathlib.Core.Path.{sym}
use Rattle.model.specs.Block.{heap}
use Rattle.model.proofs.block.Lookups.{walked_out}
use Rattle.tree.proofs.Finds.{Step, look_here, look_left, look_right}
use borrow.Author.Rules.{rules}
use Rattle.tree.proofs.find.Goals as goal
use Rattle.tree.proofs.find.Goals.{After-read-node}

step : (c : After-read-node)
    → let a = c.args in Step a.b.now a.root a.key c.loop-n.n c.read-node.result
step c =
    record {
      linked = c.requires.1;
      walk = c.loop-n.invariant;
      there = c.loop-n-test.true;
      is = c.read-node.ensures;
    }

pub returns-then-key-node : goal.returns-then-key-node
returns-then-key-node c = look_here (step (goal.at.returns-then-key-node c).After-read-node) c.if-key-node.true

pub loop-n-preserved-then-key-node-2 : goal.loop-n-preserved-then-key-node-2
loop-n-preserved-then-key-node-2 c = look_left (step (goal.at.loop-n-preserved-then-key-node-2 c).After-read-node) c.if-key-node-2.true

pub loop-n-preserved : goal.loop-n-preserved
loop-n-preserved c = look_right (step (goal.at.loop-n-preserved c).After-read-node) c.if-key-node.false c.if-key-node-2.false

pub returns : goal.returns
returns c =
    let a = c.args in
    sym (walked_out (heap a.b.now) a.root a.key c.loop-n.n c.loop-n.invariant (search rules))
