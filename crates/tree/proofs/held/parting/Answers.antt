-- Keys below first and above last are passed by, with all that is on their far side; the first node that is neither is where the paths part.
use Rattle.tree.proofs.Gathers.{AtNode, part_left, part_right, part_here, part_none}
use borrow.Author.Rules.{rules}
use Rattle.tree.proofs.held.parting.Goals as goal
use Rattle.tree.proofs.held.parting.Goals.{After-read-m}

node : (c : After-read-m) → AtNode c.args.b.now c.loop-n.n c.read-m.result
node c = record { summable = c.loop-n.invariant.summable; there = c.loop-n-test.true; is = c.read-m.ensures }

pub loop-n-preserved-then-m-first : goal.loop-n-preserved-then-m-first
loop-n-preserved-then-m-first c = part_right (node (goal.at.loop-n-preserved-then-m-first c).After-read-m) c.loop-n.invariant c.if-m-first.true

pub returns-then-m-last : goal.returns-then-m-last
returns-then-m-last c = part_here (node (goal.at.returns-then-m-last c).After-read-m) c.loop-n.invariant c.if-m-first.false c.if-m-last.true

pub loop-n-preserved : goal.loop-n-preserved
loop-n-preserved c = part_left (node (goal.at.loop-n-preserved c).After-read-m) c.loop-n.invariant c.if-m-last.false

pub returns : goal.returns
returns c = part_none c.loop-n.invariant (search rules)
