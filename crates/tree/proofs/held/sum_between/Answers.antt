-- Where the paths part, the left side is bounded below alone and the right side above alone; where they do not, no key is between.
use Rattle.tree.proofs.Gathers.{AtNode, left_summable, right_summable, part-sum, none_between}
use Rattle.tree.proofs.held.sum_between.Goals as goal
use Rattle.tree.proofs.held.sum_between.Goals.{After-read-m}

node : (c : After-read-m) → AtNode c.args.b.now c.parting-n.result c.read-m.result
node c = record { summable = c.parting-n.ensures.summable; there = c.if-n-eq0.false; is = c.read-m.ensures }

pub returns-then-n-eq0 : goal.returns-then-n-eq0
returns-then-n-eq0 c = none_between c.parting-n.ensures c.if-n-eq0.true

pub sum_from-requires : goal.sum_from-requires
sum_from-requires c = left_summable (node (goal.at.sum_from-requires c).After-read-m)

pub sum_upto-requires : goal.sum_upto-requires
sum_upto-requires c = right_summable (node (goal.at.sum_upto-requires c).After-read-m)

pub returns : goal.returns
returns c = part-sum (node (goal.at.returns c).After-read-m) c.from.result c.sum_from.result c.sum_upto.result c.parting-n.ensures c.from.ensures c.sum_from.ensures.0 c.sum_upto.ensures.0
