-- At each node whose key is within the bound its value and the side wholly within go in by the stored sum, and the way goes on in the other side; else one side is wholly beyond.
use native.Mathlib.Omega.{arith}
use Prim.Native.Nat.{◌+◌}
use Rattle.model.specs.Sums.{from}
use Rattle.tree.proofs.Gathers.{Gather, gather_end, AtNode, from_left, from_right}
use borrow.Author.Rules.{rules}
use Rattle.tree.proofs.held.sum_from.Goals as goal
use Rattle.tree.proofs.held.sum_from.Goals.{After-read-m, After-sum_at}

node : (c : After-read-m) → AtNode c.args.b.now c.loop-n.n c.read-m.result
node c = record { summable = c.loop-n.invariant.summable; there = c.loop-n-test.true; is = c.read-m.ensures }

-- with what this node brings
more : (c : After-sum_at) → AtNode c.args.b.now c.loop-n.n c.read-m.result
    → Gather c.args.b.now (from c.args.first) c.args.root c.read-m.result.left (c.loop-n.sum + (c.from.result + c.sum_at.result))
more c N = from_left N c.args.first c.loop-n.invariant c.from.result c.sum_at.result c.if-m-first.false c.from.ensures (omega (arith, c.from.ensures)) c.sum_at.ensures.0 c.sum_at.ensures.1

pub loop-n-preserved-then-m-first : goal.loop-n-preserved-then-m-first
loop-n-preserved-then-m-first c = from_right (node (goal.at.loop-n-preserved-then-m-first c).After-read-m) c.args.first c.loop-n.invariant c.if-m-first.true

pub loop-n-preserved : goal.loop-n-preserved
loop-n-preserved c = more c (node (goal.at.loop-n-preserved c).After-read-m)

pub returns : goal.returns
returns c = gather_end c.loop-n.invariant (search rules)
