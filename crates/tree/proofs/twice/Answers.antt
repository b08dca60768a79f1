-- The middle node as read is the root of the middle tree, so the three makes are the rule's, in its order.
use Rattle.tree.proofs.Balancing.{Middle, twice-asks, twice_stop, twice_asks_2, twice_stop_2, twice_asks_3, twice_last}
use Rattle.tree.proofs.twice.Goals as goal
use Rattle.tree.proofs.twice.Goals.{After-take_apart-n}

middle : (c : After-take_apart-n)
    → let a = c.args in Middle a.b.now c.take_apart-n.new.b a.key a.value a.left a.middle a.k a.v a.right c.take_apart-n.result
middle c =
    let p = c.requires.0 in
    record { level = record { running = p.0.running; occupied = p.2; is = c.take_apart-n.ensures.0; apart = c.take_apart-n.ensures.1 }; holding = p.0; small = p.4 }

pub make-requires : goal.make-requires
make-requires c = (twice-asks (middle (goal.at.make-requires c).After-take_apart-n), c.take_apart-n.ensures.2)

pub returns-in_err-x : goal.returns-in_err-x
returns-in_err-x c =
    rw c.from_residual.ensures (twice_stop (middle (goal.at.returns-in_err-x c).After-take_apart-n) c.in_err-x.ensures.0, c.make.ensures.1)

pub make-requires-2 : goal.make-requires-2
make-requires-2 c =
    (twice_asks_2 (middle (goal.at.make-requires-2 c).After-take_apart-n) c.in_ok-x.ensures.0, c.make.ensures.1)

pub returns-in_err-y : goal.returns-in_err-y
returns-in_err-y c =
    rw c.from_residual-in_err-y.ensures (twice_stop_2 (middle (goal.at.returns-in_err-y c).After-take_apart-n) c.in_ok-x.ensures.0 c.in_err-y.ensures.0, c.make-2.ensures.1)

pub make-requires-3 : goal.make-requires-3
make-requires-3 c =
    (twice_asks_3 (middle (goal.at.make-requires-3 c).After-take_apart-n) c.in_ok-x.ensures.0 c.in_ok-y.ensures.0, c.make-2.ensures.1)

pub returns : goal.returns
returns c =
    (twice_last (middle (goal.at.returns c).After-take_apart-n) c.in_ok-x.ensures.0 c.in_ok-y.ensures.0 c.make-3.ensures.0, c.make-3.ensures.1)
