-- The weights compared are those of the right child's sides, and each case makes what the rule makes there.
use native.Mathlib.Omega.{arith}
use Rattle.block.proofs.Levels.{Level, above_stop, above_last}
use Rattle.tree.proofs.Balancing.{swapped, Heavy, left_asks, left_asks_2, left_once, left_inner, left_twice}
use Rattle.tree.proofs.rotate_left.Goals as goal
use Rattle.tree.proofs.rotate_left.Goals.{After-size_at-right_weight, After-take_apart-n}

level : (c : After-take_apart-n)
    → let a = c.args in Level a.b.now c.take_apart-n.new.b a.right c.take_apart-n.result
level c =
    let p = c.requires.0 in
    record { running = p.0.0.running; occupied = p.1; is = c.take_apart-n.ensures.0; apart = c.take_apart-n.ensures.1 }

heavy : (c : After-size_at-right_weight)
    → let a = c.args in Heavy a.b.now c.take_apart-n.new.b a.key a.value a.right a.left c.take_apart-n.result c.size_at-left_weight.result c.size_at-right_weight.result
heavy c =
    let p = c.requires.0 in
    record {
      level = level c.before.before.before.before;
      holding = swapped p.0.0;
      small = omega (arith, p.0.3);
      left = c.size_at-left_weight.ensures;
      right = c.size_at-right_weight.ensures;
    }

pub make-requires : goal.make-requires
make-requires c = (left_asks (heavy (goal.at.make-requires c).After-size_at-right_weight), c.take_apart-n.ensures.2)

pub returns-in_err-x : goal.returns-in_err-x
returns-in_err-x c =
    rw c.from_residual.ensures (above_stop (left_once (heavy (goal.at.returns-in_err-x c).After-size_at-right_weight) (omega (arith, c.if-left_weight-right_weight.true))) c.in_err-x.ensures.0, c.make.ensures.1)

pub make-requires-then-left_weight-right_weight : goal.make-requires-then-left_weight-right_weight
make-requires-then-left_weight-right_weight c =
    (left_asks_2 (heavy (goal.at.make-requires-then-left_weight-right_weight c).After-size_at-right_weight) c.in_ok-x.ensures.0, c.make.ensures.1)

pub returns-then-left_weight-right_weight : goal.returns-then-left_weight-right_weight
returns-then-left_weight-right_weight c =
    (above_last (left_once (heavy (goal.at.returns-then-left_weight-right_weight c).After-size_at-right_weight) (omega (arith, c.if-left_weight-right_weight.true))) c.in_ok-x.ensures.0 c.make-then-left_weight-right_weight.ensures.0, c.make-then-left_weight-right_weight.ensures.1)

pub twice-requires : goal.twice-requires
twice-requires c = (left_inner (heavy (goal.at.twice-requires c).After-size_at-right_weight) (omega (arith, c.if-left_weight-right_weight.false)), c.take_apart-n.ensures.2)

pub returns : goal.returns
returns c =
    (left_twice (heavy (goal.at.returns c).After-size_at-right_weight) (omega (arith, c.if-left_weight-right_weight.false)) c.twice.ensures.0, c.twice.ensures.1)
