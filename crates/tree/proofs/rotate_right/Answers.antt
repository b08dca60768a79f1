-- The weights compared are those of the left child's sides, and each case makes what the rule makes there.
use native.Mathlib.Omega.{arith}
use Rattle.block.proofs.Levels.{Level, above_stop, above_last_right}
use Rattle.tree.proofs.Balancing.{Heavy, right_asks, right_asks_2, right_once, right_inner, right_twice}
use Rattle.tree.proofs.rotate_right.Goals as goal
use Rattle.tree.proofs.rotate_right.Goals.{After-size_at-right_weight, After-take_apart-n}

level : (c : After-take_apart-n)
    → let a = c.args in Level a.b.now c.take_apart-n.new.b a.left c.take_apart-n.result
level c =
    let p = c.requires.0 in
    record { running = p.0.0.running; occupied = p.1; is = c.take_apart-n.ensures.0; apart = c.take_apart-n.ensures.1 }

heavy : (c : After-size_at-right_weight)
    → let a = c.args in Heavy a.b.now c.take_apart-n.new.b a.key a.value a.left a.right c.take_apart-n.result c.size_at-left_weight.result c.size_at-right_weight.result
heavy c =
    let p = c.requires.0 in
    record {
      level = level c.before.before.before.before;
      holding = p.0.0;
      small = omega (arith, p.0.3);
      left = c.size_at-left_weight.ensures;
      right = c.size_at-right_weight.ensures;
    }

pub make-requires : goal.make-requires
make-requires c = (right_asks (heavy (goal.at.make-requires c).After-size_at-right_weight), c.take_apart-n.ensures.2)

pub returns-in_err-x : goal.returns-in_err-x
returns-in_err-x c =
    rw c.from_residual.ensures (above_stop (right_once (heavy (goal.at.returns-in_err-x c).After-size_at-right_weight) (omega (arith, c.if-right_weight-left_weight.true))) c.in_err-x.ensures.0, c.make.ensures.1)

pub make-requires-then-right_weight-left_weight : goal.make-requires-then-right_weight-left_weight
make-requires-then-right_weight-left_weight c =
    (right_asks_2 (heavy (goal.at.make-requires-then-right_weight-left_weight c).After-size_at-right_weight) c.in_ok-x.ensures.0, c.make.ensures.1)

pub returns-then-right_weight-left_weight : goal.returns-then-right_weight-left_weight
returns-then-right_weight-left_weight c =
    (above_last_right (right_once (heavy (goal.at.returns-then-right_weight-left_weight c).After-size_at-right_weight) (omega (arith, c.if-right_weight-left_weight.true))) c.in_ok-x.ensures.0 c.make-then-right_weight-left_weight.ensures.0, c.make-then-right_weight-left_weight.ensures.1)

pub twice-requires : goal.twice-requires
twice-requires c = (right_inner (heavy (goal.at.twice-requires c).After-size_at-right_weight) (omega (arith, c.if-right_weight-left_weight.false)), c.take_apart-n.ensures.2)

pub returns : goal.returns
returns c =
    (right_twice (heavy (goal.at.returns c).After-size_at-right_weight) (omega (arith, c.if-right_weight-left_weight.false)) c.twice.ensures.0, c.twice.ensures.1)
