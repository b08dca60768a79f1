-- The sizes read are those of the two trees, so the tests choose the rule's case.
use native.Mathlib.Omega.{arith}
use Rattle.tree.proofs.Balancing.{Sides, heavy_left, heavy_right, plain_low, turn_left, turn_right, plain_even}
use Rattle.tree.proofs.balanced.Goals as goal
use Rattle.tree.proofs.balanced.Goals.{After-size_at-right_size}

sides : (c : After-size_at-right_size)
    → let a = c.args in Sides a.b.now a.key a.value a.left a.right c.size_at-left_size.result c.size_at-right_size.result
sides c =
    record { asks = c.requires.0; left = c.size_at-left_size.ensures; right = c.size_at-right_size.ensures }

pub returns-then-left_size-right_size-lt2 : goal.returns-then-left_size-right_size-lt2
returns-then-left_size-right_size-lt2 c =
    (plain_low (sides (goal.at.returns-then-left_size-right_size-lt2 c).After-size_at-right_size) c.if-left_size-right_size-lt2.true c.make.ensures.0, c.make.ensures.1)

pub rotate_left-requires : goal.rotate_left-requires
rotate_left-requires c = (heavy_right (sides (goal.at.rotate_left-requires c).After-size_at-right_size) (omega (arith, c.if-right_weight-left_weight.true)), c.requires.1)

pub returns-then-right_weight-left_weight : goal.returns-then-right_weight-left_weight
returns-then-right_weight-left_weight c =
    (turn_left (sides (goal.at.returns-then-right_weight-left_weight c).After-size_at-right_size) c.if-left_size-right_size-lt2.false (omega (arith, c.if-right_weight-left_weight.true)) c.rotate_left.ensures.0, c.rotate_left.ensures.1)

pub rotate_right-requires : goal.rotate_right-requires
rotate_right-requires c = (heavy_left (sides (goal.at.rotate_right-requires c).After-size_at-right_size) (omega (arith, c.if-left_weight-right_weight.true)), c.requires.1)

pub returns-then-left_weight-right_weight : goal.returns-then-left_weight-right_weight
returns-then-left_weight-right_weight c =
    (turn_right (sides (goal.at.returns-then-left_weight-right_weight c).After-size_at-right_size) c.if-left_size-right_size-lt2.false (omega (arith, c.if-right_weight-left_weight.false)) (omega (arith, c.if-left_weight-right_weight.true)) c.rotate_right.ensures.0, c.rotate_right.ensures.1)

pub returns : goal.returns
returns c =
    (plain_even (sides (goal.at.returns c).After-size_at-right_size) c.if-left_size-right_size-lt2.false (omega (arith, c.if-right_weight-left_weight.false)) (omega (arith, c.if-left_weight-right_weight.false)) c.make-2.ensures.0, c.make-2.ensures.1)
