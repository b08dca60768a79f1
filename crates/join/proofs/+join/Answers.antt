-- Join ends because a child is smaller than its node; each level is one of those in Joining.
use native.Mathlib.Omega.{arith}
use Prim.Native.Nat.{ℕ}
use Rattle.model.specs.Block.{heap}
use Rattle.join.proofs.Joining.{Larger, even, right_asks, right_spine, right_next, left_asks, left_spine, left_next}
use Rattle.block.proofs.Levels.{sized_occupied, above_stop, above_last, above_last_right}
use Rattle.tree.proofs.Balancing.{swapped}
use Rattle.join.proofs.+join.Goals as goal
use Rattle.join.proofs.+join.Goals.{After-take_apart-l, After-take_apart-r}

-- a level, once its larger side is read
right : (t : ℕ) (c : After-take_apart-r t)
    → let a = c.args in Larger a.b.now c.take_apart-r.new.b a.right a.left c.take_apart-r.result
right t c =
    let p = c.requires.0 in
    record {
      level = record { running = p.0.running; occupied = sized_occupied (heap c.args.b.now) c.args.right p.2 (omega (arith, c.if-right_size-left_size.true, c.size_at-right_size.ensures)); is = c.take_apart-r.ensures.0; apart = c.take_apart-r.ensures.1 };
      holding = swapped p.0;
      small = omega (arith, p.3);
      over = omega (arith, c.if-right_size-left_size.true, c.size_at-left_size.ensures, c.size_at-right_size.ensures);
    }

left : (t : ℕ) (c : After-take_apart-l t)
    → let a = c.args in Larger a.b.now c.take_apart-l.new.b a.left a.right c.take_apart-l.result
left t c =
    let p = c.requires.0 in
    record {
      level = record { running = p.0.running; occupied = sized_occupied (heap c.args.b.now) c.args.left p.1 (omega (arith, c.if-left_size-right_size.true, c.size_at-left_size.ensures)); is = c.take_apart-l.ensures.0; apart = c.take_apart-l.ensures.1 };
      holding = p.0;
      small = p.3;
      over = omega (arith, c.if-left_size-right_size.true, c.size_at-left_size.ensures, c.size_at-right_size.ensures);
    }

pub join-requires : goal.join-requires
join-requires t c = let p = right_asks (right t (goal.at.join-requires t c).After-take_apart-r) c.decreases in (p.0, (p.1, c.take_apart-r.ensures.2))

pub returns-in_err-new_left : goal.returns-in_err-new_left
returns-in_err-new_left t c = rw c.from_residual.ensures (above_stop (right_spine (right t (goal.at.returns-in_err-new_left t c).After-take_apart-r) _ _) c.in_err-new_left.ensures.0, c.join.ensures.1)

pub balanced-requires : goal.balanced-requires
balanced-requires t c = (right_next (right t (goal.at.balanced-requires t c).After-take_apart-r) _ _ c.in_ok-new_left.ensures.0, c.join.ensures.1)

pub returns-then-right_size-left_size : goal.returns-then-right_size-left_size
returns-then-right_size-left_size t c = (above_last (right_spine (right t (goal.at.returns-then-right_size-left_size t c).After-take_apart-r) _ _) c.in_ok-new_left.ensures.0 c.balanced.ensures.0, c.balanced.ensures.1)

pub join-requires-then-left_size-right_size : goal.join-requires-then-left_size-right_size
join-requires-then-left_size-right_size t c = let p = left_asks (left t (goal.at.join-requires-then-left_size-right_size t c).After-take_apart-l) c.decreases in (p.0, (p.1, c.take_apart-l.ensures.2))

pub returns-in_err-new_right : goal.returns-in_err-new_right
returns-in_err-new_right t c = rw c.from_residual-in_err-new_right.ensures (above_stop (left_spine (left t (goal.at.returns-in_err-new_right t c).After-take_apart-l) _ _) c.in_err-new_right.ensures.0, c.join-then-left_size-right_size.ensures.1)

pub balanced-requires-then-left_size-right_size : goal.balanced-requires-then-left_size-right_size
balanced-requires-then-left_size-right_size t c = (left_next (left t (goal.at.balanced-requires-then-left_size-right_size t c).After-take_apart-l) _ _ c.in_ok-new_right.ensures.0, c.join-then-left_size-right_size.ensures.1)

pub returns-then-left_size-right_size : goal.returns-then-left_size-right_size
returns-then-left_size-right_size t c = (above_last_right (left_spine (left t (goal.at.returns-then-left_size-right_size t c).After-take_apart-l) _ _) c.in_ok-new_right.ensures.0 c.balanced-then-left_size-right_size.ensures.0, c.balanced-then-left_size-right_size.ensures.1)

pub returns : goal.returns
returns t c = let a = c.args in
    (even a.key a.value a.left a.right c.requires.0 (omega (arith, c.if-right_size-left_size.false, c.size_at-left_size.ensures, c.size_at-right_size.ensures)) (omega (arith, c.if-left_size-right_size.false, c.size_at-left_size.ensures, c.size_at-right_size.ensures)) c.balanced-2.ensures.0, c.balanced-2.ensures.1)
