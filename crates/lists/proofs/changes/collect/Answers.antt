-- The first walk leaves the puts at the front, the second the removes behind them, and a delta that is at most N long fits.
use native.Mathlib.Omega.{arith}
use mathlib.Core.Path.{refl}
use Prim.Native.Nat.{◌*◌}
use Rattle.std.proofs.lemmas.Result.{err_from_is_err_and}
use Rattle.lists.proofs.Collecting.{First, Second, first_walk, second_walk, first_deep, first_few, first_long, second_deep, collected}
use Rattle.lists.proofs.changes.collect.Goals as goal
use Rattle.lists.proofs.changes.collect.Goals.{After-walk, After-walk-2}

first : (c : After-walk)
    → let s = c.args in First s.b.now s.from s.to s.words.now c.walk.new.out c.walk.result
first c = first_walk c.root-x.ensures c.root-y.ensures c.requires c.walk.ensures.value c.walk.ensures.out_after

second : (c : After-walk-2)
    → let s = c.args in Second s.b.now s.from s.to (2 * c.in_ok-puts.puts) c.walk.new.out c.walk-2.new.out c.walk-2.result
second c = second_walk c.root-x.ensures c.root-y.ensures c.walk-2.ensures.value c.walk-2.ensures.out_after

pub returns-in_err-puts : goal.returns-in_err-puts
returns-in_err-puts c =
    let p = err_from_is_err_and c.from_residual.result c.from_residual.ensures.1 in
    rw (p.1, p.2) (first_deep (first (goal.at.returns-in_err-puts c).After-walk) c.in_err-puts.was)

pub slice_bounds-walk-count : goal.slice_bounds-walk-count
slice_bounds-walk-count c =
    let F = first (goal.at.slice_bounds-walk-count c).After-walk in
    let e = c.in_ok-puts.was in
    omega (arith, first_few F e, first_long F e)

pub slice_bounds-walk-start : goal.slice_bounds-walk-start
slice_bounds-walk-start c =
    let F = first (goal.at.slice_bounds-walk-start c).After-walk in
    let e = c.in_ok-puts.was in
    omega (arith, first_few F e, first_long F e)

pub returns-in_err-removes : goal.returns-in_err-removes
returns-in_err-removes c =
    let p = err_from_is_err_and c.from_residual-in_err-removes.result c.from_residual-in_err-removes.ensures.1 in
    let F = first (goal.at.returns-in_err-removes c).After-walk in
    rw (p.1, p.2) (second_deep F c.in_ok-puts.was (second (goal.at.returns-in_err-removes c).After-walk-2) c.in_err-removes.was)

pub overflow_add-result : goal.overflow_add-result
overflow_add-result c =
    omega (arith, (collected (first (goal.at.overflow_add-result c).After-walk) c.in_ok-puts.was (second (goal.at.overflow_add-result c).After-walk-2) _ c.in_ok-removes.was refl).2)

pub returns : goal.returns
returns c = collected (first (goal.at.returns c).After-walk) c.in_ok-puts.was (second (goal.at.returns c).After-walk-2) _ c.in_ok-removes.was refl
