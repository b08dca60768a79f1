-- Union ends because the parts together are smaller than the two trees, whose root is left out; each level is a chain by the root that is taken.
use Rattle.std.proofs.Common.{ℕ}
use Rattle.std.specs.Prelude.{Some}
use Rattle.sets.specs.Words.{word_by}
use Rattle.sets.specs.Numbers.{union_number}
use Rattle.sets.proofs.Chains.{Fed, chain_asks, chain_stop, chain_first, chain_stop_first, chain_second, chain_stop_second, chain_last, chain_done}
use Rattle.sets.proofs.Uniting.{left_empty, right_empty, Taken, low_of, ByRoot, root_chain, parts_asks, parts_fed, root_ends}
use Rattle.sets.proofs.+union.Goals as goal
use Rattle.sets.proofs.+union.Goals.{After-in_order-root, After-take_apart-n, In_ok-new_left, In_ok-new_right}

-- the root that is taken and the other tree
taken : (t : ℕ) (c : After-in_order-root t)
    → let a = c.args in Taken a.b.now a.left a.right c.left_first-first.result c.in_order-root.result.0 c.in_order-root.result.1
taken t c = record { asks = c.requires.0; left_some = c.if-left-eq0.false; right_some = c.if-right-eq0.false; order = c.left_first-first.ensures; root = c.in_order-root.ensures.first; other = c.in_order-root.ensures.second }

-- the level, once that root is taken apart
level : (t : ℕ) (c : After-take_apart-n t)
    → let a = c.args in ByRoot a.b.now c.take_apart-n.new.b (word_by (union_number a.rule)) c.left_first-first.result a.left a.right c.in_order-root.result.0 c.in_order-root.result.1 c.take_apart-n.result
level t c = root_chain c.left_first-first.result _ (taken t c.before.before.before) (c.take_apart-n.ensures.0, c.take_apart-n.ensures.1)

-- the left parts united, and the right ones
left_parts : (t : ℕ) (c : In_ok-new_left t)
    → Fed c.split.new.b c.union.new.b (Some c.in_ok-new_left.new_left) (low_of c.left_first-first.result (word_by (union_number c.args.rule))) c.take_apart-n.result.left c.in_ok-p.p.left
left_parts t c = parts_fed c.left_first-first.result _ _ c.in_order-left_below.ensures.first c.in_order-left_below.ensures.second c.in_ok-new_left.ensures.0

right_parts : (t : ℕ) (c : In_ok-new_right t)
    → Fed c.union.new.b c.union-2.new.b (Some c.in_ok-new_right.new_right) (low_of c.left_first-first.result (word_by (union_number c.args.rule))) c.take_apart-n.result.right c.in_ok-p.p.right
right_parts t c = parts_fed c.left_first-first.result _ _ c.in_order-left_above.ensures.first c.in_order-left_above.ensures.second c.in_ok-new_right.ensures.0

pub returns-then-left-eq0 : goal.returns-then-left-eq0
returns-then-left-eq0 t c = (left_empty _ c.requires.0 c.if-left-eq0.true, c.requires.1)

pub returns-then-right-eq0 : goal.returns-then-right-eq0
returns-then-right-eq0 t c = (right_empty _ c.requires.0 c.if-right-eq0.true, c.requires.1)

pub split-requires : goal.split-requires
split-requires t c = (chain_asks (level t (goal.at.split-requires t c).After-take_apart-n), c.take_apart-n.ensures.2)

pub returns-in_err-p : goal.returns-in_err-p
returns-in_err-p t c =
    let at = goal.at.returns-in_err-p t c in
    rw c.from_residual.ensures (root_ends c.left_first-first.result (taken t at.After-in_order-root) (chain_stop (level t at.After-take_apart-n) c.in_err-p.ensures.0), c.split.ensures.1)

pub union-requires : goal.union-requires
union-requires t c =
    let at = goal.at.union-requires t c in
    let p = parts_asks c.left_first-first.result (taken t at.After-in_order-root) c.in_order-left_below.ensures.first c.in_order-left_below.ensures.second (chain_first (level t at.After-take_apart-n) c.in_ok-p.ensures.0) c.decreases in
    (p.0, (p.1, c.split.ensures.1))

pub returns-in_err-new_left : goal.returns-in_err-new_left
returns-in_err-new_left t c =
    let at = goal.at.returns-in_err-new_left t c in
    let stops = parts_fed c.left_first-first.result _ _ c.in_order-left_below.ensures.first c.in_order-left_below.ensures.second c.in_err-new_left.ensures.0 in
    rw c.from_residual-in_err-new_left.ensures (root_ends c.left_first-first.result (taken t at.After-in_order-root) (chain_stop_first (level t at.After-take_apart-n) c.in_ok-p.ensures.0 stops), c.union.ensures.1)

pub union-requires-2 : goal.union-requires-2
union-requires-2 t c =
    let at = goal.at.union-requires-2 t c in
    let p = parts_asks c.left_first-first.result (taken t at.After-in_order-root) c.in_order-left_above.ensures.first c.in_order-left_above.ensures.second (chain_second (level t at.After-take_apart-n) c.in_ok-p.ensures.0 (left_parts t at.In_ok-new_left)) c.decreases in
    (p.0, (p.1, c.union.ensures.1))

pub returns-in_err-new_right : goal.returns-in_err-new_right
returns-in_err-new_right t c =
    let at = goal.at.returns-in_err-new_right t c in
    let stops = parts_fed c.left_first-first.result _ _ c.in_order-left_above.ensures.first c.in_order-left_above.ensures.second c.in_err-new_right.ensures.0 in
    rw c.from_residual-in_err-new_right.ensures (root_ends c.left_first-first.result (taken t at.After-in_order-root) (chain_stop_second (level t at.After-take_apart-n) c.in_ok-p.ensures.0 (left_parts t at.In_ok-new_left) stops), c.union-2.ensures.1)

pub join-requires : goal.join-requires
join-requires t c =
    let at = goal.at.join-requires t c in
    (chain_last (level t at.After-take_apart-n) c.in_ok-p.ensures.0 (left_parts t at.In_ok-new_left) (right_parts t at.In_ok-new_right), c.union-2.ensures.1)

pub returns : goal.returns
returns t c =
    let at = goal.at.returns t c in
    let done = chain_done (level t at.After-take_apart-n) c.in_ok-p.ensures.0 (left_parts t at.In_ok-new_left) (right_parts t at.In_ok-new_right) (rw (← c.merged-value.ensures) c.join.ensures.0) in
    (root_ends c.left_first-first.result (taken t at.After-in_order-root) done, c.join.ensures.1)
