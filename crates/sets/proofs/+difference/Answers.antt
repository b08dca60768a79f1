-- Difference ends because a child is smaller than its node; each level is a chain by the left root.
use Rattle.std.proofs.Common.{ℕ, eq-eqb, ne_eqb}
use Rattle.model.specs.Rules.{diff_by}
use Rattle.sets.specs.Numbers.{difference_number}
use Rattle.sets.proofs.Chains.{rooted, chain_asks, chain_stop, chain_first, chain_stop_first, chain_second, chain_stop_second, chain_last, chain_done}
use Rattle.sets.proofs.Differing.{settled, left_falls, no_left, no_right, cancelled, ByRoot, root_chain, not_cancelling, not_shared}
use Rattle.sets.proofs.+difference.Goals as goal
use Rattle.sets.proofs.+difference.Goals.{After-take_apart-l, else-cancel-via-then-cancel+else-left-right, else-cancel-via-else-cancel}

-- the premises of a level, once the root is read and is not cancelled
root-at : (t : ℕ) (c : After-take_apart-l t)
    → let a = c.args in ByRoot (diff_by (difference_number a.rule)) a.cancel a.b.now c.take_apart-l.new.b a.left a.right c.take_apart-l.result
root-at t c =
    root_chain _ _ (rooted c.requires.0 c.if-left-eq0.false c.if-right-eq0.false (c.take_apart-l.ensures.0, c.take_apart-l.ensures.1)) (elim c.else-cancel.branch [ else-cancel-via-then-cancel+else-left-right w ↦ not_shared c.args.cancel c.args.left c.args.right (ne_eqb c.args.left c.args.right w.if-left-right.false) | else-cancel-via-else-cancel w ↦ not_cancelling c.args.cancel c.args.left c.args.right w.if-cancel.false ])

pub returns-then-left-right : goal.returns-then-left-right
returns-then-left-right t c = (cancelled _ _ _ _ _ c.requires.0 c.if-left-eq0.false c.if-right-eq0.false c.if-cancel.true (eq-eqb c.args.left c.args.right c.if-left-right.true), c.requires.1)

pub returns-then-left-eq0 : goal.returns-then-left-eq0
returns-then-left-eq0 t c = (no_left _ _ _ _ _ c.requires.0 c.if-left-eq0.true, c.requires.1)

pub returns-then-right-eq0 : goal.returns-then-right-eq0
returns-then-right-eq0 t c = (no_right _ _ _ _ _ c.requires.0 c.if-right-eq0.true, c.requires.1)

pub split-requires : goal.split-requires
split-requires t c = (chain_asks (root-at t (goal.at.split-requires t c).After-take_apart-l), c.take_apart-l.ensures.2)

pub returns-in_err-r : goal.returns-in_err-r
returns-in_err-r t c = rw c.from_residual.ensures (settled _ (chain_stop (root-at t (goal.at.returns-in_err-r t c).After-take_apart-l) c.in_err-r.ensures.0), c.split.ensures.1)

pub difference-requires : goal.difference-requires
difference-requires t c =
    let p = left_falls (chain_first (root-at t (goal.at.difference-requires t c).After-take_apart-l) c.in_ok-r.ensures.0) c.decreases in (p.0, (p.1, c.split.ensures.1))

pub returns-in_err-new_left : goal.returns-in_err-new_left
returns-in_err-new_left t c =
    rw c.from_residual-in_err-new_left.ensures (settled _ (chain_stop_first (root-at t (goal.at.returns-in_err-new_left t c).After-take_apart-l) c.in_ok-r.ensures.0 (λ n lt. c.in_err-new_left.ensures.0)), c.difference.ensures.1)

pub difference-requires-2 : goal.difference-requires-2
difference-requires-2 t c =
    let p = left_falls (chain_second (root-at t (goal.at.difference-requires-2 t c).After-take_apart-l) c.in_ok-r.ensures.0 (λ n lt. c.in_ok-new_left.ensures.0)) c.decreases in (p.0, (p.1, c.difference.ensures.1))

pub returns-in_err-new_right : goal.returns-in_err-new_right
returns-in_err-new_right t c =
    rw c.from_residual-in_err-new_right.ensures (settled _ (chain_stop_second (root-at t (goal.at.returns-in_err-new_right t c).After-take_apart-l) c.in_ok-r.ensures.0 (λ n lt. c.in_ok-new_left.ensures.0) (λ n lt. c.in_err-new_right.ensures.0)), c.difference-2.ensures.1)

pub rest-requires : goal.rest-requires
rest-requires t c =
    (chain_last (root-at t (goal.at.rest-requires t c).After-take_apart-l) c.in_ok-r.ensures.0 (λ n lt. c.in_ok-new_left.ensures.0) (λ n lt. c.in_ok-new_right.ensures.0), c.difference-2.ensures.1)

pub returns : goal.returns
returns t c =
    (settled _ (chain_done (root-at t (goal.at.returns t c).After-take_apart-l) c.in_ok-r.ensures.0 (λ n lt. c.in_ok-new_left.ensures.0) (λ n lt. c.in_ok-new_right.ensures.0) (rw (← c.kept-stays.ensures) c.rest.ensures.0)), c.rest.ensures.1)
