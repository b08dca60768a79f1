-- Split ends because a child is smaller than its node; each level is one of those in Splitting.
use Prim.Native.Nat.{ℕ}
use Rattle.model.specs.Block.{heap}
use Rattle.model.proofs.block.Lookups.{link_occupied}
use Rattle.join.proofs.Splitting.{split_none, Opened, here, left_asks, left_parting, left_next, left_stop, left_done, right_asks, right_parting, right_next, right_stop, right_done, parting_stop}
use Rattle.join.proofs.+split.Goals as goal
use Rattle.join.proofs.+split.Goals.{After-take_apart-node}

-- the premises of a level, once the node is read
opened : (t : ℕ) (c : After-take_apart-node t)
    → let a = c.args in Opened a.b.now c.take_apart-node.new.b a.n c.take_apart-node.result
opened t c =
    let p = c.requires.0 in
    record { level = record { running = p.0.running; occupied = link_occupied (heap c.args.b.now) c.args.n p.1 c.if-n-eq0.false; is = c.take_apart-node.ensures.0; apart = c.take_apart-node.ensures.1 }; holding = p.0; small = p.2 }

pub returns-then-n-eq0 : goal.returns-then-n-eq0
returns-then-n-eq0 t c = (split_none _ _ _ c.if-n-eq0.true c.requires.0.0.running, c.requires.1)

pub returns-then-key-node : goal.returns-then-key-node
returns-then-key-node t c = (here (opened t (goal.at.returns-then-key-node t c).After-take_apart-node) _ c.if-key-node.true, c.take_apart-node.ensures.2)

pub split-requires : goal.split-requires
split-requires t c = let p = left_asks (opened t (goal.at.split-requires t c).After-take_apart-node) c.decreases in (p.0, (p.1, c.take_apart-node.ensures.2))

pub returns-in_err-p : goal.returns-in_err-p
returns-in_err-p t c = rw c.from_residual.ensures (parting_stop (left_parting (opened t (goal.at.returns-in_err-p t c).After-take_apart-node) _ c.if-key-node-2.true) c.in_err-p.ensures.0, c.split.ensures.1)

pub join-requires : goal.join-requires
join-requires t c = (left_next (opened t (goal.at.join-requires t c).After-take_apart-node) _ c.if-key-node-2.true c.in_ok-p.ensures.0, c.split.ensures.1)

pub returns-in_err-right : goal.returns-in_err-right
returns-in_err-right t c = rw c.from_residual-in_err-right.ensures (left_stop (opened t (goal.at.returns-in_err-right t c).After-take_apart-node) _ c.if-key-node-2.true c.in_ok-p.ensures.0 c.in_err-right.ensures.0, c.join.ensures.1)

pub returns-then-key-node-2 : goal.returns-then-key-node-2
returns-then-key-node-2 t c = (left_done (opened t (goal.at.returns-then-key-node-2 t c).After-take_apart-node) _ c.if-key-node-2.true c.in_ok-p.ensures.0 c.in_ok-right.ensures.0, c.join.ensures.1)

pub split-requires-2 : goal.split-requires-2
split-requires-2 t c = let p = right_asks (opened t (goal.at.split-requires-2 t c).After-take_apart-node) c.decreases in (p.0, (p.1, c.take_apart-node.ensures.2))

pub returns-in_err-p-2 : goal.returns-in_err-p-2
returns-in_err-p-2 t c = rw c.from_residual-in_err-p-2.ensures (parting_stop (right_parting (opened t (goal.at.returns-in_err-p-2 t c).After-take_apart-node) _ c.if-key-node.false c.if-key-node-2.false) c.in_err-p-2.ensures.0, c.split-2.ensures.1)

pub join-requires-2 : goal.join-requires-2
join-requires-2 t c = (right_next (opened t (goal.at.join-requires-2 t c).After-take_apart-node) _ c.if-key-node.false c.if-key-node-2.false c.in_ok-p-2.ensures.0, c.split-2.ensures.1)

pub returns-in_err-left : goal.returns-in_err-left
returns-in_err-left t c = rw c.from_residual-in_err-left.ensures (right_stop (opened t (goal.at.returns-in_err-left t c).After-take_apart-node) _ c.if-key-node.false c.if-key-node-2.false c.in_ok-p-2.ensures.0 c.in_err-left.ensures.0, c.join-2.ensures.1)

pub returns : goal.returns
returns t c = (right_done (opened t (goal.at.returns t c).After-take_apart-node) _ c.if-key-node.false c.if-key-node-2.false c.in_ok-p-2.ensures.0 c.in_ok-left.ensures.0, c.join-2.ensures.1)
