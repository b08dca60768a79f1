-- The keys compared choose the rule's side; what is made there, and the side that stood, are the rule's trees. The node's size falls.
use Prim.Native.Nat.{ℕ}
use Rattle.model.specs.Block.{heap}
use Rattle.model.proofs.block.Lookups.{link_occupied}
use Rattle.block.proofs.Levels.{above_stop, above_last, above_last_right}
use Rattle.tree.proofs.Paths.{both, down_left, down_right}
use Rattle.tree.proofs.Inserts.{Insertion, insert_none_asks, insert_none, insert_here, insert_left, insert_right, insert_left_asks, insert_right_asks}
use Rattle.tree.proofs.+insert.Goals as goal
use Rattle.tree.proofs.+insert.Goals.{After-take_apart-node}

level : (t : ℕ) (c : After-take_apart-node t)
    → let a = c.args in Insertion a.b.now c.take_apart-node.new.b a.n c.take_apart-node.result a.fresh a.key a.value
level t c =
    let o = link_occupied (heap c.args.b.now) c.args.n c.requires.0.1 c.if-n-eq0.false in
    record { path = record { level = record { running = c.requires.0.0.running; occupied = o; is = c.take_apart-node.ensures.0; apart = c.take_apart-node.ensures.1 }; holding = c.requires.0.0; small = c.requires.0.2 } }

pub make-requires : goal.make-requires
make-requires t c = (insert_none_asks c.args.n c.requires.0.0, c.requires.1)

pub returns-then-n-eq0 : goal.returns-then-n-eq0
returns-then-n-eq0 t c = let a = c.args in ((insert_none a.fresh a.n a.key a.value c.if-n-eq0.true c.make.ensures.0), c.make.ensures.1)

pub remake-requires : goal.remake-requires
remake-requires t c = (both (level t (goal.at.remake-requires t c).After-take_apart-node).path, c.take_apart-node.ensures.2)

pub returns-then-key-node : goal.returns-then-key-node
returns-then-key-node t c = (insert_here (level t (goal.at.returns-then-key-node t c).After-take_apart-node) c.if-key-node.true c.remake.ensures.0, c.remake.ensures.1)

pub insert-requires : goal.insert-requires
insert-requires t c = let p = down_left (level t (goal.at.insert-requires t c).After-take_apart-node).path c.decreases in (p.0, (p.1, c.take_apart-node.ensures.2))

pub returns-in_err-left : goal.returns-in_err-left
returns-in_err-left t c = rw c.from_residual.ensures (above_stop (insert_left (level t (goal.at.returns-in_err-left t c).After-take_apart-node) c.if-key-node-2.true) c.in_err-left.ensures.0, c.insert.ensures.1)

pub remake-requires-then-key-node-2 : goal.remake-requires-then-key-node-2
remake-requires-then-key-node-2 t c = (insert_left_asks (level t (goal.at.remake-requires-then-key-node-2 t c).After-take_apart-node) c.in_ok-left.ensures.0, c.insert.ensures.1)

pub returns-then-key-node-2 : goal.returns-then-key-node-2
returns-then-key-node-2 t c = (above_last (insert_left (level t (goal.at.returns-then-key-node-2 t c).After-take_apart-node) c.if-key-node-2.true) c.in_ok-left.ensures.0 c.remake-then-key-node-2.ensures.0, c.remake-then-key-node-2.ensures.1)

pub insert-requires-2 : goal.insert-requires-2
insert-requires-2 t c = let p = down_right (level t (goal.at.insert-requires-2 t c).After-take_apart-node).path c.decreases in (p.0, (p.1, c.take_apart-node.ensures.2))

pub returns-in_err-right : goal.returns-in_err-right
returns-in_err-right t c = rw c.from_residual-in_err-right.ensures (above_stop (insert_right (level t (goal.at.returns-in_err-right t c).After-take_apart-node) c.if-key-node.false c.if-key-node-2.false) c.in_err-right.ensures.0, c.insert-2.ensures.1)

pub remake-requires-2 : goal.remake-requires-2
remake-requires-2 t c = (insert_right_asks (level t (goal.at.remake-requires-2 t c).After-take_apart-node) c.in_ok-right.ensures.0, c.insert-2.ensures.1)

pub returns : goal.returns
returns t c = (above_last_right (insert_right (level t (goal.at.returns t c).After-take_apart-node) c.if-key-node.false c.if-key-node-2.false) c.in_ok-right.ensures.0 c.remake-2.ensures.0, c.remake-2.ensures.1)
