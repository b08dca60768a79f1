-- The keys compared choose the rule's side; what is left there, and the side that stood, are the rule's trees. The node's size falls.
use Prim.Native.Nat.{ℕ}
use Rattle.model.specs.Block.{heap}
use Rattle.model.proofs.block.Lookups.{link_occupied}
use Rattle.block.proofs.Levels.{above_stop, above_last, above_last_right}
use Rattle.tree.proofs.Paths.{both, down_left, down_right}
use Rattle.tree.proofs.Removes.{Removing, remove_none, remove_here, remove_left, remove_right, remove_left_asks, remove_right_asks}
use Rattle.tree.proofs.+remove.Goals as goal
use Rattle.tree.proofs.+remove.Goals.{After-take_apart-node}

level : (t : ℕ) (c : After-take_apart-node t)
    → let a = c.args in Removing a.b.now c.take_apart-node.new.b a.n c.take_apart-node.result a.key
level t c =
    let o = link_occupied (heap c.args.b.now) c.args.n c.requires.0.1 c.if-n-eq0.false in
    record { path = record { level = record { running = c.requires.0.0.running; occupied = o; is = c.take_apart-node.ensures.0; apart = c.take_apart-node.ensures.1 }; holding = c.requires.0.0; small = c.requires.0.2 } }

pub returns-then-n-eq0 : goal.returns-then-n-eq0
returns-then-n-eq0 t c = (remove_none c.args.n c.args.key c.if-n-eq0.true c.requires.0.0.running, c.requires.1)

pub without_key-requires : goal.without_key-requires
without_key-requires t c = (both (level t (goal.at.without_key-requires t c).After-take_apart-node).path, c.take_apart-node.ensures.2)

pub returns-then-key-node : goal.returns-then-key-node
returns-then-key-node t c = (remove_here (level t (goal.at.returns-then-key-node t c).After-take_apart-node) c.if-key-node.true c.without_key.ensures.0, c.without_key.ensures.1)

pub remove-requires : goal.remove-requires
remove-requires t c = let p = down_left (level t (goal.at.remove-requires t c).After-take_apart-node).path c.decreases in (p.0, (p.1, c.take_apart-node.ensures.2))

pub returns-in_err-left : goal.returns-in_err-left
returns-in_err-left t c = rw c.from_residual.ensures (above_stop (remove_left (level t (goal.at.returns-in_err-left t c).After-take_apart-node) c.if-key-node-2.true) c.in_err-left.ensures.0, c.remove.ensures.1)

pub balanced-requires : goal.balanced-requires
balanced-requires t c = (remove_left_asks (level t (goal.at.balanced-requires t c).After-take_apart-node) c.in_ok-left.ensures.0, c.remove.ensures.1)

pub returns-then-key-node-2 : goal.returns-then-key-node-2
returns-then-key-node-2 t c = (above_last (remove_left (level t (goal.at.returns-then-key-node-2 t c).After-take_apart-node) c.if-key-node-2.true) c.in_ok-left.ensures.0 c.balanced.ensures.0, c.balanced.ensures.1)

pub remove-requires-2 : goal.remove-requires-2
remove-requires-2 t c = let p = down_right (level t (goal.at.remove-requires-2 t c).After-take_apart-node).path c.decreases in (p.0, (p.1, c.take_apart-node.ensures.2))

pub returns-in_err-right : goal.returns-in_err-right
returns-in_err-right t c = rw c.from_residual-in_err-right.ensures (above_stop (remove_right (level t (goal.at.returns-in_err-right t c).After-take_apart-node) c.if-key-node.false c.if-key-node-2.false) c.in_err-right.ensures.0, c.remove-2.ensures.1)

pub balanced-requires-2 : goal.balanced-requires-2
balanced-requires-2 t c = (remove_right_asks (level t (goal.at.balanced-requires-2 t c).After-take_apart-node) c.in_ok-right.ensures.0, c.remove-2.ensures.1)

pub returns : goal.returns
returns t c = (above_last_right (remove_right (level t (goal.at.returns t c).After-take_apart-node) c.if-key-node.false c.if-key-node-2.false) c.in_ok-right.ensures.0 c.balanced-2.ensures.0, c.balanced-2.ensures.1)
