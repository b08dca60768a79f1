-- Without a left child the node is the minimum; otherwise the left child has it, and the node is made again. The node's size falls.
use Prim.Native.Nat.{ℕ}
use Rattle.tree.proofs.Paths.{Path}
use Rattle.tree.proofs.Removes.{min_here, min_down, min_stop, min_asks, min_stop_2, min_last}
use Rattle.tree.proofs.+remove_min.Goals as goal
use Rattle.tree.proofs.+remove_min.Goals.{After-take_apart-node}

path : (t : ℕ) (c : After-take_apart-node t)
    → let a = c.args in Path a.b.now c.take_apart-node.new.b a.n c.take_apart-node.result
path t c = let p = c.requires.0 in record { level = record { running = p.0.running; occupied = p.1; is = c.take_apart-node.ensures.0; apart = c.take_apart-node.ensures.1 }; holding = p.0; small = p.2 }

pub returns-then-node-eq0 : goal.returns-then-node-eq0
returns-then-node-eq0 t c = (min_here (path t (goal.at.returns-then-node-eq0 t c).After-take_apart-node) c.if-node-eq0.true, c.take_apart-node.ensures.2)

pub remove_min-requires : goal.remove_min-requires
remove_min-requires t c = let p = min_down (path t (goal.at.remove_min-requires t c).After-take_apart-node) c.if-node-eq0.false c.decreases in (p.0, (p.1, c.take_apart-node.ensures.2))

pub returns-in_err-min : goal.returns-in_err-min
returns-in_err-min t c = rw c.from_residual.ensures (min_stop (path t (goal.at.returns-in_err-min t c).After-take_apart-node) c.if-node-eq0.false c.in_err-min.ensures.0, c.remove_min.ensures.1)

pub balanced-requires : goal.balanced-requires
balanced-requires t c = (min_asks (path t (goal.at.balanced-requires t c).After-take_apart-node) c.if-node-eq0.false c.in_ok-min.ensures.0, c.remove_min.ensures.1)

pub returns-in_err-top : goal.returns-in_err-top
returns-in_err-top t c = rw c.from_residual-in_err-top.ensures (min_stop_2 (path t (goal.at.returns-in_err-top t c).After-take_apart-node) c.if-node-eq0.false c.in_ok-min.ensures.0 c.in_err-top.ensures.0, c.balanced.ensures.1)

pub returns : goal.returns
returns t c = (min_last (path t (goal.at.returns t c).After-take_apart-node) c.if-node-eq0.false c.in_ok-min.ensures.0 c.in_ok-top.ensures.0, c.balanced.ensures.1)
