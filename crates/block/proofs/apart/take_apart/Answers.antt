-- A count of 0 says that the call made the node: it is emptied, and its children, which the call has in its hands now, lose the references that it had to them.
use native.Mathlib.Omega.{arith}
use mathlib.Core.Path.{◌≡◌, ap, refl, ◌∙◌}
use Prim.Native.Nat.{ℕ, ◌≤◌}
use Rattle.model.specs.Block.{heap}
use Rattle.model.proofs.running.Giveups.{Emptying, left_asks}
use Rattle.model.proofs.running.Aparts.{right_unlinks, opened, apart-opened, apart_stood}
use Rattle.model.specs.Moves.{Apart}
use Rattle.block.specs.Outcome.{node_of}
use Rattle.block.specs.Low.{Low}
use Rattle.block.proofs.Low.{low_opened}
use Rattle.block.proofs.apart.take_apart.Goals as goal
use Rattle.block.proofs.apart.take_apart.Goals.{After-clear, After-unlink-then-node_word-eq0}

-- what is known when the node is emptied
emptying : (c : After-clear)
    → let m = c.read-node.result in Emptying (heap c.args.b.now) (heap c.clear.new.b) c.args.n m.left m.right
emptying c =
    let R = c.requires.0.0 in
    record {
      linked = R.linked;
      unnamed = record { was = c.requires.0.1; zero = omega (arith, c.node_word.ensures); extra = λ x. 0; counts = R.counts };
      emptied = c.clear.ensures.1;
      left = ap (λ z. z.left) c.read-node.ensures;
      right = ap (λ z. z.right) c.read-node.ensures;
    }

pub unlink-requires : goal.unlink-requires
unlink-requires c = let asks = left_asks (emptying (goal.at.unlink-requires c).After-clear) in (c.clear.ensures.0, asks.1, asks.2)

pub unlink-requires-then-node_word-eq0 : goal.unlink-requires-then-node_word-eq0
unlink-requires-then-node_word-eq0 c =
    let left = c.unlink.ensures in
    let asks = right_unlinks (emptying (goal.at.unlink-requires-then-node_word-eq0 c).After-clear) left.1 in
    (left.0, asks.0, asks.1)

-- the node went: a bound that is neither above the one at entry nor above the node
went : (c : After-unlink-then-node_word-eq0) (x : ℕ)
    → 1 ≤ x → x ≤ c.args.low.now → x ≤ c.args.n
    → (c.read-node.result ≡ node_of (heap c.args.b.now) c.args.n) × Apart c.args.b.now c.unlink-then-node_word-eq0.new.b c.args.n × Low c.unlink-then-node_word-eq0.new.b x
unfolding emptying
went c x p q r =
    let E = emptying c.before.before.before.before.before.before.before.before in
    let left = c.unlink.ensures.1 in
    let right = c.unlink-then-node_word-eq0.ensures in
    (c.read-node.ensures, apart-opened c.requires.0.0 right.0 E (λ x. refl) left right.1, low_opened c.args.b.now c.unlink-then-node_word-eq0.new.b (opened E left right.1) c.requires.1 p q r)

pub returns-then-below : goal.returns-then-below
returns-then-below c =
    let w = c.requires.0.0.linked.within c.args.n c.requires.0.1 in
    went (goal.at.returns-then-below c).After-unlink-then-node_word-eq0 c.args.n w.0 (omega arith) (omega arith)

pub returns-else-below : goal.returns-else-below
returns-else-below c =
    went (goal.at.returns-else-below c).After-unlink-then-node_word-eq0 c.args.low.now c.requires.1.0 (omega arith) (omega arith)

pub returns-else-node_word-eq0 : goal.returns-else-node_word-eq0
returns-else-node_word-eq0 c =
    (c.read-node.ensures, apart_stood c.requires.0.0 c.requires.0.1 (λ z. c.if-node_word-eq0.false (c.node_word.ensures ∙ z)), c.requires.1)
