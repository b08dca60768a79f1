-- Subtree size falls: emptying n gives up its children, which are smaller; giving up n empties n itself, so each size counts twice and giving up comes one above.
use native.Mathlib.Omega.{arith}
use mathlib.Core.Path.{subst}
use Prim.Native.Nat.{ℕ}
use Rattle.model.specs.Block.{heap}
use Rattle.model.specs.Moves.{Paid}
use Rattle.model.proofs.running.Giveups.{Emptying, left_asks, right_asks, freed, Lowering, owed_occupied, empty_asks, paid_last, paid_lowered, paid_zero}
use borrow.Author.Rules.{rules}
use Rattle.block.proofs.ends.+empty_give_up.Goals as goal
use Rattle.block.proofs.ends.+empty_give_up.Goals.{empty-After-clear, give_up-After-lower-c}

-- empty
-- what is known when the node is cleared
emptying : (t : ℕ) (c : empty-After-clear t)
    → Emptying (heap c.args.b.now) (heap c.clear.new.b) c.args.n c.node_word-l.result c.node_word-r.result
emptying t c =
    record { linked = c.requires.1; unnamed = c.requires.2; emptied = c.clear.ensures.1; left = c.node_word-l.ensures; right = c.node_word-r.ensures }

pub empty-give_up-requires : goal.empty-give_up-requires
empty-give_up-requires t c =
    let asks = left_asks (emptying t (goal.at.empty-give_up-requires t c).After-clear) in
    (omega (arith, asks.0, c.decreases), (c.clear.ensures.0, asks.1, asks.2))

pub empty-give_up-requires-2 : goal.empty-give_up-requires-2
empty-give_up-requires-2 t c =
    let left = c.give_up in
    let asks = right_asks (emptying t (goal.at.empty-give_up-requires-2 t c).After-clear) left.ensures.1 in
    (omega (arith, asks.0, c.decreases), (left.ensures.0, asks.1, asks.2))

pub empty-returns : goal.empty-returns
empty-returns t c =
    let left = c.give_up in
    let right = c.give_up-2 in
    (right.ensures.0, freed (emptying t (goal.at.empty-returns t c).After-clear) left.ensures.1 right.ensures.1)

-- give up
-- what is known when the count is lowered
lowering : (t : ℕ) (c : give_up-After-lower-c t)
    → Lowering (heap c.args.b.now) (heap c.lower-c.new.b) c.args.n c.lower-c.result
lowering t c =
    record { linked = c.requires.1; owed = c.requires.2; lowered = c.lower-c.ensures.1; count = c.lower-c.ensures.2 }

pub give_up-lower-c-requires : goal.give_up-lower-c-requires
give_up-lower-c-requires t c =
    let o = owed_occupied c.args.n c.requires.2 c.if-n-ne0.true in
    (c.requires.0, c.requires.1, o.0, o.1)

pub give_up-empty-requires : goal.give_up-empty-requires
give_up-empty-requires t c =
    let asks = empty_asks (lowering t (goal.at.give_up-empty-requires t c).After-lower-c) c.if-c-eq0.true in
    (omega (arith, asks.0, c.decreases), (c.lower-c.ensures.0, asks.1, asks.2))

pub give_up-returns-then-c-eq0 : goal.give_up-returns-then-c-eq0
give_up-returns-then-c-eq0 t c =
    let gone = c.empty.ensures in
    (gone.0, paid_last (lowering t (goal.at.give_up-returns-then-c-eq0 t c).After-lower-c) gone.1)

pub give_up-returns-else-c-eq0 : goal.give_up-returns-else-c-eq0
give_up-returns-else-c-eq0 t c =
    (c.lower-c.ensures.0, paid_lowered (lowering t (goal.at.give_up-returns-else-c-eq0 t c).After-lower-c) c.if-c-eq0.false)

pub give_up-returns-else-n-ne0 : goal.give_up-returns-else-n-ne0
give_up-returns-else-n-ne0 t c =
    let h = heap c.args.b.now in
    (c.requires.0, subst (Paid h h) (search rules) (paid_zero c.requires.1))
