-- A sole tree is the answer as it is; of two, the right's minimum and what it leaves are the rule's.
use Rattle.model.specs.Rules.{balanced}
use Rattle.model.proofs.rules.Steady.{balanced_onward}
use Rattle.tree.proofs.Removes.{sole_right, sole_left, without_min, without_stop, without_asks, without_last}
use Rattle.tree.proofs.without_key.Goals as goal

pub returns-then-left-eq0 : goal.returns-then-left-eq0
returns-then-left-eq0 c =
    (sole_right balanced c.args.left c.args.right c.requires.0 c.if-left-eq0.true, c.requires.1)

pub returns-then-right-eq0 : goal.returns-then-right-eq0
returns-then-right-eq0 c =
    (sole_left balanced c.args.left c.args.right c.requires.0 c.if-left-eq0.false c.if-right-eq0.true, c.requires.1)

pub remove_min-requires : goal.remove_min-requires
remove_min-requires c =
    (without_min balanced c.args.left c.args.right c.requires.0 c.if-left-eq0.false c.if-right-eq0.false, c.requires.1)

pub returns-in_err-min : goal.returns-in_err-min
returns-in_err-min c =
    rw c.from_residual.ensures (without_stop balanced c.args.left c.args.right c.requires.0 c.if-left-eq0.false c.if-right-eq0.false balanced_onward c.in_err-min.ensures.0, c.remove_min.ensures.1)

pub balanced-requires : goal.balanced-requires
balanced-requires c =
    (without_asks balanced c.args.left c.args.right c.requires.0 c.if-left-eq0.false c.if-right-eq0.false c.in_ok-min.ensures.0, c.remove_min.ensures.1)

pub returns : goal.returns
returns c =
    (without_last balanced c.args.left c.args.right c.requires.0 c.if-left-eq0.false c.if-right-eq0.false c.in_ok-min.ensures.0 c.balanced.ensures.0, c.balanced.ensures.1)
