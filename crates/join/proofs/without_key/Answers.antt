-- Without the key, code and rule ask the same: is a side empty, and if not, which entry is the right's minimum.
use Rattle.model.specs.Rules.{join}
use Rattle.tree.proofs.Removes.{sole_right, sole_left, without_min, without_stop, without_asks, without_last}
use Rattle.model.proofs.rules.Steady.{join_onward}
use Rattle.join.proofs.without_key.Goals as goal

pub returns-then-left-eq0 : goal.returns-then-left-eq0
returns-then-left-eq0 c = (sole_right join c.args.left c.args.right c.requires.0 c.if-left-eq0.true, c.requires.1)

pub returns-then-right-eq0 : goal.returns-then-right-eq0
returns-then-right-eq0 c = (sole_left join c.args.left c.args.right c.requires.0 c.if-left-eq0.false c.if-right-eq0.true, c.requires.1)

pub remove_min-requires : goal.remove_min-requires
remove_min-requires c =
    (without_min join c.args.left c.args.right c.requires.0 c.if-left-eq0.false c.if-right-eq0.false, c.requires.1)

pub returns-in_err-min : goal.returns-in_err-min
returns-in_err-min c = rw c.from_residual.ensures (without_stop join c.args.left c.args.right c.requires.0 c.if-left-eq0.false c.if-right-eq0.false join_onward c.in_err-min.ensures.0, c.remove_min.ensures.1)

pub join-requires : goal.join-requires
join-requires c = (without_asks join c.args.left c.args.right c.requires.0 c.if-left-eq0.false c.if-right-eq0.false c.in_ok-min.ensures.0, c.remove_min.ensures.1)

pub returns : goal.returns
returns c = (without_last join c.args.left c.args.right c.requires.0 c.if-left-eq0.false c.if-right-eq0.false c.in_ok-min.ensures.0 c.join.ensures.0, c.join.ensures.1)
