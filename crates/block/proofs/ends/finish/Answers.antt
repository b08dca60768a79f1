-- The new root is counted before the old one is given up, so counts are exact again when the sweep begins.
use native.Mathlib.Omega.{arith}
use Rattle.model.specs.Block.{heap}
use Rattle.model.proofs.running.Ends.{Rerooted, rooted_linked, owed_old, paid_held, paid_running, finished}
use Rattle.block.proofs.Makes.{named_le, count_le}
use Rattle.block.proofs.ends.finish.Goals as goal
use Rattle.block.proofs.ends.finish.Goals.{After-set_root}

-- what is known when the new root is set
rerooted : (c : After-set_root)
    → let a = c.args in Rerooted (heap a.b.now) (heap c.raise.new.b) (heap c.set_root.new.b) a.v a.n c.root-old.result
rerooted c =
    let pre = c.requires in
    let was = c.root-old.ensures in
    let raised = c.raise.ensures.1 in
    record { linked = pre.0.linked; counts = pre.0.counts; there = pre.1; named = pre.2; was = was; raised = raised; rooted = c.set_root.ensures.1 }

pub raise-requires : goal.raise-requires
raise-requires c =
    let b = c.args.b.now in
    let n = c.args.n in
    let R = c.requires.0 in
    (R.shaped, named_le b n R.linked c.requires.2, omega (arith, count_le b n R c.requires.2))

pub give_up-requires : goal.give_up-requires
give_up-requires c =
    let E = rerooted (goal.at.give_up-requires c).After-set_root in
    (c.set_root.ensures.0, rooted_linked E, owed_old E)

pub sweep-requires : goal.sweep-requires
sweep-requires c =
    let paid = c.give_up.ensures in
    let E = rerooted (goal.at.sweep-requires c).After-set_root in
    (paid_running c.args.b.now c.raise.new.b c.set_root.new.b E paid.0 paid.1, c.requires.3, paid_held E paid.1 c.requires.4)

pub returns : goal.returns
returns c =
    let paid = c.give_up.ensures in
    let E = rerooted (goal.at.returns c).After-set_root in
    finished c.args.b.now c.raise.new.b c.set_root.new.b E paid.0 paid.1 c.sweep.ensures
