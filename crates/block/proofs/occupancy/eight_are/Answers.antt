-- What is gathered is 0 only where each of the words is WORD.
use Prim.Native.Nat.{◌+◌}
use Rattle.block.proofs.Runs.{joins, among}
use Rattle.block.proofs.occupancy.eight_are.Goals as goal

pub loop-word-preserved : goal.loop-word-preserved
loop-word-preserved g c =
    let at = c.loop-word in
    λ e. joins c.args.b.now c.args.w at.word-index g.row.WORD at.other at.invariant (rw (among c.args.b.now (17 + c.args.w) _ at.word-index c.loop-word-test.true) at e)
