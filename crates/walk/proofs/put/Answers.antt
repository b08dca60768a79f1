-- The words go to row i where the output has that many rows of as many words.
use native.Mathlib.Omega.{arith}
use mathlib.Core.Path.{◌≡◌, sym}
use lib.ListN.{length}
use Rattle.walk.proofs.Outputs.{put_none, put_mid_at}
use Rattle.walk.proofs.put.Goals as goal

pub returns-then-i-out : goal.returns-then-i-out
returns-then-i-out g c =
    let a = c.args in
    let long : length a.words ≡ g.row.K = omega arith in
    rw c.copy_from_slice.ensures.after (put_mid_at g.row.K a.i a.words a.out.now c.requires c.if-i-out.true long)

pub returns-else-i-out : goal.returns-else-i-out
returns-else-i-out g c = sym (put_none g.row.K c.args.i c.args.words c.args.out.now c.if-i-out.false)
