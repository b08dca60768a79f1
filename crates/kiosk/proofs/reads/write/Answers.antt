-- Each turn puts the next entry behind those written.
use mathlib.Core.Path.{refl}
use Rattle.kiosk.proofs.Writing.{written_none, written_more}
use Rattle.kiosk.proofs.reads.write.Goals as goal

pub loop-j-init : goal.loop-j-init
loop-j-init c = written_none _ _ _ _ c.requires.1 c.requires.2

pub loop-j-preserved : goal.loop-j-preserved
loop-j-preserved c =
    written_more c.loop-j.invariant _ refl c.loop-j-test.true c.put_entry.ensures
