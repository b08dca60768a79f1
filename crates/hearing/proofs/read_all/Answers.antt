-- Bytes fed after others are as all fed at once.
use Rattle.std.proofs.Common.{rules}
use Rattle.hearing.proofs.Feeding.{fed_none, fed_then, fed_all}
use Rattle.hearing.proofs.read_all.Goals as goal

pub loop-init : goal.loop-init
loop-init g c = fed_none _

pub returns-then-not-read_once : goal.returns-then-not-read_once
returns-then-not-read_once g c = fed_all c.new-progress.result (search rules) c.new-progress.ensures.0 c.new-progress.ensures.1 (fed_then c.loop.invariant c.read_once.ensures)

pub loop-preserved : goal.loop-preserved
loop-preserved g c = fed_then c.loop.invariant c.read_once.ensures

pub returns : goal.returns
returns g c = fed_all c.new-progress.result (search rules) c.new-progress.ensures.0 c.new-progress.ensures.1 c.loop.invariant
