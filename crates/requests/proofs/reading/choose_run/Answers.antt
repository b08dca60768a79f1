-- Each turn writes one index behind those before it.
use native.Mathlib.Omega.{arith}
use Rattle.requests.proofs.Choices.{written_none, written_more}
use Rattle.requests.proofs.reading.choose_run.Goals as goal

pub loop-i-init : goal.loop-i-init
loop-i-init c = written_none _ _ _ _ c.requires.2

pub loop-i-preserved : goal.loop-i-preserved
loop-i-preserved c =
    let I = c.loop-i.invariant in
    written_more I c.requires.0 (omega (arith, c.requires.1, c.requires.2)) c.loop-i-test.true (omega (arith, c.requires.0, c.requires.1, c.requires.2, I.low, I.count))
