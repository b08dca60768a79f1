-- Each turn writes the low digit of what is left of x in front of those written, until all k stand there.
use native.Mathlib.Omega.{arith}
use Rattle.frame.proofs.Writing.{halves_none, halves_more}
use Rattle.frame.proofs.put_hex.Goals as goal

pub loop-j-init : goal.loop-j-init
loop-j-init c = halves_none c.requires (omega arith) c.eight_digits-both.ensures

pub loop-j-preserved : goal.loop-j-preserved
loop-j-preserved c = halves_more _ c.loop-j.invariant c.loop-j-test.true
