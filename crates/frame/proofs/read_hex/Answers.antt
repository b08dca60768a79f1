-- Each turn takes one digit into the number, and the digits left, behind it, still say what the whole field says.
use native.Mathlib.Omega.{arith}
use Rattle.frame.proofs.Reading.{reads_bad, reads_more, reads_fit, reads_all}
use Rattle.frame.proofs.read_hex.Goals as goal

pub returns-in_default : goal.returns-in_default
returns-in_default c = reads_bad c.loop-i.i c.loop-i.invariant c.requires.0 c.loop-i.auto.i c.loop-i-test.true c.in_default.ensures

pub overflow_mul-n : goal.overflow_mul-n
overflow_mul-n c = omega (arith, reads_fit c.loop-i.i c.loop-i.invariant c.requires.0 _ c.requires.2 c.loop-i.auto.i c.loop-i-test.true c.in-Some.ensures)

pub overflow_add-n : goal.overflow_add-n
overflow_add-n c = omega (arith, reads_fit c.loop-i.i c.loop-i.invariant c.requires.0 _ c.requires.2 c.loop-i.auto.i c.loop-i-test.true c.in-Some.ensures)

pub loop-i-preserved : goal.loop-i-preserved
loop-i-preserved c = reads_more c.loop-i.i c.loop-i.invariant c.requires.0 _ c.loop-i.auto.i c.loop-i-test.true c.in-Some.ensures

pub returns : goal.returns
returns c = reads_all c.loop-i.i c.loop-i.invariant c.requires.0 (omega arith)
