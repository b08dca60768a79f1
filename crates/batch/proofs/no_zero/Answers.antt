-- No record so far puts the value 0; the first that does ends the loop.
use native.Mathlib.Omega.{arith}
use Rattle.batch.proofs.Words.{all_spared, spared_at}
use Rattle.batch.proofs.no_zero.Goals as goal

pub returns-then-words-i-eq0 : goal.returns-then-words-i-eq0
returns-then-words-i-eq0 c = λ Z. spared_at c.args.words.now c.args.n Z c.loop-i.i c.loop-i-test.true (omega arith) (omega arith)

pub returns : goal.returns
returns c = all_spared c.args.words.now c.args.n (λ j h. c.loop-i.invariant j (omega (arith, c.loop-i-test.false)))
