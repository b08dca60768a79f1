-- Each record so far puts or removes; the first that does not ends the loop.
use native.Mathlib.Omega.{arith}
use Rattle.batch.proofs.Words.{all_known, known_at}
use Rattle.batch.proofs.known.Goals as goal
use Rattle.batch.proofs.known.Goals.{then-kind-eq0-via-then-kind-eq0, then-kind-eq0-via-else-kind-eq0+then-kind-gt2}

pub returns-then-kind-eq0 : goal.returns-then-kind-eq0
returns-then-kind-eq0 c L =
    let known = known_at c.args.words.now c.args.n L c.loop-i.i c.loop-i-test.true in
    elim c.then-kind-eq0.branch [
      | then-kind-eq0-via-then-kind-eq0 w ↦ omega (arith, known.0, w.if-kind-eq0.true)
      | then-kind-eq0-via-else-kind-eq0+then-kind-gt2 w ↦ omega (arith, known.1, w.if-kind-gt2.true)
    ]

pub returns : goal.returns
returns c = all_known c.args.words.now c.args.n c.requires.0 (λ j h. c.loop-i.invariant j (omega (arith, c.loop-i-test.false)))
