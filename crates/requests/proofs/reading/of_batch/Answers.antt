-- Each turn passes a line of the batch, and what is left to say is said by the lines behind it.
use mathlib.Core.Path.{sym}
use Rattle.model.specs.Request.{all_of}
use Rattle.frame.specs.Fields.{fields_of}
use Rattle.requests.proofs.Judging.{batch_other, batch_same, batch_end}
use Rattle.requests.proofs.Cutting.{Read, test_bad, test_off, test_on, test_end}
use Rattle.requests.proofs.reading.of_batch.Goals as goal
use Rattle.requests.proofs.reading.of_batch.Goals.{In-Some}

read : (c : In-Some) → Read c.args.n c.loop-i.i c.args.request.now (fields_of c.in-Some.f)
read c = record { more = c.loop-i-test.true; line = sym c.in-Some.ensures }

pub returns-in_default : goal.returns-in_default
returns-in_default c = test_bad _ _ _ (all_of c.args.batch) c.loop-i.invariant c.loop-i-test.true (sym c.in_default.ensures)

pub returns-then-f-batch : goal.returns-then-f-batch
returns-then-f-batch c =
    test_off (read (goal.at.returns-then-f-batch c).In-Some) (all_of c.args.batch) c.loop-i.invariant (λ fs. batch_other _ _ fs c.if-f-batch.true)

pub loop-i-preserved : goal.loop-i-preserved
loop-i-preserved c =
    let ours = all_of c.args.batch in
    test_on (read (goal.at.loop-i-preserved c).In-Some) ours c.loop-i.invariant ours (λ fs. batch_same _ _ fs c.if-f-batch.false)

pub returns : goal.returns
returns c = test_end _ _ _ (all_of c.args.batch) c.loop-i.invariant c.loop-i-test.false (batch_end _)
