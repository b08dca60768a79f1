-- Each turn chooses what one line asks for, and what is left to choose is asked for by the lines behind it.
use native.Mathlib.Omega.{arith}
use mathlib.Core.Path.{sym, ◌∙◌}
use Rattle.frame.specs.Fields.{fields_of}
use Rattle.requests.proofs.Cutting.{Read}
use Rattle.requests.proofs.Choosing.{chosen_none, chosen_bad, chosen_end, chosen_complete, chosen_first, chosen_last, chosen_run}
use Rattle.requests.proofs.reading.choose.Goals as goal
use Rattle.requests.proofs.reading.choose.Goals.{In-Some, then-f, else-f}

read : (c : In-Some) → Read c.args.n c.loop-i.i c.args.request.now (fields_of c.in-Some.f)
read c = record { more = c.loop-i-test.true; line = sym c.in-Some.ensures }

pub loop-i-init : goal.loop-i-init
loop-i-init c = (chosen_none _ _ _ _ c.requires.3, c.requires.2)

pub returns-in_default : goal.returns-in_default
returns-in_default c = absurd (chosen_bad c.loop-i.invariant.0 c.loop-i-test.true (sym c.in_default.ensures))

pub returns : goal.returns
returns c = chosen_end c.loop-i.invariant.0 c.loop-i-test.false c.loop-i.invariant.1

pub overflow_add-last_of : goal.overflow_add-last_of
overflow_add-last_of c = omega (arith, c.last_of.ensures, chosen_last c.loop-i.invariant.0 (read (goal.at.overflow_add-last_of c).In-Some) c.if-f.true)

pub choose_run-k-requires : goal.choose_run-k-requires
choose_run-k-requires c =
    let I = c.loop-i.invariant in
    (chosen_first I.0 (read (goal.at.choose_run-k-requires c).In-Some) c.if-f.true, omega (arith, c.min.ensures, c.requires.1, I.1), I.1)

pub loop-i-preserved : goal.loop-i-preserved
loop-i-preserved c =
    let I = c.loop-i.invariant in
    let R = read (goal.at.loop-i-preserved c).In-Some in (
      elim c.if-f.branch [
        | then-f w ↦ rw (w.k-is, w.chosen-is) (chosen_run I.0 R w.if-f.true w.last_of.ensures w.min.ensures w.choose_run-k.ensures)
        | else-f w ↦ rw (w.k-is, w.chosen-is) (chosen_complete I.0 R w.if-f.false)
      ],
      c.if-f.auto.chosen ∙ I.1,
    )
