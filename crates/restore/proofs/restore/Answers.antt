-- The lines are looked at before anything is made, and what was built ends as every edit does.
use native.Mathlib.Omega.{arith}
use mathlib.Core.Path.{refl}
use mathlib.Core.List.{[], ◌∷◌}
use Rattle.model.specs.Restore.{restored}
use Rattle.block.proofs.EntryToExit.{Run, run_asks, run_ends}
use Rattle.table.proofs.Admitting.{Admission, admission, known_first}
use Rattle.restore.proofs.Ends.{begins, no_room, ran, ended, refused_ended}
use Rattle.restore.proofs.restore.Goals as goal
use Rattle.restore.proofs.restore.Goals.{After-build-made, In_ok-first_fault}

admitted : (c : In_ok-first_fault) → let a = c.args in Admission a.b.now (a.v ∷ [])
admitted c = admission c.in_ok-admit.was c.admit.ensures

built : (c : After-build-made)
    → let a = c.args in Run a.b.now c.build-made.new.b c.makes_from-from.result c.build-made.result (restored a.text.now)
built c = ran (admission c.in_ok-admit.was c.admit.ensures) _ (c.in_ok-first_fault.ensures.fine refl).1 c.makes_from-from.ensures c.build-made.ensures.0

pub returns-then-text-gt69632 : goal.returns-then-text-gt69632
returns-then-text-gt69632 c = no_room (admitted (goal.at.returns-then-text-gt69632 c).In_ok-first_fault) _ (c.in_ok-first_fault.ensures.fine refl).1 c.if-text-gt69632.true

pub build-made-requires : goal.build-made-requires
build-made-requires c = ((begins (admitted (goal.at.build-made-requires c).In_ok-first_fault).sound, c.if-text-gt69632.false), c.makes_from-from.ensures)

pub settle-requires : goal.settle-requires
settle-requires c =
    let R = run_asks (built (goal.at.settle-requires c).After-build-made) in
    (R.0, known_first _ (admitted (goal.at.settle-requires c).In_ok-first_fault).versions, R.1, R.2, R.3)

pub returns-in_err-settle : goal.returns-in_err-settle
returns-in_err-settle c =
    refused_ended (admitted (goal.at.returns-in_err-settle c).In_ok-first_fault) _ (c.in_ok-first_fault.ensures.fine refl).1 _ _ c.from_residual-in_err-settle.ensures.1
    (run_ends (built (goal.at.returns-in_err-settle c).After-build-made) c.in_err-settle.ensures (λ i. omega (arith, c.slice_known-1.given i)) (λ i. omega (arith, c.type_inv.b i)))

pub returns : goal.returns
returns c =
    ended (admitted (goal.at.returns c).In_ok-first_fault) _ (c.in_ok-first_fault.ensures.fine refl).1
    (run_ends (built (goal.at.returns c).After-build-made) c.in_ok-settle.ensures (λ i. omega (arith, c.slice_known-1.given i)) (λ i. omega (arith, c.type_inv.b i)))
