-- Each check refuses before anything is written; the edit comes first, and the mark only where it was done.
use mathlib.Core.Path.{refl, ap}
use Rattle.std.specs.Prelude.{Ok}
use Rattle.std.proofs.lemmas.Result.{err_from_is_err_and}
use Rattle.kiosk.proofs.Receiving.{ready_checked, refused-line, fit}
use Rattle.kiosk.proofs.lines.receive.Goals as goal

pub returns-in_err-f : goal.returns-in_err-f
returns-in_err-f c =
    let p = err_from_is_err_and c.from_residual-in_err-f.result c.from_residual-in_err-f.ensures.1 in
    rw (p.1, p.2) (refused-line (ready_checked c.in_ok-ready.ensures) _ _ c.in_err-f.ensures _ refl)

pub accept-requires : goal.accept-requires
accept-requires c = fit (ready_checked c.in_ok-ready.ensures) _ _ c.in_ok-f.ensures _ (ap Ok c.in-Some.is)
