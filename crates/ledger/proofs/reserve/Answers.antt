-- Each check refuses before anything is written, and the ledger's word is written only where the table's edit is done.
use mathlib.Core.Path.{refl}
use native.Mathlib.Omega.{arith}
use Rattle.model.specs.Calls.{passes, inserting}
use Rattle.ledger.specs.Parts.{act}
use Rattle.ledger.proofs.Asking.{begins, ends_refused}
use Rattle.ledger.proofs.reserve.Goals as goal

pub returns-in_err-map_err : goal.returns-in_err-map_err
returns-in_err-map_err c =
    let a = c.args in
    begins (act a.ledger.now a.block.now a.ledger.now c.insert.new.b c.from_residual-in_err-map_err.result) _ _ _ c.in_ok-ask.ensures c.in-None.is
    (passes refl (passes (omega arith)
    (ends_refused a.ledger.now a.block.now c.insert.new.b (inserting a.block.now a.version a.version a.call a.minutes) c.insert.result c.map_err.result c.from_residual-in_err-map_err.result _ _ refl c.insert.ensures c.map_err.ensures.cases c.in_err-map_err.was c.from_residual-in_err-map_err.ensures.1)))
