-- As in reserve: checks, then the table's edit, then the two words; both sums were tested before the edit.
use mathlib.Core.Path.{refl}
use native.Mathlib.Omega.{arith}
use Rattle.model.specs.Calls.{passes, removing}
use Rattle.ledger.specs.Parts.{act}
use Rattle.ledger.proofs.Asking.{begins, ends_refused}
use Rattle.ledger.proofs.settle.Goals as goal

pub returns-in_err-map_err : goal.returns-in_err-map_err
returns-in_err-map_err c =
    let a = c.args in
    let F = rw c.if-not-fit.false at c.fit.ensures in
    begins (act a.ledger.now a.block.now a.ledger.now c.remove.new.b c.from_residual-in_err-map_err.result) _ _ _ c.in_ok-held.ensures c.in-Some.is
    (passes (λ z. omega arith) (passes (omega arith) (passes (omega (arith, F.0), omega (arith, F.1))
    (ends_refused a.ledger.now a.block.now c.remove.new.b (removing a.block.now a.version a.version a.call) c.remove.result c.map_err.result c.from_residual-in_err-map_err.result _ _ refl c.remove.ensures c.map_err.ensures.cases c.in_err-map_err.was c.from_residual-in_err-map_err.ensures.1))))
