-- The value is not 0; the lookup tells whether the key is new; the rule's outcome then ends as every edit does.
use mathlib.Core.Path.{◌≡◌, refl, ◌∙◌, ap}
use mathlib.Core.Bool.{true}
use lib.Dec.{ltb}
use borrow.Author.Tests.{lt-ltb}
use native.Mathlib.Omega.{arith}
use Rattle.model.specs.Calls.{inserting, finding}
use Rattle.model.proofs.rules.Orders.{insert_ordered}
use Rattle.model.proofs.block.Versions.{version_ordered}
use Rattle.table.specs.Answers.{Source}
use Rattle.table.proofs.Admitting.{admission, known_first, known_second}
use Rattle.table.proofs.Settling.{source_pieces, Run, read-asks, rule_asks, source_found, settle_asks, settled, ok_told, err_told}
use Rattle.table.proofs.Rules.{inserted}
use Rattle.table.proofs.edits.insert.Goals as goal
use Rattle.table.proofs.edits.insert.Goals.{After-insert-made, After-root-source}

source : (c : After-root-source) → Source c.args.b.now c.args.src c.root-source.result
source c = let A = admission c.in_ok-admit.was c.admit.ensures in record { sound = A.sound; known = known_second _ _ A.versions; is = c.root-source.ensures }

run : (c : After-insert-made)
    → Run c.args.b.now c.insert-made.new.b c.makes_from-from.result c.insert-made.result (let a = c.args in inserting a.b.now a.dst a.src a.key a.value)
run c =
    let A = admission c.in_ok-admit.was c.admit.ensures in
    let a = c.args in
    let S : Source a.b.now a.src c.root-source.result = record { sound = A.sound; known = known_second _ _ A.versions; is = c.root-source.ensures } in
    let positive : ltb 0 a.value ≡ true = lt-ltb 0 a.value (omega arith) in
    record {
      begun = record { sound = A.sound; versions = A.versions; legal = refl; positive = positive; fits = refl };
      low_is = c.makes_from-from.ensures;
      pieces = _;
      named = source_pieces S;
      out = inserted S c.find-found.result c.is_none.result a.key a.value c.is_none.ensures c.find-found.ensures c.insert-made.ensures.0;
      ordered = insert_ordered _ a.key a.value _ (version_ordered S.sound.sound a.src S.known);
    }

pub root-source-requires : goal.root-source-requires
root-source-requires c = let A = admission c.in_ok-admit.was c.admit.ensures in (A.sound.shaped, known_second _ _ A.versions)

pub find-found-requires : goal.find-found-requires
find-found-requires c = read-asks (source c)

pub insert-made-requires : goal.insert-made-requires
insert-made-requires c = (rule_asks (source (goal.at.insert-made-requires c).After-root-source), c.makes_from-from.ensures)

pub settle-requires : goal.settle-requires
settle-requires c =
    let R = settle_asks (run (goal.at.settle-requires c).After-insert-made) in
    (R.0, known_first _ (admission c.in_ok-admit.was c.admit.ensures).versions, R.1, R.2, R.3)

pub returns-in_err-settle : goal.returns-in_err-settle
returns-in_err-settle c = settled (run (goal.at.returns-in_err-settle c).After-insert-made) _ c.settle.ensures (err_told _ _ c.in_err-settle.was c.from_residual-in_err-settle.ensures.1) (λ i. omega (arith, c.slice_known-1.given i)) (λ i. omega (arith, c.type_inv.b i))

pub returns : goal.returns
returns c =
    let found = source_found (source (goal.at.returns c).After-root-source) c.args.key c.find-found.ensures in
    settled (run (goal.at.returns c).After-insert-made) _ c.settle.ensures (ok_told c.in_ok-settle.was (ap finding found)) (λ i. omega (arith, c.slice_known-1.given i)) (λ i. omega (arith, c.type_inv.b i))
