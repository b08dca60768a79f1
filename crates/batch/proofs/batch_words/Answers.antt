-- The records are tested in the order of the numbers, and what their edits made ends as every edit does.
use native.Mathlib.Omega.{arith}
use Rattle.model.specs.Heap.{version}
use Rattle.model.specs.Block.{heap}
use Rattle.model.specs.Batch.{batch_rule, records_of}
use Rattle.model.proofs.block.Versions.{version_ordered}
use Rattle.model.proofs.calls.Batches.{batch_ordered}
use Rattle.block.proofs.EntryToExit.{Run, run_asks, run_ends}
use Rattle.table.specs.Answers.{Source}
use Rattle.table.proofs.Admitting.{admission, known_first, known_second}
use Rattle.table.proofs.Settling.{source_pieces, source_small, rule_asks}
use Rattle.batch.proofs.Words.{whole_only}
use Rattle.batch.proofs.Answers.{not_legal, ended}
use Rattle.batch.proofs.batch_words.Goals as goal
use Rattle.batch.proofs.batch_words.Goals.{After-root-source, After-run-made, then-not-whole-via-then-not-whole, then-not-whole-via-else-not-whole+then-not-known}

source : (c : After-root-source) → let a = c.args in Source a.b.now a.src c.root-source.result
source c = let A = admission c.in_ok-admit.was c.admit.ensures in record { sound = A.sound; known = known_second _ _ A.versions; is = c.root-source.ensures }

ran : (c : After-run-made)
    → let a = c.args in Run a.b.now c.run-made.new.b c.makes_from-from.result c.run-made.result (batch_rule (records_of a.words.now) (version (heap a.b.now) a.src))
ran c =
    let a = c.args in
    let A = admission c.in_ok-admit.was c.admit.ensures in
    let S : Source a.b.now a.src c.root-source.result = record { sound = A.sound; known = known_second _ _ A.versions; is = c.root-source.ensures } in
    record {
      sound = A.sound;
      low_is = c.makes_from-from.ensures;
      pieces = _;
      named = source_pieces S;
      out = rw (← S.is) c.run-made.ensures.0;
      ordered = batch_ordered (records_of a.words.now) _ _ (version_ordered A.sound.sound a.src S.known);
    }

pub returns-then-not-whole : goal.returns-then-not-whole
returns-then-not-whole c =
    let A = admission c.in_ok-admit.was c.admit.ensures in
    elim c.then-not-whole.branch [
      | then-not-whole-via-then-not-whole w ↦ not_legal A _ (λ l. w.if-not-whole.ensures (whole_only _ l))
      | then-not-whole-via-else-not-whole+then-not-known w ↦ not_legal A _ (λ l. w.if-not-known.ensures l.1)
    ]

pub root-source-requires : goal.root-source-requires
root-source-requires c = let A = admission c.in_ok-admit.was c.admit.ensures in (A.sound.shaped, known_second _ _ A.versions)

pub run-made-requires : goal.run-made-requires
run-made-requires c =
    let S = source (goal.at.run-made-requires c).After-root-source in
    let R = rule_asks S in
    (R.0, R.1, source_small S, omega (arith, c.if-not-whole.ensures.1), omega arith, c.makes_from-from.ensures)

pub settle-requires : goal.settle-requires
settle-requires c =
    let R = run_asks (ran (goal.at.settle-requires c).After-run-made) in
    (R.0, known_first _ (admission c.in_ok-admit.was c.admit.ensures).versions, R.1, R.2, R.3)

pub returns : goal.returns
returns c =
    let A = admission c.in_ok-admit.was c.admit.ensures in
    ended A _ (c.if-not-whole.ensures.0, c.if-not-known.ensures) c.if-not-no_zero.ensures
    (run_ends (ran (goal.at.returns c).After-run-made) c.settle.ensures (λ i. omega (arith, c.slice_known-1.given i)) (λ i. omega (arith, c.type_inv.b i)))
