-- Nothing is made: the source's root is the outcome.
use mathlib.Core.Path.{refl}
use native.Mathlib.Omega.{arith}
use Rattle.model.specs.Calls.{copying}
use Rattle.model.proofs.block.Versions.{version_ordered}
use Rattle.std.specs.Prelude.{Some}
use Rattle.table.specs.Answers.{Source}
use Rattle.table.proofs.Admitting.{admission, known_first, known_second}
use Rattle.table.proofs.Settling.{source_pieces, Run, settle_asks, settled, done_ended}
use Rattle.table.proofs.Rules.{copied}
use Rattle.table.proofs.edits.copy.Goals as goal
use Rattle.table.proofs.edits.copy.Goals.{After-root-source}

source : (c : After-root-source) → Source c.args.b.now c.args.src c.root-source.result
source c = let A = admission c.in_ok-admit.was c.admit.ensures in record { sound = A.sound; known = known_second _ _ A.versions; is = c.root-source.ensures }

run : (c : After-root-source)
    → Run c.args.b.now c.args.b.now c.makes_from-from.result (Some c.root-source.result) (let a = c.args in copying a.b.now a.dst a.src)
run c =
    let A = admission c.in_ok-admit.was c.admit.ensures in
    record {
      begun = record { sound = A.sound; versions = A.versions; legal = refl; positive = refl; fits = refl };
      low_is = c.makes_from-from.ensures;
      pieces = _;
      named = source_pieces (source c);
      out = copied (source c);
      ordered = version_ordered A.sound.sound c.args.src (source c).known;
    }

pub root-source-requires : goal.root-source-requires
root-source-requires c = let A = admission c.in_ok-admit.was c.admit.ensures in (A.sound.shaped, known_second _ _ A.versions)

pub settle-requires : goal.settle-requires
settle-requires c = let R = settle_asks (run (goal.at.settle-requires c).After-root-source) in (R.0, known_first _ (admission c.in_ok-admit.was c.admit.ensures).versions, R.1, R.2, R.3)

pub returns : goal.returns
returns c =
    settled (run (goal.at.returns c).After-root-source) _ c.settle.ensures (done_ended c.settle.result) (λ i. omega (arith, c.slice_known-1.given i)) (λ i. omega (arith, c.type_inv.b i))
