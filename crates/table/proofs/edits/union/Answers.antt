-- The rule has its number and the sums fit, and the union of the two roots ends as every edit does.
use mathlib.Core.Path.{refl}
use native.Mathlib.Omega.{arith}
use Rattle.model.specs.Calls.{uniting}
use Rattle.model.proofs.rules.Orders.{union_ordered}
use Rattle.model.proofs.block.Versions.{version_ordered}
use Rattle.table.specs.Answers.{Source}
use Rattle.table.proofs.Admitting.{admission, known_first, known_second, known_third}
use Rattle.table.proofs.Settling.{source_summable, Run, pair_pieces, pair_asks, settle_asks, settled, done_ended, sum_refused}
use Rattle.sets.proofs.ByRule.{union_legal}
use Rattle.table.proofs.Rules.{united, fits_told}
use Rattle.table.proofs.edits.union.Goals as goal
use Rattle.table.proofs.edits.union.Goals.{After-root-r, After-union-made}

sources : (c : After-root-r)
    → Source c.args.b.now c.args.left c.root-l.result × Source c.args.b.now c.args.right c.root-r.result
sources c =
    let A = admission c.in_ok-admit.was c.admit.ensures in
    (record { sound = A.sound; known = known_second _ _ A.versions; is = c.root-l.ensures }, record { sound = A.sound; known = known_third _ _ _ A.versions; is = c.root-r.ensures })

run : (c : After-union-made)
    → Run c.args.b.now c.union-made.new.b c.makes_from-from.result c.union-made.result (let a = c.args in uniting a.b.now a.dst a.left a.right a.rule)
run c =
    let a = c.args in
    let A = admission c.in_ok-admit.was c.admit.ensures in
    let S : Source a.b.now a.left c.root-l.result = record { sound = A.sound; known = known_second _ _ A.versions; is = c.root-l.ensures } in
    let T : Source a.b.now a.right c.root-r.result = record { sound = A.sound; known = known_third _ _ _ A.versions; is = c.root-r.ensures } in
    let legal = union_legal c.in_ok-rule.rule c.in_ok-rule.ensures in
    let fits = fits_told c.in_ok-rule.rule c.in_ok-rule.ensures S T c.fits.ensures c.if-not-fits.false in
    record {
      begun = record { sound = A.sound; versions = A.versions; legal = legal; positive = refl; fits = fits };
      low_is = c.makes_from-from.ensures;
      pieces = _;
      named = pair_pieces S T;
      out = united c.in_ok-rule.rule c.in_ok-rule.ensures S T fits c.union-made.ensures.0;
      ordered = union_ordered _ _ _ _ (version_ordered A.sound.sound a.left S.known) (version_ordered A.sound.sound a.right T.known);
    }

pub root-l-requires : goal.root-l-requires
root-l-requires c = let A = admission c.in_ok-admit.was c.admit.ensures in (A.sound.shaped, known_second _ _ A.versions)

pub root-r-requires : goal.root-r-requires
root-r-requires c = let A = admission c.in_ok-admit.was c.admit.ensures in (A.sound.shaped, known_third _ _ _ A.versions)

pub fits-requires : goal.fits-requires
fits-requires c = let S = sources c in (source_summable S.0, source_summable S.1)

pub returns-then-not-fits : goal.returns-then-not-fits
returns-then-not-fits c =
    let A = admission c.in_ok-admit.was c.admit.ensures in
    let S = sources (goal.at.returns-then-not-fits c).After-root-r in
    sum_refused (let a = c.args in uniting a.b.now a.dst a.left a.right a.rule) A.sound A.versions (union_legal c.in_ok-rule.rule c.in_ok-rule.ensures) refl (fits_told c.in_ok-rule.rule c.in_ok-rule.ensures S.0 S.1 c.fits.ensures c.if-not-fits.true) refl

pub union-made-requires : goal.union-made-requires
union-made-requires c = let S = sources (goal.at.union-made-requires c).After-root-r in (pair_asks S.0 S.1, c.makes_from-from.ensures)

pub settle-requires : goal.settle-requires
settle-requires c =
    let R = settle_asks (run (goal.at.settle-requires c).After-union-made) in
    (R.0, known_first _ (admission c.in_ok-admit.was c.admit.ensures).versions, R.1, R.2, R.3)

pub returns : goal.returns
returns c =
    settled (run (goal.at.returns c).After-union-made) _ c.settle.ensures (done_ended c.settle.result) (λ i. omega (arith, c.slice_known-1.given i)) (λ i. omega (arith, c.type_inv.b i))
