-- The rule has its number and may cancel, and the difference of the two roots ends as every edit does.
use mathlib.Core.Path.{◌≡◌, refl, sym, ◌∙◌}
use mathlib.Core.Bool.{true}
use native.Mathlib.Omega.{arith}
use Rattle.model.specs.Calls.{lessening}
use Rattle.table.specs.Answers.{Source}
use Rattle.table.proofs.Admitting.{admission, known_first, known_second, known_third}
use Rattle.table.proofs.Settling.{Run, pair_pieces, pair_asks, settle_asks, settled, done_ended}
use Rattle.table.proofs.Rules.{may_cancel, lessened, lessened_ordered}
use Rattle.table.proofs.edits.difference.Goals as goal
use Rattle.table.proofs.edits.difference.Goals.{After-difference-made, After-root-r, else-cancel-via-then-cancel+else-keeps_equal, else-cancel-via-else-cancel}

sources : (c : After-root-r)
    → Source c.args.b.now c.args.left c.root-l.result × Source c.args.b.now c.args.right c.root-r.result
sources c =
    let A = admission c.in_ok-admit.was c.admit.ensures in
    (record { sound = A.sound; known = known_second _ _ A.versions; is = c.root-l.ensures }, record { sound = A.sound; known = known_third _ _ _ A.versions; is = c.root-r.ensures })

legal : (c : After-difference-made) → (let a = c.args in lessening a.b.now a.dst a.left a.right a.rule a.cancel).legal ≡ true
legal c =
    elim c.else-cancel.branch [
      | else-cancel-via-then-cancel+else-keeps_equal w ↦ may_cancel c.in_ok-rule.rule c.in_ok-rule.ensures c.args.cancel (rw w.if-cancel.true (sym w.keeps_equal.ensures ∙ w.if-keeps_equal.false))
      | else-cancel-via-else-cancel w ↦ may_cancel c.in_ok-rule.rule c.in_ok-rule.ensures c.args.cancel (rw w.if-cancel.false refl)
    ]

run : (c : After-difference-made)
    → Run c.args.b.now c.difference-made.new.b c.makes_from-from.result c.difference-made.result (let a = c.args in lessening a.b.now a.dst a.left a.right a.rule a.cancel)
run c =
    let a = c.args in
    let A = admission c.in_ok-admit.was c.admit.ensures in
    let S : Source a.b.now a.left c.root-l.result = record { sound = A.sound; known = known_second _ _ A.versions; is = c.root-l.ensures } in
    let T : Source a.b.now a.right c.root-r.result = record { sound = A.sound; known = known_third _ _ _ A.versions; is = c.root-r.ensures } in
    record {
      begun = record { sound = A.sound; versions = A.versions; legal = legal c; positive = refl; fits = refl };
      low_is = c.makes_from-from.ensures;
      pieces = _;
      named = pair_pieces S T;
      out = lessened c.in_ok-rule.rule c.in_ok-rule.ensures a.cancel S T c.difference-made.ensures.0;
      ordered = lessened_ordered A.sound a.left a.right a.rule a.cancel (legal c) S.known T.known;
    }

pub root-l-requires : goal.root-l-requires
root-l-requires c = let A = admission c.in_ok-admit.was c.admit.ensures in (A.sound.shaped, known_second _ _ A.versions)

pub root-r-requires : goal.root-r-requires
root-r-requires c = let A = admission c.in_ok-admit.was c.admit.ensures in (A.sound.shaped, known_third _ _ _ A.versions)

pub difference-made-requires : goal.difference-made-requires
difference-made-requires c = let S = sources (goal.at.difference-made-requires c).After-root-r in (pair_asks S.0 S.1, c.makes_from-from.ensures)

pub settle-requires : goal.settle-requires
settle-requires c =
    let R = settle_asks (run (goal.at.settle-requires c).After-difference-made) in
    (R.0, known_first _ (admission c.in_ok-admit.was c.admit.ensures).versions, R.1, R.2, R.3)

pub returns : goal.returns
returns c =
    settled (run (goal.at.returns c).After-difference-made) _ c.settle.ensures (done_ended c.settle.result) (λ i. omega (arith, c.slice_known-1.given i)) (λ i. omega (arith, c.type_inv.b i))
