-- What the rule made ends as every edit of the table does.
use native.Mathlib.Omega.{arith}
use Rattle.model.proofs.block.Versions.{version_ordered}
use Rattle.block.proofs.EntryToExit.{Run, run_asks, run_ends}
use Rattle.frame.specs.Fields.{fields_of}
use Rattle.table.specs.Answers.{Source}
use Rattle.table.proofs.Settling.{source_pieces, rule_asks}
use Rattle.link.specs.Answers.{rule_of}
use Rattle.link.proofs.Changes.{rule_ordered, rule_made}
use Rattle.link.proofs.edit.Goals as goal
use Rattle.link.proofs.edit.Goals.{After-edit-made, After-root-source}

source : (c : After-root-source) → let a = c.args in Source a.b.now a.version c.root-source.result
source c = record { sound = c.requires.0; known = c.requires.1; is = c.root-source.ensures }

run : (c : After-edit-made)
    → let a = c.args in Run a.b.now c.edit-made.new.b c.makes_from-from.result c.edit-made.result (rule_of a.b.now a.version a.f)
run c =
    let S = source c.before.before.before in
    let a = c.args in
    record {
      sound = S.sound;
      low_is = c.makes_from-from.ensures;
      pieces = _;
      named = source_pieces S;
      out = rule_made a.f S c.edit-made.ensures.0;
      ordered = rule_ordered (fields_of a.f) _ _ (version_ordered S.sound.sound a.version S.known);
    }

pub edit-made-requires : goal.edit-made-requires
edit-made-requires c = (rule_asks (source (goal.at.edit-made-requires c).After-root-source), c.makes_from-from.ensures)

pub settle-requires : goal.settle-requires
settle-requires c =
    let R = run_asks (run (goal.at.settle-requires c).After-edit-made) in
    (R.0, (source (goal.at.settle-requires c).After-root-source).known, R.1, R.2, R.3)

pub returns : goal.returns
returns c =
    run_ends (run (goal.at.returns c).After-edit-made) c.settle.ensures (λ i. omega (arith, c.slice_known-1.given i)) (λ i. omega (arith, c.type_inv.b i))
