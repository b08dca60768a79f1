-- Length, newline, digits, kind and the other rules are tested in this order, and the first that fails is the line's fault.
use mathlib.Core.Path.{◌∙◌, sym}
use native.Mathlib.Omega.{arith}
use Rattle.model.proofs.link.Lines.{Closed, read_open, read_kind, read_range, read_good}
use Rattle.frame.proofs.Parsing.{fields_are, no_fields}
use Rattle.frame.proofs.parse.Goals as goal
use Rattle.frame.proofs.parse.Goals.{Else-line-ne10, then-line-ne35-via-then-line-ne35, then-line-ne35-via-else-line-ne35+then-line-ne10}

closed : (c : Else-line-ne10) → Closed c.args.line.now
closed c = record { long = c.if-line-ne35.false; newline = c.if-line-ne10.false }

pub returns-then-line-ne35 : goal.returns-then-line-ne35
returns-then-line-ne35 c = elim c.then-line-ne35.branch [
  | then-line-ne35-via-then-line-ne35 w ↦ sym (read_open _ (λ C. w.if-line-ne35.true C.long))
  | then-line-ne35-via-else-line-ne35+then-line-ne10 w ↦ sym (read_open _ (λ C. w.if-line-ne10.true C.newline))
]

pub returns-in_err-f : goal.returns-in_err-f
returns-in_err-f c = no_fields _ _ _ c.from_residual.ensures.1 (closed (goal.at.returns-in_err-f c).Else-line-ne10) c.in_err-f.ensures

pub returns-then-f-gt2 : goal.returns-then-f-gt2
returns-then-f-gt2 c = sym (read_kind _ (closed (goal.at.returns-then-f-gt2 c).Else-line-ne10) (fields_are _ c.in_ok-f.ensures) (omega arith))

pub returns-then-not-legal : goal.returns-then-not-legal
returns-then-not-legal c =
    sym (read_range _ (closed (goal.at.returns-then-not-legal c).Else-line-ne10) (fields_are _ c.in_ok-f.ensures) (omega arith) (sym c.legal.ensures ∙ c.if-not-legal.true))

pub returns : goal.returns
returns c = sym (read_good _ (closed (goal.at.returns c).Else-line-ne10) (fields_are _ c.in_ok-f.ensures) (sym c.legal.ensures ∙ c.if-not-legal.false))
