-- A newline and two numbers are an entry; the first of the three that is missing leaves none.
use Rattle.model.proofs.link.Texts.{Closed}
use Rattle.restore.proofs.Looking.{no_newline, no_key, no_value, both_numbers}
use Rattle.restore.proofs.read_line.Goals as goal
use Rattle.restore.proofs.read_line.Goals.{Else-line-ne10}

closed : (c : Else-line-ne10) → Closed c.args.line.now
closed c = record { long = c.requires; newline = c.if-line-ne10.false }

pub returns-then-line-ne10 : goal.returns-then-line-ne10
returns-then-line-ne10 c = no_newline _ (λ C. c.if-line-ne10.true C.newline)

pub returns-in_err-key : goal.returns-in_err-key
returns-in_err-key c = rw c.from_residual.ensures (no_key _ (closed (goal.at.returns-in_err-key c).Else-line-ne10) c.in_err-key.ensures)

pub returns-in_err-value : goal.returns-in_err-value
returns-in_err-value c = rw c.from_residual-in_err-value.ensures (no_value _ (closed (goal.at.returns-in_err-value c).Else-line-ne10) c.in_ok-key.ensures c.in_err-value.ensures)

pub returns : goal.returns
returns c = both_numbers _ (closed (goal.at.returns c).Else-line-ne10) c.in_ok-key.ensures c.in_ok-value.ensures
