-- The request is this one line, so that its tests are the request's.
use mathlib.Core.Path.{sym, refl}
use Rattle.model.specs.Request.{says_complete}
use Rattle.requests.proofs.Judging.{complete_count, complete_kind, complete_sum}
use Rattle.requests.proofs.Cutting.{only_bad, only_good}
use Rattle.requests.proofs.reading.says_complete.Goals as goal
use Rattle.requests.proofs.reading.says_complete.Goals.{then-f-ne1-via-then-f-ne1, then-f-ne1-via-else-f-ne1+then-f}

pub returns-in_default : goal.returns-in_default
returns-in_default c = only_bad says_complete _ (sym c.in_default.ensures)

pub returns-then-f-ne1 : goal.returns-then-f-ne1
returns-then-f-ne1 c = only_good says_complete _ (sym c.in-Some.ensures) (elim c.then-f-ne1.branch [
  | then-f-ne1-via-then-f-ne1 w ↦ complete_count _ w.if-f-ne1.true
  | then-f-ne1-via-else-f-ne1+then-f w ↦ complete_kind _ w.if-f-ne1.false w.if-f.true
])

pub returns : goal.returns
returns c = only_good says_complete _ (sym c.in-Some.ensures) (complete_sum _ _ c.if-f-ne1.false c.if-f.false refl)
