-- A refused inbox answers its number and 0, a sound one what document 01's question answers.
use mathlib.Core.Path.{refl}
use Rattle.model.proofs.calls.Checks.{check_sound}
use Rattle.inbox.proofs.Answered.{asked_uncounted, asked-counted}
use Rattle.inbox.proofs.question.Goals as goal

pub returns-then-x-eq0 : goal.returns-then-x-eq0
returns-then-x-eq0 c = asked_uncounted (check_sound c.in_ok-check.ensures refl) c.if-x-eq0.true

pub returns-else-x-eq0 : goal.returns-else-x-eq0
returns-else-x-eq0 c = asked-counted (check_sound c.in_ok-check.ensures refl) c.if-x-eq0.false c.missing.ensures
