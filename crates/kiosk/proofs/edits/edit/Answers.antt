-- The frame's kind tells which step is taken.
use Rattle.kiosk.proofs.Moving.{edit_nothing, edit_put, edit_take}
use Rattle.kiosk.proofs.edits.edit.Goals as goal

pub returns-then-kind-eq0 : goal.returns-then-kind-eq0
returns-then-kind-eq0 c = edit_nothing _ _ _ c.requires c.if-kind-eq0.true

pub returns-then-kind-eq1 : goal.returns-then-kind-eq1
returns-then-kind-eq1 c = edit_put _ _ _ c.if-kind-eq1.true c.put.ensures

pub returns : goal.returns
returns c = edit_take _ _ _ c.if-kind-eq0.false c.if-kind-eq1.false c.take_out.ensures
