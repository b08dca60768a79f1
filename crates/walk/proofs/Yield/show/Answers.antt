-- A wanted row counts in any case, and is written from index start on.
use mathlib.Core.Path.{sym, ◌∙◌}
use Rattle.walk.proofs.Cases.{shown_no, shown_early, shown_put}
use Rattle.walk.proofs.Yield.show.Goals as goal
use Rattle.walk.proofs.Yield.show.Goals.{else-yes-via-then-yes+else-start-n, else-yes-via-else-yes}

pub returns-then-start-n : goal.returns-then-start-n
returns-then-start-n c = (c.is_wanted-yes.ensures, c.put.ensures ∙ shown_put _ _ _ _ _ (sym c.is_wanted-yes.ensures ∙ c.if-yes.true) c.if-start-n.true)

pub returns-else-yes : goal.returns-else-yes
returns-else-yes c = (
  c.is_wanted-yes.ensures,
  elim c.else-yes.branch [
    | else-yes-via-then-yes+else-start-n w ↦ shown_early _ _ _ _ _ w.if-start-n.false
    | else-yes-via-else-yes w ↦ shown_no _ _ _ _ _ (sym c.is_wanted-yes.ensures ∙ w.if-yes.false)
  ],
)
