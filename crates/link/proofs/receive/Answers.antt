-- Each check refuses before anything is written; the edit comes first, and the mark only where it was done.
use mathlib.Core.Path.{◌∙◌, ap}
use Rattle.std.specs.Prelude.{Ok}
use Rattle.link.proofs.Lines.{ready_checked, fit}
use Rattle.link.proofs.receive.Goals as goal

pub accept-requires : goal.accept-requires
accept-requires c = fit (ready_checked c.in_ok-ready.ensures).inbox _ c.judge.result c.judge.ensures _ (c.in_ok-f.was ∙ ap Ok c.in-Some.is)
