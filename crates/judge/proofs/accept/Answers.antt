-- The mark keeps the inbox sound, and what is missing is counted after it.
use mathlib.Core.Path.{sym, subst}
use Rattle.model.specs.Inbox.{SoundInbox}
use Rattle.model.proofs.link.Heard.{marked_sound}
use Rattle.judge.proofs.Lines.{markable}
use Rattle.judge.proofs.accept.Goals as goal

pub missing-requires : goal.missing-requires
missing-requires c = subst SoundInbox (sym c.mark.ensures) (marked_sound (markable c.requires))
