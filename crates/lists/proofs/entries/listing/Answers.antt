-- The words that list wrote stand at the front of the output, so its leading part is the listing's.
use Rattle.std.specs.Prelude.{Ok, Err}
use Rattle.answers.specs.Answers.{report_of}
use Rattle.model.specs.Lists.{listed}
use Rattle.lists.proofs.Reporting.{lists_shows}
use Rattle.lists.proofs.entries.listing.Goals as goal
use Rattle.lists.proofs.entries.listing.Goals.{in-Ok, in-Err}

pub returns : goal.returns
returns c =
    let s = c.args in
    let p = listed s.b.now s.left s.right in
    elim c.match-list.branch [
      | in-Ok w ↦ rw (w.number-is, w.total-is, w.written-is) (lists_shows s.start p (report_of (Ok w.in-Ok.report)) (rw w.in-Ok.is at c.list.ensures))
      | in-Err w ↦ rw (w.number-is, w.number.ensures, w.total-is, w.written-is) (lists_shows s.start p (report_of (Err w.in-Err.refusal)) (rw w.in-Err.is at c.list.ensures))
    ]
