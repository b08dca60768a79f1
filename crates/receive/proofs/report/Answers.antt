-- Lines heard from a fresh block leave it sound, so its text is written.
use Rattle.std.proofs.Common.{rules}
use Rattle.hearing.proofs.Sounding.{well_heard}
use Rattle.receive.proofs.report.Goals as goal

pub write_text-requires : goal.write_text-requires
write_text-requires g c =
    let w = well_heard c.hear_input.ensures in
    (w.block, w.room_is, w.inbox, search rules)
