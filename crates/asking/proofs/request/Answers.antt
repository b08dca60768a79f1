-- Lines heard from a fresh block leave a sound inbox, so its request is written, and there is room for all of it.
use Rattle.std.proofs.Common.{arith}
use Rattle.std.specs.Prelude.{Ok}
use Rattle.hearing.proofs.Sounding.{well_heard}
use Rattle.answers.specs.Answers.{report_of}
use Rattle.asking.proofs.Writing.{whole_request, is_answered}
use Rattle.asking.proofs.request.Goals as goal

pub unwrap-report-requires : goal.unwrap-report-requires
unwrap-report-requires g c = is_answered c.ask.result (well_heard c.hear_input.ensures).inbox c.ask.ensures

pub returns : goal.returns
returns g c =
    let sound = (well_heard c.hear_input.ensures).inbox in
    let w = whole_request _ c.args.out.now _ (report_of (Ok c.unwrap-report.result)) sound c.requires.2 (omega arith) (rw c.unwrap-report.ensures at c.ask.ensures) in
    (w.0, (_, _, c.hear_input.ensures, w.1))
