-- A line once a batch has begun; else a line of another length, a malformed one, or the one to begin with.
use Rattle.judge.specs.Verdicts.{heard_of}
use Rattle.hearing.proofs.Hearing.{runs_hears, runs_passes, runs_waits, runs_begins}
use Rattle.hearing.proofs.hear.Goals as goal

pub returns-then-begun : goal.returns-then-begun
returns-then-begun c = runs_hears c.args.line.now (heard_of c.receive.result) c.if-begun.true c.receive.ensures

pub returns-then-line-ne35 : goal.returns-then-line-ne35
returns-then-line-ne35 c = runs_passes c.args.line.now c.if-begun.false c.if-line-ne35.true

pub returns-in_default : goal.returns-in_default
returns-in_default c = runs_waits c.args.line.now c.in_default.field-0 c.if-begun.false c.in_default.ensures

pub returns : goal.returns
returns c =
    runs_begins c.in-Ok.first c.args.line.now (heard_of c.receive-2.result) c.if-begun.false c.in-Ok.ensures c.requires c.begin.ensures c.receive-2.ensures
