-- Where the length is right the fill makes every word but the first 0, and the batch is written to the first; where it is not, nothing is written.
use Rattle.inbox.proofs.Answered.{begun_filled}
use Rattle.inbox.proofs.begin.Goals as goal

pub returns : goal.returns
returns c = begun_filled c.args.x.now c.fill.new.self c.args.batch c.if-not-shape.ensures (c.fill.ensures.after (λ y e. e))
