-- What is wrong with the line, then its batch, count and value, then whether its index is heard.
use Rattle.judge.proofs.Lines.{has_bit}
use Rattle.judge.proofs.judge.Goals as goal

pub heard-requires : goal.heard-requires
heard-requires c = (c.requires.long, has_bit c.args.x.now c.args.line.now c.in_ok-f.f c.in_ok-f.ensures)
