-- Two numbers are written one behind the other, and a newline behind them.
use Rattle.std.proofs.Common.{arith}
use Rattle.receive.proofs.Texts.{entry_put}
use Rattle.receive.proofs.put_entry.Goals as goal

pub returns : goal.returns
returns c =
    entry_put c.args.out.now c.put_hex.new.out c.put_hex-2.new.out c.args.at c.args.key c.args.value c.requires (omega arith) (omega arith) c.put_hex.ensures c.put_hex-2.ensures
