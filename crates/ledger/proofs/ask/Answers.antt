-- The ledger and the account come first, then the table's lookup, whose answer is handed on.
use Rattle.ledger.proofs.Asking.{looked}
use Rattle.ledger.proofs.ask.Goals as goal

pub returns : goal.returns
returns c = let a = c.args in looked a.ledger.now a.block.now a.version a.call c.lookup.result c.map_err.result c.in_ok-known.ensures c.lookup.ensures c.map_err.ensures.cases
