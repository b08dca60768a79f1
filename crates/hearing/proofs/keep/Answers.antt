-- A byte is put behind those kept, or dropped where 36 are kept.
use Rattle.hearing.proofs.Keeping.{keeps_more, keeps_full}
use Rattle.hearing.proofs.keep.Goals as goal

pub returns-then-len-ge36-clause-kept : goal.returns-then-len-ge36-clause-kept
returns-then-len-ge36-clause-kept c = λ held k. keeps_full c.args.byte c.if-len-ge36.true k

pub returns-clause-kept : goal.returns-clause-kept
returns-clause-kept c = λ held k. keeps_more c.args.byte c.if-len-ge36.false k
