-- Three stores, where there is room for the record.
use mathlib.Core.Path.{sym}
use Rattle.batch.proofs.Words.{put_is, put_past}
use Rattle.batch.proofs.records.put_record.Goals as goal

pub returns-then-i-lt512 : goal.returns-then-i-lt512
returns-then-i-lt512 c = sym (put_is _ _ _ c.if-i-lt512.true)

pub returns-else-i-lt512 : goal.returns-else-i-lt512
returns-else-i-lt512 c = sym (put_past _ _ _ c.if-i-lt512.false)
