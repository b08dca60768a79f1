-- Too many records are refused after the first checks; else the first words are cut off, and they hold these records.
use native.Mathlib.Omega.{arith}
use Rattle.table.proofs.Admitting.{admission}
use Rattle.batch.proofs.Words.{many_records}
use Rattle.batch.proofs.Answers.{not_legal, of_words}
use Rattle.batch.proofs.records.batch_of.Goals as goal

pub returns-then-n-gt512 : goal.returns-then-n-gt512
returns-then-n-gt512 c =
    not_legal (admission c.in_ok-admit.was c.admit.ensures) _ (many_records c.args.words.now c.args.n c.if-n-gt512.true)

pub returns : goal.returns
returns c =
    of_words c.args.dst c.args.src c.args.words.now c.args.n (omega arith) c.batch_words.ensures
