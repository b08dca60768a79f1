-- The words are the records laid out over none, and their batch is the batch of the records.
use mathlib.Core.Path.{subst}
use mathlib.Core.List.{List}
use Prim.Native.Nat.{ℕ}
use lib.ListN.{length}
use Rattle.model.specs.Batch.{Batch, records_from}
use Rattle.answers.specs.Numbers.{code}
use Rattle.batch.specs.Words.{no_words}
use Rattle.batch.proofs.Answers.{of_edits}
use Rattle.batch.proofs.records.batch.Goals as goal

pub returns : goal.returns
unfolding no_words
returns c =
    let a = c.args in
    of_edits a.dst a.src a.edits.now (subst (λ (ws : List ℕ). Batch a.b.now c.batch_of.new.b a.dst a.src (records_from ws 0 (length a.edits.now)) (code c.batch_of.result)) c.words_of.ensures c.batch_of.ensures)
