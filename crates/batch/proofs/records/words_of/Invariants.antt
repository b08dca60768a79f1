use Rattle.std.proofs.Common.{◌≡◌, drop}
use Rattle.batch.specs.Words.{flat}
use Rattle.batch.proofs.records.words_of.Given as goal

-- What the records from i on would make of the words as they are now is what all of them make of the words at entry.
abbrev pub invariant-loop-i : goal.invariant-loop-i
invariant-loop-i l = flat (drop l.i l.edits) l.i l.words ≡ flat l.edits 0 l.initial.words
