-- A turn lays out the record at i, and with none left the words are laid out.
use native.Mathlib.Omega.{arith}
use mathlib.Core.Path.{◌∙◌, sym, ap}
use Prim.Native.Nat.{◌+◌}
use lib.ListN.{drop}
use Rattle.batch.specs.Words.{flat}
use Rattle.batch.proofs.Words.{flat_step, flat_end}
use Rattle.batch.proofs.records.words_of.Goals as goal

pub loop-i-preserved : goal.loop-i-preserved
loop-i-preserved c =
    let l = c.loop-i in
    ap (flat (drop (l.i + 1) c.args.edits.now) (l.i + 1)) c.put_record.ensures ∙ sym (flat_step c.args.edits.now l.i _ l.words c.loop-i-test.true) ∙ l.invariant

pub returns : goal.returns
returns c = sym (flat_end c.args.edits.now c.loop-i.i c.loop-i.words c.loop-i-test.false) ∙ c.loop-i.invariant
