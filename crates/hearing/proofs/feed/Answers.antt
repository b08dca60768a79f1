-- A byte that ends no line, a newline, and the end of the bytes.
use Rattle.std.proofs.Common.{rules, refl}
use Rattle.hearing.proofs.Feeding.{feeding_byte, feeding_line, feeding_all}
use Rattle.hearing.proofs.feed.Goals as goal
use Rattle.hearing.proofs.feed.Goals.{then-byte-eq-NEWLINE, else-byte-eq-NEWLINE}

pub loop-byte-preserved : goal.loop-byte-preserved
loop-byte-preserved c =
    let F = c.loop-byte.invariant.1 in
    let K = c.keep-len.ensures in
    elim c.if-byte-eq-NEWLINE.branch [
      | then-byte-eq-NEWLINE w ↦
          let e = w.end_line.ensures in
          rw (w.b-is, w.x-is, w.progress-is, w.len-is) (search rules, feeding_line F c.loop-byte-test.true refl K.kept w.if-byte-eq-NEWLINE.true (record { none_kept = refl; same_buffer = e.same_buffer; heard = e.heard }))
      | else-byte-eq-NEWLINE w ↦ rw (w.b-is, w.x-is, w.progress-is, w.len-is) (K.short, feeding_byte F c.loop-byte-test.true refl K.kept w.if-byte-eq-NEWLINE.false)
    ]

pub returns : goal.returns
returns c = feeding_all c.loop-byte.invariant.1 c.loop-byte-test.false
