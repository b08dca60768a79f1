-- Both ask no more than soundness, and say what has begun.
use mathlib.Core.Path.{refl}
use Rattle.audit.proofs.Passes.{sound_marks, begun_goes}
use Rattle.audit.proofs.whole.begun_ok.Goals as goal

pub returns-then-words_ok : goal.returns-then-words_ok
returns-then-words_ok g c =
    let r = c.roots_ok in
    begun_goes c.args.b.now c.args.a.now c.args.n c.requires.0 r.new.t c.if-words_ok.ensures.0 (c.if-words_ok.ensures.1 refl) r.result r.ensures.0 r.ensures.1

pub returns-else-words_ok : goal.returns-else-words_ok
returns-else-words_ok g c =
    rw c.if-words_ok.false (λ S. c.if-words_ok.ensures.0 (sound_marks c.args.b.now c.args.a.now c.args.n c.requires.0 S))
