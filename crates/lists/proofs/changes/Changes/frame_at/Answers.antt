-- Index i is below the count, so that its two words are there; the index tells a put from a remove.
use mathlib.Core.Path.{refl}
use Rattle.lists.proofs.Framing.{frame_none, frame_put, frame_remove}
use Rattle.lists.proofs.changes.Changes.frame_at.Goals as goal

pub returns-then-self-eq0 : goal.returns-then-self-eq0
returns-then-self-eq0 c =
    let a = c.args in
    frame_none a.batch a.self.puts a.words.now a.i a.self.count c.if-self-eq0.true c.requires.2

pub returns-then-i-self : goal.returns-then-i-self
returns-then-i-self c =
    let a = c.args in
    frame_put a.batch a.self.puts a.words.now a.i a.self.count _ c.if-self-eq0.false refl c.if-i-self.true

pub returns : goal.returns
returns c =
    let a = c.args in
    frame_remove a.batch a.self.puts a.words.now a.i a.self.count _ c.if-self-eq0.false refl c.if-i-self.false
