-- The second pass asks no more than soundness, and the counts decide.
use mathlib.Core.Path.{refl}
use native.Mathlib.Omega.{arith}
use borrow.Author.Rules.{rules}
use Rattle.area.proofs.Gathers.{zeros_part}
use Rattle.audit.proofs.Passes.{sound_trees, ready, backed, last_tells}
use Rattle.audit.proofs.whole.ended_ok.Goals as goal

pub trees_ok-requires : goal.trees_ok-requires
trees_ok-requires g c =
    let b = c.args.b.now in
    let a = c.args.a.now in
    let n = c.args.n in
    let s = c.args.notes.now in
    let C = c.requires.0 in
    let G = c.requires.2 in
    (search rules, (ready b a n C G.marks s.size_and_next G.notes, c.requires.1, G.heads, G.keys, backed b a n C G.marks s.tally G.left))

pub returns-then-not-trees_ok : goal.returns-then-not-trees_ok
returns-then-not-trees_ok g c =
    λ S. c.if-not-trees_ok.ensures.told.0 (sound_trees c.args.b.now c.args.a.now c.args.n c.requires.0 S c.args.notes.now.tally c.requires.2.left)

pub returns : goal.returns
returns g c =
    let n = c.args.n in
    let G = c.requires.2 in
    let t = c.trees_ok.new.self.tally in
    let z = c.zeros_half in
    let Z = zeros_part t 1 n _ (omega arith) (omega arith) z.result z.ensures in
    last_tells c.args.b.now c.args.a.now n c.requires.0 G.marks c.args.notes.now.tally G.left t c.if-not-trees_ok.ensures.told.0.area_ok (c.if-not-trees_ok.ensures.told.1 refl) z.result Z
