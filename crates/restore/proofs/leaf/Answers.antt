-- No line makes nothing. One line is the middle of a level whose sides are empty.
use native.Mathlib.Omega.{arith}
use mathlib.Core.Path.{refl, ◌∙◌}
use Prim.Native.Nat.{◌/◌}
use lib.ListN.{length}
use Rattle.model.proofs.link.Texts.{entries-length}
use Rattle.restore.specs.Answers.{pair}
use Rattle.restore.proofs.Looking.{piece_entry}
use Rattle.restore.proofs.Building.{Begun, builds_none, single_asks, single_made}
use Rattle.restore.proofs.leaf.Goals as goal
use Rattle.restore.proofs.leaf.Goals.{Else-text-lt17}

-- what one line begins with
begun : (c : Else-text-lt17) → let a = c.args in Begun a.b.now a.text.now
begun c = record { holds = c.requires.0.0; few = omega (arith, c.requires.0.1); some = omega (arith, c.if-text-lt17.false) }

pub returns-then-text-lt17 : goal.returns-then-text-lt17
returns-then-text-lt17 c =
    let t = c.args.text.now in
    (builds_none _ _ c.requires.0.0 (omega (arith, entries-length t 0 (length t / 17), c.if-text-lt17.true)), c.requires.1)

pub make-requires : goal.make-requires
make-requires c =
    (single_asks (begun (goal.at.make-requires c).Else-text-lt17) c.requires.0.1, c.requires.1)

pub returns : goal.returns
returns c =
    let e = c.entry_of-e in
    let m = c.make in
    (single_made (begun (goal.at.returns c).Else-text-lt17) c.requires.0.1 (pair e.result) (e.ensures ∙ piece_entry c.args.text.now 0 0 17 refl refl) m.ensures.0, m.ensures.1)
