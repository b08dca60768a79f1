-- Building ends because each part is shorter than the text; each level makes one node of its two sides, and at most one line is a leaf.
use native.Mathlib.Omega.{arith}
use mathlib.Core.Path.{refl, ◌∙◌}
use Prim.Native.Nat.{ℕ, ◌+◌, ◌*◌}
use Rattle.restore.specs.Answers.{pair}
use Rattle.restore.proofs.Looking.{piece_entry}
use Rattle.restore.proofs.Building.{half, second_length, Begun, no_first, first_holds, no_second, both_ask, both_made}
use Rattle.restore.proofs.+build.Goals as goal
use Rattle.restore.proofs.+build.Goals.{Else-n-lt2}

-- what a level begins with
begun : (t : ℕ) (c : Else-n-lt2 t) → let a = c.args in Begun a.b.now a.text.now
begun t c = record { holds = c.requires.0.0; few = c.requires.0.1; some = omega (arith, c.if-n-lt2.false) }

pub returns-in_err-left : goal.returns-in_err-left
returns-in_err-left t c = rw c.from_residual.ensures (no_first (begun t (goal.at.returns-in_err-left t c).Else-n-lt2) c.in_err-left.ensures.0, c.build.ensures.1)

pub build-requires-2 : goal.build-requires-2
build-requires-2 t c =
    let G = begun t (goal.at.build-requires-2 t c).Else-n-lt2 in
    let l = second_length c.args.text.now G.some in
    (omega (arith, l, c.decreases, G.some), ((first_holds G c.in_ok-left.ensures.0, omega (arith, l, G.few)), c.build.ensures.1))

pub returns-in_err-right : goal.returns-in_err-right
returns-in_err-right t c = rw c.from_residual-in_err-right.ensures (no_second (begun t (goal.at.returns-in_err-right t c).Else-n-lt2) c.in_ok-left.ensures.0 c.in_err-right.ensures.0, c.build-2.ensures.1)

pub make-requires : goal.make-requires
make-requires t c = (both_ask (begun t (goal.at.make-requires t c).Else-n-lt2) c.in_ok-left.ensures.0 c.in_ok-right.ensures.0, c.build-2.ensures.1)

pub returns : goal.returns
returns t c =
    let text = c.args.text.now in
    let e = c.entry_of-e in
    let m = c.make in
    let is = e.ensures ∙ piece_entry text (half text) (17 * half text) (17 * half text + 17) refl refl in
    let made = both_made (begun t (goal.at.returns t c).Else-n-lt2) c.in_ok-left.ensures.0 c.in_ok-right.ensures.0 (pair e.result) is m.ensures.0 in
    (made, m.ensures.1)
