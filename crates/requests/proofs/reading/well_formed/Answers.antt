-- No line, a piece left over, the line that says complete, or lines that ask.
use native.Mathlib.Omega.{arith}
use mathlib.Core.Path.{◌≡◌, sym, ◌∙◌}
use borrow.Author.Tests.{eqb-true}
use Prim.Native.Nat.{◌*◌, ◌/◌, ◌<◌}
use lib.ListN.{length}
use Rattle.requests.proofs.Forming.{well_none, well_over, well_complete, well_asks, well_other, well_several}
use Rattle.requests.proofs.reading.well_formed.Goals as goal
use Rattle.requests.proofs.reading.well_formed.Goals.{then-n-eq0-via-then-n-eq0, then-n-eq0-via-else-n-eq0+then-request-ne0, then-n-eq1, else-n-eq1}

pub returns-then-n-eq0 : goal.returns-then-n-eq0
returns-then-n-eq0 c = elim c.then-n-eq0.branch [
  | then-n-eq0-via-then-n-eq0 w ↦ well_none c.args.request.now w.if-n-eq0.true
  | then-n-eq0-via-else-n-eq0+then-request-ne0 w ↦ well_over c.args.request.now w.if-request-ne0.true
]

pub returns-then-says_complete : goal.returns-then-says_complete
returns-then-says_complete c =
    let cs = c.args.request.now in
    let whole : length cs ≡ 35 * (length cs / 35) = omega arith in
    elim c.if-n-eq1.branch [
      | then-n-eq1 w ↦ c.if-says_complete.true ∙ well_complete cs 1 (rw w.if-n-eq1.true at whole) (sym c.if-says_complete.true ∙ w.value-is ∙ w.says_complete.ensures)
      | else-n-eq1 w ↦ absurd (w.if-n-eq1.false (eqb-true (length cs / 35) 1 (sym w.value-is ∙ c.if-says_complete.true)))
    ]

pub returns-else-says_complete : goal.returns-else-says_complete
returns-else-says_complete c =
    let cs = c.args.request.now in
    let n = length cs / 35 in
    let whole : length cs ≡ 35 * n = omega arith in
    let some : 0 < n = omega (arith, c.if-n-eq0.false) in
    c.ascending.ensures
    ∙ well_asks cs n whole some (elim c.if-n-eq1.branch [
      | then-n-eq1 w ↦ well_other cs n whole w.if-n-eq1.true (sym w.says_complete.ensures ∙ sym w.value-is ∙ c.if-says_complete.false)
      | else-n-eq1 w ↦ well_several cs n whole w.if-n-eq1.false
    ])
