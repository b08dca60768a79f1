-- The test ends because a child is smaller than its node. An empty side or a small sum decides at once; else the root's key and both of its sides do.
use Rattle.std.proofs.Common.{ℕ, sym, ◌∙◌, inl, inr, arith}
use Rattle.tree.proofs.Gathers.{AtNode, left_summable, right_summable, left_less, right_less}
use Rattle.sets.proofs.SumTest.{left_none, right_none, both_small, low_exceeds, key_exceeds, high_decides}
use Rattle.sets.proofs.sums.+sums_fit.Goals as goal
use Rattle.sets.proofs.sums.+sums_fit.Goals.{After-read-l, then-sums_fit, else-sums_fit}

-- the root of the left tree
root : (t : ℕ) (c : After-read-l t)
    → let a = c.args in AtNode a.b.now a.left c.read-l.result
root t c = record { summable = c.requires.0; there = c.if-left-eq0.false; is = c.read-l.ensures }

pub returns-then-sum_at-from : goal.returns-then-sum_at-from
returns-then-sum_at-from t c = let p = c.requires in both_small p.0 p.1 c.sum_at.ensures.0 c.sum_at-2.ensures.0 (omega (arith, c.if-sum_at-from.true, c.from.ensures))

pub sums_fit-requires : goal.sums_fit-requires
sums_fit-requires t c = let A = root t (goal.at.sums_fit-requires t c).After-read-l in (omega (arith, left_less A, c.decreases), (left_summable A, c.beside-r.ensures.low))

pub returns-then-left-eq0 : goal.returns-then-left-eq0
returns-then-left-eq0 t c = let a = c.args in elim c.then-left-eq0.either [ inl e ↦ left_none a.b.now a.left a.right e | inr e ↦ right_none a.b.now a.left a.right e.1 ]

pub returns-else-sum_fits : goal.returns-else-sum_fits
returns-else-sum_fits t c =
    let A = root t (goal.at.returns-else-sum_fits t c).After-read-l in
    let no = c.if-sum_fits.false in
    elim c.if-sums_fit.branch [
      | then-sums_fit w ↦ no ∙ key_exceeds A c.requires.1 c.beside-r.ensures c.sums_fit.ensures w.if-sums_fit.true _ w.find.ensures w.sum_fits.ensures (sym w.value-is ∙ no)
      | else-sums_fit w ↦ no ∙ low_exceeds A c.requires.1 c.beside-r.ensures c.sums_fit.ensures w.if-sums_fit.false
    ]

pub returns-then-sum_fits : goal.returns-then-sum_fits
returns-then-sum_fits t c =
    let A = root t (goal.at.returns-then-sum_fits t c).After-read-l in
    elim c.if-sums_fit.branch [
      | then-sums_fit w ↦ high_decides A c.requires.1 c.beside-r.ensures c.sums_fit.ensures w.if-sums_fit.true _ w.find.ensures w.sum_fits.ensures (sym w.value-is ∙ c.if-sum_fits.true) c.sums_fit-then-sum_fits.ensures
      | else-sums_fit w ↦ cc
    ]

pub sums_fit-requires-then-sum_fits : goal.sums_fit-requires-then-sum_fits
sums_fit-requires-then-sum_fits t c = let A = root t (goal.at.sums_fit-requires-then-sum_fits t c).After-read-l in (omega (arith, right_less A, c.decreases), (right_summable A, c.beside-r.ensures.high))
