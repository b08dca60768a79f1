-- Each turn does what the listing's turn does, so what is told so far and what is still to come stay the same answer; the turns run out with the listing's.
use native.Mathlib.Omega.{arith}
use mathlib.Core.Path.{◌≡◌, refl, sym, ◌∙◌}
use mathlib.Core.List.{List}
use Prim.Native.Nat.{ℕ, ◌+◌, ◌-◌, ◌*◌, ◌≤◌}
use Rattle.std.proofs.lemmas.Result.{err_from_is_err_and}
use Rattle.model.specs.Block.{heap, Shaped, SoundBlock}
use Rattle.model.specs.Heap.{Linked}
use Rattle.walk.proofs.Goings.{told_total, told_deep, going_begins, stops, ends, stands, stands_other, Chosen, some_left, fitting, goes_left, deepens_left, goes_right, deepens_right, goes_down, goes_past, goes_on, first_found, small, pops_is}
use Rattle.walk.proofs.walk.Goals as goal
use Rattle.walk.proofs.walk.Goals.{After-size_at-2, After-choose, in-Left+in_ok-open-in-Left, in-Right+in_ok-open-in-Right, in-Drop, in-Give+then-show+else-once, in-Give+else-show}

ready : (b : List ℕ) → SoundBlock b → Shaped b × Linked (heap b)
ready b S = (S.shaped, S.sound.kept.linked)

-- the turns are few enough to count
sizes : (c : After-size_at-2) → c.size_at.result + c.size_at-2.result ≤ 8192
sizes c =
    omega (arith, small c.args.b.now c.requires.0 c.args.left c.requires.1, small c.args.b.now c.requires.0 c.args.right c.requires.2, c.size_at.ensures, c.size_at-2.ensures)

-- the turns that are left
abbrev left : After-choose → ℕ
left c = 2 * (c.size_at.result + c.size_at-2.result) + 1 - c.loop-turn._turn

-- a turn whose act is chosen
chosen : (c : After-choose) → Chosen (heap c.args.b.now) c.in-Some.a c.loop-turn.l c.loop-turn.r (left c) c.choose.result
chosen c = record {
  some = sym c.in-Some.is ∙ c.top.ensures;
  turns = omega (arith, c.loop-turn-test.true);
  is = rw (← c.top-in-loop-turn.ensures) c.choose.ensures;
}

pub overflow_add-turns : goal.overflow_add-turns
overflow_add-turns c = omega (arith, sizes c)

pub overflow_mul-turns : goal.overflow_mul-turns
overflow_mul-turns c = omega (arith, sizes c)

pub overflow_add-turns-2 : goal.overflow_add-turns-2
overflow_add-turns-2 c = omega (arith, sizes c)

pub loop-turn-init : goal.loop-turn-init
loop-turn-init c =
    let a = c.args in (
      rw (c.begin-l.ensures, c.begin-r.ensures)
          (going_begins (heap a.b.now) a.once a.wanted a.start a.left a.right _ _ (ready a.b.now c.requires.0).1 c.requires.1 c.requires.2 (rw (c.size_at.ensures, c.size_at-2.ensures) (omega arith))),
      omega arith,
      refl,
    )

pub returns-in_default-clause-value : goal.returns-in_default-clause-value
returns-in_default-clause-value c = (told_total _ _ _ _ _ _ _ (ends c.loop-turn.invariant.0 (omega (arith, c.loop-turn-test.true)) (sym c.in_default.is ∙ c.top.ensures))).0

pub returns-in_default-clause-out_after : goal.returns-in_default-clause-out_after
returns-in_default-clause-out_after c = (told_total _ _ _ _ _ _ _ (ends c.loop-turn.invariant.0 (omega (arith, c.loop-turn-test.true)) (sym c.in_default.is ∙ c.top.ensures))).1

pub choose-requires : goal.choose-requires
choose-requires c =
    let s = ready c.args.b.now c.requires.0 in
    let v = c.loop-turn.invariant.0 in
    (s.0, s.1, stands v (sym c.in-Some.is ∙ c.top.ensures), rw c.top-in-loop-turn.ensures (stands_other v))

pub open-requires : goal.open-requires
open-requires c =
    let p = chosen (goal.at.open-requires c).After-choose in
    let v = c.loop-turn.invariant.0 in
    let s = ready c.args.b.now c.requires.0 in
    (s.0, s.1, fitting v p c.in-Left.is, some_left v p)

pub returns-in_err-open-in-Left-clause-value : goal.returns-in_err-open-in-Left-clause-value
returns-in_err-open-in-Left-clause-value c =
    let e = c.in_err-open-in-Left.ensures in
    let d = deepens_left c.loop-turn.invariant.0 (chosen (goal.at.returns-in_err-open-in-Left-clause-value c).After-choose) c.in-Left.is e.1 in
    let p = err_from_is_err_and c.from_residual.result c.from_residual.ensures.1 in
    rw (p.1, p.2, e.0) (told_deep _ _ _ _ _ _ _ d).0

pub returns-in_err-open-in-Left-clause-out_after : goal.returns-in_err-open-in-Left-clause-out_after
returns-in_err-open-in-Left-clause-out_after c =
    let e = c.in_err-open-in-Left.ensures in
    let d = deepens_left c.loop-turn.invariant.0 (chosen (goal.at.returns-in_err-open-in-Left-clause-out_after c).After-choose) c.in-Left.is e.1 in
    (told_deep _ _ _ _ _ _ _ d).1

pub open-requires-in-Right : goal.open-requires-in-Right
open-requires-in-Right c =
    let p = chosen (goal.at.open-requires-in-Right c).After-choose in
    let f = fitting c.loop-turn.invariant.0 p c.in-Right.is in
    let s = ready c.args.b.now c.requires.0 in
    (s.0, s.1, f.0, f.1)

pub returns-in_err-open-in-Right-clause-value : goal.returns-in_err-open-in-Right-clause-value
returns-in_err-open-in-Right-clause-value c =
    let e = c.in_err-open-in-Right.ensures in
    let d = deepens_right c.loop-turn.invariant.0 (chosen (goal.at.returns-in_err-open-in-Right-clause-value c).After-choose) c.in-Right.is e.1 in
    let p = err_from_is_err_and c.from_residual-in_err-open-in-Right.result c.from_residual-in_err-open-in-Right.ensures.1 in
    rw (p.1, p.2, e.0) (told_deep _ _ _ _ _ _ _ d).0

pub returns-in_err-open-in-Right-clause-out_after : goal.returns-in_err-open-in-Right-clause-out_after
returns-in_err-open-in-Right-clause-out_after c =
    let e = c.in_err-open-in-Right.ensures in
    let d = deepens_right c.loop-turn.invariant.0 (chosen (goal.at.returns-in_err-open-in-Right-clause-out_after c).After-choose) c.in-Right.is e.1 in
    (told_deep _ _ _ _ _ _ _ d).1

pub pop-requires : goal.pop-requires
pop-requires c =
    let p = chosen (goal.at.pop-requires c).After-choose in
    let v = c.loop-turn.invariant.0 in
    omega (arith, (fitting v p c.in-Drop.is).0, some_left v p)

pub returns-then-once-clause-value : goal.returns-then-once-clause-value
returns-then-once-clause-value c = (told_total _ _ _ _ _ _ _ (first_found c.loop-turn.invariant.0 (chosen (goal.at.returns-then-once-clause-value c).After-choose) c.in-Give.is c.if-once.true (sym c.show.ensures.0 ∙ c.if-show.true))).0

pub returns-then-once-clause-out_after : goal.returns-then-once-clause-out_after
returns-then-once-clause-out_after c =
    c.show.ensures.1 ∙ (told_total _ _ _ _ _ _ _ (first_found c.loop-turn.invariant.0 (chosen (goal.at.returns-then-once-clause-out_after c).After-choose) c.in-Give.is c.if-once.true (sym c.show.ensures.0 ∙ c.if-show.true))).1

pub loop-turn-preserved : goal.loop-turn-preserved
loop-turn-preserved c =
    let p = (goal.at.loop-turn-preserved c).After-choose in
    let v = c.loop-turn.invariant in
    let C = chosen p in
    let e : left p - 1 ≡ 2 * (c.size_at.result + c.size_at-2.result) + 1 - (c.loop-turn._turn + 1) = omega arith in
    elim c.match-choose.branch [
      | in-Left+in_ok-open-in-Left w ↦ let o = w.in_ok-open-in-Left.ensures in (
        rw (w.l-is, w.r-is, w.n-is, w.out-is, o.0, ← e) (goes_left v.0 C w.in-Left.is o.1),
        omega (arith, w.n-is, v.1),
        rw w.out-is v.2,
      )
      | in-Right+in_ok-open-in-Right w ↦ let o = w.in_ok-open-in-Right.ensures in (
        rw (w.l-is, w.r-is, w.n-is, w.out-is, o.0, ← e) (goes_right v.0 C w.in-Right.is o.1),
        omega (arith, w.n-is, v.1),
        rw w.out-is v.2,
      )
      | in-Drop w ↦ (
        rw (w.l-is, w.r-is, w.n-is, w.out-is, w.pop.ensures, w.pop-in-Drop.ensures, ← e) (goes_down v.0 C w.in-Drop.is),
        omega (arith, w.n-is, v.1),
        rw w.out-is v.2,
      )
      | in-Give+then-show+else-once w ↦ (
        rw (w.l-is, w.r-is, w.n-is, w.out-is, w.pop-in-Give.ensures, w.pop-in-Give-2.ensures, w.from.ensures, w.is_some.ensures, pops_is w.in-Give.y, w.show.ensures.1, ← e)
            (goes_on v.0 C w.in-Give.is w.if-once.false (sym w.show.ensures.0 ∙ w.if-show.true)),
        omega (arith, w.n-is, v.1),
        rw w.out-is (w.show.auto.out ∙ v.2),
      )
      | in-Give+else-show w ↦ (
        rw (w.l-is, w.r-is, w.n-is, w.out-is, w.pop-in-Give.ensures, w.pop-in-Give-2.ensures, w.from.ensures, w.is_some.ensures, pops_is w.in-Give.y, w.show.ensures.1, ← e)
            (goes_past v.0 C w.in-Give.is (sym w.show.ensures.0 ∙ w.if-show.false)),
        omega (arith, w.n-is, v.1),
        rw w.out-is (w.show.auto.out ∙ v.2),
      )
    ]

pub returns-clause-value : goal.returns-clause-value
returns-clause-value c = (told_total _ _ _ _ _ _ _ (stops c.loop-turn.invariant.0 (omega (arith, c.loop-turn-test.false)))).0

pub returns-clause-out_after : goal.returns-clause-out_after
returns-clause-out_after c = (told_total _ _ _ _ _ _ _ (stops c.loop-turn.invariant.0 (omega (arith, c.loop-turn-test.false)))).1
