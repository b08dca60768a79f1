-- Each turn looks at one line; those before it are good, and the least key that it may have is one above the last.
use native.Mathlib.Omega.{arith}
use mathlib.Core.Path.{◌≡◌, ap, ◌∙◌}
use Prim.Native.Nat.{◌+◌, ◌/◌, ◌<◌}
use lib.ListN.{length}
use borrow.Author.Rules.{rules}
use Rattle.model.specs.Text.{entry_of, line_at}
use Rattle.restore.proofs.Looking.{Looked, looked_none, cut_line, cut_there, cut_next, cut_none, finds_malformed, finds_zero, finds_order, goes_on, finds_short}
use Rattle.restore.proofs.first_fault.Goals as goal
use Rattle.restore.proofs.first_fault.Goals.{In-Some}

-- what is looked at is line i of the text
line_is : (c : In-Some) → c.in-Some.line.now ≡ line_at c.args.text.now c.in-Some.i
line_is c = let s = c.in-Some.ensures.steps in let l = c.loop-i.invariant in rw s.1 (cut_line c.args.text.now c.loop-i.i-iterator.count l.3 _ _ s.0.1.0 (s.0.1.1 ∙ l.2))

there : (c : In-Some) → c.in-Some.i < length c.args.text.now / 17
there c = let s = c.in-Some.ensures.steps in let l = c.loop-i.invariant in rw s.1 (cut_there c.args.text.now c.loop-i.i-iterator.count l.3 _ _ s.0.1.0 (s.0.1.1 ∙ l.2))

so_far : (c : In-Some) → Looked c.args.text.now c.in-Some.i c.loop-i.least
so_far c = rw c.in-Some.ensures.steps.1 c.loop-i.invariant.4

pub loop-i-init : goal.loop-i-init
loop-i-init c = let z : c.into_iter-i-iterator.result.count ≡ 0 = search rules in (search rules, search rules, search rules, search rules, rw z (looked_none _))

pub returns-in_default : goal.returns-in_default
returns-in_default c = let at = (goal.at.returns-in_default c).In-Some in finds_malformed (so_far at) (there at) (c.in_default.ensures ∙ ap entry_of (line_is at))

pub returns-then-e-eq0 : goal.returns-then-e-eq0
returns-then-e-eq0 c = let at = (goal.at.returns-then-e-eq0 c).In-Some in finds_zero (so_far at) (there at) (c.in-Some-read_line.ensures ∙ ap entry_of (line_is at)) c.if-e-eq0.true

pub returns-then-key-least : goal.returns-then-key-least
returns-then-key-least c =
    let at = (goal.at.returns-then-key-least c).In-Some in
    finds_order (so_far at) (there at) (c.in-Some-read_line.ensures ∙ ap entry_of (line_is at)) c.if-e-eq0.false (omega arith)

pub loop-i-preserved : goal.loop-i-preserved
loop-i-preserved c =
    let at = (goal.at.loop-i-preserved c).In-Some in
    let s = c.in-Some.ensures.steps in
    let l = c.loop-i.invariant in
    let next : c.next.new.self.count ≡ c.in-Some.i + 1 = omega (arith, s.1, s.2) in (
      search rules,
      search rules,
      search rules,
      rw s.2 (cut_next c.args.text.now c.loop-i.i-iterator.count l.3 _ _ s.0.1.0 (s.0.1.1 ∙ l.2)),
      rw (next, c.from-key.ensures) (goes_on (so_far at) (there at) (c.in-Some-read_line.ensures ∙ ap entry_of (line_is at)) c.if-e-eq0.false (omega arith)),
    )

pub returns-then-text-ne0 : goal.returns-then-text-ne0
returns-then-text-ne0 c =
    let l = c.loop-i.invariant in
    let s = c.in-None.ensures.steps in
    finds_short l.4 (cut_none c.args.text.now c.loop-i.i-iterator.count l.3 (omega (arith, s.0.1.0, l.2))) c.if-text-ne0.true
