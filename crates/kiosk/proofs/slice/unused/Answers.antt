-- Each word behind the pairs is tested.
use mathlib.Core.Path.{◌≡◌, sym, ◌∙◌, ap}
use mathlib.Core.Logic.{◌≢◌}
use mathlib.Core.Bool.{Bool, true, false}
use mathlib.Core.List.{List}
use Prim.Native.Nat.{ℕ, ◌+◌, ◌-◌, ◌*◌, ◌≤◌, ◌<◌}
use Rattle.std.proofs.Common.{take_all}
use lib.ListN.{length, take, drop, length-drop}
use lib.Seq.{get_or-drop}
use native.Mathlib.Omega.{arith}
use borrow.Author.Tests.{tests}
use Rattle.std.proofs.Common.{rules}
use Rattle.std.specs.Bool.{MatchBool}
use Rattle.std.specs.List.{AllWithin, HoldsAt}
use Rattle.std.proofs.lemmas.Iterator.{cases_from_all, YieldsList-from_slice}
use Rattle.model.specs.Block.{word}
use Rattle.model.specs.Tells.{Tells}
use Rattle.kiosk.specs.Places.{Unused}
use Rattle.kiosk.proofs.slice.unused.Goals as goal

module _ (k : List ℕ) (n : ℕ) (long : length k ≡ 129) (few : n ≤ 64) where
  abbrev rest : List ℕ
  rest = take (length k - (1 + 2 * n)) (drop (1 + 2 * n) k)

  here : rest ≡ drop (1 + 2 * n) k
  here = take_all (length k - (1 + 2 * n)) (drop (1 + 2 * n) k) (omega (arith, length-drop (1 + 2 * n) k))

  long_rest : length rest ≡ 128 - 2 * n
  long_rest = ap length here ∙ omega (arith, length-drop (1 + 2 * n) k)

  at : (i : ℕ) → word rest i ≡ word k (1 + 2 * n + i)
  at i = ap (λ l. word l i) here ∙ get_or-drop (1 + 2 * n) k i 0

  tells : (r : Bool) → MatchBool r (AllWithin (λ x. x ≡ 0) rest 0 (length rest)) ((i : ℕ) × (i < length rest) × HoldsAt (λ x. x ≢ 0) rest i) → Tells r (Unused k n)
  tells true f = λ w p q. let e : 1 + 2 * n + (w - (1 + 2 * n)) ≡ w = omega arith in ap (word k) (sym e) ∙ sym (at (w - (1 + 2 * n))) ∙ f (w - (1 + 2 * n)) 0 (omega arith) (omega (arith, long_rest))
  tells false f = λ u. f.2 0 (at f.0 ∙ u (1 + 2 * n + f.0) (omega arith) (omega (arith, f.1, long_rest)))

pub returns : goal.returns
returns c = tells c.args.k.now c.args.n c.requires.0 c.requires.1 c.all.result
    (cases_from_all _ _ _ (λ x. x ≡ 0) (λ x. x ≢ 0) c.all.ensures.ran (YieldsList-from_slice (rest c.args.k.now c.args.n c.requires.0 c.requires.1) c.iter.ensures.rest) (λ x q k. search (rules, tests)) (λ x q k. search (rules, tests)))
