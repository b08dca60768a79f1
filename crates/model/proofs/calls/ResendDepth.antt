-- Resend on a block that the table's calls reach from a fresh one never answers TOO_DEEP: its depth is the delta's.
use mathlib.Core.Path.{◌≡◌, sym, ◌∙◌}
use mathlib.Core.Logic.{◌≢◌}
use mathlib.Core.Bool.{true≢false}
use mathlib.Core.List.{List}
use Prim.Native.Nat.{ℕ}
use Rattle.model.specs.Numbers.{TOO_DEEP}
use Rattle.model.specs.Calls.{Versions}
use Rattle.model.specs.Lists.{Report}
use Rattle.model.specs.Reached.{Reached}
use Rattle.model.specs.Request.{Primary, Resend}
use Rattle.model.proofs.requests.RequestNumbers.{resend_numbers}
use Rattle.model.proofs.calls.Depths.{never_too_deep}

-- whatever versions and whatever request
pub resend_never_too_deep : (p : Primary) (request out after : List ℕ) (start : ℕ) (a : Report) → Reached p.block
    → Resend p request out after start a → a.number ≢ TOO_DEEP
unfolding Versions
resend_never_too_deep p request out after start a R S z =
    let D = (resend_numbers p request out after start a S).too_deep.0 z in
    let v = D.0.1 in
    true≢false (sym D.2 ∙ (never_too_deep R p.from p.to v.0 v.1.0).1)
