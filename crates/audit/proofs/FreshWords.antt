-- The fresh block: word 0 is written, and every other is filled with 0.
use mathlib.Core.Path.{◌≡◌, ap, ◌∙◌}
use Prim.Native.Nat.{ℕ, suc, ◌+◌, ◌-◌, ◌*◌, ◌/◌}
use mathlib.Core.List.{List, [], ◌∷◌}
use lib.ListN.{length, set, take, drop, replicate, length-take}
use borrow.Rule.Slice.PartMut.{put_mid}
use native.Mathlib.Omega.{arith}
use Rattle.std.proofs.lemmas.List.{drop_all, append-nil}
use Rattle.model.specs.Block.{width}
use Rattle.model.specs.Calls.{Fitting, fresh_block}

pub filled : (b ys : List ℕ) (n : ℕ) → Fitting (length b) n → ys ≡ replicate (length (take (length (set b 0 n) - 1) (drop 1 (set b 0 n)))) 0
    → put_mid 1 (length (set b 0 n) - 1) (set b 0 n) ys ≡ fresh_block n
unfolding fresh_block
filled [] ys n F e = absurd (omega (arith, F.long))
filled (x ∷ b) ys n F e =
    let m : length (take (suc (length b) - 1) b) ≡ 16 + n / 32 + width * n = omega (arith, length-take (suc (length b) - 1) b, F.long) in
    rw (drop_all (suc (length b) - 1) b (omega arith), append-nil ys) (ap (λ zs. n ∷ zs) (e ∙ ap (λ k. replicate k 0) m))
