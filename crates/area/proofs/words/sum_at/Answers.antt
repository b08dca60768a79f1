-- The number by which node 1 is read instead and the sum dropped is 0 for no link and 1 for a node.
use mathlib.Core.Path.{◌≡◌, ap, ◌∙◌}
use Prim.Native.Nat.{ℕ, zero, suc, ◌+◌, ◌-◌, ◌*◌, ◌/◌, ◌^◌, ◌≤◌, ◌<◌}
use mathlib.Core.List.{List}
use Rattle.model.specs.Heap.{sum_at}
use Rattle.area.specs.Area.{area}
use native.Mathlib.Omega.{arith}
use borrow.Author.Rules.{rules}
use Rattle.area.proofs.words.sum_at.Goals as goal

-- the two factors that there are
once : (m x : ℕ) → x ≤ 4096 → m < 2 ^ 64 → m * ((x + 65535) / 65536) < 2 ^ 64
once m zero le lt = let e : (0 + 65535) / 65536 ≡ 0 = omega arith in rw e (omega arith)
once m (suc x) le lt = let e : (suc x + 65535) / 65536 ≡ 1 = omega arith in rw e (omega arith)

is_sum : (a : List ℕ) (m x : ℕ) → x ≤ 4096 → m ≡ (area a).sum (x + 1 - (x + 65535) / 65536) → m * ((x + 65535) / 65536) ≡ sum_at (area a) x
is_sum a m zero le q = let e : (0 + 65535) / 65536 ≡ 0 = omega arith in rw e (omega arith)
is_sum a m (suc x) le q =
    let e : (suc x + 65535) / 65536 ≡ 1 = omega arith in
    let f : suc x + 1 - 1 ≡ suc x = omega arith in
    let g : m ≡ (area a).sum (suc x) = q ∙ ap (λ k. (area a).sum (suc x + 1 - k)) e ∙ ap (λ k. (area a).sum k) f in
    rw e (omega (arith, g))

pub overflow_mul-result : goal.overflow_mul-result
overflow_mul-result c = record { fits = once c.node_sum.result c.args.x (omega (arith, c.requires)) (search rules) }

pub returns : goal.returns
returns c = is_sum c.args.a.now c.node_sum.result c.args.x (omega (arith, c.requires)) c.node_sum.ensures
