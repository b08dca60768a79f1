-- The bound below which no node is free: the search may begin there, a make raises it and taking apart lowers it.
use mathlib.Core.Path.{◌≡◌, ap, sym, ◌∙◌}
use Prim.Native.Nat.{ℕ, zero, suc, ◌+◌, ◌-◌, ◌*◌, ◌/◌, ◌≤◌}
use mathlib.Core.List.{List}
use native.Mathlib.Omega.{arith}
use Rattle.model.specs.Block.{room, occupied_at, heap, Shaped}
use Rattle.model.specs.Heap.{free_from, free}
use Rattle.std.specs.Prelude.{Option, Some, None, slice_get}
use Rattle.std.specs.Option.{unwrap_or}
use lib.ListN.{drop}
use Rattle.model.specs.Moves.{Opened}
use Rattle.block.specs.Low.{Low}
use Rattle.block.proofs.Free.{skip, found_cons, found_none, found_free, below_lowest, none_free}
use Rattle.block.proofs.Writes.{occupied_within}

-- one past the last node at the most
pub low_most : {b : List ℕ} (n : ℕ) → Shaped b → Low b n → n ≤ suc (room b)
low_most zero B L = omega arith
low_most (suc zero) B L = omega arith
low_most {b} (suc (suc m)) B L = omega (arith, (occupied_within b (suc m) (L.1 (suc m) (omega arith) (omega arith))).1)

-- the words below its own have no free node
pub low_words : {b : List ℕ} (n : ℕ) → Shaped b → Low b n
    → free_from (occupied_at b) (suc (32 * ((n - 1) / 32))) (room b - 32 * ((n - 1) / 32)) ≡ free_from (occupied_at b) 1 (room b)
low_words {b} n B L =
    let w = (n - 1) / 32 in
    let all : 32 * w + (room b - 32 * w) ≡ room b = omega (arith, low_most n B L) in
    let next : suc (32 * w) ≡ 1 + 32 * w = omega arith in
    ap (λ j. free_from (occupied_at b) j (room b - 32 * w)) next
    ∙ sym (skip (occupied_at b) (32 * w) 1 (room b - 32 * w) (λ x p q. L.1 x p (omega (arith, L.0))))
    ∙ ap (free_from (occupied_at b) 1) all

-- node n was emptied: what was known of the nodes below it is known still
pub low_opened : (b e : List ℕ) {n low x : ℕ} → Opened (heap b) (heap e) n → Low b low → 1 ≤ x → x ≤ low → x ≤ n → Low e x
low_opened b e O L p q r = (p, λ m i j. O.except.occupied m (omega arith) ∙ L.1 m i (omega arith))

-- where the lowest free node was found, or none
pub low_found : (b : List ℕ) (o : Option ℕ) → o ≡ slice_get (free (heap b)) 0 → Low b (unwrap_or o (room b + 1))
low_found b (Some n) e =
    let first = found_free (occupied_at b) 1 (room b) n (drop 1 (free (heap b))) (found_cons (free (heap b)) n e) in
    (first.1, λ m i j. below_lowest (occupied_at b) 1 (room b) m n e i j)
low_found b None e = (omega arith, λ m i j. none_free (occupied_at b) 1 (room b) m (found_none (free (heap b)) e) i (omega arith))
