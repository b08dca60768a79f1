-- The figure cannot be lowered: there is a balanced tree, one above the weight that p items carry, that needs p + 1 of them.
use mathlib.Core.Path.{◌≡◌, refl}
use Prim.Native.Nat.{ℕ, zero, suc, max, ◌+◌, ◌-◌, ◌/◌, ◌≤◌}
use mathlib.Core.List.{List, [], ◌∷◌}
use lib.ListN.{length}
use native.Mathlib.Omega.{arith}
use Rattle.model.specs.Tree.{Tree, leaf, node, size}
use Rattle.model.specs.Balance.{Balanced}
use Rattle.model.specs.Listing.{Item, entry, pend, turn, start, next_sides, after}
use Rattle.model.proofs.listing.Pending.{heaviest}

-- n nodes, the sides of each alike; keys and values do not matter
unfoldable pub even : (fuel n : ℕ) → Tree
even zero n = leaf
even (suc fuel) zero = leaf
even (suc fuel) (suc n) = node 0 0 0 (even fuel (n / 2)) (even fuel (n - n / 2))

even_size : (fuel n : ℕ) → n ≤ fuel → size (even fuel n) ≡ n
unfolding even size
even_size zero n h = omega arith
even_size (suc fuel) zero h = refl
even_size (suc fuel) (suc n) h = omega (arith, even_size fuel (n / 2) (omega arith), even_size fuel (n - n / 2) (omega arith))

even_balanced : (fuel n : ℕ) → n ≤ fuel → Balanced (even fuel n)
unfolding even Balanced
even_balanced zero n h = tt
even_balanced (suc fuel) zero h = tt
even_balanced (suc fuel) (suc n) h =
    let a = even_size fuel (n / 2) (omega arith) in
    let b = even_size fuel (n - n / 2) (omega arith) in
    (omega (arith, a, b), even_balanced fuel (n / 2) (omega arith), even_balanced fuel (n - n / 2) (omega arith))

-- beside the left child there is a third of it, and a node at least
abbrev pub beside : Tree → Tree
beside l = even (max 1 (size l / 3)) (max 1 (size l / 3))

unfoldable pub leaning : ℕ → Tree
leaning zero = leaf
leaning (suc zero) = node 0 0 0 leaf leaf
leaning (suc (suc p)) = node 0 0 0 (leaning p) (beside (leaning p))

beside_size : (l : Tree) → size (beside l) ≡ max 1 (size l / 3)
beside_size l = even_size (max 1 (size l / 3)) (max 1 (size l / 3)) (omega arith)

pub leaning_balanced : (p : ℕ) → Balanced (leaning p)
unfolding leaning Balanced size
leaning_balanced zero = tt
leaning_balanced (suc zero) = (omega arith, tt, tt)
leaning_balanced (suc (suc p)) = (omega (arith, beside_size (leaning p)), leaning_balanced p, even_balanced (max 1 (size (leaning p) / 3)) (max 1 (size (leaning p) / 3)) (omega arith))

pub leaning_size : (p : ℕ) → size (leaning (suc p)) ≡ heaviest p
unfolding leaning heaviest size
leaning_size zero = refl
leaning_size (suc zero) = omega (arith, beside_size leaf)
leaning_size (suc (suc p)) = rw (beside_size (leaning (suc p)), leaning_size p) refl

-- left children are opened one after another
descends : (p : ℕ) (is : List Item) → (m : ℕ) × (length (after m (record { left = pend (leaning p) is; right = [] })).left ≡ p + length is)
unfolding leaning after next_sides turn size
descends zero is = (0, omega arith)
descends (suc zero) is = (0, omega arith)
descends (suc (suc p)) is = go (beside (leaning p)) (beside_size (leaning p)) (descends p)
  where
    Comes : ℕ → Tree → List Item → Type 0
    Comes n t is = (m : ℕ) × (length (after m (record { left = pend t is; right = [] })).left ≡ n + length is)

    go : (r : Tree) → size r ≡ max 1 (size (leaning p) / 3) → ((is : List Item) → Comes p (leaning p) is) → Comes (suc (suc p)) (node 0 0 0 (leaning p) r) is
    go leaf e ih = absurd (omega arith)
    go (node i k v x y) e ih = let d = ih (entry 0 0 ∷ pend (node i k v x y) is) in (suc d.0, omega (arith, d.1))

-- a walk of it against an empty version
pub leaning_pending : (p : ℕ) → (m : ℕ) × (length (after m (start (leaning p) leaf)).left ≡ p)
leaning_pending p = let d = descends p [] in (d.0, omega (arith, d.1))

-- 49 within 3,677 nodes and 44 within 2,005
pub needed_by_49 : size (leaning 49) ≡ 3677
unfolding heaviest
needed_by_49 = leaning_size 48

pub needed_by_44 : size (leaning 44) ≡ 2005
unfolding heaviest
needed_by_44 = leaning_size 43
