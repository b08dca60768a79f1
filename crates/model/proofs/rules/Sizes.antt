-- Sizes of what the rules make: a rule that keeps the entries keeps their number. No order is needed.
use mathlib.Core.Path.{◌≡◌, refl, ap, ◌∙◌}
use Prim.Native.Nat.{ℕ, zero, suc, ◌+◌, ◌≤◌, compare, Ordering}
use mathlib.Core.Bool.{Bool, true, false, ◌&&◌}
use mathlib.Core.Option.{Option, none, some}
use mathlib.Core.List.{◌∷◌}
use lib.ListN.{length, length-append}
use lib.Dec.{leb, eqb}
use native.Mathlib.Omega.{arith}
use Rattle.model.specs.Tree.{Tree, leaf, node, size, lookup, entries}
use Rattle.model.specs.Supply.{Supply, Make, make, given}
use Rattle.model.specs.Rules.{balanced, insert_by, insert, remove_min, without_key, remove_present, remove, edit_by, join, split, merged_left, merged_right, union_by, rest, kept, difference}
use Rattle.model.proofs.rules.Entries.{Keeps, make_keeps, balanced_keeps, join_keeps}
use Rattle.model.proofs.rules.Splits.{size-length, remove_min-entries, without_key-entries}

pub keeps_size : (mk : ℕ → ℕ → Tree → Tree → Make Tree) → Keeps mk → (k v : ℕ) (l r : Tree) (s : Supply) → size (mk k v l r s).0 ≡ suc (size l + size r)
keeps_size mk keeps k v l r s = size-length (mk k v l r s).0 ∙ ap length (keeps k v l r s) ∙ length-append (entries l) ((k, v) ∷ entries r) ∙ omega (arith, size-length l, size-length r)

pub make-size : (k v : ℕ) (l r : Tree) (s : Supply) → size (make k v l r s).0 ≡ suc (size l + size r)
make-size = keeps_size make make_keeps

pub balanced-size : (k v : ℕ) (l r : Tree) (s : Supply) → size (balanced k v l r s).0 ≡ suc (size l + size r)
balanced-size = keeps_size balanced balanced_keeps

pub join-size : (k v : ℕ) (l r : Tree) (s : Supply) → size (join k v l r s).0 ≡ suc (size l + size r)
join-size = keeps_size join join_keeps

pub remove_min-size : (k v : ℕ) (l r : Tree) (s : Supply) → size (remove_min k v l r s).0.rest ≡ size l + size r
remove_min-size k v l r s =
    let m = (remove_min k v l r s).0 in
    let e = ap length (remove_min-entries k v l r s) ∙ length-append (entries l) ((k, v) ∷ entries r) in
    omega (arith, e, size-length m.rest, size-length l, size-length r)

pub without_key-size : (mk : ℕ → ℕ → Tree → Tree → Make Tree) → Keeps mk → (l r : Tree) (s : Supply) → size (without_key mk l r s).0 ≡ size l + size r
without_key-size mk keeps l r s = size-length (without_key mk l r s).0 ∙ ap length (without_key-entries mk keeps l r s) ∙ length-append (entries l) (entries r) ∙ omega (arith, size-length l, size-length r)

pub insert_by-size : (mk : ℕ → ℕ → Tree → Tree → Make Tree) → Keeps mk → (t : Tree) (k v : ℕ) (s : Supply) → size (insert_by mk t k v s).0 ≤ suc (size t)
unfolding insert_by size
insert_by-size mk keeps leaf k v s = omega arith
insert_by-size mk keeps (node i h w l r) k v s = go (compare k h) refl (insert_by-size mk keeps l k v (given i s)) (insert_by-size mk keeps r k v (given i s))
  where
    go : (c : Ordering) → compare k h ≡ c → size (insert_by mk l k v (given i s)).0 ≤ suc (size l)
        → size (insert_by mk r k v (given i s)).0 ≤ suc (size r)
        → size (insert_by mk (node i h w l r) k v s).0 ≤ suc (suc (size l + size r))
    go Ordering.lt e x y = let a = insert_by mk l k v (given i s) in rw (e, insert_by) (omega (arith, keeps_size mk keeps h w a.0 r a.1))
    go Ordering.eq e x y = rw (e, insert_by) (omega (arith, keeps_size mk keeps k v l r (given i s)))
    go Ordering.gt e x y = let a = insert_by mk r k v (given i s) in rw (e, insert_by) (omega (arith, keeps_size mk keeps h w l a.0 a.1))

pub remove_present-size : (t : Tree) (k : ℕ) (s : Supply) → size (remove_present t k s).0 ≤ size t
unfolding remove_present size
remove_present-size leaf k s = omega arith
remove_present-size (node i h w l r) k s = go (compare k h) refl (remove_present-size l k (given i s)) (remove_present-size r k (given i s))
  where
    go : (c : Ordering) → compare k h ≡ c → size (remove_present l k (given i s)).0 ≤ size l
        → size (remove_present r k (given i s)).0 ≤ size r → size (remove_present (node i h w l r) k s).0 ≤ suc (size l + size r)
    go Ordering.lt e x y = let a = remove_present l k (given i s) in rw (e, remove_present) (omega (arith, balanced-size h w a.0 r a.1))
    go Ordering.eq e x y = rw (e, remove_present) (omega (arith, without_key-size balanced balanced_keeps l r (given i s)))
    go Ordering.gt e x y = let a = remove_present r k (given i s) in rw (e, remove_present) (omega (arith, balanced-size h w l a.0 a.1))

insert-size : (t : Tree) (k v : ℕ) (s : Supply) → size (insert t k v s).0 ≤ suc (size t)
unfolding insert
insert-size t k v s = go (lookup t k) refl
  where
    go : (f : Option ℕ) → lookup t k ≡ f → size (insert t k v s).0 ≤ suc (size t)
    go none e = rw (e, insert) (insert_by-size balanced balanced_keeps t k v s)
    go (some w) e = rw (e, insert) (insert_by-size make make_keeps t k v s)

remove-size : (t : Tree) (k : ℕ) (s : Supply) → size (remove t k s).0 ≤ size t
unfolding remove
remove-size t k s = go (lookup t k) refl
  where
    go : (f : Option ℕ) → lookup t k ≡ f → size (remove t k s).0 ≤ size t
    go none e = rw (e, remove) (omega arith)
    go (some w) e = rw (e, remove) (remove_present-size t k s)

-- an edit adds one at the most
pub edit_by-size : (kind k v : ℕ) (t : Tree) (s : Supply) → size (edit_by kind k v t s).0 ≤ suc (size t)
unfolding edit_by
edit_by-size zero k v t s = omega arith
edit_by-size (suc zero) k v t s = insert-size t k v s
edit_by-size (suc (suc n)) k v t s = omega (arith, remove-size t k s)

-- the two sides of a key together
pub split-size : (t : Tree) (k : ℕ) (s : Supply) → size (split t k s).0.left + size (split t k s).0.right ≤ size t
unfolding split size
split-size leaf k s = omega arith
split-size (node i h w l r) k s = go (compare k h) refl (split-size l k (given i s)) (split-size r k (given i s))
  where
    go : (c : Ordering) → compare k h ≡ c → size (split l k (given i s)).0.left + size (split l k (given i s)).0.right ≤ size l
        → size (split r k (given i s)).0.left + size (split r k (given i s)).0.right ≤ size r
        → size (split (node i h w l r) k s).0.left + size (split (node i h w l r) k s).0.right ≤ suc (size l + size r)
    go Ordering.lt e x y = let p = split l k (given i s) in rw (e, split) (omega (arith, join-size h w p.0.right r p.1))
    go Ordering.eq e x y = rw (e, split) (omega arith)
    go Ordering.gt e x y = let p = split r k (given i s) in rw (e, split) (omega (arith, join-size h w l p.0.left p.1))

-- a union is no larger than its two sides together
pub union_by-size : (merge : ℕ → ℕ → ℕ) (fuel : ℕ) (l r : Tree) (s : Supply) → size (union_by merge fuel l r s).0 ≤ size l + size r
unfolding union_by size
union_by-size merge zero l r s = omega arith
union_by-size merge (suc fuel) leaf r s = omega arith
union_by-size merge (suc fuel) (node i h w ll lr) leaf s = omega arith
union_by-size merge (suc fuel) (node i h w ll lr) (node j g u rl rr) s = go (leb (size (node j g u rl rr)) (size (node i h w ll lr))) refl (union_by-size merge fuel)
  where
    go : (c : Bool) → leb (size (node j g u rl rr)) (size (node i h w ll lr)) ≡ c
        → ((x y : Tree) (t : Supply) → size (union_by merge fuel x y t).0 ≤ size x + size y)
        → size (union_by merge (suc fuel) (node i h w ll lr) (node j g u rl rr) s).0 ≤ size (node i h w ll lr) + size (node j g u rl rr)
    go true e below =
        let p = split (node j g u rl rr) h (given i s) in
        let a = union_by merge fuel ll p.0.left p.1 in
        let b = union_by merge fuel lr p.0.right a.1 in
        rw (e, union_by) (omega (arith, split-size (node j g u rl rr) h (given i s), below ll p.0.left p.1, below lr p.0.right a.1, join-size h (merged_left merge w p.0.found) a.0 b.0 b.1))
    go false e below =
        let p = split (node i h w ll lr) g (given j s) in
        let a = union_by merge fuel p.0.left rl p.1 in
        let b = union_by merge fuel p.0.right rr a.1 in
        rw (e, union_by) (omega (arith, split-size (node i h w ll lr) g (given j s), below p.0.left rl p.1, below p.0.right rr a.1, join-size g (merged_right merge p.0.found u) a.0 b.0 b.1))

pub rest-size : (a : Tree) (h : ℕ) (o : Option ℕ) (b : Tree) (s : Supply) → size (rest a h o b s).0 ≤ suc (size a + size b)
unfolding rest
rest-size a h (some w) b s = omega (arith, join-size h w a b s)
rest-size a h none b s = omega (arith, without_key-size join join_keeps a b s)

-- a difference is no larger than its left
pub difference-size : (diff : ℕ → ℕ → Option ℕ) (cancel : Bool) (l r : Tree) (s : Supply) → size (difference diff cancel l r s).0 ≤ size l
unfolding difference size
difference-size diff cancel leaf r s = omega arith
difference-size diff cancel (node i h w ll lr) leaf s = omega arith
difference-size diff cancel (node i h w ll lr) (node j g u rl rr) s = go (cancel && eqb i j) refl (difference-size diff cancel ll) (difference-size diff cancel lr)
  where
    go : (c : Bool) → (cancel && eqb i j) ≡ c → ((x : Tree) (t : Supply) → size (difference diff cancel ll x t).0 ≤ size ll)
        → ((x : Tree) (t : Supply) → size (difference diff cancel lr x t).0 ≤ size lr)
        → size (difference diff cancel (node i h w ll lr) (node j g u rl rr) s).0 ≤ suc (size ll + size lr)
    go true e left right = rw (e, difference) (omega arith)
    go false e left right =
        let p = split (node j g u rl rr) h (given i s) in
        let a = difference diff cancel ll p.0.left p.1 in
        let b = difference diff cancel lr p.0.right a.1 in
        rw (e, difference) (omega (arith, left p.0.left p.1, right p.0.right a.1, rest-size a.0 h (kept diff w p.0.found) b.0 b.1))
