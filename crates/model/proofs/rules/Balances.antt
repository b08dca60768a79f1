-- Every rule keeps trees balanced, whatever numbers its makes take: each balanced make meets two sides that are near one another.
use mathlib.Core.Path.{◌≡◌, refl, ap}
use Prim.Native.Nat.{ℕ, zero, suc, ◌+◌, ◌≤◌, compare, Ordering}
use mathlib.Core.Bool.{Bool, true, false}
use mathlib.Core.Option.{Option, none, some}
use borrow.Author.Tests.{ltb-true, ltb-false}
use native.Mathlib.Omega.{arith}
use Rattle.model.specs.Tree.{Tree, leaf, node, size, lookup}
use Rattle.model.specs.Supply.{Supply, Make, make, given}
use Rattle.model.specs.Rules.{weight, larger, balanced, insert_by, insert, remove_min, without_key, remove_present, remove, edit_by, join, split, union, difference}
use Rattle.model.specs.Balance.{Level, Balanced}
use Rattle.model.proofs.rules.Entries.{balanced_keeps}
use Rattle.model.proofs.rules.Sizes.{balanced-size, join-size, remove_min-size, without_key-size, insert_by-size, remove_present-size}
use Rattle.model.proofs.rules.Keeping.{Joining, split_ok, union_ok, difference_ok}
use Rattle.model.proofs.rules.Rotations.{balanced-balanced}

-- Join: the side that is descended weighs at most 9/2 of what it stands beside

pub join-balanced : (k v : ℕ) (l r : Tree) (s : Supply) → Balanced l → Balanced r → Balanced (join k v l r s).0
unfolding join Balanced size
join-balanced k v leaf leaf s bl br = balanced-balanced k v leaf leaf s bl br (omega arith)
join-balanced k v leaf (node j h w rl rr) s bl br =
    let t = join k v leaf rl (given j s) in
    balanced-balanced h w t.0 rr t.1 (join-balanced k v leaf rl (given j s) bl br.1) br.2 (omega (arith, br.0, join-size k v leaf rl (given j s)))
join-balanced k v (node i h w ll lr) leaf s bl br =
    let t = join k v lr leaf (given i s) in
    balanced-balanced h w ll t.0 t.1 bl.1 (join-balanced k v lr leaf (given i s) bl.2 br) (omega (arith, bl.0, join-size k v lr leaf (given i s)))
join-balanced k v (node i h w ll lr) (node j g u rl rr) s bl br =
    right (larger R L) refl (join-balanced k v (node i h w ll lr) rl (given j s) bl br.1) (join-balanced k v lr (node j g u rl rr) (given i s) bl.2 br)
  where
    L : Tree
    L = node i h w ll lr

    R : Tree
    R = node j g u rl rr

    left : (b : Bool) → larger L R ≡ b → larger R L ≡ false → Balanced (join k v lr R (given i s)).0 → Balanced (join k v L R s).0
    left true e f x = let t = join k v lr R (given i s) in
        rw (f, join) (rw e (balanced-balanced h w ll t.0 t.1 bl.1 x (omega (arith, bl.0, join-size k v lr R (given i s), ltb-true))))
    left false e f x = rw (f, join) (rw e (balanced-balanced k v L R s bl br (omega (arith, ltb-false))))

    right : (b : Bool) → larger R L ≡ b → Balanced (join k v L rl (given j s)).0 → Balanced (join k v lr R (given i s)).0 → Balanced (join k v L R s).0
    right true e x y = let t = join k v L rl (given j s) in
        rw (e, join) (balanced-balanced g u t.0 rr t.1 x br.2 (omega (arith, br.0, join-size k v L rl (given j s), ltb-true)))
    right false e x y = left (larger L R) refl e y

-- Remove: one side has lost one

pub remove_min-balanced : (k v : ℕ) (l r : Tree) (s : Supply) → Level (weight l) (weight r) → Balanced l → Balanced r → Balanced (remove_min k v l r s).0.rest
unfolding remove_min Balanced size
remove_min-balanced k v leaf r s e bl br = br
remove_min-balanced k v (node j h w ll lr) r s e bl br =
    let m = remove_min h w ll lr (given j s) in
    balanced-balanced k v m.0.rest r m.1 (remove_min-balanced h w ll lr (given j s) bl.0 bl.1 bl.2) br (omega (arith, remove_min-size h w ll lr (given j s)))

-- two trees without the key between them: the right one has lost its minimum
without-balanced : (mk : ℕ → ℕ → Tree → Tree → Make Tree) (l r : Tree) (s : Supply)
    → ((k v : ℕ) (t : Tree) (u : Supply) → suc (size t) ≡ size r → Balanced t → Balanced (mk k v l t u).0) → Balanced l → Balanced r
    → Balanced (without_key mk l r s).0
unfolding without_key Balanced size
without-balanced mk leaf r s by bl br = br
without-balanced mk (node i h w ll lr) leaf s by bl br = bl
without-balanced mk (node i h w ll lr) (node j g u rl rr) s by bl br =
    let m = remove_min g u rl rr (given j s) in
    by m.0.key m.0.value m.0.rest m.1 (ap suc (remove_min-size g u rl rr (given j s))) (remove_min-balanced g u rl rr (given j s) br.0 br.1 br.2)

-- balanced, and at most one less than before
remove_present-balanced : (t : Tree) (k : ℕ) (s : Supply) → Balanced t → Balanced (remove_present t k s).0 × (size t ≤ suc (size (remove_present t k s).0))
unfolding remove_present Balanced size
remove_present-balanced leaf k s b = (tt, omega arith)
remove_present-balanced (node i h w l r) k s b = go (compare k h) refl (remove_present-balanced l k (given i s) b.1) (remove_present-balanced r k (given i s) b.2)
  where
    L : Tree × Supply
    L = remove_present l k (given i s)

    R : Tree × Supply
    R = remove_present r k (given i s)

    go : (c : Ordering) → compare k h ≡ c → Balanced L.0 × (size l ≤ suc (size L.0)) → Balanced R.0 × (size r ≤ suc (size R.0))
        → Balanced (remove_present (node i h w l r) k s).0 × (suc (size l + size r) ≤ suc (size (remove_present (node i h w l r) k s).0))
    go Ordering.lt e x y =
        let t = balanced-balanced h w L.0 r L.1 x.0 b.2 (omega (arith, b.0, x.1, remove_present-size l k (given i s))) in
        rw (e, remove_present) (t, omega (arith, x.1, balanced-size h w L.0 r L.1))
    go Ordering.eq e x y =
        let t = without-balanced balanced l r (given i s) (λ k v t u q bt. balanced-balanced k v l t u b.1 bt (omega (arith, b.0))) b.1 b.2 in
        rw (e, remove_present) (t, omega (arith, without_key-size balanced balanced_keeps l r (given i s)))
    go Ordering.gt e x y =
        let t = balanced-balanced h w l R.0 R.1 b.1 y.0 (omega (arith, b.0, y.1, remove_present-size r k (given i s))) in
        rw (e, remove_present) (t, omega (arith, y.1, balanced-size h w l R.0 R.1))

pub remove-balanced : (t : Tree) (k : ℕ) (s : Supply) → Balanced t → Balanced (remove t k s).0
unfolding remove
remove-balanced t k s b = go (lookup t k) refl
  where
    go : (f : Option ℕ) → lookup t k ≡ f → Balanced (remove t k s).0
    go none e = rw (e, remove) b
    go (some w) e = rw (e, remove) (remove_present-balanced t k s b).0

-- Insert: a new key makes one side at most one larger; an equal key changes no size

insert_new_balanced : (t : Tree) (k v : ℕ) (s : Supply) → Balanced t → Balanced (insert_by balanced t k v s).0 × (size t ≤ size (insert_by balanced t k v s).0)
unfolding insert_by Balanced size
insert_new_balanced leaf k v s b = ((omega arith, tt, tt), omega arith)
insert_new_balanced (node i h w l r) k v s b = go (compare k h) refl (insert_new_balanced l k v (given i s) b.1) (insert_new_balanced r k v (given i s) b.2)
  where
    L : Tree × Supply
    L = insert_by balanced l k v (given i s)

    R : Tree × Supply
    R = insert_by balanced r k v (given i s)

    go : (c : Ordering) → compare k h ≡ c → Balanced L.0 × (size l ≤ size L.0) → Balanced R.0 × (size r ≤ size R.0)
        → Balanced (insert_by balanced (node i h w l r) k v s).0 × (suc (size l + size r) ≤ size (insert_by balanced (node i h w l r) k v s).0)
    go Ordering.lt e x y =
        let t = balanced-balanced h w L.0 r L.1 x.0 b.2 (omega (arith, b.0, x.1, insert_by-size balanced balanced_keeps l k v (given i s))) in
        rw (e, insert_by) (t, omega (arith, x.1, balanced-size h w L.0 r L.1))
    go Ordering.eq e x y =
        let t = balanced-balanced k v l r (given i s) b.1 b.2 (omega (arith, b.0)) in
        rw (e, insert_by) (t, omega (arith, balanced-size k v l r (given i s)))
    go Ordering.gt e x y =
        let t = balanced-balanced h w l R.0 R.1 b.1 y.0 (omega (arith, b.0, y.1, insert_by-size balanced balanced_keeps r k v (given i s))) in
        rw (e, insert_by) (t, omega (arith, y.1, balanced-size h w l R.0 R.1))

insert_old_balanced : (t : Tree) (k v w : ℕ) (s : Supply) → lookup t k ≡ some w → Balanced t
    → Balanced (insert_by make t k v s).0 × (size (insert_by make t k v s).0 ≡ size t)
unfolding insert_by lookup Balanced size
insert_old_balanced leaf k v u s f b = let z : ◌≡◌ {A = ℕ} 0 1 = cc f in absurd (omega arith)
insert_old_balanced (node i h w l r) k v u s f b = go (compare k h) refl (λ f. insert_old_balanced l k v u (given i s) f b.1) (λ f. insert_old_balanced r k v u (given i s) f b.2)
  where
    L : Tree × Supply
    L = insert_by make l k v (given i s)

    R : Tree × Supply
    R = insert_by make r k v (given i s)

    go : (c : Ordering) → compare k h ≡ c → (lookup l k ≡ some u → Balanced L.0 × (size L.0 ≡ size l))
        → (lookup r k ≡ some u → Balanced R.0 × (size R.0 ≡ size r))
        → Balanced (insert_by make (node i h w l r) k v s).0 × (size (insert_by make (node i h w l r) k v s).0 ≡ suc (size l + size r))
    go Ordering.lt e x y = let q = x (rw (e, lookup) at f) in rw (e, insert_by) ((omega (arith, b.0, q.1), q.0, b.2), omega (arith, q.1))
    go Ordering.eq e x y = rw (e, insert_by) ((b.0, b.1, b.2), refl)
    go Ordering.gt e x y = let q = y (rw (e, lookup) at f) in rw (e, insert_by) ((omega (arith, b.0, q.1), b.1, q.0), omega (arith, q.1))

pub insert-balanced : (t : Tree) (k v : ℕ) (s : Supply) → Balanced t → Balanced (insert t k v s).0
unfolding insert
insert-balanced t k v s b = go (lookup t k) refl
  where
    go : (f : Option ℕ) → lookup t k ≡ f → Balanced (insert t k v s).0
    go none e = rw (e, insert) (insert_new_balanced t k v s b).0
    go (some w) e = rw (e, insert) (insert_old_balanced t k v w s e b).0

-- an edit by its kind
pub edit_by-balanced : (kind k v : ℕ) (t : Tree) (s : Supply) → Balanced t → Balanced (edit_by kind k v t s).0
unfolding edit_by
edit_by-balanced zero k v t s b = b
edit_by-balanced (suc zero) k v t s b = insert-balanced t k v s b
edit_by-balanced (suc (suc n)) k v t s b = remove-balanced t k s b

-- Split, union and difference only take apart and join

abbrev Any : Supply → Type 0
Any s = Unit {0}

joining : Joining Balanced Any
unfolding Balanced
joining = record {
  empty = tt;
  left = λ i k v l r b. b.1;
  right = λ i k v l r b. b.2;
  given = λ i s a. tt;
  gap = λ l r bl br s a. (without-balanced join l r s (λ k v t u q bt. join-balanced k v l t u bl bt) bl br, tt);
  join = λ k v l r bl br s a. (join-balanced k v l r s bl br, tt);
}

pub split-balanced : (t : Tree) (k : ℕ) (s : Supply) → Balanced t → Balanced (split t k s).0.left × Balanced (split t k s).0.right
split-balanced t k s b = (split_ok joining t k b s tt).0

pub union-balanced : (merge : ℕ → ℕ → ℕ) (l r : Tree) (s : Supply) → Balanced l → Balanced r → Balanced (union merge l r s).0
union-balanced merge l r s bl br = (union_ok joining merge l r bl br s tt).0

-- cancelling included
pub difference-balanced : (diff : ℕ → ℕ → Option ℕ) (cancel : Bool) (l r : Tree) (s : Supply) → Balanced l → Balanced r
    → Balanced (difference diff cancel l r s).0
difference-balanced diff cancel l r s bl br = (difference_ok joining diff cancel l r bl br s tt).0
