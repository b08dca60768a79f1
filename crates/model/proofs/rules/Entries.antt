-- The tree rules against the plain list of entries.
use mathlib.Core.Path.{◌≡◌, refl, ap, sym, ◌∙◌}
use Prim.Native.Nat.{ℕ, ◌+◌, ◌<◌, compare, Ordering}
use mathlib.Core.Bool.{Bool, true, false}
use mathlib.Core.Option.{Option, none, some}
use mathlib.Core.List.{List, [], ◌∷◌, ◌++◌, append_assoc, append-nil}
use lib.Dec.{ltb}
use native.Mathlib.Omega.{arith}
use Rattle.model.specs.Tree.{Tree, leaf, node, Entry, size, lookup, entries, Cut, cut, put, find, AllBelow, Ordered}
use Rattle.model.specs.Supply.{Supply, Make, make, given}
use Rattle.model.specs.Rules.{heavy, once, larger, twice, rotate_left, rotate_right, balanced, insert_by, insert, join}
use Rattle.model.proofs.maps.Compare.{cmp_eq, cmp_gt, gt_cmp}

-- a way to make a node that keeps what the tree holds
abbrev pub Keeps : (ℕ → ℕ → Tree → Tree → Make Tree) → Type 0
Keeps mk = (k v : ℕ) (l r : Tree) (s : Supply) → entries (mk k v l r s).0 ≡ entries l ++ (k, v) ∷ entries r

pub make_keeps : Keeps make
unfolding entries
make_keeps k v l r s = refl

twice_keeps : (k v : ℕ) (l m : Tree) (h w : ℕ) (r : Tree) (s : Supply)
    → entries (twice k v l m h w r s).0 ≡ entries l ++ (k, v) ∷ (entries m ++ (h, w) ∷ entries r)
unfolding twice entries
twice_keeps k v l leaf h w r s = simp append_assoc
twice_keeps k v l (node i g u x y) h w r s = simp append_assoc

-- whichever way a test goes
either : (X : List Entry) (s : Supply) (b : Bool) (m n : Make Tree) → entries (m s).0 ≡ X → entries (n s).0 ≡ X
    → entries ((elim b as (λ _. Make Tree) [ true ↦ m | false ↦ n ]) s).0 ≡ X
either X s true m n p q = p
either X s false m n p q = q

rotate_left_keeps : Keeps rotate_left
unfolding rotate_left entries
rotate_left_keeps k v l leaf s = refl
rotate_left_keeps k v l (node i h w rl rr) s = either _ (given i s) (once rl rr) _ _ (simp append_assoc) (twice_keeps k v l rl h w rr (given i s))

rotate_right_keeps : Keeps rotate_right
unfolding rotate_right entries
rotate_right_keeps k v leaf r s = refl
rotate_right_keeps k v (node i h w ll lr) r s = either _ (given i s) (once lr ll) _ _ (simp append_assoc) (twice_keeps h w ll lr k v r (given i s) ∙ sym (append_assoc (entries ll) ((h, w) ∷ entries lr) ((k, v) ∷ entries r)))

pub balanced_keeps : Keeps balanced
unfolding balanced
balanced_keeps k v l r s = either _ s (ltb (size l + size r) 2) _ _ (make_keeps k v l r s) (either _ s (heavy r l) _ _ (rotate_left_keeps k v l r s) (either _ s (heavy l r) _ _ (rotate_right_keeps k v l r s) (make_keeps k v l r s)))

pub join_keeps : Keeps join
unfolding join entries
join_keeps k v leaf leaf s = balanced_keeps k v leaf leaf s
join_keeps k v leaf (node j h w rl rr) s = balanced_keeps h w (join k v leaf rl (given j s)).0 rr (join k v leaf rl (given j s)).1 ∙ rw (join_keeps k v leaf rl (given j s)) refl
join_keeps k v (node i h w ll lr) leaf s = balanced_keeps h w ll (join k v lr leaf (given i s)).0 (join k v lr leaf (given i s)).1 ∙ rw (join_keeps k v lr leaf (given i s)) (simp append_assoc)
join_keeps k v (node i h w ll lr) (node j g u rl rr) s =
    either all s (larger R L) _ _
    (balanced_keeps g u (join k v (node i h w ll lr) rl (given j s)).0 rr (join k v (node i h w ll lr) rl (given j s)).1 ∙ rw (join_keeps k v (node i h w ll lr) rl (given j s)) (simp append_assoc))
    (either all s (larger L R) _ _
    (balanced_keeps h w ll (join k v lr (node j g u rl rr) (given i s)).0 (join k v lr (node j g u rl rr) (given i s)).1 ∙ rw (join_keeps k v lr (node j g u rl rr) (given i s)) (simp append_assoc))
    (balanced_keeps k v L R s))
  where
    L : Tree
    L = node i h w ll lr

    R : Tree
    R = node j g u rl rr

    all : List Entry
    all = entries L ++ (k, v) ∷ entries R

-- Lists

all_below_trans : (j k : ℕ) (xs : List Entry) → j < k → AllBelow j xs → AllBelow k xs
unfolding AllBelow
all_below_trans j k [] lt b = tt
all_below_trans j k (x ∷ xs) lt b = (omega arith, all_below_trans j k xs lt b.1)

-- a list cut at k, in front of which and behind which other entries stand
abbrev in_front : List Entry → Cut → Cut
in_front xs c = record { before = xs ++ c.before; found = c.found; after = c.after }

abbrev behind : Cut → List Entry → Cut
behind c ys = record { before = c.before; found = c.found; after = c.after ++ ys }

cut_past : (xs ys : List Entry) (k : ℕ) → AllBelow k xs → cut (xs ++ ys) k ≡ in_front xs (cut ys k)
unfolding cut AllBelow
cut_past [] ys k b = refl
cut_past (x ∷ xs) ys k b = rw (gt_cmp k x.0 b.0, cut) (ap (in_front (x ∷ [])) (cut_past xs ys k b.1))

pub cut-less : (xs ys : List Entry) (h w k : ℕ) → compare k h ≡ Ordering.lt → cut (xs ++ (h, w) ∷ ys) k ≡ behind (cut xs k) ((h, w) ∷ ys)
unfolding cut
cut-less [] ys h w k lt = rw (lt, cut)
cut-less (x ∷ xs) ys h w k lt = go (compare k x.0) refl (cut-less xs ys h w k lt)
  where
    go : (o : Ordering) → compare k x.0 ≡ o → cut (xs ++ (h, w) ∷ ys) k ≡ behind (cut xs k) ((h, w) ∷ ys)
        → cut (x ∷ xs ++ (h, w) ∷ ys) k ≡ behind (cut (x ∷ xs) k) ((h, w) ∷ ys)
    go Ordering.lt e ih = rw (e, cut)
    go Ordering.eq e ih = rw (e, cut)
    go Ordering.gt e ih = rw (e, cut) (ap (in_front (x ∷ [])) ih)

pub cut_same : (xs ys : List Entry) (h w k : ℕ) → compare k h ≡ Ordering.eq → AllBelow h xs
    → cut (xs ++ (h, w) ∷ ys) k ≡ record { before = xs; found = some w; after = ys }
unfolding cut
cut_same xs ys h w k e b = cut_past xs ((h, w) ∷ ys) k (rw (cmp_eq k h e) b) ∙ rw (e, cut) (rw append-nil)

pub cut_more : (xs ys : List Entry) (h w k : ℕ) → compare k h ≡ Ordering.gt → AllBelow h xs → cut (xs ++ (h, w) ∷ ys) k ≡ in_front (xs ++ (h, w) ∷ []) (cut ys k)
unfolding cut
cut_more xs ys h w k e b = cut_past xs ((h, w) ∷ ys) k (all_below_trans h k xs (cmp_gt k h e) b) ∙ rw (e, cut) (rw (append_assoc xs ((h, w) ∷ []) (cut ys k).before))

-- Lookup

pub lookup-entries : (t : Tree) (k : ℕ) → Ordered t → lookup t k ≡ find (entries t) k
unfolding lookup entries Ordered cut
lookup-entries leaf k o = refl
lookup-entries (node i h w l r) k o = go (compare k h) refl (lookup-entries l k o.2) (lookup-entries r k o.3)
  where
    go : (c : Ordering) → compare k h ≡ c → lookup l k ≡ find (entries l) k → lookup r k ≡ find (entries r) k
        → lookup (node i h w l r) k ≡ find (entries (node i h w l r)) k
    go Ordering.lt e ihl ihr = rw (e, lookup) (ihl ∙ sym (ap (λ c. c.found) (cut-less (entries l) (entries r) h w k e)))
    go Ordering.eq e ihl ihr = rw (e, lookup) (sym (ap (λ c. c.found) (cut_same (entries l) (entries r) h w k e o.0)))
    go Ordering.gt e ihl ihr = rw (e, lookup) (ihr ∙ sym (ap (λ c. c.found) (cut_more (entries l) (entries r) h w k e o.0)))

-- Insert

insert_by-entries : (mk : ℕ → ℕ → Tree → Tree → Make Tree) → Keeps mk → (t : Tree) (k v : ℕ) (s : Supply) → Ordered t
    → entries (insert_by mk t k v s).0 ≡ put (entries t) k v
unfolding insert_by entries cut Ordered
insert_by-entries mk keeps leaf k v s o = refl
insert_by-entries mk keeps (node i h w l r) k v s o = go (compare k h) refl (insert_by-entries mk keeps l k v (given i s) o.2) (insert_by-entries mk keeps r k v (given i s) o.3)
  where
    go : (c : Ordering) → compare k h ≡ c → entries (insert_by mk l k v (given i s)).0 ≡ put (entries l) k v
        → entries (insert_by mk r k v (given i s)).0 ≡ put (entries r) k v
        → entries (insert_by mk (node i h w l r) k v s).0 ≡ put (entries l ++ (h, w) ∷ entries r) k v
    go Ordering.lt e ihl ihr = rw e (keeps h w (insert_by mk l k v (given i s)).0 r (insert_by mk l k v (given i s)).1 ∙ rw (ihl, cut-less (entries l) (entries r) h w k e) (simp append_assoc))
    go Ordering.eq e ihl ihr = rw e (keeps k v l r (given i s) ∙ rw (cut_same (entries l) (entries r) h w k e o.0) refl)
    go Ordering.gt e ihl ihr = rw e (keeps h w l (insert_by mk r k v (given i s)).0 (insert_by mk r k v (given i s)).1 ∙ rw (ihr, cut_more (entries l) (entries r) h w k e o.0) (simp append_assoc))

pub insert-entries : (t : Tree) (k v : ℕ) (s : Supply) → Ordered t → entries (insert t k v s).0 ≡ put (entries t) k v
unfolding insert
insert-entries t k v s o = go (lookup t k) refl
  where
    go : (f : Option ℕ) → lookup t k ≡ f → entries (insert t k v s).0 ≡ put (entries t) k v
    go none e = rw (e, insert) (insert_by-entries balanced balanced_keeps t k v s o)
    go (some w) e = rw (e, insert) (insert_by-entries make make_keeps t k v s o)
