-- The order of keys, on lists and on trees.
use Prim.Native.Nat.{ℕ, ◌<◌}
use mathlib.Core.List.{List, [], ◌∷◌, ◌++◌}
use native.Mathlib.Omega.{arith}
use Rattle.model.specs.Tree.{Tree, leaf, node, Entry, entries, AllBelow, AllAbove, Sorted, Ordered}
use Rattle.model.specs.Heap.{Heap, version, Kept, Sound}
use Rattle.model.proofs.block.Reach.{Sub, here, go_left, go_right, Reached, reach}

all_below_left : (k : ℕ) (xs ys : List Entry) → AllBelow k (xs ++ ys) → AllBelow k xs
unfolding AllBelow
all_below_left k [] ys a = tt
all_below_left k (x ∷ xs) ys a = (a.0, all_below_left k xs ys a.1)

all_above_left : (k : ℕ) (xs ys : List Entry) → AllAbove k (xs ++ ys) → AllAbove k xs
unfolding AllAbove
all_above_left k [] ys a = tt
all_above_left k (x ∷ xs) ys a = (a.0, all_above_left k xs ys a.1)

all_above_right : (k : ℕ) (xs ys : List Entry) → AllAbove k (xs ++ ys) → AllAbove k ys
unfolding AllAbove
all_above_right k [] ys a = a
all_above_right k (x ∷ xs) ys a = all_above_right k xs ys a.1

pub all_above_append : (k : ℕ) (xs ys : List Entry) → AllAbove k xs → AllAbove k ys → AllAbove k (xs ++ ys)
unfolding AllAbove
all_above_append k [] ys a b = b
all_above_append k (x ∷ xs) ys a b = (a.0, all_above_append k xs ys a.1 b)

pub all_above_trans : (j k : ℕ) (xs : List Entry) → j < k → AllAbove k xs → AllAbove j xs
unfolding AllAbove
all_above_trans j k [] lt b = tt
all_above_trans j k (x ∷ xs) lt b = (omega arith, all_above_trans j k xs lt b.1)

-- a sorted list around an entry
pub sorted_split : (xs : List Entry) (k v : ℕ) (ys : List Entry) → Sorted (xs ++ (k, v) ∷ ys) → Sorted xs × AllBelow k xs × AllAbove k ys × Sorted ys
unfolding Sorted AllBelow AllAbove
sorted_split [] k v ys s = (tt, tt, s.0, s.1)
sorted_split (x ∷ xs) k v ys s =
    let r = sorted_split xs k v ys s.1 in
    ((all_above_left x.0 xs ((k, v) ∷ ys) s.0, r.0), ((all_above_right x.0 xs ((k, v) ∷ ys) s.0).0, r.1), r.2, r.3)

pub sorted_join : (xs : List Entry) (k v : ℕ) (ys : List Entry) → Sorted xs → AllBelow k xs → AllAbove k ys → Sorted ys → Sorted (xs ++ (k, v) ∷ ys)
unfolding Sorted AllBelow AllAbove
sorted_join [] k v ys a b c d = (c, d)
sorted_join (x ∷ xs) k v ys a b c d = (all_above_append x.0 xs ((k, v) ∷ ys) a.0 (b.0, all_above_trans x.0 k ys b.0 c), sorted_join xs k v ys a.1 b.1 c d)

-- a tree is ordered exactly when its entries ascend
pub ordered_sorted : (t : Tree) → Ordered t → Sorted (entries t)
unfolding Ordered Sorted entries
ordered_sorted leaf o = tt
ordered_sorted (node i k v l r) o = sorted_join (entries l) k v (entries r) (ordered_sorted l o.2) o.0 o.1 (ordered_sorted r o.3)

pub sorted_ordered : (t : Tree) → Sorted (entries t) → Ordered t
unfolding Ordered entries
sorted_ordered leaf s = tt
sorted_ordered (node i k v l r) s = let q = sorted_split (entries l) k v (entries r) s in (q.1, q.2, sorted_ordered l q.0, sorted_ordered r q.3)

-- below an ordered tree all is ordered
sub_ordered : {u t : Tree} → Sub u t → Ordered t → Ordered u
unfolding Ordered
sub_ordered here o = o
sub_ordered (go_left p) o = sub_ordered p o.2
sub_ordered (go_right p) o = sub_ordered p o.3

-- soundness needs the order of the sixteen versions alone
pub sound_by_versions : (h : Heap) → Kept h → ((v : ℕ) → v < 16 → Ordered (version h v)) → Sound h
unfolding Reached
sound_by_versions h K o = record { kept = K; ordered = λ n p. let r = reach h K n p in sub_ordered r.2 (o r.0 r.1) }
