-- Every rule keeps the order of keys: its entries ascend.
use Prim.Native.Nat.{ℕ, zero, suc}
use mathlib.Core.Bool.{false}
use mathlib.Core.Option.{Option}
use Rattle.model.specs.Tree.{Tree, node, entries, cut, Ordered}
use Rattle.model.specs.Supply.{Supply, Make}
use Rattle.model.specs.Rules.{balanced, insert, remove, edit_by, join, split, union, difference}
use Rattle.model.proofs.rules.Entries.{Keeps, balanced_keeps, join_keeps, insert-entries}
use Rattle.model.proofs.rules.Splits.{remove-entries}
use Rattle.model.proofs.maps.Sorts.{ordered_sorted, sorted_ordered, sorted_join}
use Rattle.model.proofs.maps.Finds.{cut_facts, sorted_without}
use Rattle.model.proofs.rules.Unions.{split_facts, union_is}
use Rattle.model.proofs.rules.Differences.{difference_is}

-- a make that keeps the entries of a node keeps its order
keeps_ordered : (mk : ℕ → ℕ → Tree → Tree → Make Tree) → Keeps mk → (i k v : ℕ) (l r : Tree) (s : Supply) → Ordered (node i k v l r) → Ordered (mk k v l r s).0
unfolding entries
keeps_ordered mk keeps i k v l r s o = sorted_ordered (mk k v l r s).0 (rw (keeps k v l r s) (ordered_sorted (node i k v l r) o))

pub balanced_ordered : (i k v : ℕ) (l r : Tree) (s : Supply) → Ordered (node i k v l r) → Ordered (balanced k v l r s).0
balanced_ordered = keeps_ordered balanced balanced_keeps

pub join_ordered : (i k v : ℕ) (l r : Tree) (s : Supply) → Ordered (node i k v l r) → Ordered (join k v l r s).0
join_ordered = keeps_ordered join join_keeps

pub insert_ordered : (t : Tree) (k v : ℕ) (s : Supply) → Ordered t → Ordered (insert t k v s).0
insert_ordered t k v s o =
    let C = cut_facts (entries t) k (ordered_sorted t o) in
    sorted_ordered (insert t k v s).0 (rw (insert-entries t k v s o) (sorted_join (cut (entries t) k).before k v (cut (entries t) k).after C.sorted_before C.below C.above C.sorted_after))

pub remove_ordered : (t : Tree) (k : ℕ) (s : Supply) → Ordered t → Ordered (remove t k s).0
remove_ordered t k s o = sorted_ordered (remove t k s).0 (rw (remove-entries t k s o) (sorted_without (entries t) k (ordered_sorted t o)))

pub edit_by_ordered : (kind k v : ℕ) (t : Tree) (s : Supply) → Ordered t → Ordered (edit_by kind k v t s).0
unfolding edit_by
edit_by_ordered zero k v t s o = o
edit_by_ordered (suc zero) k v t s o = insert_ordered t k v s o
edit_by_ordered (suc (suc n)) k v t s o = remove_ordered t k s o

pub split_ordered : (t : Tree) (k : ℕ) (s : Supply) → Ordered t → Ordered (split t k s).0.left × Ordered (split t k s).0.right
split_ordered t k s o = let S = split_facts t k s o in (S.ordered_left, S.ordered_right)

pub union_ordered : (merge : ℕ → ℕ → ℕ) (l r : Tree) (s : Supply) → Ordered l → Ordered r → Ordered (union merge l r s).0
union_ordered merge l r s ol or = sorted_ordered (union merge l r s).0 (union_is merge l r s ol or).sorted

pub difference_ordered : (diff : ℕ → ℕ → Option ℕ) (l r : Tree) (s : Supply) → Ordered l → Ordered r → Ordered (difference diff false l r s).0
difference_ordered diff l r s ol or = sorted_ordered (difference diff false l r s).0 (difference_is diff l r s ol or).sorted
