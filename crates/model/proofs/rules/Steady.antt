-- A make that finds no free node is not undone: a supply that fell short stays so under every rule.
use mathlib.Core.Path.{◌≡◌, refl}
use Prim.Native.Nat.{ℕ, zero, suc}
use mathlib.Core.Bool.{Bool, true, false, ◌||◌}
use mathlib.Core.Option.{Option}
use Rattle.model.specs.Tree.{Tree, node}
use Rattle.model.specs.Supply.{Supply, Make, make, ◌>>=◌, first_of, is_none, next, taken, given, short}
use Rattle.model.specs.Rules.{balanced, insert_by, insert, remove_min, without_key, remove_present, remove, edit_by, join, split, union_by, union, rest, difference}
use Rattle.model.proofs.rules.Keeping.{Keeping, joining, make_ok, balanced_ok, insert_by_ok, insert_ok, remove_min_ok, without_key_ok, remove_present_ok, remove_ok, join_ok, split_ok, union_by_ok, union_ok, rest_ok, difference_ok}

-- a supply that fell short stays so
abbrev pub Onward : {X : Type 0} → Make X → Type 0
Onward m = (s : Supply) → short s ≡ true → short (m s).1 ≡ true

pub bind_onward : {X Y : Type 0} (m : Make X) (f : X → Make Y) → Onward m → ((x : X) → Onward (f x)) → Onward (m >>= f)
bind_onward m f p q s e = q (m s).0 (m s).1 (p s e)

-- a make takes the lowest free number
pub make_takes : (k v : ℕ) (l r : Tree) (s : Supply) → (make k v l r s).0 ≡ node (first_of s.free) k v l r
unfolding next
make_takes k v l r s = refl

-- Every rule goes on.

abbrev Any : Tree → Type 0
Any t = Unit {0}

short-taken : (s : Supply) → short s ≡ true → short (taken s) ≡ true
unfolding short taken
short-taken s e = go (is_none s.free)
  where
    go : (t : Bool) → (t || s.dry) ≡ true
    go true = refl
    go false = e

short-given : (i : ℕ) (s : Supply) → short s ≡ true → short (given i s) ≡ true
unfolding short given
short-given i s e = e

keeping : Keeping Any (λ s. short s ≡ true)
keeping = record { empty = tt; left = λ i k v l r p. tt; right = λ i k v l r p. tt; make = λ k v l r t p q a. tt; taken = short-taken; given = short-given }

pub make_onward : (k v : ℕ) (l r : Tree) → Onward (make k v l r)
make_onward k v l r s e = (make_ok keeping k v l r tt tt s e).1

pub balanced_onward : (k v : ℕ) (l r : Tree) → Onward (balanced k v l r)
balanced_onward k v l r s e = (balanced_ok keeping k v l r tt tt s e).1

pub insert_onward : (t : Tree) (k v : ℕ) → Onward (insert t k v)
insert_onward t k v s e = (insert_ok keeping t k v tt s e).1

pub remove_min_onward : (k v : ℕ) (l r : Tree) → Onward (remove_min k v l r)
remove_min_onward k v l r s e = (remove_min_ok keeping k v l r tt tt s e).1

pub remove_present_onward : (t : Tree) (k : ℕ) → Onward (remove_present t k)
remove_present_onward t k s e = (remove_present_ok keeping t k tt s e).1

pub remove_onward : (t : Tree) (k : ℕ) → Onward (remove t k)
remove_onward t k s e = (remove_ok keeping t k tt s e).1

pub edit_by_onward : (kind k v : ℕ) (t : Tree) → Onward (edit_by kind k v t)
unfolding edit_by
edit_by_onward zero k v t s e = e
edit_by_onward (suc zero) k v t s e = insert_onward t k v s e
edit_by_onward (suc (suc n)) k v t s e = remove_onward t k s e

pub join_onward : (k v : ℕ) (l r : Tree) → Onward (join k v l r)
join_onward k v l r s e = (join_ok keeping k v l r tt tt s e).1

pub split_onward : (t : Tree) (k : ℕ) → Onward (split t k)
split_onward t k s e = (split_ok (joining keeping) t k tt s e).1

pub union_by_onward : (merge : ℕ → ℕ → ℕ) (fuel : ℕ) (l r : Tree) → Onward (union_by merge fuel l r)
union_by_onward merge fuel l r s e = (union_by_ok (joining keeping) merge fuel l r tt tt s e).1

pub union_onward : (merge : ℕ → ℕ → ℕ) (l r : Tree) → Onward (union merge l r)
union_onward merge l r s e = (union_ok (joining keeping) merge l r tt tt s e).1

pub rest_onward : (a : Tree) (h : ℕ) (o : Option ℕ) (b : Tree) → Onward (rest a h o b)
rest_onward a h o b s e = (rest_ok (joining keeping) a h o b tt tt s e).1

pub difference_onward : (diff : ℕ → ℕ → Option ℕ) (cancel : Bool) (l r : Tree) → Onward (difference diff cancel l r)
difference_onward diff cancel l r s e = (difference_ok (joining keeping) diff cancel l r tt tt s e).1

-- makers by makers
pub insert_by_onward : (mk : ℕ → ℕ → Tree → Tree → Make Tree) → ((k v : ℕ) (l r : Tree) → Onward (mk k v l r)) → (t : Tree) (k v : ℕ)
    → Onward (insert_by mk t k v)
insert_by_onward mk f t k v s e = (insert_by_ok keeping mk (λ k v l r p q u a. (tt, f k v l r u a)) t k v tt s e).1

pub without_key_onward : (mk : ℕ → ℕ → Tree → Tree → Make Tree) → ((k v : ℕ) (l r : Tree) → Onward (mk k v l r)) → (l r : Tree) → Onward (without_key mk l r)
without_key_onward mk f l r s e = (without_key_ok keeping mk (λ k v l r p q u a. (tt, f k v l r u a)) l r tt tt s e).1
