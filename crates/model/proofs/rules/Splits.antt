-- Split, remove and an edit by its kind against the plain list of entries.
use mathlib.Core.Path.{◌≡◌, refl, ap, sym, ◌∙◌}
use Prim.Native.Nat.{ℕ, zero, suc, compare, Ordering}
use mathlib.Core.Option.{Option, none, some}
use mathlib.Core.List.{List, [], ◌∷◌, ◌++◌, append_assoc, append-nil}
use lib.ListN.{length, length-append}
use native.Mathlib.Omega.{arith}
use Rattle.model.specs.Tree.{Tree, leaf, node, Entry, size, lookup, entries, Cut, cut, find, without, set_by, Ordered}
use Rattle.model.specs.Supply.{Supply, Make, given}
use Rattle.model.specs.Rules.{balanced, remove_min, without_key, remove_present, remove, edit_by, Parts, split}
use Rattle.model.proofs.rules.Entries.{Keeps, balanced_keeps, join_keeps, cut-less, cut_same, cut_more, lookup-entries, insert-entries}

pub size-length : (t : Tree) → size t ≡ length (entries t)
unfolding size entries
size-length leaf = refl
size-length (node i k v l r) = rw (length-append (entries l) ((k, v) ∷ entries r)) (omega (arith, size-length l, size-length r))

pub remove_min-entries : (k v : ℕ) (l r : Tree) (s : Supply)
    → ((remove_min k v l r s).0.key, (remove_min k v l r s).0.value) ∷ entries (remove_min k v l r s).0.rest ≡ entries l ++ (k, v) ∷ entries r
unfolding remove_min entries
remove_min-entries k v leaf r s = refl
remove_min-entries k v (node j h w ll lr) r s =
    let m = remove_min h w ll lr (given j s) in
    rw (balanced_keeps k v m.0.rest r m.1) (ap (λ es. es ++ (k, v) ∷ entries r) (remove_min-entries h w ll lr (given j s)))

pub without_key-entries : (mk : ℕ → ℕ → Tree → Tree → Make Tree) → Keeps mk → (l r : Tree) (s : Supply)
    → entries (without_key mk l r s).0 ≡ entries l ++ entries r
unfolding without_key entries
without_key-entries mk keeps leaf r s = refl
without_key-entries mk keeps (node i h w ll lr) leaf s = sym (append-nil _)
without_key-entries mk keeps (node i h w ll lr) (node j g u rl rr) s =
    let m = remove_min g u rl rr (given j s) in
    keeps m.0.key m.0.value (node i h w ll lr) m.0.rest m.1 ∙ ap (λ es. entries (node i h w ll lr) ++ es) (remove_min-entries g u rl rr (given j s))

pub remove_present-entries : (t : Tree) (k : ℕ) (s : Supply) → Ordered t → entries (remove_present t k s).0 ≡ without (entries t) k
unfolding remove_present entries Ordered cut
remove_present-entries leaf k s o = refl
remove_present-entries (node i h w l r) k s o = go (compare k h) refl (remove_present-entries l k (given i s) o.2) (remove_present-entries r k (given i s) o.3)
  where
    go : (c : Ordering) → compare k h ≡ c → entries (remove_present l k (given i s)).0 ≡ without (entries l) k
        → entries (remove_present r k (given i s)).0 ≡ without (entries r) k
        → entries (remove_present (node i h w l r) k s).0 ≡ without (entries l ++ (h, w) ∷ entries r) k
    go Ordering.lt e ihl ihr = rw e (balanced_keeps h w (remove_present l k (given i s)).0 r (remove_present l k (given i s)).1 ∙ rw (ihl, cut-less (entries l) (entries r) h w k e) (simp append_assoc))
    go Ordering.eq e ihl ihr = rw e (without_key-entries balanced balanced_keeps l r (given i s) ∙ rw (cut_same (entries l) (entries r) h w k e o.0) refl)
    go Ordering.gt e ihl ihr = rw e (balanced_keeps h w l (remove_present r k (given i s)).0 (remove_present r k (given i s)).1 ∙ rw (ihr, cut_more (entries l) (entries r) h w k e o.0) (simp append_assoc))

-- a list cut where nothing is found
cut_none : (es : List Entry) (k : ℕ) → find es k ≡ none → without es k ≡ es
unfolding cut
cut_none [] k e = refl
cut_none (x ∷ xs) k e = go (compare k x.0) refl (cut_none xs k)
  where
    go : (c : Ordering) → compare k x.0 ≡ c → (find xs k ≡ none → without xs k ≡ xs) → without (x ∷ xs) k ≡ x ∷ xs
    go Ordering.lt p ih = rw (p, cut)
    go Ordering.eq p ih = let z : ◌≡◌ {A = ℕ} 0 1 = cc (rw (p, find) at e) in absurd (omega arith)
    go Ordering.gt p ih = rw (p, cut) (ap (λ es. x ∷ es) (ih (rw (p, find) at e)))

pub remove-entries : (t : Tree) (k : ℕ) (s : Supply) → Ordered t → entries (remove t k s).0 ≡ without (entries t) k
unfolding remove
remove-entries t k s o = go (lookup t k) refl
  where
    go : (f : Option ℕ) → lookup t k ≡ f → entries (remove t k s).0 ≡ without (entries t) k
    go none e = rw (e, remove) (sym (cut_none (entries t) k (sym (lookup-entries t k o) ∙ e)))
    go (some w) e = rw (e, remove) (remove_present-entries t k s o)

pub edit_by-entries : (kind k v : ℕ) (t : Tree) (s : Supply) → Ordered t → entries (edit_by kind k v t s).0 ≡ set_by kind k v (entries t)
unfolding edit_by set_by
edit_by-entries zero k v t s o = refl
edit_by-entries (suc zero) k v t s o = insert-entries t k v s o
edit_by-entries (suc (suc n)) k v t s o = remove-entries t k s o

-- what a split shows
abbrev pub shown : Parts → Cut
shown p = record { before = entries p.left; found = p.found; after = entries p.right }

abbrev in_front : List Entry → Cut → Cut
in_front xs c = record { before = xs ++ c.before; found = c.found; after = c.after }

abbrev behind : Cut → List Entry → Cut
behind c ys = record { before = c.before; found = c.found; after = c.after ++ ys }

pub split-entries : (t : Tree) (k : ℕ) (s : Supply) → Ordered t → shown (split t k s).0 ≡ cut (entries t) k
unfolding split entries Ordered cut
split-entries leaf k s o = refl
split-entries (node i h w l r) k s o = go (compare k h) refl (split-entries l k (given i s) o.2) (split-entries r k (given i s) o.3)
  where
    go : (c : Ordering) → compare k h ≡ c → shown (split l k (given i s)).0 ≡ cut (entries l) k → shown (split r k (given i s)).0 ≡ cut (entries r) k
        → shown (split (node i h w l r) k s).0 ≡ cut (entries l ++ (h, w) ∷ entries r) k
    go Ordering.lt e ihl ihr =
        let p = split l k (given i s) in
        rw (e, split) (rw (join_keeps h w p.0.right r p.1) (ap (λ c. behind c ((h, w) ∷ entries r)) ihl ∙ sym (cut-less (entries l) (entries r) h w k e)))
    go Ordering.eq e ihl ihr = rw (e, split) (sym (cut_same (entries l) (entries r) h w k e o.0))
    go Ordering.gt e ihl ihr =
        let p = split r k (given i s) in
        rw (e, split) (rw (join_keeps h w l p.0.left p.1) (rw (sym (append_assoc (entries l) ((h, w) ∷ []) (entries p.0.left))) (ap (in_front (entries l ++ (h, w) ∷ [])) ihr ∙ sym (cut_more (entries l) (entries r) h w k e o.0))))
