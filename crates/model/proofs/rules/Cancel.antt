-- Cancelling changes neither tree nor supply: in one heap, one number is one tree, and a tree less itself is empty and makes nothing.
use mathlib.Core.Path.{◌≡◌, refl, ap, sym, subst, ◌∙◌}
use Prim.Native.Nat.{ℕ, zero, suc}
use mathlib.Core.Bool.{Bool, true, false, true≢false}
use mathlib.Core.List.{List, [], ◌∷◌}
use mathlib.Core.Option.{Option, none}
use lib.Dec.{ltb, eqb}
use borrow.Author.Tests.{eqb-true}
use native.Mathlib.Omega.{arith}
use Rattle.model.specs.Tree.{Tree, leaf, node, id_of}
use Rattle.model.specs.Supply.{Supply, first_of, after_first, among, back, given, next, taken}
use Rattle.model.specs.Rules.{Parts, difference, split, rest, kept, without_key}
use Rattle.model.specs.Heap.{Heap, Occupied, Named, load, tree, Linked}
use Rattle.model.proofs.block.Reach.{Sub, here, go_left, go_right, sub_leaf, sub_node, Known, sub_known}
use Rattle.model.proofs.maps.Compare.{eq_cmp}
use Rattle.model.proofs.rules.Keeping.{Keeping, joining, split_ok, difference_ok}
use mathlib.Core.Logic.{⊎_elim}

-- every node of t stood at entry
unfoldable pub Stood : Supply → Tree → Type 0
Stood s leaf = Unit {0}
Stood s (node i h w l r) = (s.stood i ≡ true) × Stood s l × Stood s r

-- what stood is not given back
given_stood : (i : ℕ) (s : Supply) → s.stood i ≡ true → given i s ≡ s
unfolding given back
given_stood i s e = rw e refl

-- a tree less itself, where equal values drop
self_less : (diff : ℕ → ℕ → Option ℕ) → ((x : ℕ) → diff x x ≡ none) → (t : Tree) (s : Supply) → Stood s t → difference diff false t t s ≡ (leaf, s)
unfolding difference split rest without_key Stood
self_less diff d leaf s q = refl
self_less diff d (node i h w l r) s q = rw (eq_cmp h h refl, split) (rw (given_stood i s q.0) (rw (given_stood i s q.0) (rw (self_less diff d l s q.1) (rw (self_less diff d r s q.2) (rw (d w) refl)))))

module _ (h : Heap) (L : Linked h) where
  -- a tree that stands at entry, and whatever is under it
  unfoldable pub Stands : Tree → Type 0
  Stands t = (u : Tree) → Sub u t → Known h u

  -- every node of t that is numbered as a standing one is that one
  Good : Tree → Type 0
  Good t = (w : Tree) → Sub w t → Occupied h (id_of w) → w ≡ tree h (id_of w)

  -- what is left of the supply is free at entry
  unfoldable pub AllFree : List ℕ → Type 0
  AllFree [] = Unit {0}
  AllFree (n ∷ ns) = ¬ Occupied h n × AllFree ns

  unfoldable pub Avoids : Supply → Type 0
  Avoids s = AllFree s.free × ((n : ℕ) → s.stood n ≡ h.occupied n)

  first_free : (ns : List ℕ) → AllFree ns → ¬ Occupied h (first_of ns)
  unfolding AllFree first_of
  first_free [] a o = absurd (omega (arith, L.within 0 o))
  first_free (n ∷ ns) a o = a.0 o

  after_free : (ns : List ℕ) → AllFree ns → AllFree (after_first ns)
  unfolding AllFree after_first
  after_free [] a = tt
  after_free (n ∷ ns) a = a.1

  among_free : (i : ℕ) (ns : List ℕ) → ¬ Occupied h i → AllFree ns → AllFree (among i ns)
  unfolding AllFree among
  among_free i [] f a = (f, tt)
  among_free i (n ∷ ns) f a = go (ltb i n) refl (among_free i ns f a.1)
    where
      go : (t : Bool) → ltb i n ≡ t → AllFree (among i ns) → AllFree (among i (n ∷ ns))
      go true e ih = rw (e, among) (f, a)
      go false e ih = rw (e, among) (a.0, ih)

  good_leaf : Good leaf
  unfolding Good id_of
  good_leaf w p o = absurd (omega (arith, L.within 0 (subst (λ t. Occupied h (id_of t)) (sub_leaf p) o)))

  good_make : (k v : ℕ) (l r : Tree) (s : Supply) → Good l → Good r → Avoids s → Good (node (next s) k v l r)
  unfolding Good Avoids id_of next
  good_make k v l r s gl gr a w p o = ⊎_elim (λ e. absurd (first_free s.free a.0 (subst (λ t. Occupied h (id_of t)) e o))) (⊎_elim (λ q. gl w q o) (λ q. gr w q o)) (sub_node p)

  avoids_taken : (s : Supply) → Avoids s → Avoids (taken s)
  unfolding Avoids taken
  avoids_taken s a = (after_free s.free a.0, a.1)

  avoids_given : (i : ℕ) (s : Supply) → Avoids s → Avoids (given i s)
  unfolding Avoids given back
  avoids_given i s a = (go (s.stood i) refl, a.1)
    where
      go : (t : Bool) → s.stood i ≡ t → AllFree (back (s.stood i) i s.free)
      go true e = rw e a.0
      go false e = rw e (among_free i s.free (λ o. true≢false (sym o ∙ sym (a.1 i) ∙ e)) a.0)

  occupied_node : (i k v : ℕ) (l r : Tree) → node i k v l r ≡ tree h i → Named h i → Occupied h i
  unfolding tree load
  occupied_node zero k v l r e n = let z : ◌≡◌ {A = ℕ} 0 1 = cc e in absurd (omega arith)
  occupied_node (suc i) k v l r e n = n

  -- a tree that stands stood at entry
  stands_stood : (s : Supply) → Avoids s → (t : Tree) → ((u : Tree) → Sub u t → Known h u) → Stood s t
  unfolding Avoids Known Stood id_of
  stands_stood s a leaf k = tt
  stands_stood s a (node i c w l r) k =
      let n = k (node i c w l r) here in
      (a.1 i ∙ occupied_node i c w l r n.0 n.1, stands_stood s a l (λ u p. k u (go_left p)), stands_stood s a r (λ u p. k u (go_right p)))

  good_stands : (t : Tree) → Stands t → Good t
  unfolding Stands Good Known
  good_stands t g w p o = (g w p).0

  good_left : (i k v : ℕ) (l r : Tree) → Good (node i k v l r) → Good l
  unfolding Good
  good_left i k v l r g w p = g w (go_left p)

  good_right : (i k v : ℕ) (l r : Tree) → Good (node i k v l r) → Good r
  unfolding Good
  good_right i k v l r g w p = g w (go_right p)

  keeping : Keeping Good Avoids
  keeping = record { empty = good_leaf; left = good_left; right = good_right; make = good_make; taken = avoids_taken; given = avoids_given }

  record Q (s : Supply) (l r : Tree) : Type 0 where
    stands : Stands l
    good : Good r
    avoids : Avoids s

  pub stands_left : (i k v : ℕ) (l r : Tree) → Stands (node i k v l r) → Stands l
  unfolding Stands
  stands_left i k v l r g w p = g w (go_left p)

  pub stands_right : (i k v : ℕ) (l r : Tree) → Stands (node i k v l r) → Stands r
  unfolding Stands
  stands_right i k v l r g w p = g w (go_right p)

  same_node : (s : Supply) (i k v : ℕ) (l r : Tree) (j g u : ℕ) (x y : Tree) → Q s (node i k v l r) (node j g u x y) → i ≡ j → node i k v l r ≡ node j g u x y
  unfolding Stands Good Known id_of
  same_node s i k v l r j g u x y q e =
      let n = q.stands (node i k v l r) here in
      let o : Occupied h i = occupied_node i k v l r n.0 n.1 in
      n.0 ∙ ap (tree h) e ∙ sym (q.good (node j g u x y) here (rw e at o))

  pub stands_known : (t : Tree) → Stands t → t ≡ tree h (id_of t)
  unfolding Stands Known
  stands_known t g = (g t here).0

  -- the two are at the same point on the left side
  to_left : (s : Supply) (i k v : ℕ) (l r t : Tree) → Q s (node i k v l r) t → Q (split t k (given i s)).1 l (split t k (given i s)).0.left
  to_left s i k v l r t q =
      let o = split_ok (joining keeping) t k q.good (given i s) (avoids_given i s q.avoids) in
      record { stands = stands_left i k v l r q.stands; good = o.0.0; avoids = o.1 }

  -- and on the right side
  to_right : (diff : ℕ → ℕ → Option ℕ) (s : Supply) (i k v : ℕ) (l r t : Tree) → Q s (node i k v l r) t
      → Q (difference diff false l (split t k (given i s)).0.left (split t k (given i s)).1).1 r (split t k (given i s)).0.right
  to_right diff s i k v l r t q =
      let p = split t k (given i s) in
      let o = split_ok (joining keeping) t k q.good (given i s) (avoids_given i s q.avoids) in
      let m = difference_ok (joining keeping) diff false l p.0.left (good_left i k v l r (good_stands (node i k v l r) q.stands)) o.0.0 p.1 o.1 in
      record { stands = stands_right i k v l r q.stands; good = o.0.1; avoids = m.1 }

  cancel_met : (diff : ℕ → ℕ → Option ℕ) → ((x : ℕ) → diff x x ≡ none) → (l r : Tree) (s : Supply) → Q s l r
      → difference diff true l r s ≡ difference diff false l r s
  unfolding difference Stands
  cancel_met diff d leaf r s q = refl
  cancel_met diff d (node i h w ll lr) leaf s q = refl
  cancel_met diff d (node i h w ll lr) (node j g u rl rr) s q =
      go (eqb i j) refl (cancel_met diff d ll p.0.left p.1 (to_left s i h w ll lr R q)) (cancel_met diff d lr p.0.right a.1 (to_right diff s i h w ll lr R q))
    where
      R : Tree
      R = node j g u rl rr

      p : Parts × Supply
      p = split R h (given i s)

      a : Tree × Supply
      a = difference diff false ll p.0.left p.1

      standing : Q s (node i h w ll lr) R → Stood s (node i h w ll lr)
      standing z = stands_stood s z.avoids (node i h w ll lr) z.stands

      tail : Bool → Tree × Supply → Tree × Supply
      tail c x = let y = difference diff c lr p.0.right x.1 in rest x.0 h (kept diff w p.0.found) y.0 y.1

      go : (c : Bool) → eqb i j ≡ c → difference diff true ll p.0.left p.1 ≡ a
          → difference diff true lr p.0.right a.1 ≡ difference diff false lr p.0.right a.1
          → difference diff true (node i h w ll lr) R s ≡ difference diff false (node i h w ll lr) R s
      go true e x y = rw (e, difference) (sym (subst (λ t. difference diff false (node i h w ll lr) t s ≡ (leaf, s)) (same_node s i h w ll lr j g u rl rr q (eqb-true i j e)) (self_less diff d (node i h w ll lr) s (standing q))))
      go false e x y = rw (e, difference) (ap (tail true) x ∙ ap (λ (z : Tree × Supply). rest a.0 h (kept diff w p.0.found) z.0 z.1) y)

  -- trees that stand, and a supply of numbers that are free: with cancelling and without, difference comes to the same
  pub cancel_same : (diff : ℕ → ℕ → Option ℕ) → ((x : ℕ) → diff x x ≡ none) → (l r : Tree) (s : Supply) → Stands l → Stands r → Avoids s
      → difference diff true l r s ≡ difference diff false l r s
  cancel_same diff d l r s sl sr a = cancel_met diff d l r s (record { stands = sl; good = good_stands r sr; avoids = a })

  pub tree_stands : (n : ℕ) → Named h n → Stands (tree h n)
  unfolding Stands
  tree_stands n o = sub_known h L n o
