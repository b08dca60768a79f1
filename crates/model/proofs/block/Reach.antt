-- In a heap that keeps its counts every occupied node is below a root, so the versions' trees tell every word.
use mathlib.Core.Path.{◌≡◌, refl, ap, sym, subst, ◌∙◌}
use Prim.Native.Nat.{ℕ, zero, suc, ◌+◌, max, ◌≤◌, ◌<◌}
use mathlib.Core.Bool.{Bool, true, false}
use mathlib.Core.Logic.{◌⊎◌, inl, inr, ⊎_elim}
use native.Mathlib.Omega.{arith}
use native.Mathlib.Decide.{ℕ_discrete, dec_le}
use Rattle.model.specs.Tree.{Tree, leaf, node, size, total, id_of}
use Rattle.model.specs.Heap.{Heap, Occupied, Named, size_at, load, tree, version, hits, refs, Linked, Blank, Kept}
use Rattle.model.proofs.block.Loads.{size_at_occupied, sum_at_occupied, tree_node, tree_ind, tree_id, tree-size, tree-sum}
use Rattle.model.proofs.block.Counts.{hits_same, hits-find}

-- u is t or stands below it
pub data Sub (u : Tree) : Tree → Type 0 where
  here : Sub u u
  go_left : {i k v : ℕ} {l r : Tree} → Sub u l → Sub u (node i k v l r)
  go_right : {i k v : ℕ} {l r : Tree} → Sub u r → Sub u (node i k v l r)

pub sub_trans : {a b c : Tree} → Sub a b → Sub b c → Sub a c
sub_trans p here = p
sub_trans p (go_left q) = go_left (sub_trans p q)
sub_trans p (go_right q) = go_right (sub_trans p q)

-- the largest of f 0, .. f k
largest : (ℕ → ℕ) → ℕ → ℕ
largest f zero = f 0
largest f (suc k) = max (f (suc k)) (largest f k)

le_largest : (f : ℕ → ℕ) (k i : ℕ) → i ≤ k → f i ≤ largest f k
unfolding largest
le_largest f zero i le = rw (let e : i ≡ 0 = omega arith in e) (omega arith)
le_largest f (suc k) i le = go (ℕ_discrete i (suc k)) (le_largest f k i)
  where
    go : Dec (i ≡ suc k) → (i ≤ k → f i ≤ largest f k) → f i ≤ max (f (suc k)) (largest f k)
    go (yes p) ih = rw p (omega arith)
    go (no p) ih = omega (arith, ih (omega arith))

-- a node that some version holds
unfoldable pub Reached : Heap → ℕ → Type 0
Reached h n = (v : ℕ) × (v < 16) × Sub (tree h n) (version h v)

-- what names a node
pub data By (h : Heap) (n : ℕ) : Type 0 where
  by_root : (v : ℕ) → v < 16 → h.root v ≡ n → By h n
  by_left : (m : ℕ) → Occupied h m → h.left m ≡ n → By h n
  by_right : (m : ℕ) → Occupied h m → h.right m ≡ n → By h n

module _ (h : Heap) (S : Kept h) where
  -- a node whose link names an occupied node is occupied
  linker : (f : ℕ → ℕ) → ((m : ℕ) → Blank h m → f m ≡ 0) → (n i : ℕ) → Occupied h n → i < h.room → f (suc i) ≡ n → Occupied h (suc i)
  linker f zeros n i o lt e = go (h.occupied (suc i)) refl
    where
      go : (b : Bool) → h.occupied (suc i) ≡ b → Occupied h (suc i)
      go true p = p
      go false p = absurd (omega (arith, S.linked.within n o, e, zeros (suc i) (S.linked.blank (suc i) (omega arith) (omega arith) p)))

  below_left : (m n : ℕ) → Occupied h m → h.left m ≡ n → Sub (tree h n) (tree h m)
  below_left m n o e = subst (λ x. Sub (tree h x) (tree h m)) e (rw (tree_node h S.linked m o) (go_left here))

  below_right : (m n : ℕ) → Occupied h m → h.right m ≡ n → Sub (tree h n) (tree h m)
  below_right m n o e = subst (λ x. Sub (tree h x) (tree h m)) e (rw (tree_node h S.linked m o) (go_right here))

  -- sizes grow upward along links
  left_smaller : (m n : ℕ) → Occupied h m → Occupied h n → h.left m ≡ n → h.size n < h.size m
  left_smaller m n o o' e = omega (arith, S.linked.sizes m o, ap (size_at h) e, size_at_occupied h S.linked n o')

  right_smaller : (m n : ℕ) → Occupied h m → Occupied h n → h.right m ≡ n → h.size n < h.size m
  right_smaller m n o o' e = omega (arith, S.linked.sizes m o, ap (size_at h) e, size_at_occupied h S.linked n o')

  pub by : (n : ℕ) → Occupied h n → By h n
  unfolding refs
  by n o = from_root (dec_le 1 A)
    where
      A : ℕ
      A = hits h.root n 16

      B : ℕ
      B = hits (λ i. h.left (suc i)) n h.room

      C : ℕ
      C = hits (λ i. h.right (suc i)) n h.room

      some_ref : 1 ≤ A + (B + C)
      some_ref = omega (arith, S.held n o, S.counts n o)

      from_left : ¬ (1 ≤ A) → Dec (1 ≤ B) → By h n
      from_left a (yes b) = let w = hits-find (λ i. h.left (suc i)) n h.room b in by_left (suc w.0) (linker h.left (λ m z. z.left) n w.0 o w.1 w.2) w.2
      from_left a (no b) = let w = hits-find (λ i. h.right (suc i)) n h.room (omega (arith, some_ref)) in by_right (suc w.0) (linker h.right (λ m z. z.right) n w.0 o w.1 w.2) w.2

      from_root : Dec (1 ≤ A) → By h n
      from_root (yes a) = let w = hits-find h.root n 16 a in by_root w.0 w.1 w.2
      from_root (no a) = from_left a (dec_le 1 B)

  size_most : (n : ℕ) → Occupied h n → h.size n ≤ largest h.size h.room
  size_most n o = le_largest h.size h.room n (S.linked.within n o).1

  pub reach : (n : ℕ) → Occupied h n → Reached h n
  unfolding Reached
  reach n o = go (largest h.size h.room) n o (by n o) (omega arith)
    where
      go : (d n : ℕ) → Occupied h n → By h n → largest h.size h.room ≤ h.size n + d → Reached h n
      go zero n o (by_root v lt e) p = (v, lt, subst (λ x. Sub (tree h n) (tree h x)) (sym e) here)
      go (suc d) n o (by_root v lt e) p = (v, lt, subst (λ x. Sub (tree h n) (tree h x)) (sym e) here)
      go zero n o (by_left m om e) p = absurd (omega (arith, left_smaller m n om o e, size_most m om))
      go zero n o (by_right m om e) p = absurd (omega (arith, right_smaller m n om o e, size_most m om))
      go (suc d) n o (by_left m om e) p = let r = go d m om (by m om) (omega (arith, left_smaller m n om o e)) in (r.0, r.1, sub_trans (below_left m n om e) r.2)
      go (suc d) n o (by_right m om e) p = let r = go d m om (by m om) (omega (arith, right_smaller m n om o e)) in (r.0, r.1, sub_trans (below_right m n om e) r.2)

-- Subtrees of a version

pub sub_leaf : {u : Tree} → Sub u leaf → u ≡ leaf
sub_leaf here = refl

pub sub_node : {u : Tree} {i k v : ℕ} {l r : Tree} → Sub u (node i k v l r) → (u ≡ node i k v l r) ⊎ (Sub u l ⊎ Sub u r)
sub_node here = inl refl
sub_node (go_left p) = inr (inl p)
sub_node (go_right p) = inr (inr p)

unfoldable pub Known : Heap → Tree → Type 0
Known h u = (u ≡ tree h (id_of u)) × Named h (id_of u)

named_occupied : (h : Heap) (n : ℕ) → Occupied h n → Named h n
named_occupied h zero o = tt
named_occupied h (suc n) o = o

named_nonzero : (h : Heap) (n : ℕ) → Named h n → 1 ≤ n → Occupied h n
named_nonzero h zero o p = absurd (omega arith)
named_nonzero h (suc n) o p = o

pub sub_known : (h : Heap) → Linked h → (n : ℕ) → Named h n → (u : Tree) → Sub u (tree h n) → Known h u
unfolding Known id_of tree load
sub_known h L = tree_ind h L (λ n t. (u : Tree) → Sub u t → Known h u) base step
  where
    base : (u : Tree) → Sub u leaf → Known h u
    base u p = subst (Known h) (sym (sub_leaf p)) (refl, tt)

    step : (n : ℕ) → Occupied h n → ((u : Tree) → Sub u (tree h (h.left n)) → Known h u) → ((u : Tree) → Sub u (tree h (h.right n)) → Known h u)
        → (u : Tree) → Sub u (node n (h.key n) (h.value n) (tree h (h.left n)) (tree h (h.right n))) → Known h u
    step n o l r u p = ⊎_elim (λ e. subst (Known h) (sym e) (sym (tree_node h L n o), named_occupied h n o)) (⊎_elim (l u) (r u)) (sub_node p)

-- Two sound heaps with the same versions

pub record SameNode (b c : Heap) (n : ℕ) : Type 0 where
  pub key : b.key n ≡ c.key n
  pub value : b.value n ≡ c.value n
  pub left : b.left n ≡ c.left n
  pub right : b.right n ≡ c.right n
  pub size : b.size n ≡ c.size n
  pub sum : b.sum n ≡ c.sum n

module _ (b c : Heap) (B : Kept b) (C : Kept c) (same : (v : ℕ) → v < 16 → version b v ≡ version c v) where
  same_tree : (n : ℕ) → Occupied b n → (tree b n ≡ tree c n) × Occupied c n
  unfolding Reached Known
  same_tree n o =
      let r = reach b B n o in
      let k : Known c (tree b n) = sub_known c C.linked (c.root r.0) (C.linked.roots r.0 r.1) (tree b n) (subst (Sub (tree b n)) (same r.0 r.1) r.2) in
      let i : id_of (tree b n) ≡ n = tree_id b B.linked n (named_occupied b n o) in
      (k.0 ∙ ap (tree c) i, named_nonzero c n (rw i at k.1) (B.linked.within n o).0)

  same_occupied : (n : ℕ) → Occupied b n → SameNode b c n
  same_occupied n o =
      let t = same_tree n o in
      let o' = t.1 in
      let e : node n (b.key n) (b.value n) (tree b (b.left n)) (tree b (b.right n)) ≡ node n (c.key n) (c.value n) (tree c (c.left n)) (tree c (c.right n))
      = sym (tree_node b B.linked n o) ∙ t.0 ∙ tree_node c C.linked n o' in
      let l : tree b (b.left n) ≡ tree c (c.left n) = cc e in
      let r : tree b (b.right n) ≡ tree c (c.right n) = cc e in
      let z : size (tree b n) ≡ size (tree c n) = ap size t.0 in
      let s : total (tree b n) ≡ total (tree c n) = ap total t.0 in
      record {
        key = cc e;
        value = cc e;
        left = sym (tree_id b B.linked (b.left n) (B.linked.lefts n o)) ∙ ap id_of l ∙ tree_id c C.linked (c.left n) (C.linked.lefts n o');
        right = sym (tree_id b B.linked (b.right n) (B.linked.rights n o)) ∙ ap id_of r ∙ tree_id c C.linked (c.right n) (C.linked.rights n o');
        size = omega (arith, z, tree-size b B.linked n (named_occupied b n o), tree-size c C.linked n (named_occupied c n o'), size_at_occupied b B.linked n o, size_at_occupied c C.linked n o');
        sum = omega (arith, s, tree-sum b B.linked n (named_occupied b n o), tree-sum c C.linked n (named_occupied c n o'), sum_at_occupied b B.linked n o, sum_at_occupied c C.linked n o');
      }

  same_root : (v : ℕ) → v < 16 → b.root v ≡ c.root v
  same_root v lt = sym (tree_id b B.linked (b.root v) (B.linked.roots v lt)) ∙ ap id_of (same v lt) ∙ tree_id c C.linked (c.root v) (C.linked.roots v lt)

blank_same : (b c : Heap) (n : ℕ) → Blank b n → Blank c n → SameNode b c n
blank_same b c n x y = record { key = cc; value = cc; left = cc; right = cc; size = cc; sum = cc }

pub record SameHeap (b c : Heap) : Type 0 where
  pub root : (v : ℕ) → v < 16 → b.root v ≡ c.root v
  pub occupied : (n : ℕ) → b.occupied n ≡ c.occupied n
  pub nodes : (n : ℕ) → 1 ≤ n → n ≤ b.room → SameNode b c n
  pub count : (n : ℕ) → 1 ≤ n → n ≤ b.room → b.count n ≡ c.count n

-- UNIQUE: the versions tell everything
pub unique_heap : (b c : Heap) → Kept b → Kept c → b.room ≡ c.room → ((v : ℕ) → v < 16 → version b v ≡ version c v) → SameHeap b c
unfolding refs
unique_heap b c B C N same = record { root = roots; occupied = occ; nodes = nodes; count = counts }
  where
    roots : (v : ℕ) → v < 16 → b.root v ≡ c.root v
    roots = same_root b c B C same

    occ : (n : ℕ) → b.occupied n ≡ c.occupied n
    occ n = go (b.occupied n) (c.occupied n) refl refl
      where
        go : (x y : Bool) → b.occupied n ≡ x → c.occupied n ≡ y → b.occupied n ≡ c.occupied n
        go true y p q = p ∙ sym (same_tree b c B C same n p).1
        go false true p q = (same_tree c b C B (λ v lt. sym (same v lt)) n q).1 ∙ sym q
        go false false p q = p ∙ sym q

    nodes : (n : ℕ) → 1 ≤ n → n ≤ b.room → SameNode b c n
    nodes n p q = go (b.occupied n) refl
      where
        go : (x : Bool) → b.occupied n ≡ x → SameNode b c n
        go true e = same_occupied b c B C same n e
        go false e = blank_same b c n (B.linked.blank n p q e) (C.linked.blank n p (rw (← N) q) (sym (occ n) ∙ e))

    same_refs : (n : ℕ) → refs b n ≡ refs c n
    same_refs n = rw (N, hits_same c.root b.root n 16 roots, hits_same (λ i. c.left (suc i)) (λ i. b.left (suc i)) n c.room (λ i lt. (nodes (suc i) (omega arith) (omega arith)).left), hits_same (λ i. c.right (suc i)) (λ i. b.right (suc i)) n c.room (λ i lt. (nodes (suc i) (omega arith) (omega arith)).right))

    counts : (n : ℕ) → 1 ≤ n → n ≤ b.room → b.count n ≡ c.count n
    counts n p q = go (b.occupied n) refl
      where
        go : (x : Bool) → b.occupied n ≡ x → b.count n ≡ c.count n
        go true e = B.counts n e ∙ same_refs n ∙ sym (C.counts n (sym (occ n) ∙ e))
        go false e = (B.linked.blank n p q e).count ∙ sym (C.linked.blank n p (omega arith) (sym (occ n) ∙ e)).count
