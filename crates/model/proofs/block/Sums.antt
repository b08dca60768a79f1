-- Sums of values: what a stored sum can be at most, and the sum over part of a tree's entries, gathered on the way down.
use mathlib.Core.Path.{◌≡◌, refl, ap, sym, ◌∙◌}
use mathlib.Core.Logic.{◌≢◌}
use Prim.Native.Nat.{ℕ, zero, suc, ◌+◌, ◌*◌, ◌/◌, ◌≤◌, ◌<◌}
use mathlib.Core.Bool.{Bool, true, false, ◌&&◌}
use mathlib.Core.List.{List, [], ◌∷◌, ◌++◌}
use lib.Dec.{leb}
use borrow.Author.Tests.{le-leb, lt-leb}
use native.Mathlib.Omega.{arith}
use native.Mathlib.Decide.{dec_lt}
use Rattle.model.specs.Tree.{Tree, leaf, node, Entry, entries, AllBelow, AllAbove, Ordered, total}
use Rattle.model.specs.Sums.{minutes, those, from, upto, within, sum_below}
use Rattle.model.specs.Heap.{Heap, Occupied, Named, size_at, sum_at, load, tree, Linked}
use Rattle.model.specs.Block.{room, width, node_word, heap, Words}
use Rattle.model.proofs.block.Loads.{tree_node, tree_ind, tree-sum, size_at_occupied, sum_at_occupied}
use Rattle.model.proofs.block.Lookups.{link_occupied}

-- values are words, so a sum is at most the size times the largest word
pub sum_most : (h : Heap) → Linked h → ((n : ℕ) → h.value n < 4294967296) → (n : ℕ) → Named h n → sum_at h n ≤ 4294967295 * size_at h n
sum_most h L w = tree_ind h L (λ n t. sum_at h n ≤ 4294967295 * size_at h n) (omega arith) (λ n o l r. omega (arith, w n, l, r, L.sums n o, L.sizes n o, sum_at_occupied h L n o, size_at_occupied h L n o))

pub node_small : (b : List ℕ) → Words b → (j n : ℕ) → node_word b j n < 4294967296
node_small b W j zero = omega arith
node_small b W j (suc n) = omega (arith, W (17 + room b / 32 + width * n + j))

pub block_sum : (b : List ℕ) → Words b → Linked (heap b) → (n : ℕ) → Named (heap b) n → sum_at (heap b) n ≤ 4294967295 * size_at (heap b) n
block_sum b W L = sum_most (heap b) L (node_small b W 1)

-- Sums of entries

-- the sum over the entries whose keys pass
abbrev pub summed : (ℕ → Bool) → List Entry → ℕ
summed p es = minutes (those p es)

pub minutes_mid : (xs ys : List Entry) (k v : ℕ) → minutes (xs ++ (k, v) ∷ ys) ≡ v + (minutes xs + minutes ys)
unfolding minutes
minutes_mid [] ys k v = omega arith
minutes_mid (x ∷ xs) ys k v = omega (arith, minutes_mid xs ys k v)

-- one entry more
those-take : (p : ℕ → Bool) (e : Entry) (es : List Entry) → p e.0 ≡ true → those p (e ∷ es) ≡ e ∷ those p es
unfolding those
those-take p e es t = rw (t, those) refl

those_skip : (p : ℕ → Bool) (e : Entry) (es : List Entry) → p e.0 ≡ false → those p (e ∷ es) ≡ those p es
unfolding those
those_skip p e es t = rw (t, those) refl

sum_more : (p : ℕ → Bool) (e : Entry) (es : List Entry) → p e.0 ≡ true → summed p (e ∷ es) ≡ e.1 + summed p es
unfolding minutes
sum_more p e es t = ap minutes (those-take p e es t)

sum_past : (p : ℕ → Bool) (e : Entry) (es : List Entry) → p e.0 ≡ false → summed p (e ∷ es) ≡ summed p es
sum_past p e es t = ap minutes (those_skip p e es t)

sum_in : (p : ℕ → Bool) (xs ys : List Entry) (k v : ℕ) → p k ≡ true → summed p (xs ++ (k, v) ∷ ys) ≡ v + (summed p xs + summed p ys)
unfolding minutes those
sum_in p [] ys k v t = omega (arith, sum_more p (k, v) ys t)
sum_in p (x ∷ xs) ys k v t = go (p x.0) refl (sum_in p xs ys k v t)
  where
    go : (s : Bool) → p x.0 ≡ s → summed p (xs ++ (k, v) ∷ ys) ≡ v + (summed p xs + summed p ys)
        → summed p (x ∷ (xs ++ (k, v) ∷ ys)) ≡ v + (summed p (x ∷ xs) + summed p ys)
    go true e ih = omega (arith, sum_more p x (xs ++ (k, v) ∷ ys) e, sum_more p x xs e)
    go false e ih = omega (arith, sum_past p x (xs ++ (k, v) ∷ ys) e, sum_past p x xs e)

sum_out : (p : ℕ → Bool) (xs ys : List Entry) (k v : ℕ) → p k ≡ false → summed p (xs ++ (k, v) ∷ ys) ≡ summed p xs + summed p ys
unfolding minutes those
sum_out p [] ys k v t = omega (arith, sum_past p (k, v) ys t)
sum_out p (x ∷ xs) ys k v t = go (p x.0) refl (sum_out p xs ys k v t)
  where
    go : (s : Bool) → p x.0 ≡ s → summed p (xs ++ (k, v) ∷ ys) ≡ summed p xs + summed p ys
        → summed p (x ∷ (xs ++ (k, v) ∷ ys)) ≡ summed p (x ∷ xs) + summed p ys
    go true e ih = omega (arith, sum_more p x (xs ++ (k, v) ∷ ys) e, sum_more p x xs e)
    go false e ih = omega (arith, sum_past p x (xs ++ (k, v) ∷ ys) e, sum_past p x xs e)

-- tests that agree below k, or above it
those_below : (p q : ℕ → Bool) (k : ℕ) (xs : List Entry) → AllBelow k xs → ((x : ℕ) → x < k → p x ≡ q x) → those p xs ≡ those q xs
unfolding those AllBelow
those_below p q k [] a f = refl
those_below p q k (x ∷ xs) a f = go (q x.0) refl (those_below p q k xs a.1 f)
  where
    go : (t : Bool) → q x.0 ≡ t → those p xs ≡ those q xs → those p (x ∷ xs) ≡ those q (x ∷ xs)
    go true e ih = those-take p x xs (f x.0 a.0 ∙ e) ∙ ap (λ l. x ∷ l) ih ∙ sym (those-take q x xs e)
    go false e ih = those_skip p x xs (f x.0 a.0 ∙ e) ∙ ih ∙ sym (those_skip q x xs e)

those_above : (p q : ℕ → Bool) (k : ℕ) (xs : List Entry) → AllAbove k xs → ((x : ℕ) → k < x → p x ≡ q x) → those p xs ≡ those q xs
unfolding those AllAbove
those_above p q k [] a f = refl
those_above p q k (x ∷ xs) a f = go (q x.0) refl (those_above p q k xs a.1 f)
  where
    go : (t : Bool) → q x.0 ≡ t → those p xs ≡ those q xs → those p (x ∷ xs) ≡ those q (x ∷ xs)
    go true e ih = those-take p x xs (f x.0 a.0 ∙ e) ∙ ap (λ l. x ∷ l) ih ∙ sym (those-take q x xs e)
    go false e ih = those_skip p x xs (f x.0 a.0 ∙ e) ∙ ih ∙ sym (those_skip q x xs e)

those-all : (xs : List Entry) → those (λ x. true) xs ≡ xs
unfolding those
those-all [] = refl
those-all (x ∷ xs) = ap (λ l. x ∷ l) (those-all xs)

those_none : (xs : List Entry) → those (λ x. false) xs ≡ []
unfolding those
those_none [] = refl
those_none (x ∷ xs) = those_none xs

-- the tree's total is that of its entries
pub total-minutes : (t : Tree) → total t ≡ minutes (entries t)
unfolding total minutes entries
total-minutes leaf = refl
total-minutes (node i k v l r) = omega (arith, minutes_mid (entries l) (entries r) k v, total-minutes l, total-minutes r)

-- One level: a key that passes brings its value, and a side that lies wholly on one side of the test is all or nothing

module _ (p : ℕ → Bool) (xs ys : List Entry) (k v : ℕ) where
  all_above : p k ≡ true → AllAbove k ys → ((x : ℕ) → k < x → p x ≡ true) → summed p (xs ++ (k, v) ∷ ys) ≡ v + (summed p xs + minutes ys)
  all_above t a f = sum_in p xs ys k v t ∙ rw (those_above p (λ x. true) k ys a f, those-all ys) refl

  all_below : p k ≡ true → AllBelow k xs → ((x : ℕ) → x < k → p x ≡ true) → summed p (xs ++ (k, v) ∷ ys) ≡ v + (minutes xs + summed p ys)
  all_below t a f = sum_in p xs ys k v t ∙ rw (those_below p (λ x. true) k xs a f, those-all xs) refl

  none_above : p k ≡ false → AllAbove k ys → ((x : ℕ) → k < x → p x ≡ false) → summed p (xs ++ (k, v) ∷ ys) ≡ summed p xs
  unfolding minutes
  none_above t a f = sum_out p xs ys k v t ∙ rw (those_above p (λ x. false) k ys a f, those_none ys) (omega arith)

  none_below : p k ≡ false → AllBelow k xs → ((x : ℕ) → x < k → p x ≡ false) → summed p (xs ++ (k, v) ∷ ys) ≡ summed p ys
  unfolding minutes
  none_below t a f = sum_out p xs ys k v t ∙ rw (those_below p (λ x. false) k xs a f, those_none xs) (omega arith)

-- the three tests

within_low : (first last k : ℕ) → k < first → within first last k ≡ false
within_low first last k l = rw (lt-leb first k l) refl

within_high : (first last k : ℕ) → last < k → within first last k ≡ false
within_high first last k l = rw (lt-leb k last l) (go (leb first k))
  where
    go : (t : Bool) → (t && false) ≡ false
    go true = refl
    go false = refl

within_in : (first last k : ℕ) → first ≤ k → k ≤ last → within first last k ≡ true
within_in first last k p q = rw (le-leb first k p, le-leb k last q) refl

within-from : (first last k : ℕ) → k ≤ last → within first last k ≡ from first k
within-from first last k q = rw (le-leb k last q) (go (leb first k))
  where
    go : (t : Bool) → (t && true) ≡ t
    go true = refl
    go false = refl

within-upto : (first last k : ℕ) → first ≤ k → within first last k ≡ upto last k
within-upto first last k p = rw (le-leb first k p) refl

-- no key is from first to last if first is above last
pub turned_none : (first last : ℕ) → last < first → (es : List Entry) → minutes (those (within first last) es) ≡ 0
unfolding minutes those
turned_none first last lt [] = refl
turned_none first last lt (e ∷ es) = go (dec_lt e.0 first) (turned_none first last lt es)
  where
    go : Dec (e.0 < first) → summed (within first last) es ≡ 0 → summed (within first last) (e ∷ es) ≡ 0
    go (yes p) ih = sum_past (within first last) e es (within_low first last e.0 p) ∙ ih
    go (no p) ih = sum_past (within first last) e es (within_high first last e.0 (omega arith)) ∙ ih

-- and every key is, if it is not above last and first is 0
pub whole_all : (last : ℕ) (es : List Entry) → AllBelow (suc last) es → minutes (those (within 0 last) es) ≡ minutes es
whole_all last es a = ap minutes (those_below (within 0 last) (λ x. true) (suc last) es a (λ x l. within_in 0 last x (omega arith) (omega arith)) ∙ those-all es)

-- Nodes of a heap

module _ (h : Heap) (L : Linked h) where
  pub sum_none : (p : ℕ → Bool) (n : ℕ) → n ≡ 0 → sum_below h p n ≡ 0
  unfolding minutes those entries tree load
  sum_none p zero e = refl
  sum_none p (suc n) e = absurd (omega arith)

  module _ (n : ℕ) (o : Occupied h n) (q : Ordered (tree h n)) where
    entries_node : entries (tree h n) ≡ entries (tree h (h.left n)) ++ (h.key n, h.value n) ∷ entries (tree h (h.right n))
    unfolding entries
    entries_node = rw (tree_node h L n o) refl

    parts : AllBelow (h.key n) (entries (tree h (h.left n))) × AllAbove (h.key n) (entries (tree h (h.right n))) × Ordered (tree h (h.left n)) × Ordered (tree h (h.right n))
    unfolding Ordered
    parts = rw (tree_node h L n o) at q

    pub left_ordered : Ordered (tree h (h.left n))
    left_ordered = parts.2

    pub right_ordered : Ordered (tree h (h.right n))
    right_ordered = parts.3

    left_total : minutes (entries (tree h (h.left n))) ≡ sum_at h (h.left n)
    left_total = sym (total-minutes (tree h (h.left n))) ∙ tree-sum h L (h.left n) (L.lefts n o)

    right_total : minutes (entries (tree h (h.right n))) ≡ sum_at h (h.right n)
    right_total = sym (total-minutes (tree h (h.right n))) ∙ tree-sum h L (h.right n) (L.rights n o)

    pub from_takes : (first : ℕ) → first ≤ h.key n → sum_below h (from first) n ≡ h.value n + (sum_below h (from first) (h.left n) + sum_at h (h.right n))
    from_takes first le = rw entries_node (all_above (from first) (entries (tree h (h.left n))) (entries (tree h (h.right n))) (h.key n) (h.value n) (le-leb first (h.key n) le) parts.1 (λ x l. le-leb first x (omega arith)) ∙ rw right_total refl)

    pub from_passes : (first : ℕ) → h.key n < first → sum_below h (from first) n ≡ sum_below h (from first) (h.right n)
    from_passes first lt = rw entries_node (none_below (from first) (entries (tree h (h.left n))) (entries (tree h (h.right n))) (h.key n) (h.value n) (lt-leb first (h.key n) lt) parts.0 (λ x l. lt-leb first x (omega arith)))

    pub upto_takes : (last : ℕ) → h.key n ≤ last → sum_below h (upto last) n ≡ h.value n + (sum_at h (h.left n) + sum_below h (upto last) (h.right n))
    upto_takes last le = rw entries_node (all_below (upto last) (entries (tree h (h.left n))) (entries (tree h (h.right n))) (h.key n) (h.value n) (le-leb (h.key n) last le) parts.0 (λ x l. le-leb x last (omega arith)) ∙ rw left_total refl)

    pub upto_passes : (last : ℕ) → last < h.key n → sum_below h (upto last) n ≡ sum_below h (upto last) (h.left n)
    upto_passes last lt = rw entries_node (none_above (upto last) (entries (tree h (h.left n))) (entries (tree h (h.right n))) (h.key n) (h.value n) (lt-leb (h.key n) last lt) parts.1 (λ x l. lt-leb x last (omega arith)))

    pub within_right : (first last : ℕ) → h.key n < first → sum_below h (within first last) n ≡ sum_below h (within first last) (h.right n)
    within_right first last lt = rw entries_node (none_below (within first last) (entries (tree h (h.left n))) (entries (tree h (h.right n))) (h.key n) (h.value n) (within_low first last (h.key n) lt) parts.0 (λ x l. within_low first last x (omega arith)))

    pub within_left : (first last : ℕ) → last < h.key n → sum_below h (within first last) n ≡ sum_below h (within first last) (h.left n)
    within_left first last lt = rw entries_node (none_above (within first last) (entries (tree h (h.left n))) (entries (tree h (h.right n))) (h.key n) (h.value n) (within_high first last (h.key n) lt) parts.1 (λ x l. within_high first last x (omega arith)))

    -- at the top node of those between, the left side is bounded below alone and the right side above alone
    pub within_parts : (first last : ℕ) → first ≤ h.key n → h.key n ≤ last
        → sum_below h (within first last) n ≡ h.value n + (sum_below h (from first) (h.left n) + sum_below h (upto last) (h.right n))
    within_parts first last p r = rw entries_node
        (sum_in (within first last) (entries (tree h (h.left n))) (entries (tree h (h.right n))) (h.key n) (h.value n) (within_in first last (h.key n) p r)
        ∙ rw (those_below (within first last) (from first) (h.key n) (entries (tree h (h.left n))) parts.0 (λ x l. within-from first last x (omega arith)), those_above (within first last) (upto last) (h.key n) (entries (tree h (h.right n))) parts.1 (λ x l. within-upto first last x (omega arith))) refl)
