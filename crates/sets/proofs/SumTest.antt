-- The test of the sums is right because each side of a key is looked for where the other tree has that side's keys, and no value is above the sum that is stored over it.
use Rattle.std.proofs.Common.{◌≡◌, ℕ, ◌+◌, ◌<◌, ◌≤◌, Bool, true, false, ◌&&◌, List, sym, refl, ap, ◌∙◌, subst, ap₂, arith}
use Rattle.model.specs.Tree.{node, Entry, entries, find, lookup, Ordered}
use Rattle.model.specs.Rules.{sum_fits, sums_fit}
use Rattle.model.specs.Heap.{sum_at, load, tree}
use Rattle.model.specs.Block.{heap}
use Rattle.model.specs.Sums.{minutes}
use Rattle.model.proofs.rules.Entries.{lookup-entries}
use Rattle.model.proofs.block.Loads.{tree_node, tree-sum}
use Rattle.model.proofs.block.Sums.{total-minutes}
use Rattle.model.proofs.rules.Unions.{NodeFacts, node_facts}
use Rattle.model.proofs.rules.Fits.{fit_none, fit_small, fit_around, fit_below, fit_above}
use Rattle.std.specs.Prelude.{Option}
use Rattle.block.specs.declared.Node.{Node}
use Rattle.answers.specs.Answers.{answer}
use Rattle.tree.specs.Gathered.{Summable}
use Rattle.tree.proofs.Gathers.{AtNode, at_occupied, left_summable, right_summable}
use Rattle.sets.specs.declared.sums.Sides.{Sides}
use Rattle.sets.specs.Narrowed.{Narrowed}

-- the entries below n
abbrev pub below : List ℕ → ℕ → List Entry
below b n = entries (tree (heap b) n)

module _ {b : List ℕ} {n : ℕ} {m : Node} (A : AtNode b n m) where
  read-tree : tree (heap b) n ≡ node n m.key m.value (tree (heap b) m.left) (tree (heap b) m.right)
  read-tree = rw A.is (tree_node (heap b) A.summable.linked n (at_occupied A))

  read_ordered : Ordered (node n m.key m.value (tree (heap b) m.left) (tree (heap b) m.right))
  read_ordered = subst Ordered read-tree A.summable.ordered

  facts : NodeFacts n m.key m.value (tree (heap b) m.left) (tree (heap b) m.right)
  facts = node_facts _ _ _ _ _ read_ordered

  on_left : (k : ℕ) → k < m.key → find (below b m.left) k ≡ find (below b n) k
  on_left k p = facts.low k p ∙ ap (λ t. find (entries t) k) (sym read-tree)

  on_right : (k : ℕ) → m.key < k → find (below b m.right) k ≡ find (below b n) k
  on_right k p = facts.high k p ∙ ap (λ t. find (entries t) k) (sym read-tree)

  -- the three ways that a key lies to the node's
  module _ {key : ℕ} where
    pub key_less : key < m.key → Narrowed b n key (record { low = m.left; high = n })
    key_less p = record { low = left_summable A; high = A.summable; below = λ k q. on_left k (omega arith); above = λ k q. refl }

    pub key_more : m.key < key → Narrowed b n key (record { low = n; high = m.right })
    key_more p = record { low = A.summable; high = right_summable A; below = λ k q. refl; above = λ k q. on_right k (omega arith) }

    pub key_same : m.key ≤ key → key ≤ m.key → Narrowed b n key (record { low = m.left; high = m.right })
    key_same p q = record { low = left_summable A; high = right_summable A; below = λ k lt. on_left k (omega arith); above = λ k lt. on_right k (omega arith) }

-- an empty side, and sums that are small together
pub left_none : (b : List ℕ) (l r : ℕ) → l ≡ 0 → true ≡ sums_fit (below b l) (below b r)
unfolding sums_fit entries tree load
left_none b l r e = rw e refl

pub right_none : (b : List ℕ) (l r : ℕ) → r ≡ 0 → true ≡ sums_fit (below b l) (below b r)
unfolding entries tree load
right_none b l r e = rw e (sym (fit_none (below b l)))

pub both_small : {b : List ℕ} {l r x y : ℕ} → Summable b l → Summable b r → x ≡ sum_at (heap b) l → y ≡ sum_at (heap b) r → x + y ≤ 4294967295
    → true ≡ sums_fit (below b l) (below b r)
both_small {b} {l} {r} L R p q le = sym (fit_small (below b l) (below b r) (omega (arith, held L, held R)))
  where
    held : {n : ℕ} → Summable b n → minutes (below b n) ≡ sum_at (heap b) n
    held {n} S = sym (total-minutes (tree (heap b) n)) ∙ tree-sum (heap b) S.linked n S.named

-- the root of the left tree, and the sides of its key in the right one
module _ {b : List ℕ} {l r : ℕ} {m : Node} {s : Sides} (A : AtNode b l m) (R : Summable b r) (N : Narrowed b r m.key s) where
  abbrev lower : Bool
  lower = sums_fit (below b m.left) (below b s.low)

  abbrev here : Bool
  here = sum_fits m.value (find (below b r) m.key)

  abbrev upper : Bool
  upper = sums_fit (below b m.right) (below b s.high)

  level : (lower && (here && upper)) ≡ sums_fit (below b l) (below b r)
  unfolding Ordered entries
  level =
      let o = read_ordered A in
      let under = fit_below (below b m.left) (below b s.low) (below b r) m.key o.0 N.below in
      let over = fit_above (below b m.right) (below b s.high) (below b r) m.key o.1 N.above in
      ap₂ (λ x y. x && (here && y)) under over ∙ sym (fit_around (below b m.left) m.key m.value (below b m.right) (below b r)) ∙ ap (λ t. sums_fit (entries t) (below b r)) (sym (read-tree A))

  module _ {t : Bool} (e : t ≡ lower) where
    pub low_exceeds : t ≡ false → false ≡ sums_fit (below b l) (below b r)
    low_exceeds p = ap (λ x. x && (here && upper)) (sym p ∙ e) ∙ level

    module _ (p : t ≡ true) (f : Option ℕ) (q : answer f ≡ lookup (tree (heap b) r) m.key) {u : Bool} (g : u ≡ sum_fits m.value (answer f)) where
      at : u ≡ here
      at = g ∙ ap (sum_fits m.value) (q ∙ lookup-entries (tree (heap b) r) m.key R.ordered)

      on : (here && upper) ≡ sums_fit (below b l) (below b r)
      on = ap (λ x. x && (here && upper)) (sym p ∙ e) ∙ level

      pub key_exceeds : u ≡ false → false ≡ sums_fit (below b l) (below b r)
      key_exceeds h = ap (λ x. x && upper) (sym h ∙ at) ∙ on

      pub high_decides : u ≡ true → {w : Bool} → w ≡ upper → w ≡ sums_fit (below b l) (below b r)
      high_decides h z = z ∙ ap (λ x. x && upper) (sym h ∙ at) ∙ on
