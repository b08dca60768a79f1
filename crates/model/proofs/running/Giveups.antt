-- Giving up a reference and emptying a node, as the two functions that call each other do it: what was owed before a call is owed after it, less what the call gave up.
use mathlib.Core.Path.{◌≡◌, refl, ap, sym, subst, ◌∙◌}
use mathlib.Core.Logic.{◌≢◌}
use Prim.Native.Nat.{ℕ, zero, suc, ◌+◌, ◌*◌, ◌≤◌, ◌<◌}
use mathlib.Core.Bool.{true≢false}
use native.Mathlib.Omega.{arith}
use Rattle.model.specs.Tree.{size}
use Rattle.model.specs.Heap.{Heap, Occupied, Named, size_at, load, tree, hit, refs, Linked, Counted}
use Rattle.model.specs.Moves.{Emptied, Lowered, Gave, Owed, Paid, Freed, Unnamed}
use Rattle.model.proofs.block.Loads.{tree-size, size_at_occupied}
use Rattle.model.proofs.block.Counts.{hit_yes, hit_no}
use Rattle.model.proofs.running.Steps.{emptied_linked, emptied_counted, emptied_tree, gone, before, stays_size}
use Rattle.model.proofs.running.Giving.{lowered_linked, lowered_counted, gave_trans, gave_lowered, lowered_trees, named_before}

-- Emptying

-- node n was emptied from h to k; l and r are its children, as code holds them
pub record Emptying (h k : Heap) (n l r : ℕ) : Type 0 where
  pub linked : Linked h
  pub unnamed : Unnamed h n
  pub emptied : Emptied h k n
  pub left : l ≡ h.left n
  pub right : r ≡ h.right n

module _ {h k : Heap} {n l r : ℕ} (E : Emptying h k n l r) where
  pub was : Occupied h n
  was = E.unnamed.was

  pub none : refs h n ≡ 0
  none = omega (arith, E.unnamed.counts n was, E.unnamed.zero)

  sizes : h.size n ≡ suc (size_at h l + size_at h r)
  sizes = rw (E.left, E.right) (E.linked.sizes n was)

  -- a child is not the node itself
  smaller : (x : ℕ) → size_at h x < h.size n → x ≢ n
  smaller x lt e = absurd (omega (arith, ap (size_at h) e, size_at_occupied h E.linked n was))

  gave_empty : Gave h k
  unfolding tree load
  gave_empty = record {
    linked = emptied_linked E.emptied E.linked none;
    room = E.emptied.except.room;
    root = E.emptied.except.root;
    fewer = before E.emptied E.linked none;
    trees = trees;
    positive = λ m o p. rw (E.emptied.counts m (other m o)) p;
  }
    where
      other : (m : ℕ) → Occupied k m → m ≢ n
      other = gone E.emptied E.linked none

      trees : (m : ℕ) → Named k m → tree k m ≡ tree h m
      trees zero o = refl
      trees (suc m) o = emptied_tree E.emptied E.linked none (suc m) (other (suc m) o) (before E.emptied E.linked none (suc m) o)

  -- the references to the two children are left over
  pub leaves : (extra : ℕ → ℕ) → Counted h extra → Counted k (λ x. extra x + hit r x + hit l x)
  leaves extra c m o = rw (E.left, E.right) (omega (arith, emptied_counted E.emptied E.linked none extra c m o))

  pub child : (x : ℕ) → Named h x → x ≢ n → Named k x
  child zero o ne = tt
  child (suc x) o ne = E.emptied.except.occupied (suc x) ne ∙ o

  same_size : (x : ℕ) → x ≢ n → size_at k x ≡ size_at h x
  same_size = stays_size E.emptied E.linked none

  pub left_other : l ≢ n
  left_other = smaller l (omega (arith, sizes))

  pub right_other : r ≢ n
  right_other = smaller r (omega (arith, sizes))

  -- what giving up the left child asks, the falling number first
  pub left_asks : (2 * size_at k l + 1 < 2 * h.size n) × Linked k × Owed k l
  left_asks = (
    omega (arith, same_size l left_other, sizes),
    gave_empty.linked,
    record { named = child l (rw E.left (E.linked.lefts n was)) left_other; extra = λ x. E.unnamed.extra x + hit r x; counts = leaves E.unnamed.extra E.unnamed.counts },
  )

  module _ {k2 : Heap} (P : Paid k k2 l) where
    right_named : (x : ℕ) → x ≡ r → Named k x → Named k2 x
    right_named zero e o = tt
    right_named (suc x) e o = P.stays (λ y. E.unnamed.extra y + hit r y) (leaves E.unnamed.extra E.unnamed.counts) (suc x) o (omega (arith, hit_yes r (suc x) (sym e)))

    named : Named k2 r
    named = right_named r refl (child r (rw E.right (E.linked.rights n was)) right_other)

    -- and the right child
    pub right_asks : (2 * size_at k2 r + 1 < 2 * h.size n) × Linked k2 × Owed k2 r
    right_asks =
        let after = tree-size k2 P.gave.linked r named in
        let at = tree-size k gave_empty.linked r (named_before P.gave r named) in
        let same = ap size (P.gave.trees r named) in (
          omega (arith, same_size r right_other, sizes),
          P.gave.linked,
          record { named = named; extra = E.unnamed.extra; counts = P.counts (λ x. E.unnamed.extra x + hit r x) (leaves E.unnamed.extra E.unnamed.counts) },
        )

    pub freed : {k3 : Heap} → Paid k2 k3 r → Freed h k3 n
    freed {k3} R = record {
      free = λ o. true≢false (sym (P.gave.fewer n (R.gave.fewer n o)) ∙ E.emptied.free);
      gave = gave_trans (gave_trans gave_empty P.gave) R.gave;
      counts = λ extra c. R.counts extra (left_given extra c);
      stays = λ extra c x o p. R.stays extra (left_given extra c) x (P.stays (λ y. extra y + hit r y) (leaves extra c) x (E.emptied.except.occupied x (other extra c x p) ∙ o) (omega arith)) p;
    }
      where
        left_given : (extra : ℕ → ℕ) → Counted h extra → Counted k2 (λ x. extra x + hit r x)
        left_given extra c = P.counts (λ x. extra x + hit r x) (leaves extra c)

        other : (extra : ℕ → ℕ) → Counted h extra → (x : ℕ) → 1 ≤ extra x → x ≢ n
        other extra c x p e = absurd (omega (arith, c n was, ap extra e, E.unnamed.zero))

-- Giving up

-- a link of 0 owes nothing
pub paid_zero : {h : Heap} → Linked h → Paid h h 0
paid_zero L = record {
  gave = record { linked = L; room = refl; root = λ v lt. refl; fewer = λ m o. o; trees = λ m o. refl; positive = λ m o p. p };
  counts = λ extra c m o. omega (arith, c m o, hit_no 0 m (λ e. absurd (omega (arith, L.within m o))));
  stays = λ extra c x o p. o;
}

-- an owed node is occupied, and its count can be lowered
pub owed_occupied : {h : Heap} (n : ℕ) → Owed h n → n ≢ 0 → Occupied h n × (1 ≤ h.count n)
owed_occupied zero O p = absurd (p refl)
owed_occupied (suc n) O p = (O.named, omega (arith, O.counts (suc n) O.named, hit_yes (suc n) (suc n) refl))

-- one reference to n was owed in h, and its count was lowered to c in g
pub record Lowering (h g : Heap) (n c : ℕ) : Type 0 where
  pub linked : Linked h
  pub owed : Owed h n
  pub lowered : Lowered h g n
  pub count : c ≡ g.count n

module _ {h g : Heap} {n c : ℕ} (W : Lowering h g n c) where
  -- it was the last reference: what emptying asks, the falling number first
  pub empty_asks : c ≡ 0 → (2 * g.size n < 2 * size_at h n + 1) × Linked g × Unnamed g n
  empty_asks z = (
    omega (arith, W.lowered.same.size n, size_at_occupied h W.linked n W.lowered.was),
    lowered_linked W.lowered W.linked,
    record { was = W.lowered.same.occupied n ∙ W.lowered.was; zero = sym W.count ∙ z; extra = W.owed.extra; counts = lowered_counted W.lowered W.linked W.owed.extra W.owed.counts },
  )

  pub paid_last : {k : Heap} → Freed g k n → Paid h k n
  paid_last {k} F = record {
    gave = record {
      linked = F.gave.linked;
      room = F.gave.room ∙ W.lowered.same.room;
      root = λ v lt. F.gave.root v lt ∙ W.lowered.root v lt;
      fewer = λ m o. sym (W.lowered.same.occupied m) ∙ F.gave.fewer m o;
      trees = λ m o. F.gave.trees m o ∙ lowered_trees W.lowered W.linked m (old m (named_before F.gave m o));
      positive = λ m o p. F.gave.positive m o (rw (W.lowered.others m (λ e. F.free (subst (Occupied k) e o))) p);
    };
    counts = λ extra c. F.counts extra (lowered_counted W.lowered W.linked extra c);
    stays = λ extra c x o q. F.stays extra (lowered_counted W.lowered W.linked extra c) x (W.lowered.same.occupied x ∙ o) q;
  }
    where
      old : (m : ℕ) → Named g m → Named h m
      old zero o = tt
      old (suc m) o = sym (W.lowered.same.occupied (suc m)) ∙ o

  -- other references are left
  pub paid_lowered : c ≢ 0 → Paid h g n
  paid_lowered ne = record {
    gave = gave_lowered W.linked W.lowered (omega (arith, W.count));
    counts = λ extra c. lowered_counted W.lowered W.linked extra c;
    stays = λ extra c x o q. W.lowered.same.occupied x ∙ o;
  }
