-- Nodes beyond the last occupied one add nothing to a heap.
use mathlib.Core.Path.{◌≡◌, refl, sym, ap, subst, ◌∙◌}
use Prim.Native.Nat.{ℕ, zero, suc, ◌≤◌, ◌<◌}
use mathlib.Core.Bool.{false, true≢false}
use native.Mathlib.Omega.{arith}
use native.Mathlib.Decide.{ℕ_discrete, dec_le}
use Rattle.model.specs.Tree.{Ordered}
use Rattle.model.specs.Heap.{Heap, Occupied, Named, size_at, sum_at, load, tree, hits, refs, Blank, Linked, Sound}
use Rattle.model.proofs.block.Counts.{hit_no}
use Rattle.audit.specs.Whole.{up_to}

-- a tail of zeros hits nothing
hits_tail : (f : ℕ → ℕ) (y n k : ℕ) → 1 ≤ y → n ≤ k → ((i : ℕ) → n ≤ i → f i ≡ 0) → hits f y k ≡ hits f y n
unfolding hits
hits_tail f y n zero p le z = let e : n ≡ 0 = omega arith in rw e
hits_tail f y n (suc k) p le z = go (ℕ_discrete n (suc k)) (λ l. hits_tail f y n k p l z)
  where
    go : Dec (n ≡ suc k) → (n ≤ k → hits f y k ≡ hits f y n) → hits f y (suc k) ≡ hits f y n
    go (yes e) ih = ap (hits f y) (sym e)
    go (no e) ih = omega (arith, ih (omega arith), hit_no (f k) y (λ q. absurd (omega (arith, z k (omega arith), q))))

module _ (h : Heap) (n : ℕ) where
  load_upto : (f i : ℕ) → load (up_to h n) f i ≡ load h f i
  unfolding load
  load_upto zero i = refl
  load_upto (suc f) zero = refl
  load_upto (suc f) (suc i) = rw (load_upto f (h.left (suc i)), load_upto f (h.right (suc i)))

  tree_upto : (i : ℕ) → tree (up_to h n) i ≡ tree h i
  unfolding tree
  tree_upto zero = load_upto 0 0
  tree_upto (suc i) = load_upto (h.size (suc i)) (suc i)

  named_upto : (i : ℕ) → Named h i ≡ Named (up_to h n) i
  named_upto zero = refl
  named_upto (suc i) = refl

  size_upto : (i : ℕ) → size_at h i ≡ size_at (up_to h n) i
  size_upto zero = refl
  size_upto (suc i) = refl

  sum_upto : (i : ℕ) → sum_at h i ≡ sum_at (up_to h n) i
  sum_upto zero = refl
  sum_upto (suc i) = refl

  module _ (le : n ≤ h.room) (free : (i : ℕ) → n < i → h.occupied i ≡ false) (blank : (i : ℕ) → n < i → Blank h i) where
    refs_upto : (y : ℕ) → 1 ≤ y → refs h y ≡ refs (up_to h n) y
    unfolding refs
    refs_upto y p = omega (
      arith,
      hits_tail (λ i. h.left (suc i)) y n h.room p le (λ i l. (blank (suc i) (omega arith)).left),
      hits_tail (λ i. h.right (suc i)) y n h.room p le (λ i l. (blank (suc i) (omega arith)).right),
    )

    below : (i : ℕ) → Occupied h i → i ≤ n
    below i o = go (dec_le i n)
      where
        go : Dec (i ≤ n) → i ≤ n
        go (yes p) = p
        go (no p) = absurd (true≢false (sym o ∙ free i (omega arith)))

    blanks : {i : ℕ} → Blank h i → Blank (up_to h n) i
    blanks Z = record { key = Z.key; value = Z.value; left = Z.left; right = Z.right; size = Z.size; count = Z.count; sum = Z.sum }

    blanks_back : {i : ℕ} → Blank (up_to h n) i → Blank h i
    blanks_back Z = record { key = Z.key; value = Z.value; left = Z.left; right = Z.right; size = Z.size; count = Z.count; sum = Z.sum }

    pub trimmed : Sound h → Sound (up_to h n)
    trimmed S = record {
      kept = record {
        linked = record {
          within = λ i o. ((L.within i o).0, below i o);
          roots = λ v lt. rw (← named_upto (h.root v)) (L.roots v lt);
          lefts = λ i o. rw (← named_upto (h.left i)) (L.lefts i o);
          rights = λ i o. rw (← named_upto (h.right i)) (L.rights i o);
          sizes = λ i o. omega (arith, L.sizes i o, size_upto (h.left i), size_upto (h.right i));
          sums = λ i o. omega (arith, L.sums i o, sum_upto (h.left i), sum_upto (h.right i));
          blank = λ i p q z. blanks (L.blank i p (omega arith) z);
        };
        counts = λ i o. S.kept.counts i o ∙ refs_upto i (L.within i o).0;
        held = S.kept.held;
      };
      ordered = λ i o. subst Ordered (sym (tree_upto i)) (S.ordered i o);
    }
      where
        L : Linked h
        L = S.kept.linked

    pub untrimmed : Sound (up_to h n) → Sound h
    untrimmed S = record {
      kept = record {
        linked = record {
          within = λ i o. let w = L.within i o in (w.0, omega (arith, w.1));
          roots = λ v lt. rw (named_upto (h.root v)) (L.roots v lt);
          lefts = λ i o. rw (named_upto (h.left i)) (L.lefts i o);
          rights = λ i o. rw (named_upto (h.right i)) (L.rights i o);
          sizes = λ i o. omega (arith, L.sizes i o, size_upto (h.left i), size_upto (h.right i));
          sums = λ i o. omega (arith, L.sums i o, sum_upto (h.left i), sum_upto (h.right i));
          blank = λ i p q z. all_blank i p z (dec_le i n);
        };
        counts = λ i o. S.kept.counts i o ∙ sym (refs_upto i (L.within i o).0);
        held = S.kept.held;
      };
      ordered = λ i o. subst Ordered (tree_upto i) (S.ordered i o);
    }
      where
        L : Linked (up_to h n)
        L = S.kept.linked

        all_blank : (i : ℕ) → 1 ≤ i → h.occupied i ≡ false → Dec (i ≤ n) → Blank h i
        all_blank i p z (yes q) = blanks_back (L.blank i p q z)
        all_blank i p z (no q) = blank i (omega arith)
