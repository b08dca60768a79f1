-- The audit's parts make up soundness: the block's heap is its area's, with the block's roots.
use mathlib.Core.Path.{◌≡◌, refl, ap, sym, subst, ◌∙◌}
use Prim.Native.Nat.{ℕ, zero, suc, ◌+◌, ◌*◌, ◌/◌, ◌≤◌, ◌<◌}
use mathlib.Core.Bool.{Bool, true, false, true≢false}
use mathlib.Core.List.{List}
use lib.ListN.{length, get_or}
use borrow.Author.Tests.{eq-eqb, ne_eqb}
use native.Mathlib.Omega.{arith}
use native.Mathlib.Decide.{ℕ_discrete, dec_lt}
use Rattle.model.specs.Tree.{Ordered}
use Rattle.model.specs.Heap.{Heap, Occupied, Named, size_at, sum_at, load, tree, refs, Linked, Kept, Sound}
use Rattle.model.specs.Block.{word, width, two_words, occupied_at, heap}
use Rattle.model.proofs.running.Steps.{refs_unoccupied}
use Rattle.model.specs.Tells.{Each}
use Rattle.area.specs.Area.{area_word, area, AreaOk}
use Rattle.area.proofs.Area.{get_d_past, within-area}
use Rattle.audit.specs.Whole.{up_to, Cut}

-- the area with the block's roots
abbrev with_roots : List ℕ → (ℕ → ℕ) → Heap
with_roots a R = record {
  room = length a / width;
  root = R;
  occupied = (area a).occupied;
  key = area_word a 0;
  value = area_word a 1;
  left = area_word a 2;
  right = area_word a 3;
  size = area_word a 4;
  count = area_word a 5;
  sum = (area a).sum;
}

module _ (a : List ℕ) (R : ℕ → ℕ) where
  load_roots : (f n : ℕ) → load (with_roots a R) f n ≡ load (area a) f n
  unfolding load
  load_roots zero n = refl
  load_roots (suc f) zero = refl
  load_roots (suc f) (suc n) = rw (load_roots f (area_word a 2 (suc n)), load_roots f (area_word a 3 (suc n)))

  tree_roots : (n : ℕ) → tree (with_roots a R) n ≡ tree (area a) n
  unfolding tree
  tree_roots zero = load_roots 0 0
  tree_roots (suc n) = load_roots (area_word a 4 (suc n)) (suc n)

  named_roots : (n : ℕ) → Named (area a) n ≡ Named (with_roots a R) n
  named_roots zero = refl
  named_roots (suc n) = refl

  size_roots : (n : ℕ) → size_at (area a) n ≡ size_at (with_roots a R) n
  size_roots zero = refl
  size_roots (suc n) = refl

  sum_roots : (n : ℕ) → sum_at (area a) n ≡ sum_at (with_roots a R) n
  sum_roots zero = refl
  sum_roots (suc n) = refl

-- what the audit finds
pub record Parts (b a : List ℕ) (m : ℕ) : Type 0 where
  pub area_ok : AreaOk (area a)
  pub marks : Each 0 m (λ n. occupied_at b n ≡ (area a).occupied n)
  pub roots : (v : ℕ) → v < 16 → Named (area a) (word b (1 + v))
  pub counts : Each 0 m (λ n. area_word a 5 n ≡ refs (up_to (heap b) m) n)

module _ (b a : List ℕ) (m : ℕ) (C : Cut b a m) where
  room_is : m ≡ length a / width
  room_is = omega (arith, C.long)

  abbrev roots : ℕ → ℕ
  roots = λ v. word b (1 + v)

  module _ (marks : Each 0 m (λ n. occupied_at b n ≡ (area a).occupied n)) where
    occupied_is : (n : ℕ) → occupied_at b n ≡ (area a).occupied n
    occupied_is zero = refl
    occupied_is (suc n) = go (dec_lt n m)
      where
        go : Dec (n < m) → occupied_at b (suc n) ≡ (area a).occupied (suc n)
        go (yes p) = marks (suc n) (omega arith) (omega arith)
        go (no p) = C.free (suc n) (omega arith) ∙ sym (rw (eq-eqb (get_or a (width * n + 5) 0) 0 (get_d_past a (width * n + 5) (omega (arith, C.long)))))

    heap_is : up_to (heap b) m ≡ with_roots a roots
    heap_is = λ i. record {
      room = room_is i;
      root = roots;
      occupied = λ n. occupied_is n i;
      key = λ n. C.words 0 n i;
      value = λ n. C.words 1 n i;
      left = λ n. C.words 2 n i;
      right = λ n. C.words 3 n i;
      size = λ n. C.words 4 n i;
      count = λ n. C.words 5 n i;
      sum = λ n. two_words (C.words 6 n i) (C.words 7 n i);
    }

    refs_is : (n : ℕ) → refs (up_to (heap b) m) n ≡ refs (with_roots a roots) n
    refs_is n = ap (λ h. refs h n) heap_is

  pub parts_sound : Parts b a m → Sound (up_to (heap b) m)
  parts_sound P = subst Sound (sym (heap_is P.marks)) sound
    where
      L : Linked (area a)
      L = P.area_ok.linked

      linked : Linked (with_roots a roots)
      linked = record {
        within = L.within;
        roots = λ v lt. rw (← named_roots a roots (roots v)) (P.roots v lt);
        lefts = λ n o. rw (← named_roots a roots (area_word a 2 n)) (L.lefts n o);
        rights = λ n o. rw (← named_roots a roots (area_word a 3 n)) (L.rights n o);
        sizes = λ n o. omega (arith, L.sizes n o, size_roots a roots (area_word a 2 n), size_roots a roots (area_word a 3 n));
        sums = λ n o. omega (arith, L.sums n o, sum_roots a roots (area_word a 2 n), sum_roots a roots (area_word a 3 n));
        blank = λ n p q z. let Z = L.blank n p q z in record { key = Z.key; value = Z.value; left = Z.left; right = Z.right; size = Z.size; count = Z.count; sum = Z.sum };
      }

      positive : (n : ℕ) → Occupied (area a) n → 1 ≤ area_word a 5 n
      positive n o = go (ℕ_discrete (area_word a 5 n) 0)
        where
          go : Dec (area_word a 5 n ≡ 0) → 1 ≤ area_word a 5 n
          go (yes e) = absurd (true≢false (sym o ∙ rw (eq-eqb (area_word a 5 n) 0 e)))
          go (no e) = omega arith

      counts : (n : ℕ) → Occupied (area a) n → area_word a 5 n ≡ refs (with_roots a roots) n
      counts n o = let w = within-area a m n C.long o in P.counts n w.0 w.1 ∙ refs_is P.marks n

      sound : Sound (with_roots a roots)
      sound = record {
        kept = record { linked = linked; counts = counts; held = positive };
        ordered = λ n o. subst Ordered (sym (tree_roots a roots n)) (P.area_ok.ordered n o);
      }

  pub sound_parts : Sound (up_to (heap b) m) → Parts b a m
  sound_parts S = record {
    area_ok = record { linked = linked; ordered = λ n o. subst Ordered (tree_roots a roots n) (T.ordered n o) };
    marks = marks;
    roots = λ v lt. rw (named_roots a roots (roots v)) (T.kept.linked.roots v lt);
    counts = counts;
  }
    where
      K : Kept (up_to (heap b) m)
      K = S.kept

      marks : Each 0 m (λ n. occupied_at b n ≡ (area a).occupied n)
      marks i p q = go (occupied_at b i) refl
        where
          go : (o : Bool) → occupied_at b i ≡ o → occupied_at b i ≡ (area a).occupied i
          go true o = o ∙ sym (rw (ne_eqb (area_word a 5 i) 0 (λ z. absurd (omega (arith, K.held i o, C.words 5 i)))))
          go false o = o ∙ sym (rw (eq-eqb (area_word a 5 i) 0 (sym (C.words 5 i) ∙ (K.linked.blank i p q o).count)))

      T : Sound (with_roots a roots)
      T = subst Sound (heap_is marks) S

      linked : Linked (area a)
      linked = let L = T.kept.linked in record {
        within = L.within;
        roots = λ v lt. tt;
        lefts = λ n o. rw (named_roots a roots (area_word a 2 n)) (L.lefts n o);
        rights = λ n o. rw (named_roots a roots (area_word a 3 n)) (L.rights n o);
        sizes = λ n o. omega (arith, L.sizes n o, size_roots a roots (area_word a 2 n), size_roots a roots (area_word a 3 n));
        sums = λ n o. omega (arith, L.sums n o, sum_roots a roots (area_word a 2 n), sum_roots a roots (area_word a 3 n));
        blank = λ n p q z. let Z = L.blank n p q z in record { key = Z.key; value = Z.value; left = Z.left; right = Z.right; size = Z.size; count = Z.count; sum = Z.sum };
      }

      counts : Each 0 m (λ n. area_word a 5 n ≡ refs (up_to (heap b) m) n)
      counts i p q = go (occupied_at b i) refl
        where
          go : (o : Bool) → occupied_at b i ≡ o → area_word a 5 i ≡ refs (up_to (heap b) m) i
          go true o = sym (C.words 5 i) ∙ K.counts i o
          go false o = omega (arith, C.words 5 i, (K.linked.blank i p q o).count, refs_unoccupied (up_to (heap b) m) i K.linked p o)
