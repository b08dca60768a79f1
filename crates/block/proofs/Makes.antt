-- A make: the lowest free node's bit is set and its words are written, and a reference to each child is counted.
use mathlib.Core.Path.{◌≡◌, refl, ap, sym, ◌∙◌}
use mathlib.Core.Logic.{◌≢◌}
use Prim.Native.Nat.{ℕ, zero, suc, ◌+◌, ◌*◌, ◌≤◌, ◌<◌}
use mathlib.Core.Bool.{true, false, true≢false}
use mathlib.Core.List.{List, [], ◌∷◌}
use lib.ListN.{drop}
use native.Mathlib.Omega.{arith}
use native.Mathlib.Decide.{ℕ_discrete}
use Rattle.model.specs.Heap.{Heap, Occupied, Named, size_at, sum_at, tree, hit, hits, refs, Linked, free}
use Rattle.model.specs.Block.{room, width, node_word, occupied_at, heap, Shaped}
use Rattle.model.specs.Supply.{make}
use Rattle.model.specs.Moves.{Except, Made, Raised, Writing, Running}
use Rattle.model.proofs.block.Counts.{hit_yes, hit_no}
use Rattle.model.proofs.running.Growing.{named_occupied, came_made}
use Rattle.block.specs.Low.{Low}
use Rattle.block.specs.Outcome.{Outcome}
use Rattle.std.specs.Prelude.{Some, slice_get}
use Rattle.block.proofs.Free.{found_cons, found_free, below_lowest}
use Rattle.block.proofs.Writes.{fields, Unoccupied, writing_except}

-- How many references there can be

hits_le : (f : ℕ → ℕ) (n k : ℕ) → hits f n k ≤ k
unfolding hits
hits_le f n zero = omega arith
hits_le f n (suc k) = go (ℕ_discrete (f k) n) (hits_le f n k)
  where
    go : Dec (f k ≡ n) → hits f n k ≤ k → hit (f k) n + hits f n k ≤ suc k
    go (yes e) ih = omega (arith, hit_yes (f k) n e)
    go (no e) ih = omega (arith, hit_no (f k) n e)

refs_le : (h : Heap) (n : ℕ) → refs h n ≤ 16 + 2 * h.room
unfolding refs
refs_le h n = omega (arith, hits_le h.root n 16, hits_le (λ i. h.left (suc i)) n h.room, hits_le (λ i. h.right (suc i)) n h.room)

pub count_le : (b : List ℕ) (n : ℕ) → Running b → Named (heap b) n → node_word b 5 n ≤ 8208
count_le b zero R o = omega arith
count_le b (suc n) R o = omega (arith, R.counts (suc n) o, refs_le (heap b) (suc n), R.shaped.most)

pub named_le : (b : List ℕ) (n : ℕ) → Linked (heap b) → Named (heap b) n → n ≤ room b
named_le b zero L o = omega arith
named_le b (suc n) L o = (L.within (suc n) o).1

-- The make

-- n is the lowest free node, as code has found it
pub record Lowest (b : List ℕ) (n : ℕ) : Type 0 where
  pub first : free (heap b) ≡ n ∷ drop 1 (free (heap b))
  pub node : Unoccupied b n

pub lowest_found : {b : List ℕ} {n : ℕ} → Shaped b → Some n ≡ slice_get (free (heap b)) 0 → Lowest b n
lowest_found {b} {n} B e =
    let first = found_cons (free (heap b)) n e in
    let f = found_free (occupied_at b) 1 (room b) n (drop 1 (free (heap b))) first in
    record { first = first; node = record { shaped = B; low = f.1; high = omega (arith, f.2); free = f.0 } }

-- the words of node n are written in e; its children l and r are still to be counted
pub record Making (b e : List ℕ) (n k v l r : ℕ) : Type 0 where
  pub running : Running b
  pub lowest : Lowest b n
  pub left : Named (heap b) l
  pub right : Named (heap b) r
  pub wrote : Writing b e n true (fields k v l r (size_at (heap b) l + size_at (heap b) r + 1) (v + sum_at (heap b) l + sum_at (heap b) r)) width

module _ {b e : List ℕ} {n k v l r : ℕ} (M : Making b e n k v l r) where
  W : Writing b e n true (fields k v l r (size_at (heap b) l + size_at (heap b) r + 1) (v + sum_at (heap b) l + sum_at (heap b) r)) width
  W = M.wrote

  occupied_other : (m : ℕ) → Occupied (heap b) m → m ≢ n
  occupied_other m o e = true≢false (sym o ∙ ap (occupied_at b) e ∙ M.lowest.node.free)

  named_other : (m : ℕ) → Named (heap b) m → m ≢ n
  named_other zero o e = absurd (omega (arith, M.lowest.node.low))
  named_other (suc m) o e = occupied_other (suc m) o e

  -- a child's count has room for one more
  asks : (m : ℕ) → Named (heap b) m → (m ≤ room e) × (node_word e 5 m ≤ 8208)
  asks m o = (omega (arith, W.room_kept, named_le b m M.running.linked o), omega (arith, W.words 5 m (omega arith) (named_other m o), count_le b m M.running o))

  pub left_asks : Shaped e × (l ≤ room e) × (node_word e 5 l < 4294967295)
  left_asks = let q = asks l M.left in (W.shaped, q.0, omega arith)

  module _ {f : List ℕ} (A : Shaped f × Raised (heap e) (heap f) l) where
    once : (m : ℕ) → node_word f 5 m ≤ node_word e 5 m + 1
    once zero = omega arith
    once (suc m) = go (ℕ_discrete l (suc m))
      where
        go : Dec (l ≡ suc m) → node_word f 5 (suc m) ≤ node_word e 5 (suc m) + 1
        go (yes q) = omega (arith, A.1.counts (suc m) (omega arith), hit_yes l (suc m) q)
        go (no q) = omega (arith, A.1.counts (suc m) (omega arith), hit_no l (suc m) q)

    pub right_asks : Shaped f × (r ≤ room f) × (node_word f 5 r < 4294967295)
    right_asks = let q = asks r M.right in (A.0, omega (arith, A.1.same.room), omega (arith, once r))

    module _ {g : List ℕ} (C : Shaped g × Raised (heap f) (heap g) r) where
      raised : (m : ℕ) → 1 ≤ m → node_word g 5 m ≡ node_word e 5 m + (hit l m + hit r m)
      raised m p = omega (arith, C.1.counts m p, A.1.counts m p)

      made : Made (heap b) (heap g) n l r
      made = record {
        free = M.lowest.node.free;
        low = M.lowest.node.low;
        high = M.lowest.node.high;
        except = record {
          room = C.1.same.room ∙ A.1.same.room ∙ E.room;
          root = λ v lt. C.1.root v lt ∙ A.1.root v lt ∙ E.root v lt;
          occupied = λ m ne. C.1.same.occupied m ∙ A.1.same.occupied m ∙ E.occupied m ne;
          key = λ m ne. C.1.same.key m ∙ A.1.same.key m ∙ E.key m ne;
          value = λ m ne. C.1.same.value m ∙ A.1.same.value m ∙ E.value m ne;
          left = λ m ne. C.1.same.left m ∙ A.1.same.left m ∙ E.left m ne;
          right = λ m ne. C.1.same.right m ∙ A.1.same.right m ∙ E.right m ne;
          size = λ m ne. C.1.same.size m ∙ A.1.same.size m ∙ E.size m ne;
          sum = λ m ne. C.1.same.sum m ∙ A.1.same.sum m ∙ E.sum m ne;
        };
        occupied = C.1.same.occupied n ∙ A.1.same.occupied n ∙ W.bit;
        left = C.1.same.left n ∙ A.1.same.left n ∙ W.here 2 (omega arith);
        right = C.1.same.right n ∙ A.1.same.right n ∙ W.here 3 (omega arith);
        size = C.1.same.size n ∙ A.1.same.size n ∙ W.here 4 (omega arith) ∙ omega arith;
        sum = C.1.same.sum n ∙ A.1.same.sum n ∙ omega (arith, W.here 6 (omega arith), W.here 7 (omega arith), C.1.same.value n, A.1.same.value n, W.here 1 (omega arith));
        count = omega (arith, raised n M.lowest.node.low, W.here 5 (omega arith), hit_no l n (named_other l M.left), hit_no r n (named_other r M.right));
        counts = λ m o. omega (arith, raised m (M.running.linked.within m o).0, W.words 5 m (omega arith) (occupied_other m o));
        blanks = blanks;
      }
        where
          E : Except (heap b) (heap e) n
          E = writing_except W

          miss : (x m : ℕ) → Named (heap b) x → occupied_at b (suc m) ≡ false → hit x (suc m) ≡ 0
          miss zero m o z = hit_no zero (suc m) (omega arith)
          miss (suc x) m o z = hit_no (suc x) (suc m) (λ q. true≢false (sym o ∙ ap (occupied_at b) q ∙ z))

          blanks : (m : ℕ) → occupied_at b m ≡ false → m ≢ n → node_word g 5 m ≡ node_word b 5 m
          blanks zero z ne = refl
          blanks (suc m) z ne = omega (arith, raised (suc m) (omega arith), W.words 5 (suc m) (omega arith) ne, miss l m M.left z, miss r m M.right z)

      pub makes : Outcome b g (l ∷ r ∷ []) (Some n) (make k v (tree (heap b) l) (tree (heap b) r))
      makes =
          let key = C.1.same.key n ∙ A.1.same.key n ∙ W.here 0 (omega arith) in
          let value = C.1.same.value n ∙ A.1.same.value n ∙ W.here 1 (omega arith) in
          record { named = named_occupied (heap g) n made.occupied; came = came_made M.running C.0 M.lowest.first M.left M.right made key value }

      -- no node below it was free, and none is now
      pub makes_low : Low g n
      makes_low = (
        M.lowest.node.low,
        λ m p q. made.except.occupied m (omega arith) ∙ below_lowest (occupied_at b) 1 (room b) m n (ap (λ fs. slice_get fs 0) (sym M.lowest.first)) p q,
      )
