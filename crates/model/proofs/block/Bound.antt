-- A list whose keys differ, each the key of an occupied node, is no longer than the heap has room; so an ordered tree has no more nodes.
use mathlib.Core.Path.{◌≡◌, refl}
use mathlib.Core.Logic.{◌≢◌, inl, inr, ⊎_elim}
use Prim.Native.Nat.{ℕ, zero, suc, ◌+◌, ◌≤◌, ◌<◌}
use mathlib.Core.List.{List, [], ◌∷◌, ◌++◌}
use lib.ListN.{length}
use native.Mathlib.Omega.{arith}
use native.Mathlib.Decide.{ℕ_discrete}
use Rattle.model.specs.Tree.{Entry, entries, AllAbove, Sorted, Ordered}
use Rattle.model.specs.Heap.{Heap, Occupied, Named, tree, hit, hits, Linked, size_at}
use Rattle.model.specs.Listing.{◌∈◌, Ascending}
use Rattle.model.specs.Delta.{Distinct}
use Rattle.model.proofs.block.Counts.{hit_yes, hit_no, hits_some}
use Rattle.model.proofs.block.Loads.{tree_ind, tree-size}
use Rattle.model.proofs.maps.Members.{in_either, ascending_distinct}
use Rattle.model.proofs.maps.Sorts.{ordered_sorted}
use Rattle.model.proofs.rules.Splits.{size-length}

-- f 0 + .. + f (k - 1)
sum_to : (ℕ → ℕ) → ℕ → ℕ
sum_to f zero = 0
sum_to f (suc k) = f k + sum_to f k

sum-add : (f g : ℕ → ℕ) (k : ℕ) → sum_to (λ j. f j + g j) k ≡ sum_to f k + sum_to g k
unfolding sum_to
sum-add f g zero = refl
sum-add f g (suc k) = omega (arith, sum-add f g k)

sum_le : (f : ℕ → ℕ) (k : ℕ) → ((j : ℕ) → f j ≤ 1) → sum_to f k ≤ k
unfolding sum_to
sum_le f zero b = omega arith
sum_le f (suc k) b = omega (arith, b k, sum_le f k b)

sum-hits : (f : ℕ → ℕ) (n k : ℕ) → sum_to (λ i. hit (f i) n) k ≡ hits f n k
unfolding sum_to hits
sum-hits f n zero = refl
sum-hits f n (suc k) = omega (arith, sum-hits f n k)

-- Distinct keys, each among k numbers

module _ {A : Type 0} (key : A → ℕ) where
  -- how often the key n stands in the list
  times : ℕ → List A → ℕ
  times n [] = 0
  times n (x ∷ xs) = hit n (key x) + times n xs

  times_none : (n : ℕ) (xs : List A) → ((x : A) → x ∈ xs → n ≢ key x) → times n xs ≡ 0
  unfolding times ◌∈◌
  times_none n [] d = refl
  times_none n (x ∷ xs) d = omega (arith, hit_no n (key x) (d x (inl refl)), times_none n xs (λ y m. d y (inr m)))

  times_once : (n : ℕ) (xs : List A) → Distinct key xs → times n xs ≤ 1
  unfolding times Distinct
  times_once n [] d = omega arith
  times_once n (x ∷ xs) d = go (ℕ_discrete n (key x)) (times_once n xs d.1)
    where
      go : Dec (n ≡ key x) → times n xs ≤ 1 → hit n (key x) + times n xs ≤ 1
      go (yes e) ih = omega (arith, hit_yes n (key x) e, times_none n xs (rw e d.0))
      go (no e) ih = omega (arith, hit_no n (key x) e)

  length_sum : (f : ℕ → ℕ) (k : ℕ) (xs : List A) → ((x : A) → x ∈ xs → (j : ℕ) × (j < k) × (f j ≡ key x)) → length xs ≤ sum_to (λ i. times (f i) xs) k
  unfolding times ◌∈◌
  length_sum f k [] w = omega arith
  length_sum f k (x ∷ xs) w = let u = w x (inl refl) in omega (
    arith,
    hits_some f (key x) k u.0 u.1 u.2,
    sum-hits f (key x) k,
    sum-add (λ i. hit (f i) (key x)) (λ i. times (f i) xs) k,
    length_sum f k xs (λ y m. w y (inr m)),
  )

  -- a list whose keys differ, each one of f 0, .. f (k - 1), is at most k long
  pub distinct_most : (f : ℕ → ℕ) (k : ℕ) (xs : List A) → Distinct key xs → ((x : A) → x ∈ xs → (j : ℕ) × (j < k) × (f j ≡ key x)) → length xs ≤ k
  distinct_most f k xs d w = omega (arith, length_sum f k xs w, sum_le (λ i. times (f i) xs) k (λ i. times_once (f i) xs d))

-- Keys of a heap

-- the keys of sorted entries ascend
above_in : (k : ℕ) (es : List Entry) → AllAbove k es → (e : Entry) → e ∈ es → k < e.0
unfolding AllAbove ◌∈◌
above_in k [] a e m = absurd m
above_in k (x ∷ xs) a e (inl p) = rw p a.0
above_in k (x ∷ xs) a e (inr m) = above_in k xs a.1 e m

sorted_ascending : (es : List Entry) → Sorted es → Ascending (λ (e : Entry). e.0) es
unfolding Sorted Ascending
sorted_ascending [] s = tt
sorted_ascending (x ∷ xs) s = (above_in x.0 xs s.0, sorted_ascending xs s.1)

module _ (h : Heap) (L : Linked h) where
  -- one of the nodes has the key
  abbrev pub Held : ℕ → Type 0
  Held k = (j : ℕ) × (j < h.room) × (h.key (suc j) ≡ k)

  occupied_held : (n : ℕ) → Occupied h n → Held (h.key n)
  occupied_held zero o = absurd (omega (arith, L.within zero o))
  occupied_held (suc n) o = (n, omega (arith, L.within (suc n) o), refl)

  -- every key of a tree is held
  pub entry_held : (m : ℕ) → Named h m → (e : Entry) → e ∈ entries (tree h m) → Held e.0
  unfolding entries ◌∈◌
  entry_held = tree_ind h L (λ m t. (e : Entry) → e ∈ entries t → Held e.0) (λ e m. absurd m) step
    where
      step : (n : ℕ) → Occupied h n → ((e : Entry) → e ∈ entries (tree h (h.left n)) → Held e.0)
          → ((e : Entry) → e ∈ entries (tree h (h.right n)) → Held e.0)
          → (e : Entry) → e ∈ (entries (tree h (h.left n)) ++ (h.key n, h.value n) ∷ entries (tree h (h.right n))) → Held e.0
      step n o l r e m = ⊎_elim (l e) (⊎_elim (λ p. rw p (occupied_held n o)) (r e)) (in_either e (entries (tree h (h.left n))) ((h.key n, h.value n) ∷ entries (tree h (h.right n))) m)

  -- an ordered tree has no more nodes than the heap has room for
  pub size_room : (m : ℕ) → Named h m → Ordered (tree h m) → size_at h m ≤ h.room
  size_room m o q =
      let es = entries (tree h m) in
      let d = ascending_distinct (λ (e : Entry). e.0) es (sorted_ascending es (ordered_sorted (tree h m) q)) in
      omega (arith, tree-size h L m o, size-length (tree h m), distinct_most (λ (e : Entry). e.0) (λ j. h.key (suc j)) h.room es d (entry_held m o))
