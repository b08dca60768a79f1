-- The rows of one list of entries against another.
use mathlib.Core.Path.{◌≡◌, refl, ap, sym, ◌∙◌}
use mathlib.Core.Logic.{◌≢◌, ◌⊎◌, inl, inr, ⊎_elim}
use Prim.Native.Nat.{ℕ, ◌<◌, compare, Ordering}
use mathlib.Core.Option.{Option, some}
use mathlib.Core.List.{List, [], ◌∷◌, ◌++◌}
use native.Mathlib.Omega.{arith}
use native.Mathlib.Decide.{ℕ_discrete, dec_lt}
use Rattle.model.specs.Tree.{Entry, cut, find, AllAbove, Sorted}
use Rattle.model.specs.Listing.{Row, ◌∈◌, Ascending, Listed}
use Rattle.model.proofs.maps.Compare.{cmp_eq, cmp_gt}
use Rattle.model.proofs.maps.Finds.{above_none, past, found_first}

-- what is found lies above every bound of the list
pub found_above : (xs : List Entry) (k j v : ℕ) → AllAbove k xs → find xs j ≡ some v → k < j
found_above xs k j v a e = go (dec_lt k j)
  where
    go : Dec (k < j) → k < j
    go (yes p) = p
    go (no p) = let z : ◌≡◌ {A = ℕ} 0 1 = cc (above_none xs k j a (omega arith), e) in absurd (omega arith)

-- a key that is not the first is found in the rest
find-rest : (x : Entry) (xs : List Entry) (k v : ℕ) → k ≢ x.0 → find (x ∷ xs) k ≡ some v → find xs k ≡ some v
unfolding cut
find-rest x xs k v ne f = go (compare k x.0) refl
  where
    go : (c : Ordering) → compare k x.0 ≡ c → find xs k ≡ some v
    go Ordering.lt e = let z : ◌≡◌ {A = ℕ} 0 1 = cc (rw (e, find) at f) in absurd (omega arith)
    go Ordering.eq e = absurd (ne (cmp_eq k x.0 e))
    go Ordering.gt e = past x xs k (cmp_gt k x.0 e) ∙ f

pub nil_listed : (B : ℕ → Option ℕ) → Listed (find []) B []
unfolding cut Ascending ◌∈◌
nil_listed B = record { ascends = tt; right = λ r m. absurd m; whole = λ k v e. let z : ◌≡◌ {A = ℕ} 0 1 = cc e in absurd (omega arith) }

-- the right may hold anything at keys that the left lacks
pub swap_listed : (A B C : ℕ → Option ℕ) (rows : List Row) → ((k v : ℕ) → A k ≡ some v → C k ≡ B k) → Listed A B rows → Listed A C rows
swap_listed A B C rows f I = record {
  ascends = I.ascends;
  right = λ r m. ((I.right r m).0, f r.key r.left (I.right r m).0 ∙ (I.right r m).1);
  whole = λ k v e. ⊎_elim (λ p. inl (f k v e ∙ p)) inr (I.whole k v e);
}

-- a row for the left's first entry
pub yield_listed : (k v : ℕ) (o : Option ℕ) (xs : List Entry) (B C : ℕ → Option ℕ) (rows : List Row) → AllAbove k xs → C k ≡ o → ((j : ℕ) → k < j → C j ≡ B j)
    → Listed (find xs) B rows → Listed (find ((k, v) ∷ xs)) C (record { key = k; left = v; right = o } ∷ rows)
unfolding Ascending ◌∈◌
yield_listed k v o xs B C rows a e f I = record { ascends = (λ r m. above r m, I.ascends); right = right; whole = λ j w p. whole j w p (ℕ_discrete j k) }
  where
    first : Row
    first = record { key = k; left = v; right = o }

    above : (r : Row) → r ∈ rows → k < r.key
    above r m = found_above xs k r.key r.left a (I.right r m).0

    right : (r : Row) → (r ≡ first) ⊎ (r ∈ rows) → (find ((k, v) ∷ xs) r.key ≡ some r.left) × (C r.key ≡ r.right)
    right r (inl p) = rw p (found_first (k, v) xs, e)
    right r (inr m) = (sym (past (k, v) xs r.key (above r m)) ∙ (I.right r m).0, f r.key (above r m) ∙ (I.right r m).1)

    whole : (j w : ℕ) → find ((k, v) ∷ xs) j ≡ some w → Dec (j ≡ k) → (C j ≡ some w) ⊎ ((r : Row) × ((r ≡ first) ⊎ (r ∈ rows)) × (r.key ≡ j))
    whole j w p (yes q) = inr (first, inl refl, sym q)
    whole j w p (no q) =
        let t = find-rest (k, v) xs j w q p in
        ⊎_elim (λ z. inl (f j (found_above xs k j w a t) ∙ z)) (λ z. inr (z.0, inr z.1, z.2)) (I.whole j w t)

-- a row for every entry is a listing too
pub all_listed : (xs : List Entry) (B : ℕ → Option ℕ) → Sorted xs → (rows : List Row) × Listed (find xs) B rows
unfolding Sorted
all_listed [] B s = ([], nil_listed B)
all_listed ((k, v) ∷ xs) B s = let w = all_listed xs B s.1 in (record { key = k; left = v; right = B k } ∷ w.0, yield_listed k v (B k) xs B B w.0 s.0 refl (λ j p. refl) w.1)

-- the same entry first on both sides needs no row
both-listed : (z : Entry) (xs ys : List Entry) (rows : List Row) → AllAbove z.0 xs → Listed (find xs) (find ys) rows
    → Listed (find (z ∷ xs)) (find (z ∷ ys)) rows
both-listed z xs ys rows a I = record {
  ascends = I.ascends;
  right = λ r m. let p = found_above xs z.0 r.key r.left a (I.right r m).0 in (sym (past z xs r.key p) ∙ (I.right r m).0, sym (past z ys r.key p) ∙ (I.right r m).1);
  whole = λ j w p. whole j w p (ℕ_discrete j z.0);
}
  where
    whole : (j w : ℕ) → find (z ∷ xs) j ≡ some w → Dec (j ≡ z.0) → (find (z ∷ ys) j ≡ some w) ⊎ ((r : Row) × (r ∈ rows) × (r.key ≡ j))
    whole j w p (yes q) = inl (ap (find (z ∷ ys)) q ∙ found_first z ys ∙ sym (found_first z xs) ∙ ap (find (z ∷ xs)) (sym q) ∙ p)
    whole j w p (no q) =
        let t = find-rest z xs j w q p in
        ⊎_elim (λ y. inl (sym (past z ys j (found_above xs z.0 j w a t)) ∙ y)) inr (I.whole j w t)

pub skip_listed : (zs xs ys : List Entry) (rows : List Row) → Sorted (zs ++ xs) → Listed (find xs) (find ys) rows
    → Listed (find (zs ++ xs)) (find (zs ++ ys)) rows
unfolding Sorted
skip_listed [] xs ys rows s I = I
skip_listed (z ∷ zs) xs ys rows s I = both-listed z (zs ++ xs) (zs ++ ys) rows s.0 (skip_listed zs xs ys rows s.1 I)

-- What the rows leave out

-- a key that the right lacks, or has with another value, has a row
pub differing_key_listed : (A B : ℕ → Option ℕ) (rows : List Row) → Listed A B rows → (k v : ℕ) → A k ≡ some v → B k ≢ some v
    → (r : Row) × (r ∈ rows) × (r.key ≡ k)
differing_key_listed A B rows I k v a b = ⊎_elim (λ e. absurd (b e)) (λ w. w) (I.whole k v a)

-- a key without a row has the same value on the right
pub omitted_key_same : (A B : ℕ → Option ℕ) (rows : List Row) → Listed A B rows → (k v : ℕ) → A k ≡ some v → ((r : Row) → r ∈ rows → r.key ≢ k) → B k ≡ some v
omitted_key_same A B rows I k v a n = ⊎_elim (λ e. e) (λ w. absurd (n w.0 w.1 w.2)) (I.whole k v a)
