-- The kiosk's words and its entries.
use mathlib.Core.Path.{◌≡◌, refl, ap, sym, subst, ◌∙◌}
use mathlib.Core.Logic.{◌⊎◌, inl, inr}
use Prim.Native.Nat.{ℕ, zero, suc, ◌+◌, ◌-◌, ◌*◌, ◌/◌, ◌%◌, ◌≤◌, ◌<◌}
use mathlib.Core.List.{List, [], ◌∷◌, ◌++◌}
use lib.ListN.{length, get_or, length-replicate, get_or-replicate}
use lib.Seq.{ext_get_or}
use native.Mathlib.Omega.{arith}
use native.Mathlib.Decide.{ℕ_discrete, dec_le}
use Rattle.model.specs.Tree.{Entry, AllAbove, Sorted}
use Rattle.model.specs.Block.{word}
use Rattle.model.specs.Kiosk.{count, key_at, value_at, pairs_from, pairs, SoundKiosk, empty_kiosk, Holds}

pub length_pairs : (k : List ℕ) (i n : ℕ) → length (pairs_from k i n) ≡ n
unfolding pairs_from
length_pairs k i zero = refl
length_pairs k i (suc n) = ap suc (length_pairs k (suc i) n)

-- the pairs that follow m others
pub pairs-split : (k : List ℕ) (i m n : ℕ) → pairs_from k i (m + n) ≡ pairs_from k i m ++ pairs_from k (i + m) n
unfolding pairs_from
pairs-split k i zero n = let p : 0 + n ≡ n = omega arith in let q : i ≡ i + 0 = omega arith in ap (pairs_from k i) p ∙ ap (λ j. pairs_from k j n) q
pairs-split k i (suc m) n =
    let p : suc m + n ≡ suc (m + n) = omega arith in
    let q : suc i + m ≡ i + suc m = omega arith in
    ap (pairs_from k i) p ∙ ap (λ es. (key_at k i, value_at k i) ∷ es) (pairs-split k (suc i) m n ∙ ap (λ j. pairs_from k (suc i) m ++ pairs_from k j n) q)

-- the same pairs, which may stand at other places
pub pairs_same : (k l : List ℕ) (i j n : ℕ)
    → ((t : ℕ) → t < n → (key_at k (i + t) ≡ key_at l (j + t)) × (value_at k (i + t) ≡ value_at l (j + t))) → pairs_from k i n ≡ pairs_from l j n
unfolding pairs_from
pairs_same k l i j zero h = refl
pairs_same k l i j (suc n) h = rw (keys, values) (ap (λ es. (key_at l j, value_at l j) ∷ es) (pairs_same k l (suc i) (suc j) n (λ t p. rw (more i t, more j t) (h (suc t) (omega arith)))))
  where
    none : (i : ℕ) → i ≡ i + 0
    none i = omega arith

    more : (i t : ℕ) → suc i + t ≡ i + suc t
    more i t = omega arith

    keys : key_at k i ≡ key_at l j
    keys = ap (key_at k) (none i) ∙ (h 0 (omega arith)).0 ∙ ap (key_at l) (sym (none j))

    values : value_at k i ≡ value_at l j
    values = ap (value_at k) (none i) ∙ (h 0 (omega arith)).1 ∙ ap (value_at l) (sym (none j))

-- pair t of them
pub pairs_at : (k : List ℕ) (i n t : ℕ) → t < n → get_or (pairs_from k i n) t (0, 0) ≡ (key_at k (i + t), value_at k (i + t))
unfolding pairs_from
pairs_at k i zero t h = absurd (omega arith)
pairs_at k i (suc n) zero h = let e : i ≡ i + 0 = omega arith in ap (λ j. (key_at k j, value_at k j)) e
pairs_at k i (suc n) (suc t) h = let e : suc i + t ≡ i + suc t = omega arith in pairs_at k (suc i) n t (omega arith) ∙ ap (λ j. (key_at k j, value_at k j)) e

-- keys ascend one by one exactly when the entries are sorted
above : (k : List ℕ) (h i n : ℕ) → (0 < n → h < key_at k i) → ((j : ℕ) → i ≤ j → j + 1 < i + n → key_at k j < key_at k (j + 1)) → AllAbove h (pairs_from k i n)
unfolding pairs_from AllAbove
above k h i zero p q = tt
above k h i (suc n) p q = (p (omega arith), above k h (suc i) n (λ l. omega (arith, p (omega arith), next l)) (λ j a b. q j (omega arith) (omega arith)))
  where
    next : 0 < n → key_at k i < key_at k (suc i)
    next l = let e : i + 1 ≡ suc i = omega arith in subst (λ j. key_at k i < key_at k j) e (q i (omega arith) (omega arith))

pub pairs_sorted : (k : List ℕ) (i n : ℕ) → ((j : ℕ) → i ≤ j → j + 1 < i + n → key_at k j < key_at k (j + 1)) → Sorted (pairs_from k i n)
unfolding pairs_from Sorted
pairs_sorted k i zero q = tt
pairs_sorted k i (suc n) q = (above k (key_at k i) (suc i) n next (λ j a b. q j (omega arith) (omega arith)), pairs_sorted k (suc i) n (λ j a b. q j (omega arith) (omega arith)))
  where
    next : 0 < n → key_at k i < key_at k (suc i)
    next l = let e : i + 1 ≡ suc i = omega arith in subst (λ j. key_at k i < key_at k j) e (q i (omega arith) (omega arith))

sorted_ascends : (k : List ℕ) (i n : ℕ) → Sorted (pairs_from k i n) → (j : ℕ) → i ≤ j → j + 1 < i + n → key_at k j < key_at k (j + 1)
unfolding pairs_from Sorted AllAbove
sorted_ascends k i zero s j a b = absurd (omega arith)
sorted_ascends k i (suc zero) s j a b = absurd (omega arith)
sorted_ascends k i (suc (suc n)) s j a b = go (ℕ_discrete j i) (λ l. sorted_ascends k (suc i) (suc n) s.1 j l (omega arith))
  where
    go : Dec (j ≡ i) → (suc i ≤ j → key_at k j < key_at k (j + 1)) → key_at k j < key_at k (j + 1)
    go (yes e) later = let d : j + 1 ≡ suc i = omega arith in rw (d, e) s.0.0
    go (no e) later = later (omega arith)

pub sound_sorted : {k : List ℕ} → SoundKiosk k → Sorted (pairs k)
sound_sorted {k} S = pairs_sorted k 0 (count k) (λ j a b. S.ascends j (omega arith))

-- words that hold these entries
pub holds_by : {k : List ℕ} {es : List Entry} (n : ℕ) → length k ≡ 129 → count k ≡ n → n ≤ 64 → pairs_from k 0 n ≡ es → Sorted es
    → ((w : ℕ) → 1 + 2 * n ≤ w → w < 129 → word k w ≡ 0) → Holds k es
holds_by {k} n long counts few is sorted unused = record {
  sound = record {
    long = long;
    few = omega arith;
    ascends = λ i h. sorted_ascends k 0 n (subst Sorted (sym is) sorted) i (omega arith) (omega arith);
    unused = λ w p q. unused w (omega arith) q;
  };
  is = ap (pairs_from k 0) counts ∙ is;
}

-- the number of entries
pub holds-count : {k : List ℕ} {es : List Entry} → Holds k es → count k ≡ length es
holds-count {k} H = sym (length_pairs k 0 (count k)) ∙ ap length H.is

-- the entries decide every word
pub holds-once : {k l : List ℕ} {es : List Entry} → Holds k es → Holds l es → k ≡ l
holds-once {k} {l} {es} H I = ext_get_or 0 k l (H.sound.long ∙ sym I.sound.long) (λ w h. at w (omega (arith, H.sound.long)) (dec_le w (2 * count k)))
  where
    counts : count k ≡ count l
    counts = holds-count H ∙ sym (holds-count I)

    pair : (t : ℕ) → t < count k → ◌≡◌ {A = ℕ × ℕ} (key_at k t, value_at k t) (key_at l t, value_at l t)
    pair t h =
        let e : 0 + t ≡ t = omega arith in
        let p = pairs_at k 0 (count k) t h in
        let q = pairs_at l 0 (count l) t (omega (arith, h, counts)) in
        rw e at (sym p ∙ ap (λ es. get_or es t (0, 0)) (H.is ∙ sym I.is) ∙ q)

    used : (w t : ℕ) → t < count k → (w ≡ 1 + 2 * t) ⊎ (w ≡ 2 + 2 * t) → word k w ≡ word l w
    used w t h (inl e) = rw e (ap (λ (p : ℕ × ℕ). p.0) (pair t h))
    used w t h (inr e) = rw e (ap (λ (p : ℕ × ℕ). p.1) (pair t h))

    side : (w : ℕ) → 0 < w → Dec ((w - 1) % 2 ≡ 0) → (w ≡ 1 + 2 * ((w - 1) / 2)) ⊎ (w ≡ 2 + 2 * ((w - 1) / 2))
    side w h (yes e) = inl (omega arith)
    side w h (no e) = inr (omega arith)

    at : (w : ℕ) → w < 129 → Dec (w ≤ 2 * count k) → word k w ≡ word l w
    at zero h d = counts
    at (suc w) h (yes p) = used (suc w) ((suc w - 1) / 2) (omega arith) (side (suc w) (omega arith) (ℕ_discrete ((suc w - 1) % 2) 0))
    at (suc w) h (no p) = H.sound.unused (suc w) (omega arith) h ∙ sym (I.sound.unused (suc w) (omega (arith, p, counts)) h)

-- a sound kiosk holds its own entries
pub holds_own : {k : List ℕ} → SoundKiosk k → Holds k (pairs k)
holds_own S = record { sound = S; is = refl }

-- no entries
pub empty_sound : SoundKiosk empty_kiosk
unfolding empty_kiosk
empty_sound = record { long = length-replicate {A = ℕ} 129 0; few = omega arith; ascends = λ i h. absurd (omega arith); unused = λ w p q. get_or-replicate 129 w 0 0 q }

pub empty_pairs : pairs empty_kiosk ≡ []
unfolding empty_kiosk pairs_from
empty_pairs = refl
