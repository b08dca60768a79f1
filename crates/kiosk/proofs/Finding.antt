-- Where a key stands among the pairs: the entries cut there.
use mathlib.Core.Path.{◌≡◌, refl, ap, sym, ◌∙◌}
use Prim.Native.Nat.{ℕ, zero, suc, ◌+◌, ◌-◌, ◌≤◌, ◌<◌}
use mathlib.Core.Option.{none, some}
use mathlib.Core.List.{List, [], ◌∷◌, ◌++◌}
use native.Mathlib.Omega.{arith}
use native.Mathlib.Decide.{ℕ_discrete, dec_lt}
use Rattle.model.specs.Tree.{Entry, Cut, cut, AllBelow}
use Rattle.model.specs.Kiosk.{count, key_at, value_at, pairs_from, pairs}
use Rattle.model.proofs.maps.Compare.{gt_cmp, lt_cmp, eq_cmp}
use Rattle.model.proofs.rules.Entries.{cut-less, cut_same}
use Rattle.model.proofs.kiosk.Pairs.{pairs-split}
use Rattle.kiosk.specs.Places.{Place}

-- the pairs around pair i
pub pairs_around : (k : List ℕ) (i m : ℕ) → pairs_from k 0 (i + suc m) ≡ pairs_from k 0 i ++ (key_at k i, value_at k i) ∷ pairs_from k (suc i) m
unfolding pairs_from
pairs_around k i m = let e : 0 + i ≡ i = omega arith in pairs-split k 0 i (suc m) ∙ ap (λ j. pairs_from k 0 i ++ pairs_from k j (suc m)) e

below_all : (k : List ℕ) (key j n : ℕ) → ((t : ℕ) → j ≤ t → t < j + n → key_at k t < key) → AllBelow key (pairs_from k j n)
unfolding pairs_from AllBelow
below_all k key j zero h = tt
below_all k key j (suc n) h = (h j (omega arith) (omega arith), below_all k key (suc j) n (λ t p q. h t (omega arith) (omega arith)))

cut_below : (es : List Entry) (key : ℕ) → AllBelow key es → cut es key ≡ record { before = es; found = none; after = [] }
unfolding cut AllBelow
cut_below [] key b = refl
cut_below (e ∷ es) key b = rw (gt_cmp key e.0 b.0, cut) (rw (cut_below es key b.1))

module _ {k : List ℕ} {key i : ℕ} (P : Place k key i) where
  front : AllBelow key (pairs_from k 0 i)
  front = below_all k key 0 i (λ t p q. P.below t (omega arith))

  -- pair i has the key
  pub cut_has : i < count k → key_at k i ≡ key
      → cut (pairs k) key ≡ record { before = pairs_from k 0 i; found = some (value_at k i); after = pairs_from k (suc i) (count k - suc i) }
  cut_has h e =
      let n : count k ≡ i + suc (count k - suc i) = omega arith in
      ap (λ m. cut (pairs_from k 0 m) key) n ∙ ap (λ es. cut es key) (pairs_around k i (count k - suc i))
      ∙ cut_same (pairs_from k 0 i) (pairs_from k (suc i) (count k - suc i)) (key_at k i) (value_at k i) key (eq_cmp key (key_at k i) (sym e)) (rw e front)

  -- no pair has it
  pub cut_lacks : ((i < count k) × (key_at k i ≡ key) → ⊥)
      → cut (pairs k) key ≡ record { before = pairs_from k 0 i; found = none; after = pairs_from k i (count k - i) }
  unfolding pairs_from
  cut_lacks lacks = go (dec_lt i (count k))
    where
      above : Dec (key_at k i ≡ key) → i < count k → key < key_at k i
      above (yes e) h = absurd (lacks (h, e))
      above (no e) h = omega (arith, P.from h)

      go : Dec (i < count k) → cut (pairs k) key ≡ record { before = pairs_from k 0 i; found = none; after = pairs_from k i (count k - i) }
      go (yes h) =
          let n : count k ≡ i + suc (count k - suc i) = omega arith in
          let m : suc (count k - suc i) ≡ count k - i = omega arith in
          let less : key < key_at k i = above (ℕ_discrete (key_at k i) key) h in
          ap (λ m. cut (pairs_from k 0 m) key) n ∙ ap (λ es. cut es key) (pairs_around k i (count k - suc i))
          ∙ cut-less (pairs_from k 0 i) (pairs_from k (suc i) (count k - suc i)) (key_at k i) (value_at k i) key (lt_cmp key (key_at k i) less)
          ∙ ap (λ (c : Cut). record { before = c.before; found = c.found; after = c.after ++ pairs_from k i (suc (count k - suc i)) }) (cut_below (pairs_from k 0 i) key front)
          ∙ ap (λ m. record { before = pairs_from k 0 i; found = none; after = pairs_from k i m }) m
      go (no h) =
          let n : count k ≡ i = omega (arith, P.within) in
          let z : 0 ≡ count k - i = omega arith in
          ap (λ m. cut (pairs_from k 0 m) key) n ∙ cut_below (pairs_from k 0 i) key front ∙ ap (λ m. record { before = pairs_from k 0 i; found = none; after = pairs_from k i m }) z
