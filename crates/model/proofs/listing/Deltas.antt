-- The delta has exactly the keys where two trees differ, and carries the one to the other.
use mathlib.Core.Path.{◌≡◌, refl, ap, sym, subst, ◌∙◌}
use mathlib.Core.Logic.{◌≢◌, ◌⊎◌, inl, inr, ⊎_elim, ◌↔◌}
use Prim.Native.Nat.{ℕ, ◌<◌}
use mathlib.Core.Bool.{false}
use mathlib.Core.Option.{Option, none, some}
use mathlib.Core.List.{List, [], ◌++◌}
use lib.ListN.{length}
use native.Mathlib.Omega.{arith}
use native.Mathlib.Decide.{ℕ_discrete}
use Rattle.model.specs.Tree.{Tree, find, entries}
use Rattle.model.specs.Listing.{listing, ◌∈◌}
use Rattle.model.specs.Delta.{Change, puts, removes, delta, delta_deep, change_at, Carries, Distinct, Exact}
use Rattle.model.proofs.listing.Turns.{neither}
use Rattle.model.proofs.maps.Finds.{sorted_ext}
use Rattle.model.proofs.maps.Sorts.{ordered_sorted}
use Rattle.model.proofs.listing.Listings.{OneHeap, turned, listing-listed}
use Rattle.model.proofs.maps.Members.{in_at, at_in, in_left, in_right, in_either, none_in, ascending_distinct, distinct_append}
use Rattle.model.proofs.listing.Picks.{rows_exact}

module _ {A B : ℕ → Option ℕ} {ps rs : List Change} (E : Exact A B ps rs) where
  -- a change has its key
  abbrev Has : ℕ → Type 0
  Has k = (c : Change) × (c ∈ (ps ++ rs)) × (c.key ≡ k)

  has_put : (k v : ℕ) → B k ≡ some v → A k ≢ some v → Has k
  has_put k v b a = let w = E.all_puts k v b a in (w.0, in_left w.0 ps rs w.1, w.2)

  has_remove : (k v : ℕ) → A k ≡ some v → B k ≡ none → Has k
  has_remove k v a b = let w = E.all_removes k v a b in (w.0, in_right w.0 ps rs w.1, w.2)

  same_or_has : (k : ℕ) → (A k ≡ B k) ⊎ Has k
  same_or_has k = go (A k) (B k) refl refl
    where
      go : (x y : Option ℕ) → A k ≡ x → B k ≡ y → (A k ≡ B k) ⊎ Has k
      go none none a b = inl (a ∙ sym b)
      go (some v) none a b = inr (has_remove k v a b)
      go none (some w) a b = inr (has_put k w b (λ e. let z : ◌≡◌ {A = ℕ} 0 1 = cc (a, e) in omega arith))
      go (some v) (some w) a b = by (ℕ_discrete v w)
        where
          by : Dec (v ≡ w) → (A k ≡ B k) ⊎ Has k
          by (yes e) = inl (a ∙ ap some e ∙ sym b)
          by (no n) = inr (has_put k w b (λ e. let z : some v ≡ some w = sym a ∙ e in n (cc z)))

  -- each change sets its key to what B holds, and A holds something else there
  sets : (c : Change) → c ∈ (ps ++ rs) → (c.now ≡ B c.key) × (A c.key ≢ B c.key)
  sets c m = ⊎_elim
      (λ p. let w = E.put c p in (w.1 ∙ sym w.2, λ e. w.3 (e ∙ w.2)))
      (λ p. let w = E.remove c p in (w.1 ∙ sym w.3, λ e. let z : ◌≡◌ {A = ℕ} 0 1 = cc (w.2, w.3, e) in omega arith))
      (in_either c ps rs m)

  exact_carries : Carries A B (ps ++ rs)
  exact_carries = record { right = λ i p. (sets (change_at (ps ++ rs) i) (in_at (ps ++ rs) _ i p)).0; whole = λ k. ⊎_elim inl (λ w. inr (at k w)) (same_or_has k) }
    where
      at : (k : ℕ) → Has k → (i : ℕ) × (i < length (ps ++ rs)) × ((change_at (ps ++ rs) i).key ≡ k)
      at k w = let u = at_in (ps ++ rs) (record { key = 0; now = none }) w.0 w.1 in (u.0, u.1, ap (λ (c : Change). c.key) u.2 ∙ w.2)

  exact_keys : (k : ℕ) → Has k ↔ (A k ≢ B k)
  exact_keys k = (λ w e. (sets w.0 w.1).1 (ap A w.2 ∙ e ∙ ap B (sym w.2)), λ n. ⊎_elim (λ e. absurd (n e)) (λ w. w) (same_or_has k))

  exact_once : Distinct (λ (c : Change). c.key) (ps ++ rs)
  exact_once = distinct_append (λ (c : Change). c.key) ps rs (ascending_distinct _ ps E.puts_ascend) (ascending_distinct _ rs E.removes_ascend) apart
    where
      apart : (p r : Change) → p ∈ ps → r ∈ rs → p.key ≢ r.key
      apart p r m n e = let z : ◌≡◌ {A = ℕ} 0 1 = cc ((E.put p m).2, (E.remove r n).3, ap B e) in omega arith

-- The theorems

module _ (a b : Tree) (O : OneHeap a b) (shallow : delta_deep a b ≡ false) where
  -- the delta is its puts, then its removes, and they are exactly the changes that document 01 names
  pub delta_exact : (delta a b ≡ puts (listing b a).rows ++ removes (listing a b).rows) × Exact (find (entries a)) (find (entries b)) (puts (listing b a).rows) (removes (listing a b).rows)
  unfolding delta delta_deep
  delta_exact =
      let d = neither (listing b a).deep (listing a b).deep shallow in
      (refl, rows_exact (find (entries a)) (find (entries b)) (listing b a).rows (listing a b).rows (listing-listed b a (turned a b O) d.0) (listing-listed a b O d.1))

  -- the delta carries the one map to the other
  pub delta_carries : Carries (find (entries a)) (find (entries b)) (delta a b)
  unfolding delta
  delta_carries = exact_carries delta_exact.1

  -- a key has a change exactly when the two maps differ there
  pub delta_keys : (k : ℕ) → ((c : Change) × (c ∈ delta a b) × (c.key ≡ k)) ↔ (find (entries a) k ≢ find (entries b) k)
  unfolding delta
  delta_keys = exact_keys delta_exact.1

  -- no key has two changes
  pub delta-once : Distinct (λ (c : Change). c.key) (delta a b)
  unfolding delta
  delta-once = exact_once delta_exact.1

  -- the delta is empty exactly when the two trees hold the same entries
  pub delta_empty : (delta a b ≡ []) ↔ (entries a ≡ entries b)
  unfolding delta ◌∈◌
  delta_empty = (
    λ e. sorted_ext (entries a) (entries b) (ordered_sorted a O.ordered_left) (ordered_sorted b O.ordered_right) (λ k. same k e),
    λ e. none_in (delta a b) (λ c m. (delta_keys c.key).0 (c, m, refl) (ap (λ es. find es c.key) e)),
  )
    where
      same : (k : ℕ) → delta a b ≡ [] → find (entries a) k ≡ find (entries b) k
      same k e = ⊎_elim (λ p. p) (λ w. absurd (subst (λ cs. w.0 ∈ cs) e w.1)) (same_or_has delta_exact.1 k)
