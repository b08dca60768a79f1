-- A listing and a delta are at most N long: their keys differ, and each is the key of an occupied node.
use mathlib.Core.Path.{◌≡◌, refl, sym, ◌∙◌}
use mathlib.Core.Logic.{◌≢◌, ◌⊎◌, inl, inr}
use Prim.Native.Nat.{ℕ, suc, ◌≤◌, ◌<◌, compare, Ordering}
use mathlib.Core.Bool.{false}
use mathlib.Core.Option.{Option, none, some}
use mathlib.Core.List.{List, [], ◌∷◌}
use lib.ListN.{length}
use native.Mathlib.Omega.{arith}
use Rattle.model.specs.Tree.{Tree, Entry, entries, cut, find}
use Rattle.model.specs.Heap.{Heap, version, Linked, Sound}
use Rattle.model.specs.Listing.{Row, listing, ◌∈◌}
use Rattle.model.specs.Delta.{Change, delta, delta_deep}
use Rattle.model.proofs.maps.Compare.{cmp_eq}
use Rattle.model.proofs.listing.Listings.{versions_one-heap, versions_listed}
use Rattle.model.proofs.maps.Members.{ascending_distinct}
use Rattle.model.proofs.listing.Deltas.{delta-once, delta_keys}
use Rattle.model.proofs.block.Bound.{distinct_most, Held, entry_held}

-- what is found stands in the list
find_in : (es : List Entry) (k v : ℕ) → find es k ≡ some v → (k, v) ∈ es
unfolding cut ◌∈◌
find_in [] k v e = let z : ◌≡◌ {A = ℕ} 0 1 = cc e in absurd (omega arith)
find_in (x ∷ xs) k v e = go (compare k x.0) refl (find_in xs k v)
  where
    go : (c : Ordering) → compare k x.0 ≡ c → (find xs k ≡ some v → (k, v) ∈ xs) → ((k, v) ≡ x) ⊎ ((k, v) ∈ xs)
    go Ordering.lt p ih = let z : ◌≡◌ {A = ℕ} 0 1 = cc (rw (p, find) at e) in absurd (omega arith)
    go Ordering.eq p ih = let z : some x.1 ≡ some v = rw (p, find) at e in let u : v ≡ x.1 = sym (cc z) in inl (λ i. (cmp_eq k x.0 p i, u i))
    go Ordering.gt p ih = inr (ih (rw (p, find) at e))

module _ (h : Heap) (S : Sound h) (v w : ℕ) (p : v < 16) (q : w < 16) where
  L : Linked h
  L = S.kept.linked

  abbrev a : Tree
  a = version h v

  abbrev b : Tree
  b = version h w

  -- what a version holds, one of the nodes has
  found_held : (u k x : ℕ) → u < 16 → find (entries (version h u)) k ≡ some x → Held h L k
  found_held u k x lt e = entry_held h L (h.root u) (L.roots u lt) (k, x) (find_in (entries (version h u)) k x e)

  differing_held : (k : ℕ) → find (entries a) k ≢ find (entries b) k → Held h L k
  differing_held k n = go (find (entries a) k) (find (entries b) k) refl refl
    where
      go : (x y : Option ℕ) → find (entries a) k ≡ x → find (entries b) k ≡ y → Held h L k
      go none none e f = absurd (n (e ∙ sym f))
      go (some x) y e f = found_held v k x p e
      go none (some y) e f = found_held w k y q f

  -- the listing of two versions of a sound heap is at most N long
  pub listing-room : (listing (version h v) (version h w)).deep ≡ false → length (listing (version h v) (version h w)).rows ≤ h.room
  listing-room d =
      let I = versions_listed h S v w p q d in
      distinct_most (λ (r : Row). r.key) (λ j. h.key (suc j)) h.room (listing a b).rows (ascending_distinct (λ (r : Row). r.key) (listing a b).rows I.ascends)
      (λ r m. found_held v r.key r.left p (I.right r m).0)

  -- the delta of two versions of a sound heap is at most N long
  pub delta-room : delta_deep (version h v) (version h w) ≡ false → length (delta (version h v) (version h w)) ≤ h.room
  delta-room d =
      let O = versions_one-heap h S v w p q in
      distinct_most (λ (c : Change). c.key) (λ j. h.key (suc j)) h.room (delta a b) (delta-once a b O d) (λ c m. differing_held c.key ((delta_keys a b O d c.key).0 (c, m, refl)))
