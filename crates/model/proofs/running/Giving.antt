-- A new root and a lowered count: links and trees stay, and the counts are exact but for what is owed.
use mathlib.Core.Path.{◌≡◌, refl, ap, sym, ◌∙◌}
use Prim.Native.Nat.{ℕ, zero, suc, ◌+◌, ◌≤◌, ◌<◌}
use mathlib.Core.Bool.{false, true≢false}
use native.Mathlib.Omega.{arith}
use native.Mathlib.Decide.{ℕ_discrete}
use Rattle.model.specs.Heap.{Heap, Occupied, Named, size_at, sum_at, tree, hit, refs, Linked, Blank, Counted}
use Rattle.model.specs.Moves.{Same, Rooted, Lowered, Gave}
use Rattle.model.proofs.block.Loads.{frame}
use Rattle.model.proofs.block.Counts.{hit_yes, hit_no, hits_same, hits_change}

module _ {h g : Heap} (S : Same h g) (L : Linked h) (rooted : (v : ℕ) → v < 16 → Named h (g.root v)) (blanks : (m : ℕ) → h.occupied m ≡ false → g.count m ≡ h.count m) where
  there : (m : ℕ) → Named h m → Named g m
  there zero o = tt
  there (suc m) o = S.occupied (suc m) ∙ o

  there_size : (m : ℕ) → size_at g m ≡ size_at h m
  there_size zero = refl
  there_size (suc m) = S.size (suc m)

  there_sum : (m : ℕ) → sum_at g m ≡ sum_at h m
  there_sum zero = refl
  there_sum (suc m) = S.sum (suc m)

  back : (m : ℕ) → Occupied g m → Occupied h m
  back m o = sym (S.occupied m) ∙ o

  pub same_linked : Linked g
  same_linked = record {
    within = λ m o. rw S.room (L.within m (back m o));
    roots = λ v lt. there (g.root v) (rooted v lt);
    lefts = λ m o. rw (S.left m) (there (h.left m) (L.lefts m (back m o)));
    rights = λ m o. rw (S.right m) (there (h.right m) (L.rights m (back m o)));
    sizes = λ m o. rw (S.size m, S.left m, S.right m, there_size (h.left m), there_size (h.right m)) (L.sizes m (back m o));
    sums = λ m o. rw (S.sum m, S.value m, S.left m, S.right m, there_sum (h.left m), there_sum (h.right m)) (L.sums m (back m o));
    blank = blank;
  }
    where
      blank : (m : ℕ) → 1 ≤ m → m ≤ g.room → g.occupied m ≡ false → Blank g m
      blank m p q z =
          let z' = sym (S.occupied m) ∙ z in
          let b = L.blank m p (rw S.room at q) z' in
          record { key = S.key m ∙ b.key; value = S.value m ∙ b.value; left = S.left m ∙ b.left; right = S.right m ∙ b.right; size = S.size m ∙ b.size; count = blanks m z' ∙ b.count; sum = S.sum m ∙ b.sum }

  pub same_trees : (m : ℕ) → Named h m → tree g m ≡ tree h m
  unfolding tree
  same_trees m o = rw (there_size m) (frame h g L (λ x _. S.key x) (λ x _. S.value x) (λ x _. S.left x) (λ x _. S.right x) (size_at h m) m o)

pub same_refs : {h g : Heap} → Same h g → ((v : ℕ) → v < 16 → g.root v ≡ h.root v) → (x : ℕ) → refs g x ≡ refs h x
unfolding refs
same_refs {h} {g} S r x = rw (S.room, hits_same h.root g.root x 16 r, hits_same (λ i. h.left (suc i)) (λ i. g.left (suc i)) x h.room (λ i _. S.left (suc i)), hits_same (λ i. h.right (suc i)) (λ i. g.right (suc i)) x h.room (λ i _. S.right (suc i)))

-- A new root at v

pub rooted_counted : {h g : Heap} {v n : ℕ} → Rooted h g v n → (extra : ℕ → ℕ) → Counted h (λ x. extra x + hit n x)
    → Counted g (λ x. extra x + hit (h.root v) x)
unfolding refs
rooted_counted {h} {g} {v} {n} R extra c m o =
    let S = R.same in
    let l = hits_same (λ i. h.left (suc i)) (λ i. g.left (suc i)) m h.room (λ i _. S.left (suc i)) in
    let r = hits_same (λ i. h.right (suc i)) (λ i. g.right (suc i)) m h.room (λ i _. S.right (suc i)) in
    let t = hits_change h.root g.root m 16 v R.there (λ w lt ne. R.others w lt ne) in
    let e : hit (g.root v) m ≡ hit n m = ap (λ y. hit y m) R.here in
    rw S.room (omega (arith, R.counts m, c m (sym (S.occupied m) ∙ o)))

-- The count of n one lower

module _ {h g : Heap} {n : ℕ} (W : Lowered h g n) (L : Linked h) where
  pub lowered_linked : Linked g
  lowered_linked = same_linked W.same L (λ v lt. rw (W.root v lt) (L.roots v lt)) (λ m z. W.others m (λ e. true≢false (sym W.was ∙ sym (ap h.occupied e) ∙ z)))

  pub lowered_counted : (extra : ℕ → ℕ) → Counted h (λ x. extra x + hit n x) → Counted g extra
  lowered_counted extra c m o = go (ℕ_discrete m n)
    where
      o' : Occupied h m
      o' = sym (W.same.occupied m) ∙ o

      e : refs g m ≡ refs h m
      e = same_refs W.same W.root m

      go : Dec (m ≡ n) → g.count m ≡ refs g m + extra m
      go (yes p) = omega (arith, ap g.count p, ap h.count p, W.here, c m o', e, hit_yes n m (sym p))
      go (no p) = omega (arith, W.others m p, c m o', e, hit_no n m (λ q. p (sym q)))

  pub lowered_trees : (m : ℕ) → Named h m → tree g m ≡ tree h m
  lowered_trees = same_trees W.same L (λ v lt. rw (W.root v lt) (L.roots v lt)) (λ m z. W.others m (λ e. true≢false (sym W.was ∙ sym (ap h.occupied e) ∙ z)))

-- What giving up references comes to

pub named_before : {h g : Heap} → Gave h g → (m : ℕ) → Named g m → Named h m
named_before G zero o = tt
named_before G (suc m) o = G.fewer (suc m) o

pub gave_trans : {a b c : Heap} → Gave a b → Gave b c → Gave a c
gave_trans G H = record {
  linked = H.linked;
  room = H.room ∙ G.room;
  root = λ v lt. H.root v lt ∙ G.root v lt;
  fewer = λ m o. G.fewer m (H.fewer m o);
  trees = λ m o. H.trees m o ∙ G.trees m (named_before H m o);
  positive = λ m o p. H.positive m o (G.positive m (H.fewer m o) p);
}

-- more references are left: the count is lowered and that is all
pub gave_lowered : {h g : Heap} {n : ℕ} → Linked h → Lowered h g n → 1 ≤ g.count n → Gave h g
gave_lowered {h} {g} {n} L W p = record {
  linked = lowered_linked W L;
  room = W.same.room;
  root = W.root;
  fewer = λ m o. sym (W.same.occupied m) ∙ o;
  trees = λ m o. lowered_trees W L m (named m o);
  positive = λ m o q. go m q (ℕ_discrete m n);
}
  where
    named : (m : ℕ) → Named g m → Named h m
    named zero o = tt
    named (suc m) o = sym (W.same.occupied (suc m)) ∙ o

    go : (m : ℕ) → 1 ≤ h.count m → Dec (m ≡ n) → 1 ≤ g.count m
    go m q (yes e) = rw e p
    go m q (no e) = rw (W.others m e) q
