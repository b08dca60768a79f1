-- What one make, one emptying, one lowered count and one new root do to a heap.
use mathlib.Core.Path.{◌≡◌, refl, ap, sym, ◌∙◌}
use mathlib.Core.Logic.{◌≢◌}
use Prim.Native.Nat.{ℕ, zero, suc, ◌+◌, ◌≤◌, ◌<◌}
use mathlib.Core.Bool.{Bool, true, false, true≢false}
use native.Mathlib.Omega.{arith}
use native.Mathlib.Decide.{ℕ_discrete}
use Rattle.model.specs.Tree.{node}
use Rattle.model.specs.Heap.{Heap, Occupied, Named, size_at, sum_at, tree, hit, refs, Linked, Blank, Counted}
use Rattle.model.specs.Moves.{Except, Made, Emptied}
use Rattle.model.proofs.block.Loads.{frame, tree_node}
use Rattle.model.proofs.block.Counts.{hit_no, hits_same, hits_change, hits_none, hits_some}

pub refs_except : (h g : Heap) (n x : ℕ) → Except h g n → 1 ≤ n → n ≤ h.room
    → refs g x + (hit (h.left n) x + hit (h.right n) x) ≡ refs h x + (hit (g.left n) x + hit (g.right n) x)
unfolding refs
refs_except h g zero x E p q = absurd (omega arith)
refs_except h g (suc n) x E p q =
    let a = hits_same h.root g.root x 16 E.root in
    let b = hits_change (λ i. h.left (suc i)) (λ i. g.left (suc i)) x h.room n (omega arith) (λ j _ ne. E.left (suc j) (omega arith)) in
    let c = hits_change (λ i. h.right (suc i)) (λ i. g.right (suc i)) x h.room n (omega arith) (λ j _ ne. E.right (suc j) (omega arith)) in
    rw E.room (omega arith)

-- what refs ≡ 0 says
module _ (h : Heap) (x : ℕ) (none : refs h x ≡ 0) where
  not_root : (v : ℕ) → v < 16 → h.root v ≢ x
  unfolding refs
  not_root v lt e = absurd (omega (arith, none, hits_some h.root x 16 v lt e))

  not_left : (m : ℕ) → 1 ≤ m → m ≤ h.room → h.left m ≢ x
  unfolding refs
  not_left zero p q e = absurd (omega arith)
  not_left (suc m) p q e = absurd (omega (arith, none, hits_some (λ i. h.left (suc i)) x h.room m (omega arith) e))

  not_right : (m : ℕ) → 1 ≤ m → m ≤ h.room → h.right m ≢ x
  unfolding refs
  not_right zero p q e = absurd (omega arith)
  not_right (suc m) p q e = absurd (omega (arith, none, hits_some (λ i. h.right (suc i)) x h.room m (omega arith) e))

-- no link names an unoccupied node
pub refs_unoccupied : (h : Heap) (n : ℕ) → Linked h → 1 ≤ n → h.occupied n ≡ false → refs h n ≡ 0
unfolding refs
refs_unoccupied h n L p z = omega (arith, hits_none h.root n 16 (λ v lt. unnamed (h.root v) (L.roots v lt)), hits_none (λ i. h.left (suc i)) n h.room (λ i lt. link h.left (λ m b. b.left) L.lefts i lt), hits_none (λ i. h.right (suc i)) n h.room (λ i lt. link h.right (λ m b. b.right) L.rights i lt))
  where
    unnamed : (m : ℕ) → Named h m → m ≢ n
    unnamed zero o e = absurd (omega arith)
    unnamed (suc m) o e = true≢false (sym o ∙ ap h.occupied e ∙ z)

    link : (f : ℕ → ℕ) → ((m : ℕ) → Blank h m → f m ≡ 0) → ((m : ℕ) → Occupied h m → Named h (f m)) → (i : ℕ) → i < h.room → f (suc i) ≢ n
    link f zeros named i lt = go (h.occupied (suc i)) refl
      where
        go : (b : Bool) → h.occupied (suc i) ≡ b → f (suc i) ≢ n
        go true o = unnamed (f (suc i)) (named (suc i) o)
        go false o = λ e. absurd (omega (arith, zeros (suc i) (L.blank (suc i) (omega arith) (omega arith) o)))

-- Make

module _ {h g : Heap} {n l r : ℕ} (M : Made h g n l r) (L : Linked h) (named_l : Named h l) (named_r : Named h r) where
  other : (m : ℕ) → Occupied h m → m ≢ n
  other m o e = true≢false (sym o ∙ ap h.occupied e ∙ M.free)

  pub still : (m : ℕ) → Named h m → Named g m
  still zero o = tt
  still (suc m) o = M.except.occupied (suc m) (other (suc m) o) ∙ o

  still_size : (m : ℕ) → Named h m → size_at g m ≡ size_at h m
  still_size zero o = refl
  still_size (suc m) o = M.except.size (suc m) (other (suc m) o)

  still_sum : (m : ℕ) → Named h m → sum_at g m ≡ sum_at h m
  still_sum zero o = refl
  still_sum (suc m) o = M.except.sum (suc m) (other (suc m) o)

  old : (m : ℕ) → m ≢ n → Occupied g m → Occupied h m
  old m ne o = sym (M.except.occupied m ne) ∙ o

  pub made_linked : Linked g
  made_linked = record { within = within; roots = λ v lt. rw (M.except.root v lt) (still (h.root v) (L.roots v lt)); lefts = lefts; rights = rights; sizes = sizes; sums = sums; blank = blank }
    where
      within : (m : ℕ) → Occupied g m → (1 ≤ m) × (m ≤ g.room)
      within m o = go (ℕ_discrete m n)
        where
          go : Dec (m ≡ n) → (1 ≤ m) × (m ≤ g.room)
          go (yes e) = rw (e, M.except.room) (M.low, M.high)
          go (no e) = rw M.except.room (L.within m (old m e o))

      lefts : (m : ℕ) → Occupied g m → Named g (g.left m)
      lefts m o = go (ℕ_discrete m n)
        where
          go : Dec (m ≡ n) → Named g (g.left m)
          go (yes e) = rw (e, M.left) (still l named_l)
          go (no e) = rw (M.except.left m e) (still (h.left m) (L.lefts m (old m e o)))

      rights : (m : ℕ) → Occupied g m → Named g (g.right m)
      rights m o = go (ℕ_discrete m n)
        where
          go : Dec (m ≡ n) → Named g (g.right m)
          go (yes e) = rw (e, M.right) (still r named_r)
          go (no e) = rw (M.except.right m e) (still (h.right m) (L.rights m (old m e o)))

      sizes : (m : ℕ) → Occupied g m → g.size m ≡ suc (size_at g (g.left m) + size_at g (g.right m))
      sizes m o = go (ℕ_discrete m n)
        where
          go : Dec (m ≡ n) → g.size m ≡ suc (size_at g (g.left m) + size_at g (g.right m))
          go (yes e) = rw (e, M.left, M.right, still_size l named_l, still_size r named_r) M.size
          go (no e) = rw (M.except.size m e, M.except.left m e, M.except.right m e, still_size (h.left m) (L.lefts m (old m e o)), still_size (h.right m) (L.rights m (old m e o))) (L.sizes m (old m e o))

      sums : (m : ℕ) → Occupied g m → g.sum m ≡ g.value m + (sum_at g (g.left m) + sum_at g (g.right m))
      sums m o = go (ℕ_discrete m n)
        where
          go : Dec (m ≡ n) → g.sum m ≡ g.value m + (sum_at g (g.left m) + sum_at g (g.right m))
          go (yes e) = rw (e, M.left, M.right, still_sum l named_l, still_sum r named_r) M.sum
          go (no e) = rw (M.except.sum m e, M.except.value m e, M.except.left m e, M.except.right m e, still_sum (h.left m) (L.lefts m (old m e o)), still_sum (h.right m) (L.rights m (old m e o))) (L.sums m (old m e o))

      blank : (m : ℕ) → 1 ≤ m → m ≤ g.room → g.occupied m ≡ false → Blank g m
      blank m p q z =
          let ne : m ≢ n = λ e. true≢false (sym M.occupied ∙ sym (ap g.occupied e) ∙ z) in
          let z' : h.occupied m ≡ false = sym (M.except.occupied m ne) ∙ z in
          let b = L.blank m p (rw M.except.room at q) z' in
          record { key = M.except.key m ne ∙ b.key; value = M.except.value m ne ∙ b.value; left = M.except.left m ne ∙ b.left; right = M.except.right m ne ∙ b.right; size = M.except.size m ne ∙ b.size; count = M.blanks m z' ne ∙ b.count; sum = M.except.sum m ne ∙ b.sum }

  -- how the number of references changes
  pub made_refs : (x : ℕ) → 1 ≤ x → refs g x ≡ refs h x + (hit l x + hit r x)
  made_refs x p =
      let b = L.blank n M.low M.high M.free in
      let e = refs_except h g n x M.except M.low M.high in
      let e₁ : hit (h.left n) x ≡ 0 = hit_no (h.left n) x (λ e. absurd (omega (arith, b.left))) in
      let e₂ : hit (h.right n) x ≡ 0 = hit_no (h.right n) x (λ e. absurd (omega (arith, b.right))) in
      let e₃ : hit (g.left n) x ≡ hit l x = ap (λ y. hit y x) M.left in
      let e₄ : hit (g.right n) x ≡ hit r x = ap (λ y. hit y x) M.right in
      omega arith

  -- neither child is the node itself
  not_self : (y : ℕ) → Named h y → hit y n ≡ 0
  not_self zero o = hit_no 0 n (λ e. absurd (omega (arith, M.low)))
  not_self (suc y) o = hit_no (suc y) n (other (suc y) o)

  pub made_unnamed : refs g n ≡ 0
  made_unnamed = omega (arith, made_refs n M.low, refs_unoccupied h n L M.low M.free, not_self l named_l, not_self r named_r)

  pub made_counted : (extra : ℕ → ℕ) → extra n ≡ 0 → Counted h extra → Counted g extra
  made_counted extra z c m o = go (ℕ_discrete m n)
    where
      go : Dec (m ≡ n) → g.count m ≡ refs g m + extra m
      go (yes e) = rw e (omega (arith, M.count, made_unnamed, z))
      go (no e) = omega (arith, M.counts m (old m e o), made_refs m (L.within m (old m e o)).0, c m (old m e o))

  pub made_old : (m : ℕ) → Named h m → tree g m ≡ tree h m
  unfolding tree
  made_old m o = rw (still_size m o) (frame h g L (λ x p. M.except.key x (other x p)) (λ x p. M.except.value x (other x p)) (λ x p. M.except.left x (other x p)) (λ x p. M.except.right x (other x p)) (size_at h m) m o)

  pub made_new : tree g n ≡ node n (g.key n) (g.value n) (tree h l) (tree h r)
  made_new = tree_node g made_linked n M.occupied ∙ rw (M.left, M.right, made_old l named_l, made_old r named_r)

-- Empty: a node that nothing names becomes zeros, and its two references are left over

module _ {h g : Heap} {n : ℕ} (E : Emptied h g n) (L : Linked h) (none : refs h n ≡ 0) where
  pub gone : (m : ℕ) → Occupied g m → m ≢ n
  gone m o e = true≢false (sym o ∙ ap g.occupied e ∙ E.free)

  stays : (m : ℕ) → m ≢ n → Named h m → Named g m
  stays zero ne o = tt
  stays (suc m) ne o = E.except.occupied (suc m) ne ∙ o

  pub stays_size : (m : ℕ) → m ≢ n → size_at g m ≡ size_at h m
  stays_size zero ne = refl
  stays_size (suc m) ne = E.except.size (suc m) ne

  stays_sum : (m : ℕ) → m ≢ n → sum_at g m ≡ sum_at h m
  stays_sum zero ne = refl
  stays_sum (suc m) ne = E.except.sum (suc m) ne

  pub before : (m : ℕ) → Occupied g m → Occupied h m
  before m o = sym (E.except.occupied m (gone m o)) ∙ o

  pub emptied_linked : Linked g
  emptied_linked = record { within = λ m o. rw E.except.room (L.within m (before m o)); roots = λ v lt. rw (E.except.root v lt) (stays (h.root v) (not_root h n none v lt) (L.roots v lt)); lefts = lefts; rights = rights; sizes = sizes; sums = sums; blank = blank }
    where
      nl : (m : ℕ) → Occupied g m → h.left m ≢ n
      nl m o = not_left h n none m (L.within m (before m o)).0 (L.within m (before m o)).1

      nr : (m : ℕ) → Occupied g m → h.right m ≢ n
      nr m o = not_right h n none m (L.within m (before m o)).0 (L.within m (before m o)).1

      lefts : (m : ℕ) → Occupied g m → Named g (g.left m)
      lefts m o = rw (E.except.left m (gone m o)) (stays (h.left m) (nl m o) (L.lefts m (before m o)))

      rights : (m : ℕ) → Occupied g m → Named g (g.right m)
      rights m o = rw (E.except.right m (gone m o)) (stays (h.right m) (nr m o) (L.rights m (before m o)))

      sizes : (m : ℕ) → Occupied g m → g.size m ≡ suc (size_at g (g.left m) + size_at g (g.right m))
      sizes m o = rw (E.except.size m (gone m o), E.except.left m (gone m o), E.except.right m (gone m o), stays_size (h.left m) (nl m o), stays_size (h.right m) (nr m o)) (L.sizes m (before m o))

      sums : (m : ℕ) → Occupied g m → g.sum m ≡ g.value m + (sum_at g (g.left m) + sum_at g (g.right m))
      sums m o = rw (E.except.sum m (gone m o), E.except.value m (gone m o), E.except.left m (gone m o), E.except.right m (gone m o), stays_sum (h.left m) (nl m o), stays_sum (h.right m) (nr m o)) (L.sums m (before m o))

      blank : (m : ℕ) → 1 ≤ m → m ≤ g.room → g.occupied m ≡ false → Blank g m
      blank m p q z = go (ℕ_discrete m n)
        where
          go : Dec (m ≡ n) → Blank g m
          go (yes e) = rw e E.blank
          go (no ne) =
              let b = L.blank m p (rw E.except.room at q) (sym (E.except.occupied m ne) ∙ z) in
              record { key = E.except.key m ne ∙ b.key; value = E.except.value m ne ∙ b.value; left = E.except.left m ne ∙ b.left; right = E.except.right m ne ∙ b.right; size = E.except.size m ne ∙ b.size; count = E.counts m ne ∙ b.count; sum = E.except.sum m ne ∙ b.sum }

  pub emptied_counted : (extra : ℕ → ℕ) → Counted h extra → Counted g (λ x. extra x + (hit (h.left n) x + hit (h.right n) x))
  emptied_counted extra c m o =
      let w = L.within n E.was in
      let p = L.within m (before m o) in
      let e = refs_except h g n m E.except w.0 w.1 in
      let e₁ : hit (g.left n) m ≡ 0 = hit_no (g.left n) m (λ q. absurd (omega (arith, E.blank.left))) in
      let e₂ : hit (g.right n) m ≡ 0 = hit_no (g.right n) m (λ q. absurd (omega (arith, E.blank.right))) in
      omega (arith, E.counts m (gone m o), c m (before m o))

  pub emptied_tree : (m : ℕ) → m ≢ n → Named h m → tree g m ≡ tree h m
  unfolding tree
  emptied_tree m ne o = sym (rw (sym (stays_size m ne)) (frame g h emptied_linked (λ x p. sym (E.except.key x (gone x p))) (λ x p. sym (E.except.value x (gone x p))) (λ x p. sym (E.except.left x (gone x p))) (λ x p. sym (E.except.right x (gone x p))) (size_at g m) m (stays m ne o)))
