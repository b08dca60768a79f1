-- The pieces of a running call: a node that the call made is a piece or has a link, once in all, so that one taken apart is named by nothing.
use mathlib.Core.Path.{◌≡◌, refl, ap, sym, ◌∙◌}
use mathlib.Core.Logic.{◌≢◌}
use Prim.Native.Nat.{ℕ, zero, suc, ◌+◌, ◌≤◌, ◌<◌}
use mathlib.Core.Bool.{Bool, true, false, true≢false}
use mathlib.Core.List.{List, [], ◌∷◌}
use native.Mathlib.Omega.{arith}
use native.Mathlib.Decide.{ℕ_discrete, dec_le}
use Rattle.model.specs.Heap.{Heap, Occupied, Named, size_at, tree, version, hit, refs, Linked, Kept}
use Rattle.model.specs.Moves.{Except, Made, Opened, held, Over, Holds}
use Rattle.model.proofs.block.Loads.{frame}
use Rattle.model.proofs.block.Counts.{hit_yes, hit_no, hits_some}
use Rattle.model.proofs.block.Reach.{By, by_root, by_left, by_right, by}
use Rattle.model.proofs.running.Steps.{refs_except, made_refs, made_unnamed}

-- what stood at entry has a reference still
pub stood_refs : {a h : Heap} (n : ℕ) → Kept a → Over a h → Occupied a n → 1 ≤ refs h n
unfolding refs
stood_refs {a} {h} n K W o = go (by a K n o)
  where
    links : (f g : ℕ → ℕ) (m : ℕ) → g m ≡ f m → f m ≡ n → 1 ≤ m → m ≤ h.room → (i : ℕ) × (i < h.room) × (g (suc i) ≡ n)
    links f g zero e q p r = absurd (omega arith)
    links f g (suc i) e q p r = (i, r, e ∙ q)

    within : (m : ℕ) → Occupied a m → (1 ≤ m) × (m ≤ h.room)
    within m p = rw W.room (K.linked.within m p)

    go : By a n → 1 ≤ refs h n
    go (by_root v lt e) = omega (arith, hits_some h.root n 16 v lt (W.root v lt ∙ e))
    go (by_left m p e) = let w = links a.left h.left m (W.left m p) e (within m p).0 (within m p).1 in omega (arith, hits_some (λ i. h.left (suc i)) n h.room w.0 w.1 w.2)
    go (by_right m p e) = let w = links a.right h.right m (W.right m p) e (within m p).0 (within m p).1 in omega (arith, hits_some (λ i. h.right (suc i)) n h.room w.0 w.1 w.2)

-- pieces may be let go of
pub holds-less : {a h : Heap} {ps qs : List ℕ} {own less : ℕ → ℕ} → ((n : ℕ) → 1 ≤ n → held qs n + less n ≤ held ps n + own n)
    → Holds a h ps own → Holds a h qs less
holds-less le H = record { entry = H.entry; over = H.over; named = λ n p q. H.named n p (omega (arith, le n p)); once = λ n p o z. omega (arith, le n p, H.once n p o z) }

-- a piece is named
pub piece_named : {a h : Heap} {ps : List ℕ} {own : ℕ → ℕ} (n : ℕ) → Holds a h ps own → 1 ≤ held ps n + own n → Named h n
piece_named zero H p = tt
piece_named (suc n) H p = H.named (suc n) (omega arith) p

-- one that has a reference stood at entry
pub piece_stood : {a h : Heap} {ps : List ℕ} {own : ℕ → ℕ} (n : ℕ) → Holds a h ps own → 1 ≤ n → 1 ≤ held ps n + own n → Occupied h n
    → 1 ≤ refs h n → a.occupied n ≡ true
piece_stood {a} {h} n H l p o r = go (a.occupied n) refl
  where
    go : (t : Bool) → a.occupied n ≡ t → a.occupied n ≡ true
    go true e = e
    go false e = absurd (omega (arith, H.once n l o e))

-- and one that has none did not
pub piece_new : {a h : Heap} {ps : List ℕ} {own : ℕ → ℕ} (n : ℕ) → Holds a h ps own → refs h n ≡ 0 → a.occupied n ≡ false
piece_new {a} {h} n H r = go (a.occupied n) refl
  where
    go : (t : Bool) → a.occupied n ≡ t → a.occupied n ≡ false
    go true e = absurd (omega (arith, stood_refs n H.entry H.over e))
    go false e = e

-- at entry whatever stands may be a piece
pub holds-start : {a : Heap} {ps : List ℕ} {own : ℕ → ℕ} → Kept a → ((n : ℕ) → 1 ≤ n → 1 ≤ held ps n + own n → Occupied a n) → Holds a a ps own
holds-start {a} K named = record {
  entry = K;
  over = record { room = refl; root = λ v lt. refl; occupied = λ m o. o; key = λ m o. refl; value = λ m o. refl; left = λ m o. refl; right = λ m o. refl; size = λ m o. refl };
  named = named;
  once = λ n p o z. absurd (true≢false (sym o ∙ z));
}

-- a step at n, where nothing stood at entry
over_except : {a h g : Heap} {n : ℕ} → Over a h → Except h g n → ((m : ℕ) → Occupied a m → m ≢ n) → Over a g
over_except W E other = record {
  room = E.room ∙ W.room;
  root = λ v lt. E.root v lt ∙ W.root v lt;
  occupied = λ m o. E.occupied m (other m o) ∙ W.occupied m o;
  key = λ m o. E.key m (other m o) ∙ W.key m o;
  value = λ m o. E.value m (other m o) ∙ W.value m o;
  left = λ m o. E.left m (other m o) ∙ W.left m o;
  right = λ m o. E.right m (other m o) ∙ W.right m o;
  size = λ m o. E.size m (other m o) ∙ W.size m o;
}

-- A make: of the pieces l and r it makes n
module _ {a h g : Heap} {n l r : ℕ} {own : ℕ → ℕ} (M : Made h g n l r) (L : Linked h) (named_l : Named h l) (named_r : Named h r) where
  pub made_holds : Holds a h (l ∷ r ∷ []) own → Holds a g (n ∷ []) own
  unfolding held
  made_holds H = record {
    entry = H.entry;
    over = over_except H.over M.except (λ m o e. true≢false (sym (H.over.occupied m o) ∙ ap h.occupied e ∙ M.free));
    named = λ m p q. names m p q (ℕ_discrete m n);
    once = λ m p o z. single m p o z (ℕ_discrete m n);
  }
    where
      names : (m : ℕ) → 1 ≤ m → 1 ≤ hit n m + 0 + own m → Dec (m ≡ n) → Occupied g m
      names m p q (yes e) = rw e M.occupied
      names m p q (no e) = M.except.occupied m e ∙ H.named m p (omega (arith, hit_no n m (λ x. e (sym x))))

      unheld : Dec (1 ≤ own n) → own n ≡ 0
      unheld (yes p) = absurd (true≢false (sym (H.named n M.low (omega arith)) ∙ M.free))
      unheld (no p) = omega arith

      single : (m : ℕ) → 1 ≤ m → Occupied g m → a.occupied m ≡ false → Dec (m ≡ n) → hit n m + 0 + own m + refs g m ≤ 1
      single m p o z (yes e) = omega (arith, hit_yes n m (sym e), ap own e, unheld (dec_le 1 (own n)), ap (refs g) e, made_unnamed M L named_l named_r)
      single m p o z (no e) =
          let o' : Occupied h m = sym (M.except.occupied m e) ∙ o in
          omega (arith, hit_no n m (λ x. e (sym x)), made_refs M L named_l named_r m p, H.once m p o' z)

-- a link, if it is m, is occupied
link_at : (h : Heap) (c m : ℕ) → Named h c → 1 ≤ m → c ≡ m → Occupied h m
link_at h zero m p q e = absurd (omega arith)
link_at h (suc c) m p q e = rw (← e) p

-- a node with the pieces l and r is named if it is one of them
links_named : (h : Heap) (own : ℕ → ℕ) (l r m : ℕ) → Named h l → Named h r → (1 ≤ own m → Occupied h m) → 1 ≤ m
    → 1 ≤ hit l m + (hit r m + 0) + own m → Occupied h m
links_named h own l r m nl nr f p q = go (ℕ_discrete l m) (ℕ_discrete r m)
  where
    go : Dec (l ≡ m) → Dec (r ≡ m) → Occupied h m
    go (yes e) y = link_at h l m nl p e
    go (no d) (yes e) = link_at h r m nr p e
    go (no d) (no e) = f (omega (arith, hit_no l m d, hit_no r m e))

-- Taking apart: of the piece n it makes its children, which are pieces now
module _ {a h : Heap} {n : ℕ} {own : ℕ → ℕ} (L : Linked h) where
  -- n stood at entry, and its children did
  pub stood_holds : Occupied a n → Holds a h (n ∷ []) own → Holds a h (h.left n ∷ h.right n ∷ []) own
  unfolding held
  stood_holds o H = record {
    entry = H.entry;
    over = H.over;
    named = λ m p q. links_named h own (h.left n) (h.right n) m (L.lefts n o') (L.rights n o') (λ x. H.named m p (omega arith)) p q;
    once = single;
  }
    where
      K : Linked a
      K = H.entry.linked

      o' : Occupied h n
      o' = H.over.occupied n o

      -- a child of n stood, so it is not a node that the call made
      child : (c d m : ℕ) → c ≡ d → Named a d → 1 ≤ m → a.occupied m ≡ false → hit c m ≡ 0
      child c zero m e p q z = hit_no c m (λ x. absurd (omega arith))
      child c (suc d) m e p q z = hit_no c m (λ x. true≢false (sym p ∙ ap a.occupied (sym e ∙ x) ∙ z))

      single : (m : ℕ) → 1 ≤ m → Occupied h m → a.occupied m ≡ false → hit (h.left n) m + (hit (h.right n) m + 0) + own m + refs h m ≤ 1
      single m q p z = omega (
        arith,
        H.once m q p z,
        child (h.left n) (a.left n) m (H.over.left n o) (K.lefts n o) q z,
        child (h.right n) (a.right n) m (H.over.right n o) (K.rights n o) q z,
      )

  -- the call had made it, and it is free now
  pub opened-holds : {g : Heap} → Opened h g n → Named g (h.left n) → Named g (h.right n) → a.occupied n ≡ false → Holds a h (n ∷ []) own
      → Holds a g (h.left n ∷ h.right n ∷ []) own
  unfolding held
  opened-holds {g} O nl nr z H = record {
    entry = H.entry;
    over = over_except H.over E (λ m o e. true≢false (sym o ∙ ap a.occupied e ∙ z));
    named = λ m p q. links_named g own (h.left n) (h.right n) m nl nr (λ x. stays m p x (ℕ_discrete m n)) p q;
    once = single;
  }
    where
      E : Except h g n
      E = O.except

      within : (1 ≤ n) × (n ≤ h.room)
      within = L.within n O.was

      stays : (m : ℕ) → 1 ≤ m → 1 ≤ own m → Dec (m ≡ n) → Occupied g m
      stays m p q (yes e) = absurd (omega (arith, H.once n within.0 O.was z, hit_yes n n refl, ap own e))
      stays m p q (no e) = E.occupied m e ∙ H.named m p (omega arith)

      single : (m : ℕ) → 1 ≤ m → Occupied g m → a.occupied m ≡ false → hit (h.left n) m + (hit (h.right n) m + 0) + own m + refs g m ≤ 1
      single m p o y =
          let ne : m ≢ n = λ e. true≢false (sym o ∙ ap g.occupied e ∙ O.free) in
          let o' : Occupied h m = sym (E.occupied m ne) ∙ o in
          omega (
            arith,
            refs_except h g n m E within.0 within.1,
            hit_no (g.left n) m (λ e. absurd (omega (arith, O.left))),
            hit_no (g.right n) m (λ e. absurd (omega (arith, O.right))),
            H.once m p o' y,
          )

-- The start and the end of a call

-- each of the pieces is named
unfoldable pub AllNamed : Heap → List ℕ → Type 0
AllNamed h [] = Unit {0}
AllNamed h (p ∷ ps) = Named h p × AllNamed h ps

all_named : (h : Heap) (ps : List ℕ) → AllNamed h ps → (n : ℕ) → 1 ≤ n → 1 ≤ held ps n → Occupied h n
unfolding held AllNamed
all_named h [] a n p q = absurd (omega arith)
all_named h (x ∷ ps) a n p q = go (ℕ_discrete x n) (all_named h ps a.1 n p)
  where
    go : Dec (x ≡ n) → (1 ≤ held ps n → Occupied h n) → Occupied h n
    go (yes e) ih = link_at h x n a.0 p e
    go (no e) ih = ih (omega (arith, hit_no x n e))

-- what a call holds at entry
pub start-holds : (a : Heap) (ps : List ℕ) → Kept a → AllNamed a ps → Holds a a ps (λ n. 0)
start-holds a ps K all = holds-start K (λ n p q. all_named a ps all n p (omega arith))

-- what stood at entry has its tree still
pub over-tree : {a h : Heap} → Linked a → Over a h → (m : ℕ) → Named a m → tree h m ≡ tree a m
unfolding tree
over-tree {a} {h} L W m o = rw (size m o) (frame a h L W.key W.value W.left W.right (size_at a m) m o)
  where
    size : (m : ℕ) → Named a m → size_at h m ≡ size_at a m
    size zero o = refl
    size (suc m) o = W.size (suc m) o

pub over-version : {a h : Heap} → Linked a → Over a h → (v : ℕ) → v < 16 → version h v ≡ version a v
over-version {a} {h} L W v lt = ap (tree h) (W.root v lt) ∙ over-tree L W (a.root v) (L.roots v lt)
