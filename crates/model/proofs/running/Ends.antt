-- The end of a call: the new root is counted and set, the old one given up, and what nothing names is emptied.
use mathlib.Core.Path.{◌≡◌, refl, ap, sym, subst, ◌∙◌}
use mathlib.Core.Logic.{◌≢◌}
use Prim.Native.Nat.{ℕ, zero, suc, ◌+◌, ◌*◌, ◌/◌, ◌≤◌, ◌<◌}
use mathlib.Core.Bool.{Bool, true, false, true≢false}
use mathlib.Core.List.{List}
use lib.ListN.{set, length-set}
use lib.Seq.{get_or-set_same, get_or-set_other}
use native.Mathlib.Omega.{arith}
use native.Mathlib.Decide.{ℕ_discrete, dec_lt}
use Rattle.model.specs.Heap.{Heap, Occupied, Named, tree, version, hit, Linked, Counted, Kept}
use Rattle.model.specs.Block.{word, room, width, node_word, occupied_at, heap, Shaped}
use Rattle.model.specs.Moves.{Rooted, Raised, Gave, Owed, Paid, Freed, Running, Holds, FullBelow, HeldBelow, Tidied, Swept, Finished}
use Rattle.model.proofs.block.Bits.{word-free}
use Rattle.model.proofs.block.Counts.{hit_no}
use Rattle.model.proofs.running.Giving.{same_linked, same_trees, same_refs, rooted_counted, gave_trans}
use Rattle.model.proofs.running.Pieces.{stood_refs}
use Rattle.model.proofs.block.Versions.{gave_version}

-- A root set

pub roots_set : (b e : List ℕ) (v n : ℕ) → Shaped b → v < 16 → e ≡ set b (1 + v) n → Shaped e × Rooted (heap b) (heap e) v n
roots_set b e v n B lt q = rw q (
  record { least = rw k B.least; most = rw k B.most; whole = rw k B.whole; long = rw k (length-set b (1 + v) n ∙ B.long) },
  record {
    same = record { room = k; occupied = occupied; key = words 0; value = words 1; left = words 2; right = words 3; size = words 4; sum = λ m. omega (arith, words 6 m, words 7 m) };
    there = lt;
    here = get_or-set_same b (1 + v) n 0 (omega (arith, B.long));
    others = λ w l ne. get_or-set_other b (1 + v) (1 + w) n 0 (omega arith);
    counts = words 5;
  },
)
  where
    k : room (set b (1 + v) n) ≡ room b
    k = get_or-set_other b (1 + v) 0 n 0 (omega arith)

    occupied : (m : ℕ) → occupied_at (set b (1 + v) n) m ≡ occupied_at b m
    occupied zero = refl
    occupied (suc m) = rw (k, get_or-set_other b (1 + v) (17 + m / 32) n 0 (omega arith))

    words : (j m : ℕ) → node_word (set b (1 + v) n) j m ≡ node_word b j m
    words j zero = refl
    words j (suc m) = rw k (get_or-set_other b (1 + v) (17 + room b / 32 + width * m + j) n 0 (omega arith))

-- Emptying what nothing names

-- a node of some size is occupied
pub sized : {b : List ℕ} {n : ℕ} → Running b → 1 ≤ n → n ≤ room b → node_word b 4 n ≢ 0 → Occupied (heap b) n
sized {b} {n} R p q ne = go (occupied_at b n) refl
  where
    go : (t : Bool) → occupied_at b n ≡ t → occupied_at b n ≡ true
    go true e = e
    go false e = absurd (ne (R.linked.blank n p q e).size)

-- a call makes no node below `from`: those that stand there stood at entry, and have a reference still
pub held-from : (b : List ℕ) {e : List ℕ} {ps : List ℕ} {own : ℕ → ℕ} {from : ℕ} → FullBelow (heap b) from → Holds (heap b) (heap e) ps own → Running e
    → HeldBelow (heap e) from
held-from b {e} F H R zero lt o = absurd (omega (arith, R.linked.within 0 o))
held-from b {e} F H R (suc m) lt o = omega (arith, stood_refs (suc m) H.entry H.over (F (suc m) (omega arith) lt), R.counts (suc m) o)

gave_none : {h : Heap} → Linked h → Gave h h
gave_none L = record { linked = L; room = refl; root = λ v lt. refl; fewer = λ m o. o; trees = λ m o. refl; positive = λ m o p. p }

gave_held : {h g : Heap} {n : ℕ} → Gave h g → HeldBelow h n → HeldBelow g n
gave_held G H m lt o = G.positive m o (H m lt (G.fewer m o))

pub tidied_start : {b : List ℕ} {n : ℕ} → Running b → HeldBelow (heap b) n → Tidied b b n
tidied_start R H = record { running = R; gave = gave_none R.linked; held = H }

-- node n has a reference, or is not occupied
pub tidied_held : {b : List ℕ} {n : ℕ} → Running b → HeldBelow (heap b) n → (Occupied (heap b) n → 1 ≤ node_word b 5 n) → Tidied b b (n + 1)
tidied_held {b} {n} R H here = tidied_start R (λ m lt o. go m lt o (ℕ_discrete m n))
  where
    go : (m : ℕ) → m < n + 1 → Occupied (heap b) m → Dec (m ≡ n) → 1 ≤ node_word b 5 m
    go m lt o (yes e) = rw e (here (rw (← e) o))
    go m lt o (no e) = H m (omega arith) o

-- node n had none and was emptied
pub tidied_freed : {b e : List ℕ} {n : ℕ} → Running b → HeldBelow (heap b) n → Shaped e → Freed (heap b) (heap e) n → Tidied b e (n + 1)
tidied_freed {b} {e} {n} R H S F = record {
  running = record { shaped = S; linked = F.gave.linked; counts = F.counts (λ x. 0) R.counts };
  gave = F.gave;
  held = λ m lt o. go m lt o (ℕ_discrete m n);
}
  where
    go : (m : ℕ) → m < n + 1 → Occupied (heap e) m → Dec (m ≡ n) → 1 ≤ node_word e 5 m
    go m lt o (yes q) = absurd (F.free (rw (← q) o))
    go m lt o (no q) = gave_held F.gave H m (omega arith) o

pub tidied_then : {b c e : List ℕ} {i j : ℕ} → Tidied b c i → Tidied c e j → Tidied b e j
tidied_then {b} {c} {e} T U = record { running = U.running; gave = gave_trans T.gave U.gave; held = U.held }

-- no node of an occupancy word of 0 is occupied
pub tidied_over : {b e : List ℕ} {n : ℕ} (w : ℕ) → Tidied b e n → 32 * w < n → word e (17 + w) ≡ 0 → Tidied b e (32 * w + 33)
tidied_over {b} {e} {n} w T le z = record { running = T.running; gave = T.gave; held = λ m lt o. go m lt o (dec_lt m n) }
  where
    go : (m : ℕ) → m < 32 * w + 33 → Occupied (heap e) m → Dec (m < n) → 1 ≤ node_word e 5 m
    go m lt o (yes p) = T.held m p o
    go zero lt o (no p) = absurd (omega arith)
    go (suc k) lt o (no p) =
        let q : 17 + k / 32 ≡ 17 + w = omega arith in
        absurd (true≢false (sym o ∙ word-free e k (ap (word e) q ∙ z)))

pub swept : {b e : List ℕ} {n : ℕ} → Tidied b e n → room b < n → Swept b e
swept {b} {e} {n} T lt = record {
  shaped = T.running.shaped;
  gave = T.gave;
  kept = record { linked = L; counts = λ m o. omega (arith, T.running.counts m o); held = λ m o. T.held m (omega (arith, L.within m o, T.gave.room)) o };
}
  where
    L : Linked (heap e)
    L = T.running.linked

-- A new root in the place of the old one

-- n was raised from h to g, and set as the root of version d from g to k
pub record Rerooted (h g k : Heap) (d n old : ℕ) : Type 0 where
  pub linked : Linked h
  pub counts : Counted h (λ x. 0)
  pub there : d < 16
  pub named : Named h n
  pub was : old ≡ h.root d
  pub raised : Raised h g n
  pub rooted : Rooted g k d n

module _ {h g k : Heap} {d n old : ℕ} (E : Rerooted h g k d n old) where
  raised_blank : (m : ℕ) → h.occupied m ≡ false → g.count m ≡ h.count m
  raised_blank zero z = E.raised.none
  raised_blank (suc m) z = omega (arith, E.raised.counts (suc m) (omega arith), miss n E.named)
    where
      miss : (x : ℕ) → Named h x → hit x (suc m) ≡ 0
      miss zero o = hit_no zero (suc m) (omega arith)
      miss (suc x) o = hit_no (suc x) (suc m) (λ e. true≢false (sym o ∙ ap h.occupied e ∙ z))

  raised_roots : (v : ℕ) → v < 16 → Named h (g.root v)
  raised_roots v lt = rw (E.raised.root v lt) (E.linked.roots v lt)

  raised_linked : Linked g
  raised_linked = same_linked E.raised.same E.linked raised_roots raised_blank

  raised_named : (m : ℕ) → Named h m → Named g m
  raised_named zero p = tt
  raised_named (suc m) p = E.raised.same.occupied (suc m) ∙ p

  raised_counted : Counted g (λ x. 0 + hit n x)
  raised_counted m p =
      let q : Occupied h m = sym (E.raised.same.occupied m) ∙ p in
      omega (arith, E.raised.counts m (E.linked.within m q).0, E.counts m q, same_refs E.raised.same E.raised.root m)

  rooted_roots : (v : ℕ) → v < 16 → Named g (k.root v)
  rooted_roots v lt = go (ℕ_discrete v d)
    where
      go : Dec (v ≡ d) → Named g (k.root v)
      go (yes e) = rw (ap k.root e ∙ E.rooted.here) (raised_named n E.named)
      go (no e) = rw (E.rooted.others v lt e) (raised_linked.roots v lt)

  pub rooted_linked : Linked k
  rooted_linked = same_linked E.rooted.same raised_linked rooted_roots (λ m z. E.rooted.counts m)

  rooted_trees : (m : ℕ) → Named h m → tree k m ≡ tree h m
  rooted_trees m p = same_trees E.rooted.same raised_linked rooted_roots (λ m z. E.rooted.counts m) m (raised_named m p) ∙ same_trees E.raised.same E.linked raised_roots raised_blank m p

  rooted_named : (m : ℕ) → Named h m → Named k m
  rooted_named zero p = tt
  rooted_named (suc m) p = E.rooted.same.occupied (suc m) ∙ raised_named (suc m) p

  owed_counts : Counted k (λ x. 0 + hit old x)
  owed_counts =
      let q : g.root d ≡ old = E.raised.root d E.there ∙ sym E.was in
      subst (λ y. Counted k (λ x. 0 + hit y x)) q (rooted_counted E.rooted (λ x. 0) raised_counted)

  pub owed_old : Owed k old
  owed_old = record { named = rooted_named old (rw E.was (E.linked.roots d E.there)); extra = λ x. 0; counts = owed_counts }

  -- the old root has been given up
  pub paid_counted : {f : Heap} → Paid k f old → Counted f (λ x. 0)
  paid_counted P = P.counts (λ x. 0) owed_counts

  pub paid_held : {f : Heap} {from : ℕ} → Paid k f old → HeldBelow h from → HeldBelow f from
  paid_held {f} {from} P H = gave_held P.gave (λ m lt o. let o' : Occupied h m = sym (E.raised.same.occupied m) ∙ sym (E.rooted.same.occupied m) ∙ o in omega (arith, H m lt o', E.rooted.counts m, E.raised.counts m (E.linked.within m o').0))

  pub finished_here : {f : Heap} → Gave k f → version f d ≡ tree h n
  finished_here G = gave_version G d E.there ∙ ap (tree k) E.rooted.here ∙ rooted_trees n E.named

  pub finished_others : {f : Heap} → Gave k f → (v : ℕ) → v < 16 → v ≢ d → version f v ≡ version h v
  finished_others G v lt ne = gave_version G v lt ∙ ap (tree k) (E.rooted.others v lt ne ∙ E.raised.root v lt) ∙ rooted_trees (h.root v) (E.linked.roots v lt)

module _ (b c e : List ℕ) {f : List ℕ} {d n old : ℕ} (E : Rerooted (heap b) (heap c) (heap e) d n old) (S : Shaped f) (P : Paid (heap e) (heap f) old) where
  pub paid_running : Running f
  paid_running = record { shaped = S; linked = P.gave.linked; counts = paid_counted E P }

  pub finished : {after : List ℕ} → Swept f after → Finished b after d n
  finished {after} W = record {
    shaped = W.shaped;
    kept = W.kept;
    room_kept = G.room ∙ E.rooted.same.room ∙ E.raised.same.room;
    here = finished_here E G;
    others = finished_others E G;
  }
    where
      G : Gave (heap e) (heap after)
      G = gave_trans P.gave W.gave
