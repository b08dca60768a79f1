-- Restore in a user's words: each number exactly when document 02 says, the lines' entries and the lines themselves back, a node for each line, and one answer.
use mathlib.Core.Path.{◌≡◌, refl, ap, sym, subst, ◌∙◌}
use mathlib.Core.Logic.{◌≢◌, ◌↔◌}
use Prim.Native.Nat.{ℕ, zero, suc, ◌+◌, ◌-◌, ◌*◌, ◌/◌, ◌≤◌, ◌<◌}
use mathlib.Core.Bool.{Bool, true, false, true≢false}
use mathlib.Core.Option.{Option, none, some}
use mathlib.Core.List.{List, [], ◌∷◌}
use native.Mathlib.Omega.{arith}
use native.Mathlib.Decide.{ℕ_discrete, dec_le}
use lib.ListN.{length}
use lib.Dec.{ltb}
use borrow.Author.Tests.{ltb-false, le-ltb}
use Rattle.model.specs.Tree.{leaf, Entry, entries, AllAbove, Sorted}
use Rattle.model.specs.Supply.{short}
use Rattle.model.specs.Balance.{Balanced}
use Rattle.model.specs.Listing.{listing, left_entries}
use Rattle.model.specs.Heap.{version, free_from, free, supply}
use Rattle.model.specs.Block.{heap, Words, Shaped, SoundBlock}
use Rattle.model.specs.Numbers.{SHAPE, DAMAGED, VERSION, NO_ROOM, ZERO, LINE, ORDER}
use Rattle.model.specs.Calls.{fails, passes, Versions, Edited}
use Rattle.model.specs.Text.{entry_lines, entry_of, line_at, line_count, entry_at, entries_from, entries_of}
use Rattle.model.specs.Restore.{ascends, fault_at, Faultless, FirstFault, restored, built, Restore}
use Rattle.model.proofs.maps.Tests.{not_false}
use Rattle.model.proofs.maps.Sorts.{all_above_trans}
use Rattle.model.proofs.listing.Listings.{listing_alone}
use Rattle.model.proofs.block.Pinned.{edited_once}
use Rattle.model.proofs.calls.Checks.{not_done, given, other}
use Rattle.model.proofs.calls.Once.{check_once}
use Rattle.model.proofs.link.Texts.{entry_only, entries-length, entry_at_lem, Printed, printed_whole, printed_back}
use Rattle.model.proofs.calls.Builds.{built-entries, built-balanced, built_makes, makes, makes_short}

-- The faults of a line.

-- what is wrong with line i, test by test
pub data Way (t : List ℕ) (i : ℕ) : ℕ → Type 0 where
  malformed : entry_of (line_at t i) ≡ none → Way t i LINE
  nothing : (e : Entry) → entry_of (line_at t i) ≡ some e → e.1 ≡ 0 → Way t i ZERO
  behind : (e : Entry) → entry_of (line_at t i) ≡ some e → e.1 ≢ 0 → ascends t i e.0 ≡ false → Way t i ORDER
  fine : (e : Entry) → entry_of (line_at t i) ≡ some e → e.1 ≢ 0 → ascends t i e.0 ≡ true → Way t i 0

module _ (t : List ℕ) (i : ℕ) where
  pub fault_line : entry_of (line_at t i) ≡ none → fault_at t i ≡ LINE
  unfolding fault_at
  fault_line p = rw (p, fault_at)

  module _ (e : Entry) (p : entry_of (line_at t i) ≡ some e) where
    pub fault_zero : e.1 ≡ 0 → fault_at t i ≡ ZERO
    unfolding fault_at
    fault_zero z = rw (p, fault_at) (rw z)

    module _ (v : ℕ) (n : e.1 ≡ suc v) where
      fault_order : ascends t i e.0 ≡ false → fault_at t i ≡ ORDER
      unfolding fault_at
      fault_order a = rw (p, fault_at) (rw n (rw a))

      fault_none : ascends t i e.0 ≡ true → fault_at t i ≡ 0
      unfolding fault_at
      fault_none a = rw (p, fault_at) (rw n (rw a))

  pub fault_way : Way t i (fault_at t i)
  fault_way = first (entry_of (line_at t i)) refl
    where
      third : (e : Entry) → entry_of (line_at t i) ≡ some e → (v : ℕ) → e.1 ≡ suc v → (b : Bool) → ascends t i e.0 ≡ b → Way t i (fault_at t i)
      third e p v n true a = subst (Way t i) (sym (fault_none e p v n a)) (fine e p (λ z. omega arith) a)
      third e p v n false a = subst (Way t i) (sym (fault_order e p v n a)) (behind e p (λ z. omega arith) a)

      second : (e : Entry) → entry_of (line_at t i) ≡ some e → (w : ℕ) → e.1 ≡ w → Way t i (fault_at t i)
      second e p zero z = subst (Way t i) (sym (fault_zero e p z)) (nothing e p z)
      second e p (suc v) n = third e p v n (ascends t i e.0) refl

      first : (o : Option Entry) → entry_of (line_at t i) ≡ o → Way t i (fault_at t i)
      first none p = subst (Way t i) (sym (fault_line p)) (malformed p)
      first (some e) p = second e p e.1 refl

-- a line is malformed; it is well formed and its value is 0; its value is another and its key is not above that of the line before it
abbrev pub Malformed : List ℕ → ℕ → Type 0
Malformed t i = entry_of (line_at t i) ≡ none

abbrev pub Empty : List ℕ → ℕ → Type 0
Empty t i = (e : Entry) × (entry_of (line_at t i) ≡ some e) × (e.1 ≡ 0)

abbrev pub Behind : List ℕ → ℕ → Type 0
Behind t i = (e : Entry) × (entry_of (line_at t i) ≡ some e) × (e.1 ≢ 0) × (0 < i) × (e.0 ≤ (entry_at t (i - 1)).0)

not_ascending : (t : List ℕ) (i k : ℕ) → (ascends t i k ≡ false) ↔ ((0 < i) × (k ≤ (entry_at t (i - 1)).0))
unfolding ascends
not_ascending t zero k = ((λ e. absurd (true≢false e)), (λ h. absurd (omega (arith, h.0))))
not_ascending t (suc j) k =
    let e : suc j - 1 ≡ j = omega arith in
    rw e ((λ q. (omega arith, omega (arith, ltb-false (entry_at t j).0 k q))), (λ h. le-ltb (entry_at t j).0 k h.1))

-- each number of a line exactly when it is so
module _ (t : List ℕ) (i : ℕ) where
  unlike : {e : Entry} → entry_of (line_at t i) ≡ none → entry_of (line_at t i) ≡ some e → ⊥
  unlike p q = let z : ◌≡◌ {A = ℕ} 0 1 = cc (sym p ∙ q) in omega arith

  alike : {d e : Entry} → entry_of (line_at t i) ≡ some d → entry_of (line_at t i) ≡ some e → d ≡ e
  alike p q = cc (sym p ∙ q)

  pub line_means : (fault_at t i ≡ LINE) ↔ Malformed t i
  line_means = (go (fault_way t i), fault_line t i)
    where
      go : {n : ℕ} → Way t i n → n ≡ LINE → Malformed t i
      go (malformed p) q = p
      go (nothing e p z) q = absurd (omega arith)
      go (behind e p n a) q = absurd (omega arith)
      go (fine e p n a) q = absurd (omega arith)

  pub zero_means : (fault_at t i ≡ ZERO) ↔ Empty t i
  zero_means = (go (fault_way t i), λ h. fault_zero t i h.0 h.1 h.2)
    where
      go : {n : ℕ} → Way t i n → n ≡ ZERO → Empty t i
      go (malformed p) q = absurd (omega arith)
      go (nothing e p z) q = (e, p, z)
      go (behind e p n a) q = absurd (omega arith)
      go (fine e p n a) q = absurd (omega arith)

  pub order_means : (fault_at t i ≡ ORDER) ↔ Behind t i
  order_means = (go (fault_way t i), back (fault_way t i))
    where
      go : {n : ℕ} → Way t i n → n ≡ ORDER → Behind t i
      go (malformed p) q = absurd (omega arith)
      go (nothing e p z) q = absurd (omega arith)
      go (behind e p n a) q = let h = (not_ascending t i e.0).0 a in (e, p, n, h.0, h.1)
      go (fine e p n a) q = absurd (omega arith)

      back : {n : ℕ} → Way t i n → Behind t i → n ≡ ORDER
      back (malformed p) h = absurd (unlike p h.1)
      back (nothing e p z) h = absurd (h.2 (ap (λ (x : Entry). x.1) (sym (alike p h.1)) ∙ z))
      back (behind e p n a) h = refl
      back (fine e p n a) h = absurd (true≢false (sym a ∙ (not_ascending t i e.0).1 (h.3, rw (alike p h.1) h.4)))

  -- and a line with none of them is read, has a value, and its key is above that of the line before it
  pub record Good : Type 0 where
    pub said : entry_of (line_at t i) ≡ some (entry_at t i)
    pub value : (entry_at t i).1 ≢ 0
    pub above : 0 < i → (entry_at t (i - 1)).0 < (entry_at t i).0

  pub faultless_good : fault_at t i ≡ 0 → Good
  faultless_good = go (fault_way t i)
    where
      go : {n : ℕ} → Way t i n → n ≡ 0 → Good
      go (malformed p) q = absurd (omega arith)
      go (nothing e p z) q = absurd (omega arith)
      go (behind e p n a) q = absurd (omega arith)
      go (fine e p n a) q =
          let is : entry_at t i ≡ e = entry_at_lem t i e p in
          record {
            said = rw is p;
            value = rw is n;
            above = λ h. rw is (above h (dec_le e.0 (entry_at t (i - 1)).0));
          }
        where
          above : 0 < i → Dec (e.0 ≤ (entry_at t (i - 1)).0) → (entry_at t (i - 1)).0 < e.0
          above h (yes l) = absurd (true≢false (sym a ∙ (not_ascending t i e.0).1 (h, l)))
          above h (no l) = omega arith

  pub good_faultless : (e : Entry) → entry_of (line_at t i) ≡ some e → e.1 ≢ 0 → (0 < i → (entry_at t (i - 1)).0 < e.0) → fault_at t i ≡ 0
  good_faultless e p n above = go (fault_way t i)
    where
      go : {m : ℕ} → Way t i m → m ≡ 0
      go (malformed q) = absurd (unlike q p)
      go (nothing d q z) = absurd (n (ap (λ (x : Entry). x.1) (alike p q) ∙ z))
      go (behind d q m a) = let h = (not_ascending t i d.0).0 a in absurd (omega (arith, h.0, h.1, above h.0, ap (λ (x : Entry). x.0) (alike p q)))
      go (fine d q m a) = refl

-- Texts without a fault.

module _ (t : List ℕ) (F : Faultless t) where
  pub faultless_printed : Printed t
  faultless_printed = record { line = λ i h. (entry_only (line_at t i) (entry_at t i) (faultless_good t i (F i h)).said).0 }

  pub faultless_count : line_count t ≡ length t / 17
  faultless_count = omega (arith, printed_whole t faultless_printed)

  sorted_from : (i k : ℕ) → i + k ≤ line_count t → Sorted (entries_from t i k)
  unfolding entries_from Sorted AllAbove
  sorted_from i zero h = tt
  sorted_from i (suc zero) h = (tt, tt)
  sorted_from i (suc (suc k)) h =
      let S = sorted_from (suc i) (suc k) (omega arith) in
      let e : suc i - 1 ≡ i = omega arith in
      let lt : (entry_at t i).0 < (entry_at t (suc i)).0 = rw e at ((faultless_good t (suc i) (F (suc i) (omega arith))).above (omega arith)) in
      ((lt, all_above_trans (entry_at t i).0 (entry_at t (suc i)).0 (entries_from t (suc (suc i)) k) lt S.0), S)

  -- keys ascend
  pub faultless_sorted : Sorted (entries_of t)
  faultless_sorted = sorted_from 0 (length t / 17) (omega (arith, faultless_count))

-- The tree of the lines.

-- as many makes as lines, and they find room exactly where so many nodes are free
pub restored_makes : (t : List ℕ) (b : List ℕ) → (restored t (supply (heap b))).1 ≡ makes (length (entries_of t)) (supply (heap b))
restored_makes t b = built_makes (length (entries_of t)) (entries_of t) (supply (heap b)) (omega arith)

pub restored-room : (t : List ℕ) (b : List ℕ) → (short (restored t (supply (heap b))).1 ≡ false) ↔ (length t / 17 ≤ length (free (heap b)))
unfolding supply short
restored-room t b =
    let n = entries-length t 0 (length t / 17) in
    let m = makes_short (length (entries_of t)) (supply (heap b)) refl in
    rw (restored_makes t b) ((λ e. omega (arith, n, m.0 e)), (λ h. m.1 (omega (arith, n, h))))

-- no more nodes are free than there are
few_free : (occupied : ℕ → Bool) (i k : ℕ) → length (free_from occupied i k) ≤ k
unfolding free_from
few_free occupied i zero = omega arith
few_free occupied i (suc k) = go (occupied i) refl (few_free occupied (suc i) k)
  where
    go : (b : Bool) → occupied i ≡ b → length (free_from occupied (suc i) k) ≤ k → length (free_from occupied i (suc k)) ≤ suc k
    go true e h = rw (e, free_from) (omega arith)
    go false e h = rw (e, free_from) (omega arith)

-- so more lines than any block has nodes find no room
pub too_many : (t : List ℕ) (b : List ℕ) → Shaped b → 4096 < length t / 17 → short (restored t (supply (heap b))).1 ≡ true
too_many t b S h = not_false (short (restored t (supply (heap b))).1) (λ e. omega (arith, (restored-room t b).0 e, few_free (heap b).occupied 1 (heap b).room, S.most))

-- The call.

-- a restore that answered 0
pub record Done (b after : List ℕ) (v : ℕ) (t : List ℕ) : Type 0 where
  pub sound : SoundBlock b
  pub versions : Versions (v ∷ [])
  pub faultless : Faultless t
  pub enough : short (restored t (supply (heap b))).1 ≡ false
  pub edited : Edited b after v (restored t (supply (heap b))).0

module _ {b after : List ℕ} (v : ℕ) (t : List ℕ) {n line : ℕ} where
  pub restore_done : Restore b after v t n line → n ≡ 0 → Done b after v t
  restore_done (fails p r) z = absurd (not_done 0 r.0 z)
  restore_done (passes p (fails q r)) z = absurd (not_done 1 r.0 z)
  restore_done (passes p (passes q (fails u r))) z = absurd (not_done 2 r.0 z)
  restore_done (passes p (passes q (passes u (fails f r)))) z = absurd (r.0.faulty z)
  restore_done (passes p (passes q (passes u (passes f (fails m r))))) z = absurd (not_done 4 r.0 z)
  restore_done (passes p (passes q (passes u (passes f (passes m r))))) z = record { sound = q; versions = u; faultless = f; enough = m; edited = r.2 }

  -- a refused restore changes nothing
  pub refused_restore_changes_nothing : Restore b after v t n line → n ≢ 0 → after ≡ b
  refused_restore_changes_nothing (fails p r) z = r.2
  refused_restore_changes_nothing (passes p (fails q r)) z = r.2
  refused_restore_changes_nothing (passes p (passes q (fails u r))) z = r.2
  refused_restore_changes_nothing (passes p (passes q (passes u (fails f r)))) z = r.1
  refused_restore_changes_nothing (passes p (passes q (passes u (passes f (fails m r))))) z = r.2
  refused_restore_changes_nothing (passes p (passes q (passes u (passes f (passes m r))))) z = absurd (z r.0)

  -- no other version changes, whatever the answer
  pub restore_leaves_others : Restore b after v t n line → (w : ℕ) → w < 16 → w ≢ v → version (heap after) w ≡ version (heap b) w
  restore_leaves_others R w lt ne = go (ℕ_discrete n 0)
    where
      go : Dec (n ≡ 0) → version (heap after) w ≡ version (heap b) w
      go (yes z) = (restore_done R z).edited.others w lt ne
      go (no z) = ap (λ x. version (heap x) w) (refused_restore_changes_nothing R z)

  module _ (R : Restore b after v t n line) (z : n ≡ 0) where
    abbrev D : Done b after v t
    D = restore_done R z

    -- the entries are the lines'
    pub restore_holds : entries (version (heap after) v) ≡ entries_of t
    restore_holds = ap entries D.edited.here ∙ built-entries (length (entries_of t)) (entries_of t) (supply (heap b)) (omega arith)

    -- printed, they are the text
    pub restore_prints : entry_lines (entries (version (heap after) v)) ≡ t
    restore_prints = ap entry_lines restore_holds ∙ printed_back t (faultless_printed t D.faultless)

    -- and so is the listing against an empty version
    pub restore_lists : (w : ℕ) → version (heap after) w ≡ leaf → (listing (version (heap after) v) (version (heap after) w)).deep ≡ false
        → entry_lines (left_entries (listing (version (heap after) v) (version (heap after) w)).rows) ≡ t
    restore_lists w e d =
        ap (λ u. entry_lines (left_entries (listing (version (heap after) v) u).rows)) e
        ∙ ap entry_lines (listing_alone (version (heap after) v) (ap (λ u. (listing (version (heap after) v) u).deep) (sym e) ∙ d))
        ∙ restore_prints

    pub restore_balanced : Balanced (version (heap after) v)
    restore_balanced = rw D.edited.here (built-balanced (length (entries_of t)) (entries_of t) (supply (heap b)) (omega arith))

  -- no lines: an empty version
  pub restore_empties : Restore b after v t n line → n ≡ 0 → length t ≡ 0 → version (heap after) v ≡ leaf
  unfolding entries_from built
  restore_empties R z e = (restore_done R z).edited.here ∙ (let k : length t / 17 ≡ 0 = omega arith in rw k refl)

-- the first faulty line is one
first_once : (t : List ℕ) (n m i j : ℕ) → FirstFault t n i → FirstFault t m j → (n ≡ m) × (i ≡ j)
first_once t n m i j F G = go (dec_le i j) (dec_le j i)
  where
    go : Dec (i ≤ j) → Dec (j ≤ i) → (n ≡ m) × (i ≡ j)
    go (yes p) (yes q) = let e : i ≡ j = omega arith in (F.is ∙ ap (fault_at t) e ∙ sym G.is, e)
    go (yes p) (no q) = absurd (F.faulty (F.is ∙ G.first i (omega arith)))
    go (no p) q = absurd (G.faulty (G.is ∙ F.first j (omega arith)))

-- for every input there is one possible answer and one possible block afterwards
pub restore_once : (b x y : List ℕ) (v : ℕ) (t : List ℕ) (n m i j : ℕ) → Words x → Words y → Restore b x v t n i → Restore b y v t m j
    → (n ≡ m) × (i ≡ j) × (x ≡ y)
restore_once b x y v t n m i j wx wy A C = check_once A C kept (λ A C. check_once A C kept (λ A C. check_once A C kept (λ A C. check_once A C first (λ A C. check_once A C kept done))))
  where
    kept : {z : ℕ} → (n ≡ z) × (i ≡ 0) × (x ≡ b) → (m ≡ z) × (j ≡ 0) × (y ≡ b) → (n ≡ m) × (i ≡ j) × (x ≡ y)
    kept p q = (p.0 ∙ sym q.0, p.1 ∙ sym q.1, p.2 ∙ sym q.2)

    first : FirstFault t n i × (x ≡ b) → FirstFault t m j × (y ≡ b) → (n ≡ m) × (i ≡ j) × (x ≡ y)
    first p q = let e = first_once t n m i j p.0 q.0 in (e.0, e.1, p.1 ∙ sym q.1)

    done : (n ≡ 0) × (i ≡ 0) × Edited b x v (restored t (supply (heap b))).0
        → (m ≡ 0) × (j ≡ 0) × Edited b y v (restored t (supply (heap b))).0 → (n ≡ m) × (i ≡ j) × (x ≡ y)
    done p q = (p.0 ∙ sym q.0, p.1 ∙ sym q.1, edited_once b x y v _ p.2 q.2 wx wy)

-- The numbers.

-- the block is sound and the version known
abbrev pub Ready : (b : List ℕ) (v : ℕ) → Type 0
Ready b v = SoundBlock b × Versions (v ∷ [])

-- no line before line j is faulty
abbrev pub Before : List ℕ → ℕ → Type 0
Before t j = (j < line_count t) × ((i : ℕ) → i < j → fault_at t i ≡ 0)

-- the number n and the line, exactly; the numbers of a line are 13 and more, and what they mean is said by line-means, zero-means and order-means
pub record Exactly (b : List ℕ) (v : ℕ) (t : List ℕ) (n line : ℕ) : Type 0 where
  pub shape : (n ≡ SHAPE) ↔ (Shaped b → ⊥)
  pub damaged : (n ≡ DAMAGED) ↔ (Shaped b × (SoundBlock b → ⊥))
  pub versions : (n ≡ VERSION) ↔ (SoundBlock b × (Versions (v ∷ []) → ⊥))
  -- the first faulty line decides
  pub fault : (k j : ℕ) → 13 ≤ k → ((n ≡ k) × (line ≡ j)) ↔ (Ready b v × Before t j × (fault_at t j ≡ k))
  -- there are more lines than nodes free at entry
  pub no_room : (n ≡ NO_ROOM) ↔ (Ready b v × Faultless t × (length (free (heap b)) < line_count t))
  -- beside every other number the line is 0
  pub elsewhere : n < 13 → line ≡ 0

module _ (b : List ℕ) (v : ℕ) (t : List ℕ) (n line : ℕ) where
  -- a number of no line
  no_line : n < 13 → (Ready b v → Faultless t) → (k j : ℕ) → 13 ≤ k → ((n ≡ k) × (line ≡ j)) ↔ (Ready b v × Before t j × (fault_at t j ≡ k))
  no_line l f k j h = ((λ e. absurd (omega (arith, e.0))), (λ x. let e : k ≡ 0 = sym x.2 ∙ f x.0 j x.1.0 in absurd (omega arith)))

  a_line : Ready b v → FirstFault t n line → (k j : ℕ) → 13 ≤ k → ((n ≡ k) × (line ≡ j)) ↔ (Ready b v × Before t j × (fault_at t j ≡ k))
  a_line R F k j h = (to, back)
    where
      to : (n ≡ k) × (line ≡ j) → Ready b v × Before t j × (fault_at t j ≡ k)
      to e = (R, rw (← e.1) (F.there, F.first), ap (fault_at t) (sym e.1) ∙ sym F.is ∙ e.0)

      back : Ready b v × Before t j × (fault_at t j ≡ k) → (n ≡ k) × (line ≡ j)
      back x = first_once t n k line j F (record { there = x.1.0; is = sym x.2; faulty = λ e. omega arith; first = x.1.1 })

  room_short : Faultless t → (short (restored t (supply (heap b))).1 ≡ false → ⊥) → length (free (heap b)) < line_count t
  room_short f m = go (dec_le (length t / 17) (length (free (heap b))))
    where
      go : Dec (length t / 17 ≤ length (free (heap b))) → length (free (heap b)) < line_count t
      go (yes l) = absurd (m ((restored-room t b).1 l))
      go (no l) = omega (arith, faultless_count t f)

-- what is wrong with a line is 13 or more
fault_most : (t : List ℕ) (i : ℕ) → fault_at t i ≢ 0 → 13 ≤ fault_at t i
fault_most t i = go (fault_way t i)
  where
    go : {n : ℕ} → Way t i n → n ≢ 0 → 13 ≤ n
    go (malformed p) f = omega arith
    go (nothing e p z) f = omega arith
    go (behind e p n a) f = omega arith
    go (fine e p n a) f = absurd (f refl)

pub restore_numbers : {b after : List ℕ} (v : ℕ) (t : List ℕ) {n line : ℕ} → Restore b after v t n line → Exactly b v t n line
restore_numbers {b} v t {n} {line} (fails p r) = record {
  shape = given r.0 refl p;
  damaged = other r.0 (omega arith) (λ x. p x.0);
  versions = other r.0 (omega arith) (λ x. p x.0.shaped);
  fault = no_line b v t n line (omega (arith, r.0)) (λ x. absurd (p x.0.shaped));
  no_room = other r.0 (omega arith) (λ x. p x.0.0.shaped);
  elsewhere = λ l. r.1;
}
restore_numbers {b} v t {n} {line} (passes p (fails q r)) = record {
  shape = other r.0 (omega arith) (λ x. x p);
  damaged = given r.0 refl (p, q);
  versions = other r.0 (omega arith) (λ x. q x.0);
  fault = no_line b v t n line (omega (arith, r.0)) (λ x. absurd (q x.0));
  no_room = other r.0 (omega arith) (λ x. q x.0.0);
  elsewhere = λ l. r.1;
}
restore_numbers {b} v t {n} {line} (passes p (passes q (fails u r))) = record {
  shape = other r.0 (omega arith) (λ x. x p);
  damaged = other r.0 (omega arith) (λ x. x.1 q);
  versions = given r.0 refl (q, u);
  fault = no_line b v t n line (omega (arith, r.0)) (λ x. absurd (u x.1));
  no_room = other r.0 (omega arith) (λ x. u x.0.1);
  elsewhere = λ l. r.1;
}
restore_numbers {b} v t {n} {line} (passes p (passes q (passes u (fails f r)))) =
    let F = r.0 in
    let m : 13 ≤ n = rw F.is (fault_most t line (λ e. F.faulty (F.is ∙ e))) in
    record {
      shape = other refl (λ e. omega arith) (λ x. x p);
      damaged = other refl (λ e. omega arith) (λ x. x.1 q);
      versions = other refl (λ e. omega arith) (λ x. x.1 u);
      fault = a_line b v t n line (q, u) F;
      no_room = other refl (λ e. omega arith) (λ x. f x.1);
      elsewhere = λ l. absurd (omega arith);
    }
restore_numbers {b} v t {n} {line} (passes p (passes q (passes u (passes f (fails m r))))) = record {
  shape = other r.0 (omega arith) (λ x. x p);
  damaged = other r.0 (omega arith) (λ x. x.1 q);
  versions = other r.0 (omega arith) (λ x. x.1 u);
  fault = no_line b v t n line (omega (arith, r.0)) (λ x. f);
  no_room = given r.0 refl ((q, u), f, room_short b v t n line f m);
  elsewhere = λ l. r.1;
}
restore_numbers {b} v t {n} {line} (passes p (passes q (passes u (passes f (passes m r))))) = record {
  shape = other r.0 (omega arith) (λ x. x p);
  damaged = other r.0 (omega arith) (λ x. x.1 q);
  versions = other r.0 (omega arith) (λ x. x.1 u);
  fault = no_line b v t n line (omega (arith, r.0)) (λ x. f);
  no_room = other r.0 (omega arith) (λ x. omega (arith, x.2, (restored-room t b).0 m, faultless_count t f));
  elsewhere = λ l. r.1;
}
