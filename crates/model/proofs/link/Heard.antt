-- The inbox: begun, and marked.
use mathlib.Core.Path.{◌≡◌, refl, ap, sym, ◌∙◌}
use mathlib.Core.Logic.{◌≢◌, ◌⊎◌, inl, inr, ⊎_elim, ◌↔◌}
use Prim.Native.Nat.{ℕ, zero, suc, ◌+◌, ◌/◌, ◌%◌, ◌^◌, ◌≤◌, ◌<◌}
use mathlib.Core.Bool.{true, false, false≢true}
use mathlib.Core.List.{List}
use lib.ListN.{length, get_or, set, replicate, length-set, length-replicate}
use lib.Seq.{get_or-set_same, get_or-set_other}
use borrow.Author.Tests.{eqb-false}
use native.Mathlib.Omega.{arith}
use native.Mathlib.Nat.{pow-suc}
use native.Mathlib.Decide.{ℕ_discrete}
use Rattle.model.specs.Block.{word, bit, Words}
use Rattle.model.specs.Inbox.{batch_of, count_of, heard_bit, heard_at, SoundInbox, begun, marked}
use Rattle.model.proofs.block.Bits.{bit-zero, bit-suc, bit-set_same, bit-set_other}

-- a bit is 0 unless it is heard
pub unheard-bit : (x : List ℕ) (i : ℕ) → heard_at x i ≡ false → heard_bit x i ≡ 0
unheard-bit x i e = omega (arith, eqb-false (heard_bit x i) 1 e)

-- no bit of 0 is set
bit_none : (j : ℕ) → ◌≡◌ {A = ℕ} (bit 0 j) 0
bit_none zero = refl
bit_none (suc j) = bit-suc 0 j ∙ bit_none j

zeros : (n i : ℕ) → ◌≡◌ {A = ℕ} (get_or (replicate n 0) i 0) 0
zeros zero i = refl
zeros (suc n) zero = refl
zeros (suc n) (suc i) = zeros n i

begun-word : (batch i : ℕ) → word (begun batch) (suc i) ≡ 0
unfolding begun
begun-word batch i = zeros 129 i

-- nothing is heard in an inbox just begun
pub begun_heard : (batch i : ℕ) → heard_at (begun batch) i ≡ false
begun_heard batch i =
    let e : word (begun batch) (2 + i / 32) ≡ 0 = ap (word (begun batch)) (omega arith) ∙ begun-word batch (1 + i / 32) in
    rw (e, bit_none (i % 32))

-- an inbox just begun has its batch
pub begun_batch : (batch : ℕ) → batch_of (begun batch) ≡ batch
unfolding begun
begun_batch batch = refl

-- and no count yet
pub begun-count : (batch : ℕ) → count_of (begun batch) ≡ 0
unfolding begun
begun-count batch = refl

-- an inbox just begun is sound
pub begun_sound : (batch : ℕ) → SoundInbox (begun batch)
unfolding begun
begun_sound batch = record { long = ap suc (length-replicate {A = ℕ} 129 0); small = omega arith; clear = λ i _ _. begun_heard batch i }

-- its words are u32 if the batch is
pub begun-words : (batch : ℕ) → batch < 2 ^ 32 → Words (begun batch)
unfolding begun
begun-words batch h zero = h
begun-words batch h (suc i) = omega (arith, begun-word batch i)

-- a bit that is 0 can be added
pub bit-room : (k j w : ℕ) → j < k → w < 2 ^ k → bit w j ≡ 0 → w + 2 ^ j < 2 ^ k
bit-room zero j w h f e = absurd (omega arith)
bit-room (suc k) zero w h f e = omega (arith, pow-suc 2 k, bit-zero w)
bit-room (suc k) (suc j) w h f e =
    omega (arith, pow-suc 2 k, pow-suc 2 j, bit-room k j (w / 2) (omega arith) (omega (arith, pow-suc 2 k)) (sym (bit-suc w j) ∙ e))

-- an index below count, not heard before; the count was unknown or the same
pub record Markable (x : List ℕ) (count index : ℕ) : Type 0 where
  pub sound : SoundInbox x
  pub small : count ≤ 4096
  pub below : index < count
  pub counts : (count_of x ≡ 0) ⊎ (count_of x ≡ count)
  pub new : heard_at x index ≡ false

module _ {x : List ℕ} {count index : ℕ} (M : Markable x count index) where
  -- the heard word with the bit added
  abbrev now : ℕ
  now = word x (2 + index / 32) + 2 ^ (index % 32)

  spot : 2 + index / 32 < length (set x 1 count)
  spot = rw (length-set x 1 count) (omega (arith, M.sound.long, M.small, M.below))

  -- the batch stays
  pub marked_batch : batch_of (marked x count index) ≡ batch_of x
  unfolding marked
  marked_batch = get_or-set_other (set x 1 count) (2 + index / 32) 0 now 0 (omega arith) ∙ get_or-set_other x 1 0 count 0 (omega arith)

  -- the count is set
  pub marked-count : count_of (marked x count index) ≡ count
  unfolding marked
  marked-count = get_or-set_other (set x 1 count) (2 + index / 32) 1 now 0 (omega arith) ∙ get_or-set_same x 1 count 0 (omega (arith, M.sound.long))

  word_here : word (marked x count index) (2 + index / 32) ≡ now
  unfolding marked
  word_here = get_or-set_same (set x 1 count) (2 + index / 32) now 0 spot

  word_other : (i : ℕ) → i ≢ 1 → i ≢ 2 + index / 32 → word (marked x count index) i ≡ word x i
  unfolding marked
  word_other i p q = get_or-set_other (set x 1 count) (2 + index / 32) i now 0 q ∙ get_or-set_other x 1 i count 0 p

  was : heard_bit x index ≡ 0
  was = unheard-bit x index M.new

  -- the index's bit is set
  pub marked_here : heard_bit (marked x count index) index ≡ 1
  marked_here = rw word_here (bit-set_same (index % 32) (word x (2 + index / 32)) was)

  -- and no other bit changes
  pub marked_other : (j : ℕ) → j ≢ index → heard_bit (marked x count index) j ≡ heard_bit x j
  marked_other j ne = go (ℕ_discrete (j / 32) (index / 32))
    where
      go : Dec (j / 32 ≡ index / 32) → heard_bit (marked x count index) j ≡ heard_bit x j
      go (yes e) = rw (e, word_here) (bit-set_other (index % 32) (j % 32) (word x (2 + index / 32)) was (omega arith))
      go (no e) = rw (word_other (2 + j / 32) (omega arith) (omega arith))

  -- what is heard then is what was heard before, and the index
  pub marked_heard : (j : ℕ) → (heard_at (marked x count index) j ≡ true) ↔ ((j ≡ index) ⊎ (heard_at x j ≡ true))
  marked_heard j = (to (ℕ_discrete j index), back)
    where
      to : Dec (j ≡ index) → heard_at (marked x count index) j ≡ true → (j ≡ index) ⊎ (heard_at x j ≡ true)
      to (yes e) h = inl e
      to (no e) h = inr (rw (marked_other j e) at h)

      back : (j ≡ index) ⊎ (heard_at x j ≡ true) → heard_at (marked x count index) j ≡ true
      back (inl e) = rw (e, marked_here)
      back (inr h) = rw (marked_other j (λ e. false≢true (sym M.new ∙ ap (heard_at x) (sym e) ∙ h))) h

  -- the inbox stays sound
  pub marked_sound : SoundInbox (marked x count index)
  unfolding marked
  marked_sound = record {
    long = length-set (set x 1 count) (2 + index / 32) now ∙ length-set x 1 count ∙ M.sound.long;
    small = rw marked-count M.small;
    clear = λ i p q. clear i (rw marked-count at p) q;
  }
    where
      clear : (i : ℕ) → count ≤ i → i < 4096 → heard_at (marked x count index) i ≡ false
      clear i p q = rw (marked_other i (omega (arith, M.below))) (M.sound.clear i (⊎_elim (λ e. omega arith) (λ e. omega arith) M.counts) q)

  -- its words stay u32
  pub marked-words : Words x → Words (marked x count index)
  marked-words W i = go (ℕ_discrete i 1) (ℕ_discrete i (2 + index / 32))
    where
      go : Dec (i ≡ 1) → Dec (i ≡ 2 + index / 32) → word (marked x count index) i < 2 ^ 32
      go (yes p) d = rw (p, marked-count) (omega (arith, M.small))
      go (no p) (yes q) = rw (q, word_here) (bit-room 32 (index % 32) (word x (2 + index / 32)) (omega arith) (W (2 + index / 32)) was)
      go (no p) (no q) = rw (word_other i p q) (W i)
