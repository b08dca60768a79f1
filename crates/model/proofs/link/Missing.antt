-- Missing: the indexes below count that are not heard.
use mathlib.Core.Path.{◌≡◌, refl, ap, sym, ◌∙◌}
use mathlib.Core.Logic.{◌↔◌}
use Prim.Native.Nat.{ℕ, zero, suc, ◌+◌, ◌-◌, ◌*◌, ◌/◌, ◌%◌, ◌^◌, ◌≤◌, ◌<◌}
use mathlib.Core.Bool.{true}
use mathlib.Core.List.{List}
use lib.Count.{ones, ones_step, ones-le}
use borrow.Author.Tests.{eqb-true, eqb-false, eq-eqb}
use native.Mathlib.Omega.{arith}
use native.Mathlib.Numerals.{one-add}
use native.Mathlib.Nat.{add-zero, add-suc, pow-suc}
use native.Mathlib.Decide.{ℕ_discrete}
use Rattle.model.specs.Heap.{hit, hits}
use Rattle.model.specs.Block.{word, bit, Words}
use Rattle.model.specs.Inbox.{count_of, heard_bit, heard_at, SoundInbox, marked, heard_in, missing}
use Rattle.model.proofs.block.Bits.{bit-zero, bit-suc}
use Rattle.model.proofs.block.Counts.{hit_yes, hit_no, hits_same, hits_change, hits_none, hits_some}
use Rattle.model.proofs.link.Heard.{Markable, unheard-bit, marked_here, marked_other, marked-count, marked_sound, marked-words}

-- counted in two runs
hits_more : (f : ℕ → ℕ) (n k j : ℕ) → hits f n (k + j) ≡ hits f n k + hits (λ i. f (k + i)) n j
unfolding hits
hits_more f n k zero = rw (add-zero k) (omega arith)
hits_more f n k (suc j) = rw (add-suc k j) (omega (arith, hits_more f n k j))

hit-bit : (b : ℕ) → b < 2 → (hit b 1 ≡ b) × (hit b 0 + hit b 1 ≡ 1)
unfolding hit
hit-bit zero h = (refl, refl)
hit-bit (suc zero) h = (refl, refl)
hit-bit (suc (suc b)) h = absurd (omega arith)

-- bits are 0 or 1
hits-both : (f : ℕ → ℕ) (k : ℕ) → ((i : ℕ) → f i < 2) → hits f 0 k + hits f 1 k ≡ k
unfolding hits
hits-both f zero h = refl
hits-both f (suc k) h = omega (arith, (hit-bit (f k) (h k)).1, hits-both f k h)

-- the ones of a word of k bits are its bits that are 1
ones_hits : (k w : ℕ) → w < 2 ^ k → ones w ≡ hits (bit w) 1 k
unfolding hits
ones_hits zero w h = omega (arith, ones-le 0 w h)
ones_hits (suc k) w h =
    let low : hit (bit w 0) 1 ≡ w % 2 = (hit-bit (bit w 0) (omega arith)).0 ∙ bit-zero w in
    let high : hits (λ i. bit w (1 + i)) 1 k ≡ hits (bit (w / 2)) 1 k = hits_same (bit (w / 2)) (λ i. bit w (1 + i)) 1 k (λ i l. ap (bit w) (omega arith) ∙ bit-suc w i) in
    let first : hits (bit w) 1 1 ≡ hit (bit w 0) 1 = add-zero (hit (bit w 0) 1) in
    let split : hits (bit w) 1 (suc k) ≡ hits (bit w) 1 1 + hits (λ i. bit w (1 + i)) 1 k = ap (hits (bit w) 1) (sym (one-add k)) ∙ hits_more (bit w) 1 1 k in
    omega (arith, split, first, low, high, ones_step w, ones_hits k (w / 2) (omega (arith, pow-suc 2 k)))

-- the bits heard in the first k heard words are the indexes heard below 32k
heard_in-hits : (x : List ℕ) → Words x → (k : ℕ) → heard_in x k ≡ hits (heard_bit x) 1 (32 * k)
unfolding heard_in
heard_in-hits x W zero = unfold hits in refl
heard_in-hits x W (suc k) =
    let more : 32 * suc k ≡ 32 * k + 32 = omega arith in
    let here : hits (λ i. heard_bit x (32 * k + i)) 1 32 ≡ hits (bit (word x (2 + k))) 1 32 =
    hits_same (bit (word x (2 + k))) (λ i. heard_bit x (32 * k + i)) 1 32 (λ i l. same i l) in
    rw (more, hits_more (heard_bit x) 1 (32 * k) 32) (omega (arith, here, ones_hits 32 (word x (2 + k)) (W (2 + k)), heard_in-hits x W k))
  where
    same : (i : ℕ) → i < 32 → heard_bit x (32 * k + i) ≡ bit (word x (2 + k)) i
    same i l =
        let q : (32 * k + i) / 32 ≡ k = omega arith in
        let r : (32 * k + i) % 32 ≡ i = omega arith in
        rw (q, r)

module _ (x : List ℕ) (S : SoundInbox x) (W : Words x) where
  -- all that is heard is below count
  heard_below : heard_in x 128 ≡ hits (heard_bit x) 1 (count_of x)
  heard_below =
      let n = count_of x in
      let all : hits (heard_bit x) 1 4096 ≡ hits (heard_bit x) 1 n + hits (λ i. heard_bit x (n + i)) 1 (4096 - n) =
      ap (hits (heard_bit x) 1) (omega (arith, S.small)) ∙ hits_more (heard_bit x) 1 n (4096 - n) in
      let above : hits (λ i. heard_bit x (n + i)) 1 (4096 - n) ≡ 0 =
      hits_none (λ i. heard_bit x (n + i)) 1 (4096 - n) (λ i h. eqb-false (heard_bit x (n + i)) 1 (S.clear (n + i) (omega arith) (omega arith))) in
      omega (arith, heard_in-hits x W 128, all, above)

  -- no more is heard than count
  pub heard_most : heard_in x 128 ≤ count_of x
  heard_most = omega (arith, heard_below, hits-both (heard_bit x) (count_of x) (λ i. omega arith))

  -- missing is the number of indexes below count whose bit is 0
  pub missing_counts : missing x ≡ hits (heard_bit x) 0 (count_of x)
  unfolding missing
  missing_counts = omega (arith, heard_below, hits-both (heard_bit x) (count_of x) (λ i. omega arith))

  -- none is missing exactly when every index below count is heard
  pub missing-zero : (missing x ≡ 0) ↔ ((i : ℕ) → i < count_of x → heard_at x i ≡ true)
  missing-zero = (to, back)
    where
      to : missing x ≡ 0 → (i : ℕ) → i < count_of x → heard_at x i ≡ true
      to z i h = eq-eqb (heard_bit x i) 1 (go (ℕ_discrete (heard_bit x i) 0))
        where
          go : Dec (heard_bit x i ≡ 0) → heard_bit x i ≡ 1
          go (yes e) = absurd (omega (arith, z, missing_counts, hits_some (heard_bit x) 0 (count_of x) i h e))
          go (no e) = omega arith

      back : ((i : ℕ) → i < count_of x → heard_at x i ≡ true) → missing x ≡ 0
      back all = missing_counts ∙ hits_none (heard_bit x) 0 (count_of x) (λ i h. omega (arith, eqb-true (heard_bit x i) 1 (all i h)))

-- a new index is one less of those below count that are not heard
marked-less : {x : List ℕ} {count index : ℕ} → Markable x count index → Words x → hits (heard_bit x) 0 count ≡ suc (missing (marked x count index))
marked-less {x} {count} {index} M W =
    let y = marked x count index in
    let after = missing_counts y (marked_sound M) (marked-words M W) ∙ ap (hits (heard_bit y) 0) (marked-count M) in
    let change = hits_change (heard_bit x) (heard_bit y) 0 count index M.below (λ j _ ne. marked_other M j ne) in
    let before = hit_yes (heard_bit x index) 0 (unheard-bit x index M.new) in
    let now = hit_no (heard_bit y index) 0 (omega (arith, marked_here M)) in
    omega (arith, after, change, before, now)

-- once the count is known, a new index is one less missing
pub missing-marked : {x : List ℕ} {count index : ℕ} → Markable x count index → Words x → count_of x ≡ count → missing x ≡ suc (missing (marked x count index))
missing-marked {x} M W e = missing_counts x M.sound W ∙ ap (hits (heard_bit x) 0) e ∙ marked-less M W

-- the first index leaves all others missing
pub missing_first : {x : List ℕ} {count index : ℕ} → Markable x count index → Words x → count_of x ≡ 0 → count ≡ suc (missing (marked x count index))
missing_first {x} {count} M W e =
    let none = hits_none (heard_bit x) 1 count (λ i h. eqb-false (heard_bit x i) 1 (M.sound.clear i (omega arith) (omega (arith, M.small)))) in
    omega (arith, hits-both (heard_bit x) count (λ i. omega arith), none, marked-less M W)
