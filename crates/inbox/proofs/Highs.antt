-- A word has no bit from k on exactly when it is 0 after a shift by k; so the heard words are tested one at a time.
use mathlib.Core.Path.{◌≡◌, refl, sym, subst, ◌∙◌}
use mathlib.Core.Bool.{Bool, true, false}
use Rattle.std.specs.Bool.{MatchBool}
use Rattle.std.specs.List.{AllWithin, HoldsAt, range_with_len}
use Rattle.std.proofs.lemmas.List.FromFn.{length-range_with_len, get_or-range_with_len}
use Prim.Native.Nat.{ℕ, zero, suc, ◌+◌, ◌-◌, ◌*◌, ◌/◌, ◌%◌, ◌^◌, ◌≤◌, ◌<◌}
use mathlib.Core.List.{List}
use lib.ListN.{length}
use lib.Dec.{eqb}
use lib.Pow.{pow_pos, pow_mono}
use borrow.Author.Tests.{ne_eqb}
use native.Mathlib.Omega.{arith}
use native.Mathlib.Nat.{pow-suc, div-lt_iff_lt-mul, div-eq_of_lt}
use native.Mathlib.Decide.{ℕ_discrete}
use Rattle.model.specs.Block.{word, bit}
use Rattle.model.specs.Inbox.{count_of, heard_bit, SoundInbox}
use Rattle.model.proofs.link.Heard.{unheard-bit}
use Rattle.model.specs.Tells.{Tells}
use Rattle.inbox.specs.Heard.{WordClear, Below}
use Rattle.model.proofs.maps.Tells.{tells_eqb}

below_pow : (x k : ℕ) → x / 2 ^ k ≡ 0 → x < 2 ^ k
below_pow x k e =
    let h : x < 1 * 2 ^ k = (div-lt_iff_lt-mul {k = 2 ^ k} {x = x} {y = 1} (pow_pos k)).0 (omega (arith, e)) in
    omega arith

bit_high : (x k j : ℕ) → x < 2 ^ k → k ≤ j → bit x j ≡ 0
bit_high x k j lt le = let h : x / 2 ^ j ≡ 0 = div-eq_of_lt (omega (arith, pow_mono {i = k} {j = j} le)) in rw h

-- no bit from k to k + d, so below 2 ^ k
pub no_high : (d k x : ℕ) → x < 2 ^ (k + d) → ((j : ℕ) → k ≤ j → j < k + d → bit x j ≡ 0) → x < 2 ^ k
no_high zero k x lt f = subst (λ m. x < 2 ^ m) (omega arith) lt
no_high (suc d) k x lt f = no_high d k x (below_pow x (k + d) top) (λ j le l. f j le (omega arith))
  where
    whole : x < 2 * 2 ^ (k + d)
    whole =
        let e : k + suc d ≡ suc (k + d) = omega arith in
        let h : x < 2 ^ suc (k + d) = subst (λ m. x < 2 ^ m) e lt in
        omega (arith, pow-suc 2 (k + d))

    top : x / 2 ^ (k + d) ≡ 0
    top = omega (arith, (div-lt_iff_lt-mul {k = 2 ^ (k + d)} {x = x} {y = 2} (pow_pos (k + d))).1 whole, f (k + d) (omega arith) (omega arith))

-- y is heard word w, and its first k bits are below count
module _ (x : List ℕ) (count w k y : ℕ) (B : Below count (32 * w) k) (e : y ≡ word x (2 + w)) (lt : y < 2 ^ 32) where
  pub word_clear : Tells (eqb (y / 2 ^ k) 0) (WordClear x count w)
  unfolding WordClear
  word_clear = tells_eqb (y / 2 ^ k) 0 to back
    where
      to : y / 2 ^ k ≡ 0 → (j : ℕ) → j < 32 → count ≤ 32 * w + j → bit (word x (2 + w)) j ≡ 0
      to z j l le = subst (λ v. bit v j ≡ 0) e (bit_high y k j (below_pow y k z) (B.from j l le))

      most : 32 ≡ k + (32 - k)
      most = omega (arith, B.most)

      back : ((j : ℕ) → j < 32 → count ≤ 32 * w + j → bit (word x (2 + w)) j ≡ 0) → y / 2 ^ k ≡ 0
      back f = div-eq_of_lt (no_high (32 - k) k y (subst (λ m. y < 2 ^ m) most lt)
          (λ j le l. subst (λ v. bit v j ≡ 0) (sym e) (f j (omega (arith, B.most)) (B.to j (omega (arith, B.most)) le))))

-- the first k heard words are clear
abbrev pub WordsClear : List ℕ → (count k : ℕ) → Type 0
WordsClear x count k = (w : ℕ) → w < k → WordClear x count w

pub words_more : (x : List ℕ) (count k : ℕ) → WordsClear x count k → WordClear x count k → WordsClear x count (k + 1)
words_more x count k f z w lt = go (ℕ_discrete w k)
  where
    go : Dec (w ≡ k) → WordClear x count w
    go (yes e) = rw e z
    go (no e) = f w (omega arith)

module _ (x : List ℕ) (count : ℕ) (e : count ≡ count_of x) where
  -- all words clear: the inbox is sound
  pub words_sound : length x ≡ 130 → count ≤ 4096 → (k : ℕ) → 128 ≤ k → WordsClear x count k → SoundInbox x
  unfolding WordClear
  words_sound long le k all f = record {
    long = long;
    small = omega arith;
    clear = λ i lo hi. ne_eqb (heard_bit x i) 1 (λ one. omega (arith, one, f (i / 32) (omega arith) (i % 32) (omega arith) (omega arith)));
  }

  -- and each word of a sound inbox is
  pub sound_word : (w : ℕ) → w < 128 → SoundInbox x → WordClear x count w
  unfolding WordClear
  sound_word w lt S j l le =
      let p : (32 * w + j) / 32 ≡ w = omega arith in
      let q : (32 * w + j) % 32 ≡ j = omega arith in
      let h = unheard-bit x (32 * w + j) (S.clear (32 * w + j) (omega arith) (omega arith)) in
      rw (p, q) at h

-- the first n heard words, asked one after another: all are clear, or one is not
pub sound_told : (x : List ℕ) (r : Bool) (n : ℕ) → n ≡ 128 → length x ≡ 130 → count_of x ≤ 4096
    → MatchBool r (AllWithin (WordClear x (count_of x)) (range_with_len 0 n) 0 (length (range_with_len 0 n))) ((k : ℕ) × (k < length (range_with_len 0 n)) × HoldsAt (λ w. ¬ WordClear x (count_of x) w) (range_with_len 0 n) k)
    → Tells r (SoundInbox x)
sound_told x true n e long small all = words_sound x (count_of x) refl long small n (omega arith) (λ w l. subst (WordClear x (count_of x)) (get_or-range_with_len 0 n w 0 l ∙ omega arith) (all w 0 (omega arith) (omega (arith, length-range_with_len 0 n))))
sound_told x false n e long small (k, l, bad) = let h : k < n = omega (arith, length-range_with_len 0 n) in
    λ S. bad 0 (subst (WordClear x (count_of x)) (sym (get_or-range_with_len 0 n k 0 h ∙ omega arith)) (sound_word x (count_of x) refl k (omega arith) S))
