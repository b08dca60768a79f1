-- The ones of the heard words are summed two words at a time; each has at most 32, and words from count on have none.
use mathlib.Core.Path.{◌≡◌, refl, ap, sym, ◌∙◌}
use Prim.Native.Nat.{ℕ, zero, suc, ◌+◌, ◌-◌, ◌*◌, ◌^◌, ◌≤◌, ◌<◌}
use mathlib.Core.List.{List}
use native.Mathlib.Nat.{add-zero, add-suc}
use native.Mathlib.Omega.{arith}
use lib.Count.{ones, ones-le, ones_cat}
use Rattle.model.specs.Block.{word, Words}
use Rattle.model.specs.Inbox.{count_of, heard_in, SoundInbox}
use Rattle.inbox.specs.Heard.{WordClear}
use Rattle.inbox.proofs.Highs.{no_high, sound_word}

-- n is the sum over the first w pairs of words
pub record Sum (x : List ℕ) (n w : ℕ) : Type 0 where
  pub within : w ≤ 64
  pub small : n ≤ 64 * w
  pub sum : n ≡ heard_in x (2 * w)

pub sum_none : (x : List ℕ) → Sum x 0 0
sum_none x = record { within = omega arith; small = omega arith; sum = unfold heard_in in refl }

-- one pair more
pub sum_more : {x : List ℕ} {n w low high : ℕ} → Sum x n w → w < 64 → low ≡ word x (2 + 2 * w) → high ≡ word x (3 + 2 * w) → low < 2 ^ 32 → high < 2 ^ 32
    → Sum x (n + ones (low + 4294967296 * high)) (w + 1)
unfolding heard_in
sum_more {x} {n} {w} {low} {high} S h l g fits room =
    let both : ones (low + 4294967296 * high) ≡ ones high + ones low = ap ones (omega arith) ∙ ones_cat 32 high low fits in
    let next : 2 * (w + 1) ≡ suc (suc (2 * w)) = omega arith in
    let second : ones high ≡ ones (word x (2 + suc (2 * w))) = ap ones (g ∙ ap (word x) (omega arith)) in
    record {
      within = omega arith;
      small = omega (arith, S.small, both, ones-le 32 low fits, ones-le 32 high room);
      sum = rw next (omega (arith, S.sum, both, second, ap ones l));
    }

module _ (x : List ℕ) (S : SoundInbox x) (W : Words x) where
  -- a word from count on is 0
  word_none : (w : ℕ) → w < 128 → count_of x ≤ 32 * w → ones (word x (2 + w)) ≡ 0
  unfolding WordClear
  word_none w lt le =
      let f = sound_word x (count_of x) refl w lt S in
      omega (arith, ones-le 0 (word x (2 + w)) (no_high 32 0 (word x (2 + w)) (W (2 + w)) (λ j _ l. f j l (omega arith))))

  -- so they add nothing
  none_behind : (k d : ℕ) → count_of x ≤ 32 * k → k + d ≤ 128 → heard_in x k ≡ heard_in x (k + d)
  unfolding heard_in
  none_behind k zero le lt = ap (heard_in x) (sym (add-zero k))
  none_behind k (suc d) le lt = rw (add-suc k d) (omega (arith, none_behind k d le (omega arith), word_none (k + d) (omega arith) (omega arith)))

  -- the sum is whole once all words below count are in it
  pub sum-all : {n w : ℕ} → Sum x n w → count_of x ≤ 64 * w → n ≡ heard_in x 128
  sum-all {n} {w} s le = s.sum ∙ none_behind (2 * w) (128 - 2 * w) (omega arith) (omega (arith, s.within)) ∙ ap (heard_in x) (omega (arith, s.within))
