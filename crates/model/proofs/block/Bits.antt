-- Bits of a word: one set, one cleared, the lowest that is 0; a word without any.
use mathlib.Core.Path.{◌≡◌, refl, ap, sym, ◌∙◌}
use mathlib.Core.Logic.{◌≢◌}
use Prim.Native.Nat.{ℕ, zero, suc, ◌+◌, ◌-◌, ◌*◌, ◌/◌, ◌%◌, ◌^◌, ◌≤◌, ◌<◌}
use native.Mathlib.Nat.{zero-div, pow-suc, le_of_suc-le-suc, not-suc-le-zero}
use native.Mathlib.Omega.{arith}
use mathlib.Core.Bool.{Bool, true, false, ◌&&◌}
use mathlib.Core.List.{List}
use lib.Count.{count_trailing_zeros, under}
use lib.Dec.{ltb}
use lib.Pow.{shr-shr, shl_exact}
use Rattle.model.specs.Block.{word, room, bit, occupied_at}

pub bit-zero : (x : ℕ) → bit x 0 ≡ x % 2
bit-zero x = let e : x / 2 ^ 0 ≡ x = omega arith in rw e

pub bit-suc : (x j : ℕ) → bit x (suc j) ≡ bit (x / 2) j
bit-suc x j = sym (rw (shr-shr x 1 j) (ap (λ i. x / 2 ^ i % 2) (omega arith)))

pub bit-set_same : (j x : ℕ) → bit x j ≡ 0 → bit (x + 2 ^ j) j ≡ 1
bit-set_same zero x z = bit-zero (x + 2 ^ 0) ∙ omega (arith, bit-zero x)
bit-set_same (suc j) x z =
    let half : (x + 2 ^ suc j) / 2 ≡ x / 2 + 2 ^ j = omega arith in
    bit-suc (x + 2 ^ suc j) j ∙ ap (λ y. bit y j) half ∙ bit-set_same j (x / 2) (sym (bit-suc x j) ∙ z)

pub bit-set_other : (j i x : ℕ) → bit x j ≡ 0 → i ≢ j → bit (x + 2 ^ j) i ≡ bit x i
bit-set_other zero zero x z ne = absurd (ne refl)
bit-set_other zero (suc i) x z ne =
    let half : (x + 2 ^ 0) / 2 ≡ x / 2 = omega (arith, bit-zero x) in
    bit-suc (x + 2 ^ 0) i ∙ ap (λ y. bit y i) half ∙ sym (bit-suc x i)
bit-set_other (suc j) zero x z ne = bit-zero (x + 2 ^ suc j) ∙ omega (arith, bit-zero x)
bit-set_other (suc j) (suc i) x z ne =
    let half : (x + 2 ^ suc j) / 2 ≡ x / 2 + 2 ^ j = omega arith in
    bit-suc (x + 2 ^ suc j) i ∙ ap (λ y. bit y i) half ∙ bit-set_other j i (x / 2) (sym (bit-suc x j) ∙ z) (λ e. ne (ap suc e)) ∙ sym (bit-suc x i)

-- a bit cleared
pub bit_le : (j x : ℕ) → bit x j ≡ 1 → 2 ^ j ≤ x
bit_le zero x z = omega (arith, bit-zero x)
bit_le (suc j) x z = let h = bit_le j (x / 2) (sym (bit-suc x j) ∙ z) in omega arith

pub bit_clear_same : (j x : ℕ) → bit x j ≡ 1 → bit (x - 2 ^ j) j ≡ 0
bit_clear_same zero x z = bit-zero (x - 2 ^ 0) ∙ omega (arith, bit-zero x)
bit_clear_same (suc j) x z =
    let o : bit (x / 2) j ≡ 1 = sym (bit-suc x j) ∙ z in
    let l = bit_le j (x / 2) o in
    let half : (x - 2 ^ suc j) / 2 ≡ x / 2 - 2 ^ j = omega arith in
    bit-suc (x - 2 ^ suc j) j ∙ ap (λ y. bit y j) half ∙ bit_clear_same j (x / 2) o

pub bit_clear_other : (j i x : ℕ) → bit x j ≡ 1 → i ≢ j → bit (x - 2 ^ j) i ≡ bit x i
bit_clear_other j i x z ne =
    let l = bit_le j x z in
    let e : x - 2 ^ j + 2 ^ j ≡ x = omega arith in
    sym (bit-set_other j i (x - 2 ^ j) (bit_clear_same j x z) ne) ∙ ap (λ y. bit y i) e

-- the code's 1 << k
pub shl_one : (k : ℕ) → k < 32 → 1 * 2 ^ k % 4294967296 ≡ 2 ^ k
shl_one k lt = shl_exact {a = 1} 1 k 32 (omega arith) (omega arith) ∙ omega arith

-- a bit that is 0 can be added
pub bit-set-room : (k s w : ℕ) → s < k → w < 2 ^ k → bit w s ≡ 0 → w + 2 ^ s < 2 ^ k
bit-set-room zero s w h f e = omega arith
bit-set-room (suc k) zero w h f e = omega (arith, pow-suc 2 k)
bit-set-room (suc k) (suc s) w h f e = omega (arith, pow-suc 2 k, pow-suc 2 s, bit-set-room k s (w / 2) (omega arith) (omega (arith, pow-suc 2 k)) (sym (bit-suc w s) ∙ e))

complement_half : (k w : ℕ) → w < 2 ^ suc k → (2 ^ suc k - 1 - w) / 2 ≡ 2 ^ k - 1 - w / 2
complement_half k w h = omega (arith, pow-suc 2 k)

complement_low : (k w : ℕ) → w < 2 ^ suc k → (2 ^ suc k - 1 - w) % 2 ≡ 1 - w % 2
complement_low k w h = omega (arith, pow-suc 2 k)

half_lt : (k w : ℕ) → w < 2 ^ suc k → w / 2 < 2 ^ k
half_lt k w h = omega (arith, pow-suc 2 k)

tz_step : (k w : ℕ) → w < 2 ^ suc k → count_trailing_zeros (suc k) (2 ^ suc k - 1 - w) ≡ under (1 - w % 2) (count_trailing_zeros k (2 ^ k - 1 - w / 2))
unfolding count_trailing_zeros
tz_step k w h = rw (complement_half k w h, complement_low k w h)

pub below_all-set : (k w j : ℕ) → w < 2 ^ k → j < count_trailing_zeros k (2 ^ k - 1 - w) → bit w j ≡ 1
below_all-set zero w j f h = unfold count_trailing_zeros in omega arith
below_all-set (suc k) w j f h = go (w % 2) refl j (rw (tz_step k w f) at h) (λ i. below_all-set k (w / 2) i (half_lt k w f))
  where
    go : (d : ℕ) → w % 2 ≡ d → (j : ℕ) → j < under (1 - w % 2) (count_trailing_zeros k (2 ^ k - 1 - w / 2))
        → ((i : ℕ) → i < count_trailing_zeros k (2 ^ k - 1 - w / 2) → bit (w / 2) i ≡ 1) → bit w j ≡ 1
    go zero e j h rest = absurd (not-suc-le-zero (rw e at h))
    go (suc zero) e zero h rest = bit-zero w ∙ e
    go (suc zero) e (suc j) h rest = bit-suc w j ∙ rest j (le_of_suc-le-suc (rw e at h))
    go (suc (suc d)) e j h rest = omega arith

pub at_clear : (k w : ℕ) → w < 2 ^ k → count_trailing_zeros k (2 ^ k - 1 - w) < k → bit w (count_trailing_zeros k (2 ^ k - 1 - w)) ≡ 0
at_clear zero w f h = unfold count_trailing_zeros in omega arith
at_clear (suc k) w f h = rw (tz_step k w f) (go (w % 2) refl (rw (tz_step k w f) at h) (at_clear k (w / 2) (half_lt k w f)))
  where
    go : (d : ℕ) → w % 2 ≡ d → under (1 - w % 2) (count_trailing_zeros k (2 ^ k - 1 - w / 2)) < suc k
        → (count_trailing_zeros k (2 ^ k - 1 - w / 2) < k → bit (w / 2) (count_trailing_zeros k (2 ^ k - 1 - w / 2)) ≡ 0)
        → bit w (under (1 - w % 2) (count_trailing_zeros k (2 ^ k - 1 - w / 2))) ≡ 0
    go zero e h rest = rw e (bit-zero w ∙ e)
    go (suc zero) e h rest = rw e (bit-suc w (count_trailing_zeros k (2 ^ k - 1 - w / 2)) ∙ rest (le_of_suc-le-suc (rw e at h)))
    go (suc (suc d)) e h rest = omega arith

-- no node is occupied whose bit is in an occupancy word of 0
pub word-free : (b : List ℕ) (k : ℕ) → word b (17 + k / 32) ≡ 0 → occupied_at b (suc k) ≡ false
word-free b k e = rw (e, zero-div (2 ^ (k % 32))) (go (ltb k (room b)))
  where
    go : (t : Bool) → (t && false) ≡ false
    go true = refl
    go false = refl
