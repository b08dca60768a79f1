-- Eight digits at once: what is done to a word is done to each of its bytes, as no sum carries from one byte to the next.
use mathlib.Core.Path.{◌≡◌, refl, ap, ap₂, ◌∙◌}
use Prim.Native.Nat.{ℕ, zero, suc, ◌+◌, ◌*◌, ◌/◌, ◌%◌, ◌^◌, ◌<◌}
use mathlib.Core.List.{List, [], ◌∷◌}
use native.Mathlib.Omega.{arith}
use lib.Bits.{bit_and, and_zero_r, and_block, and_mask}
use Rattle.model.specs.Frame.{digit}
use Rattle.frame.specs.Alternate.{alternate}
use Rattle.frame.proofs.Values.{digit-sum}

-- the number whose bytes are given, the lowest first; one with byte c at each place of ds; the carries of n + 6; the digits
abbrev pub word : List ℕ → ℕ
word [] = 0
word (d ∷ ds) = d + 256 * word ds

abbrev pub each : ℕ → List ℕ → ℕ
each c [] = 0
each c (d ∷ ds) = c + 256 * each c ds

abbrev carries : List ℕ → ℕ
carries [] = 0
carries (d ∷ ds) = (d + 6) / 16 + 256 * carries ds

abbrev pub texts : List ℕ → ℕ
texts [] = 0
texts (d ∷ ds) = digit d + 256 * texts ds

abbrev pub Small : List ℕ → Type 0
Small [] = Unit {0}
Small (d ∷ ds) = (d < 16) × Small ds

-- the carries are the bits that stand alone in their bytes after the shift
carry : (ds : List ℕ) → Small ds → bit_and ((word ds + each 6 ds) / 16) (each 1 ds) ≡ carries ds
carry [] S = and_zero_r ((0 + 0) / 16)
carry (d ∷ ds) (s, S) =
    let t = word ds + each 6 ds in
    let r = (d + 6) / 16 + 16 * (t % 16) in
    let apart : ((d + 256 * word ds) + (6 + 256 * each 6 ds)) / 16 ≡ (t / 16) * 2 ^ 8 + r = omega arith in
    let mask : 1 + 256 * each 1 ds ≡ each 1 ds * 2 ^ 8 + 1 = omega arith in
    let here : bit_and r 1 ≡ r % 2 = and_mask r 1 in
    ap₂ bit_and apart mask ∙ and_block 8 (t / 16) (each 1 ds) r 1 (omega arith) (omega arith) ∙ omega (arith, carry ds S, here)

-- with 48 and 39 for each carry every digit has its byte
text : (ds : List ℕ) → Small ds → word ds + each 48 ds + 39 * carries ds ≡ texts ds
text [] S = refl
text (d ∷ ds) (s, S) = omega (arith, digit-sum d s, text ds S)

-- so do the sums on the whole word
pub texts_are : (ds : List ℕ) → Small ds → word ds + each 48 ds + 39 * bit_and ((word ds + each 6 ds) / 16) (each 1 ds) ≡ texts ds
texts_are ds S = ap (λ k. word ds + each 48 ds + 39 * k) (carry ds S) ∙ text ds S

-- the low digits of k bytes
abbrev lows : ℕ → ℕ → ℕ
lows zero n = 0
lows (suc k) n = n % 16 + 256 * lows k (n / 256)

abbrev fifteens : ℕ → ℕ
fifteens zero = 0
fifteens (suc k) = 15 + 256 * fifteens k

masked : (k n : ℕ) → bit_and n (fifteens k) ≡ lows k n
masked zero n = and_zero_r n
masked (suc k) n =
    let apart : n ≡ (n / 256) * 2 ^ 8 + n % 256 = omega arith in
    let mask : 15 + 256 * fifteens k ≡ fifteens k * 2 ^ 8 + 15 = omega arith in
    let here : bit_and (n % 256) 15 ≡ n % 256 % 16 = and_mask (n % 256) 4 in
    ap₂ bit_and apart mask ∙ and_block 8 (n / 256) (fifteens k) (n % 256) 15 (omega arith) (omega arith) ∙ omega (arith, masked k (n / 256), here)

-- the two words of four digits each as one
module _ (x : ℕ) where
  abbrev pub nibbles : ℕ
  nibbles = bit_and x 252645135 + 4294967296 * bit_and (x / 16) 252645135

  abbrev places : List ℕ
  places = x % 16 ∷ x / 256 % 16 ∷ x / 256 / 256 % 16 ∷ x / 256 / 256 / 256 % 16 ∷ x / 16 % 16 ∷ x / 16 / 256 % 16 ∷ x / 16 / 256 / 256 % 16 ∷ x / 16 / 256 / 256 / 256 % 16 ∷ []

  small : Small places
  small = (omega arith, (omega arith, (omega arith, (omega arith, (omega arith, (omega arith, (omega arith, (omega arith, tt))))))))

  nibbles_word : nibbles ≡ word places
  nibbles_word = omega (arith, masked 4 x, masked 4 (x / 16))

  pub eight : nibbles + 3472328296227680304 + 39 * bit_and ((nibbles + 434041037028460038) / 16) 72340172838076673 ≡ alternate 4 x + 4294967296 * alternate 4 (x / 16)
  unfolding alternate
  eight =
      let c : bit_and ((word places + 434041037028460038) / 16) 72340172838076673 ≡ carries places = carry places small in
      let t : word places + 3472328296227680304 + 39 * carries places ≡ texts places = text places small in
      rw nibbles_word (omega (arith, c, t))
