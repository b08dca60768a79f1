-- Eight digits read at once: the sums do to each byte of the word what they would do to it alone,
-- and bytes are digits exactly where they are the bytes of what they would stand for.
use mathlib.Core.Path.{◌≡◌, refl, ap, ap₂, sym, subst, ◌∙◌}
use mathlib.Core.Logic.{◌≢◌}
use Prim.Native.Nat.{ℕ, zero, suc, ◌+◌, ◌-◌, ◌*◌, ◌/◌, ◌%◌, ◌^◌, ◌≤◌, ◌<◌}
use mathlib.Core.Bool.{Bool, true, false}
use mathlib.Core.Option.{Option, none, some}
use mathlib.Core.List.{List, [], ◌∷◌}
use lib.ListN.{length, get_or, take, drop, length-drop}
use lib.Seq.{get_or-take, get_or-drop, length-take-le}
use lib.Dec.{ltb}
use lib.Bits.{bit_and, and_zero_r, and_block, and_mask}
use borrow.Author.Tests.{ltb-true, ltb-false}
use native.Mathlib.Omega.{arith}
use native.Mathlib.Nat.{add-zero}
use Rattle.std.specs.Int.{w64, from_be_bytes}
use Rattle.model.specs.Frame.{digit, value, number, field}
use Rattle.model.proofs.link.Digits.{value-digit, digit_value}
use Rattle.frame.specs.Eights.{high_first, values_of, texts_of, pairs_of, fours_of, packed_of}
use Rattle.frame.proofs.Values.{digit_low, digit_high, digit-sum}
use Rattle.frame.proofs.Eights.{word, each, texts, Small, texts_are}

-- every byte is below 256
abbrev Bytes : List ℕ → Type 0
Bytes [] = Unit {0}
Bytes (c ∷ cs) = (c < 256) × Bytes cs

-- what a byte gives before it is cut to four bits, and the digit that it would stand for
abbrev sum_of : ℕ → ℕ
sum_of c = c % 16 + 9 * (c / 64 % 2)

abbrev guess : ℕ → ℕ
guess c = sum_of c % 16

abbrev sums : List ℕ → List ℕ
sums [] = []
sums (c ∷ cs) = sum_of c ∷ sums cs

abbrev guesses : List ℕ → List ℕ
guesses [] = []
guesses (c ∷ cs) = guess c ∷ guesses cs

-- The digits.

fours : (cs : List ℕ) → Bytes cs → bit_and (word cs) (each 15 cs) + 9 * bit_and (word cs / 64) (each 1 cs) ≡ word (sums cs)
fours [] B = omega (arith, and_zero_r 0, and_zero_r (0 / 64))
fours (c ∷ cs) (b, B) =
    let w = word cs in
    let r = c / 64 + 4 * (w % 64) in
    let apart : c + 256 * w ≡ w * 2 ^ 8 + c = omega arith in
    let shifted : (c + 256 * w) / 64 ≡ (w / 64) * 2 ^ 8 + r = omega arith in
    let mask : 15 + 256 * each 15 cs ≡ each 15 cs * 2 ^ 8 + 15 = omega arith in
    let ones : 1 + 256 * each 1 cs ≡ each 1 cs * 2 ^ 8 + 1 = omega arith in
    let low = ap₂ bit_and apart mask ∙ and_block 8 w (each 15 cs) c 15 (omega arith) (omega arith) in
    let high = ap₂ bit_and shifted ones ∙ and_block 8 (w / 64) (each 1 cs) r 1 (omega arith) (omega arith) in
    let four : bit_and c 15 ≡ c % 16 = and_mask c 4 in
    let one : bit_and r 1 ≡ r % 2 = and_mask r 1 in
    omega (arith, low, high, four, one, fours cs B)

cut : (cs : List ℕ) → bit_and (word (sums cs)) (each 15 cs) ≡ word (guesses cs)
cut [] = and_zero_r 0
cut (c ∷ cs) =
    let w = word (sums cs) in
    let u = sum_of c in
    let apart : u + 256 * w ≡ w * 2 ^ 8 + u = omega arith in
    let mask : 15 + 256 * each 15 cs ≡ each 15 cs * 2 ^ 8 + 15 = omega arith in
    let four : bit_and u 15 ≡ u % 16 = and_mask u 4 in
    ap₂ bit_and apart mask ∙ and_block 8 w (each 15 cs) u 15 (omega arith) (omega arith) ∙ omega (arith, cut cs, four)

small_guesses : (cs : List ℕ) → Small (guesses cs)
small_guesses [] = tt
small_guesses (c ∷ cs) = (omega arith, small_guesses cs)

-- a byte that is a digit stands for its guess
guess_low : (k : ℕ) → k < 10 → guess (48 + k) ≡ k
guess_low k h =
    let q : (48 + k) / 64 ≡ 0 = omega arith in
    let m : (48 + k) % 16 ≡ k = omega arith in
    rw (q, m) (omega arith)

guess_high : (k : ℕ) → k < 7 → guess (96 + k) ≡ 9 + k
guess_high k h =
    let q : (96 + k) / 64 ≡ 1 = omega arith in
    let m : (96 + k) % 16 ≡ k = omega arith in
    rw (q, m) (omega arith)

guess_digit : (d : ℕ) → d < 16 → guess (digit d) ≡ d
guess_digit d h = go (ltb d 10) refl
  where
    go : (b : Bool) → ltb d 10 ≡ b → guess (digit d) ≡ d
    go true e = let l = ltb-true d 10 e in rw (← digit_low d l) (guess_low d l)
    go false e =
        let l = ltb-false d 10 e in
        let n : 87 + d ≡ 96 + (d - 9) = omega arith in
        rw (← digit_high d l, n) (guess_high (d - 9) (omega arith) ∙ omega arith)

guessed : (c d : ℕ) → value c ≡ some d → value c ≡ some (guess c)
guessed c d e = let t = digit_value c d e in e ∙ ap some (sym (ap guess t.0 ∙ guess_digit d t.1))

-- each byte is the digit of its guess
abbrev Digits : List ℕ → Type 0
Digits [] = Unit {0}
Digits (c ∷ cs) = (value c ≡ some (guess c)) × Digits cs

digit_small : (d : ℕ) → d < 16 → digit d < 256
digit_small d h = omega (arith, digit-sum d h)

-- exactly where their texts are the bytes
same_texts : (cs : List ℕ) → Bytes cs → texts (guesses cs) ≡ word cs → Digits cs
same_texts [] B e = tt
same_texts (c ∷ cs) (b, B) e =
    let l : guess c < 16 = omega arith in
    let s = digit_small (guess c) l in
    let here : c ≡ digit (guess c) = omega (arith, s, e) in
    (subst (λ z. value z ≡ some (guess c)) (sym here) (value-digit (guess c) l), same_texts cs B (omega (arith, s, e)))

texts_same : (cs : List ℕ) → Digits cs → texts (guesses cs) ≡ word cs
texts_same [] D = refl
texts_same (c ∷ cs) (p, D) = omega (arith, (digit_value c (guess c) p).0, texts_same cs D)

-- The number.

nums : ℕ → List ℕ → ℕ
nums n [] = n
nums n (c ∷ cs) = nums (n * 16 + guess c) cs

number_is : (n : ℕ) (cs : List ℕ) → Digits cs → number n cs ≡ some (nums n cs)
unfolding number nums
number_is n [] D = refl
number_is n (c ∷ cs) (p, D) = rw (p, number) (number_is (n * 16 + guess c) cs D)

number_digits : (n m : ℕ) (cs : List ℕ) → number n cs ≡ some m → Digits cs
unfolding number
number_digits n m [] e = tt
number_digits n m (c ∷ cs) e = go (value c) refl (λ k. number_digits k m cs)
  where
    go : (o : Option ℕ) → value c ≡ o → ((k : ℕ) → number k cs ≡ some m → Digits cs) → Digits (c ∷ cs)
    go none q ih = let z : ◌≡◌ {A = ℕ} 0 1 = cc (rw (q, number) at e) in absurd (omega arith)
    go (some d) q ih = (guessed c d q, ih (n * 16 + d) (rw (q, number) at e))

-- Eight digits moved together.

-- a low part that the division cuts off, and one that the remainder keeps
over_16 : (d m : ℕ) → d < 16 → (d + 16 * m) / 16 ≡ m
over_16 d m h = omega arith

over_256 : (p m : ℕ) → p < 256 → (p + 256 * m) / 256 ≡ m
over_256 p m h = omega arith

keep_256 : (p q : ℕ) → p < 256 → bit_and (p + 256 * q) 255 ≡ p
keep_256 p q h = and_mask (p + 256 * q) 8 ∙ omega arith

keep_65536 : (p q : ℕ) → p < 65536 → bit_and (p + 65536 * q) 65535 ≡ p
keep_65536 p q h = and_mask (p + 65536 * q) 16 ∙ omega arith

times_16 : (r : ℕ) → 256 * r ≡ 16 * (16 * r)
times_16 r = omega arith

times_256 : (r : ℕ) → 65536 * r ≡ 256 * (256 * r)
times_256 r = omega arith

four_small : (p q : ℕ) → p < 256 → q < 256 → p + 256 * q < 65536
four_small p q h g = omega arith

half_small : (p q r : ℕ) → p < 256 → q < 256 → r < 256 → p + 256 * q + 65536 * (q + 256 * r) < 2 ^ 32
half_small p q r x y z = omega arith

swap : (x y : ℕ) → y * 2 ^ 32 + x ≡ x + 4294967296 * y
swap x y = omega arith

-- the sum's parts of 16 bits, and of 32
spread : (d0 d1 d2 d3 d4 d5 d6 d7 r : ℕ) → r ≡ d1 + 256 * (d2 + 256 * (d3 + 256 * (d4 + 256 * (d5 + 256 * (d6 + 256 * d7)))))
    → (d0 + 256 * r) + 16 * r ≡ (((d6 + 16 * d7 + 256 * d7) * 2 ^ 16 + (d4 + 16 * d5 + 256 * (d5 + 16 * d6))) * 2 ^ 16 + (d2 + 16 * d3 + 256 * (d3 + 16 * d4))) * 2 ^ 16 + (d0 + 16 * d1 + 256 * (d1 + 16 * d2))
spread d0 d1 d2 d3 d4 d5 d6 d7 r e = omega arith

spread_2 : (p0 p1 p2 p3 r : ℕ) → r ≡ p1 + 65536 * (p2 + 65536 * p3)
    → (p0 + 65536 * r) + 256 * r ≡ (p2 + 256 * p3 + 65536 * p3) * 2 ^ 32 + (p0 + 256 * p1 + 65536 * (p1 + 256 * p2))
spread_2 p0 p1 p2 p3 r e = omega arith

in_line : (p0 p1 p2 p3 : ℕ) → ((p3 * 2 ^ 16 + p2) * 2 ^ 16 + p1) * 2 ^ 16 + p0 ≡ p0 + 65536 * (p1 + 65536 * (p2 + 65536 * p3))
in_line p0 p1 p2 p3 = omega arith

-- two blocks of a mask, one by one
two : (k a b r s x y : ℕ) → r < 2 ^ k → s < 2 ^ k → bit_and a b ≡ x → bit_and r s ≡ y → bit_and (a * 2 ^ k + r) (b * 2 ^ k + s) ≡ x * 2 ^ k + y
two k a b r s x y h g p q = and_block k a b r s h g ∙ ap₂ (λ u w. u * 2 ^ k + w) p q

pair_small : (d e : ℕ) → d < 16 → e < 16 → d + 16 * e < 256
pair_small d e h g = omega arith

block_small : (d e g : ℕ) → d < 16 → e < 16 → g < 16 → d + 16 * e + 256 * (e + 16 * g) < 65536
block_small d e g x y z = omega arith

pairs : (d0 d1 d2 d3 d4 d5 d6 d7 : ℕ) → d0 < 16 → d1 < 16 → d2 < 16 → d3 < 16 → d4 < 16 → d5 < 16 → d6 < 16 → d7 < 16
    → pairs_of (d0 + 256 * (d1 + 256 * (d2 + 256 * (d3 + 256 * (d4 + 256 * (d5 + 256 * (d6 + 256 * d7))))))) ≡ d0 + 16 * d1 + 65536 * (d2 + 16 * d3 + 65536 * (d4 + 16 * d5 + 65536 * (d6 + 16 * d7)))
pairs d0 d1 d2 d3 d4 d5 d6 d7 b0 b1 b2 b3 b4 b5 b6 b7 =
    let r = d1 + 256 * (d2 + 256 * (d3 + 256 * (d4 + 256 * (d5 + 256 * (d6 + 256 * d7))))) in
    let e : d0 + 256 * r ≡ d0 + 16 * (16 * r) = ap (λ k. d0 + k) (times_16 r) in
    let halved = ap (λ k. k / 16) e ∙ over_16 d0 (16 * r) b0 in
    let m0 = keep_256 (d0 + 16 * d1) (d1 + 16 * d2) (pair_small d0 d1 b0 b1) in
    let m1 = keep_256 (d2 + 16 * d3) (d3 + 16 * d4) (pair_small d2 d3 b2 b3) in
    let m2 = keep_256 (d4 + 16 * d5) (d5 + 16 * d6) (pair_small d4 d5 b4 b5) in
    let m3 = keep_256 (d6 + 16 * d7) d7 (pair_small d6 d7 b6 b7) in
    let k2 = two 16 _ 255 _ 255 _ _ (block_small d4 d5 d6 b4 b5 b6) (omega arith) m3 m2 in
    let k1 = two 16 _ (255 * 2 ^ 16 + 255) _ 255 _ _ (block_small d2 d3 d4 b2 b3 b4) (omega arith) k2 m1 in
    let k0 = two 16 _ ((255 * 2 ^ 16 + 255) * 2 ^ 16 + 255) _ 255 _ _ (block_small d0 d1 d2 b0 b1 b2) (omega arith) k1 m0 in
    ap (λ x. bit_and x 71777214294589695) (ap (λ k. d0 + 256 * r + k) halved ∙ spread d0 d1 d2 d3 d4 d5 d6 d7 r refl) ∙ k0 ∙ in_line (d0 + 16 * d1) (d2 + 16 * d3) (d4 + 16 * d5) (d6 + 16 * d7)

quads : (p0 p1 p2 p3 : ℕ) → p0 < 256 → p1 < 256 → p2 < 256 → p3 < 256
    → fours_of (p0 + 65536 * (p1 + 65536 * (p2 + 65536 * p3))) ≡ p0 + 256 * p1 + 4294967296 * (p2 + 256 * p3)
quads p0 p1 p2 p3 b0 b1 b2 b3 =
    let r = p1 + 65536 * (p2 + 65536 * p3) in
    let e : p0 + 65536 * r ≡ p0 + 256 * (256 * r) = ap (λ k. p0 + k) (times_256 r) in
    let halved = ap (λ k. k / 256) e ∙ over_256 p0 (256 * r) b0 in
    let m0 = keep_65536 (p0 + 256 * p1) (p1 + 256 * p2) (four_small p0 p1 b0 b1) in
    let m1 = keep_65536 (p2 + 256 * p3) p3 (four_small p2 p3 b2 b3) in
    let k = two 32 _ 65535 _ 65535 _ _ (half_small p0 p1 p2 b0 b1 b2) (omega arith) m1 m0 in
    ap (λ x. bit_and x 281470681808895) (ap (λ k. p0 + 65536 * r + k) halved ∙ spread_2 p0 p1 p2 p3 r refl) ∙ k ∙ swap (p0 + 256 * p1) (p2 + 256 * p3)

-- all eight
halves : (q0 q1 : ℕ) → q0 < 65536 → q1 < 65536 → ((q0 + 4294967296 * q1) + (q0 + 4294967296 * q1) / 65536) % 4294967296 ≡ q0 + 65536 * q1
halves q0 q1 h g = let e : (q0 + 4294967296 * q1) / 65536 ≡ 65536 * q1 = omega arith in rw e (omega arith)

nested : (d0 d1 d2 d3 d4 d5 d6 d7 : ℕ)
    → (d0 + 16 * d1 + 256 * (d2 + 16 * d3)) + 65536 * (d4 + 16 * d5 + 256 * (d6 + 16 * d7)) ≡ d0 + 16 * (d1 + 16 * (d2 + 16 * (d3 + 16 * (d4 + 16 * (d5 + 16 * (d6 + 16 * d7))))))
nested d0 d1 d2 d3 d4 d5 d6 d7 = omega arith

packed_is : (d0 d1 d2 d3 d4 d5 d6 d7 : ℕ) → d0 < 16 → d1 < 16 → d2 < 16 → d3 < 16 → d4 < 16 → d5 < 16 → d6 < 16 → d7 < 16
    → packed_of (d0 + 256 * (d1 + 256 * (d2 + 256 * (d3 + 256 * (d4 + 256 * (d5 + 256 * (d6 + 256 * d7))))))) ≡ d0 + 16 * (d1 + 16 * (d2 + 16 * (d3 + 16 * (d4 + 16 * (d5 + 16 * (d6 + 16 * d7))))))
packed_is d0 d1 d2 d3 d4 d5 d6 d7 b0 b1 b2 b3 b4 b5 b6 b7 =
    let s0 = pair_small d0 d1 b0 b1 in
    let s1 = pair_small d2 d3 b2 b3 in
    let s2 = pair_small d4 d5 b4 b5 in
    let s3 = pair_small d6 d7 b6 b7 in
    let p = pairs d0 d1 d2 d3 d4 d5 d6 d7 b0 b1 b2 b3 b4 b5 b6 b7 in
    let q = quads (d0 + 16 * d1) (d2 + 16 * d3) (d4 + 16 * d5) (d6 + 16 * d7) s0 s1 s2 s3 in
    let h = halves (d0 + 16 * d1 + 256 * (d2 + 16 * d3)) (d4 + 16 * d5 + 256 * (d6 + 16 * d7)) (four_small (d0 + 16 * d1) (d2 + 16 * d3) s0 s1) (four_small (d4 + 16 * d5) (d6 + 16 * d7) s2 s3) in
    ap (λ y. (fours_of y + fours_of y / 65536) % 4294967296) p ∙ ap (λ z. (z + z / 65536) % 4294967296) q ∙ h ∙ nested d0 d1 d2 d3 d4 d5 d6 d7

horner : (d0 d1 d2 d3 d4 d5 d6 d7 : ℕ)
    → d0 + 16 * (d1 + 16 * (d2 + 16 * (d3 + 16 * (d4 + 16 * (d5 + 16 * (d6 + 16 * d7)))))) ≡ (((((((0 * 16 + d7) * 16 + d6) * 16 + d5) * 16 + d4) * 16 + d3) * 16 + d2) * 16 + d1) * 16 + d0
horner d0 d1 d2 d3 d4 d5 d6 d7 = omega arith

in_word : (d0 d1 d2 d3 d4 d5 d6 d7 : ℕ)
    → word (d0 ∷ d1 ∷ d2 ∷ d3 ∷ d4 ∷ d5 ∷ d6 ∷ d7 ∷ []) ≡ d0 + 256 * (d1 + 256 * (d2 + 256 * (d3 + 256 * (d4 + 256 * (d5 + 256 * (d6 + 256 * d7))))))
in_word d0 d1 d2 d3 d4 d5 d6 d7 = omega arith

-- Eight bytes, high to low as a line has them.

module _ (c7 c6 c5 c4 c3 c2 c1 c0 : ℕ) where
  abbrev low : List ℕ
  low = c0 ∷ c1 ∷ c2 ∷ c3 ∷ c4 ∷ c5 ∷ c6 ∷ c7 ∷ []

  abbrev high : List ℕ
  high = c7 ∷ c6 ∷ c5 ∷ c4 ∷ c3 ∷ c2 ∷ c1 ∷ c0 ∷ []

  turned : Digits low → Digits high
  turned D = (D.1.1.1.1.1.1.1.0, (D.1.1.1.1.1.1.0, (D.1.1.1.1.1.0, (D.1.1.1.1.0, (D.1.1.1.0, (D.1.1.0, (D.1.0, (D.0, tt))))))))

  back : Digits high → Digits low
  back D = (D.1.1.1.1.1.1.1.0, (D.1.1.1.1.1.1.0, (D.1.1.1.1.1.0, (D.1.1.1.1.0, (D.1.1.1.0, (D.1.1.0, (D.1.0, (D.0, tt))))))))

  is_word : high_first 0 high ≡ word low
  unfolding high_first
  is_word = omega arith

  module _ (B : Bytes high) where
    lows : Bytes low
    lows = (B.1.1.1.1.1.1.1.0, (B.1.1.1.1.1.1.0, (B.1.1.1.1.1.0, (B.1.1.1.1.0, (B.1.1.1.0, (B.1.1.0, (B.1.0, (B.0, tt))))))))

    values_are : values_of (high_first 0 high) ≡ word (guesses low)
    values_are = ap values_of is_word ∙ ap (λ k. bit_and k 1085102592571150095) (fours low lows) ∙ cut low

    texts_of_lem : texts_of (values_of (high_first 0 high)) ≡ texts (guesses low)
    texts_of_lem = ap texts_of values_are ∙ texts_are (guesses low) (small_guesses low)

    eight_good : texts_of (values_of (high_first 0 high)) ≡ high_first 0 high → some (packed_of (values_of (high_first 0 high))) ≡ number 0 high
    unfolding nums
    eight_good e =
        let D = same_texts low lows (sym texts_of_lem ∙ e ∙ is_word) in
        let v = values_are ∙ in_word (guess c0) (guess c1) (guess c2) (guess c3) (guess c4) (guess c5) (guess c6) (guess c7) in
        let p = packed_is (guess c0) (guess c1) (guess c2) (guess c3) (guess c4) (guess c5) (guess c6) (guess c7) (omega arith) (omega arith) (omega arith) (omega arith) (omega arith) (omega arith) (omega arith) (omega arith) ∙ horner (guess c0) (guess c1) (guess c2) (guess c3) (guess c4) (guess c5) (guess c6) (guess c7) in
        sym (number_is 0 high (turned D) ∙ ap some (sym (ap packed_of v ∙ p)))

    eight_bad : texts_of (values_of (high_first 0 high)) ≢ high_first 0 high → none ≡ number 0 high
    eight_bad ne = go (number 0 high) refl
      where
        go : (o : Option ℕ) → number 0 high ≡ o → none ≡ o
        go none q = refl
        go (some m) q = absurd (ne (texts_of_lem ∙ texts_same low (back (number_digits 0 m high q)) ∙ sym is_word))

-- the same of any eight bytes
bytes_of : (cs : List ℕ) → ((i : ℕ) → get_or cs i 0 < 256) → Bytes cs
bytes_of [] f = tt
bytes_of (c ∷ cs) f = (f 0, bytes_of cs (λ i. f (suc i)))

by_eight : (P : List ℕ → Type 0) → ((c7 c6 c5 c4 c3 c2 c1 c0 : ℕ) → P (c7 ∷ c6 ∷ c5 ∷ c4 ∷ c3 ∷ c2 ∷ c1 ∷ c0 ∷ [])) → (cs : List ℕ) → length cs ≡ 8 → P cs
by_eight P f (a ∷ b ∷ c ∷ d ∷ e ∷ g ∷ h ∷ i ∷ []) l = f a b c d e g h i
by_eight P f [] l = absurd (omega arith)
by_eight P f (a ∷ []) l = absurd (omega arith)
by_eight P f (a ∷ b ∷ []) l = absurd (omega arith)
by_eight P f (a ∷ b ∷ c ∷ []) l = absurd (omega arith)
by_eight P f (a ∷ b ∷ c ∷ d ∷ []) l = absurd (omega arith)
by_eight P f (a ∷ b ∷ c ∷ d ∷ e ∷ []) l = absurd (omega arith)
by_eight P f (a ∷ b ∷ c ∷ d ∷ e ∷ g ∷ []) l = absurd (omega arith)
by_eight P f (a ∷ b ∷ c ∷ d ∷ e ∷ g ∷ h ∷ []) l = absurd (omega arith)
by_eight P f (a ∷ b ∷ c ∷ d ∷ e ∷ g ∷ h ∷ i ∷ j ∷ k) l = absurd (omega arith)

bytes_take : (n : ℕ) (cs : List ℕ) → ((i : ℕ) → get_or cs i 0 < 256) → (i : ℕ) → get_or (take n cs) i 0 < 256
bytes_take zero cs f i = omega arith
bytes_take (suc n) [] f i = omega arith
bytes_take (suc n) (c ∷ cs) f zero = f 0
bytes_take (suc n) (c ∷ cs) f (suc i) = bytes_take n cs (λ j. f (suc j)) i

abbrev Good : List ℕ → Type 0
Good xs = Bytes xs → texts_of (values_of (high_first 0 xs)) ≡ high_first 0 xs → some (packed_of (values_of (high_first 0 xs))) ≡ number 0 xs

abbrev Bad : List ℕ → Type 0
Bad xs = Bytes xs → texts_of (values_of (high_first 0 xs)) ≢ high_first 0 xs → none ≡ number 0 xs

-- the eight bytes from `at` on are x, n their digits if they are any, t the bytes of those
module _ (line : List ℕ) (at : ℕ) (inside : at + 8 ≤ length line) (f : (i : ℕ) → get_or line i 0 < 256)
    {x n t : ℕ} (is : x ≡ high_first 0 (take 8 (drop at line))) (v : n ≡ values_of x) (w : t ≡ texts_of n) where
  long : length (take 8 (drop at line)) ≡ 8
  long = length-take-le 8 (drop at line) (omega (arith, length-drop at line))

  bytes : Bytes (take 8 (drop at line))
  bytes = bytes_of (take 8 (drop at line)) (bytes_take 8 (drop at line) (λ i. rw (get_or-drop at line i 0) (f (at + i))))

  texts_here : t ≡ texts_of (values_of (high_first 0 (take 8 (drop at line))))
  texts_here = w ∙ ap texts_of (v ∙ ap values_of is)

  pub says_none : t ≢ x → none ≡ field line at 8
  says_none ne = by_eight Bad eight_bad (take 8 (drop at line)) long bytes (λ e. ne (texts_here ∙ e ∙ sym is))

  pub says_eight : {p : ℕ} → t ≡ x → p ≡ packed_of n → some p ≡ field line at 8
  says_eight e q = ap some (q ∙ ap packed_of (v ∙ ap values_of is)) ∙ by_eight Good eight_good (take 8 (drop at line)) long bytes (sym texts_here ∙ e ∙ is)

-- The eight bytes by their places, the first highest.

abbrev First : List ℕ → Type 0
First ds = from_be_bytes w64 (get_or ds 0 0 ∷ get_or ds 1 0 ∷ get_or ds 2 0 ∷ get_or ds 3 0 ∷ get_or ds 4 0 ∷ get_or ds 5 0 ∷ get_or ds 6 0 ∷ get_or ds 7 0 ∷ []) ≡ high_first 0 ds

first_eight : (c7 c6 c5 c4 c3 c2 c1 c0 : ℕ) → First (c7 ∷ c6 ∷ c5 ∷ c4 ∷ c3 ∷ c2 ∷ c1 ∷ c0 ∷ [])
unfolding high_first
first_eight c7 c6 c5 c4 c3 c2 c1 c0 = omega arith

pub high_eight : (cs : List ℕ) (at : ℕ) → at + 8 ≤ length cs
    → from_be_bytes w64 (get_or cs at 0 ∷ get_or cs (at + 1) 0 ∷ get_or cs (at + 2) 0 ∷ get_or cs (at + 3) 0 ∷ get_or cs (at + 4) 0 ∷ get_or cs (at + 5) 0 ∷ get_or cs (at + 6) 0 ∷ get_or cs (at + 7) 0 ∷ [])
    ≡ high_first 0 (take 8 (drop at cs))
high_eight cs at inside =
    let first : get_or cs at 0 ≡ get_or (take 8 (drop at cs)) 0 0 = rw add-zero at (here 0 (omega arith)) in
    rw (first, here 1 (omega arith), here 2 (omega arith), here 3 (omega arith), here 4 (omega arith), here 5 (omega arith), here 6 (omega arith), here 7 (omega arith))
    (by_eight First first_eight (take 8 (drop at cs)) (length-take-le 8 (drop at cs) (omega (arith, length-drop at cs))))
  where
    here : (j : ℕ) → j < 8 → get_or cs (at + j) 0 ≡ get_or (take 8 (drop at cs)) j 0
    here j h = sym (get_or-take 8 (drop at cs) j 0 h ∙ get_or-drop at cs j 0)
