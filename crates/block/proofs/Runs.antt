-- Runs of occupancy words that are all ones or all 0.
use mathlib.Core.Path.{◌≡◌, ap, subst, ◌∙◌}
use mathlib.Core.List.{List}
use Prim.Native.Nat.{ℕ, zero, suc, ◌+◌, ◌*◌, ◌<◌}
use native.Mathlib.Omega.{arith}
use native.Mathlib.Decide.{ℕ_discrete}
use lib.Bits.{bit_or, bit_xor, or_add_and, xor_add_and, and_le_l, and_le_r}
use lib.ListN.{get_or, take, drop, length}
use Rattle.std.proofs.lemmas.List.{get_or-take, get_or-drop, length-take}
use Rattle.model.specs.Block.{word}
use Rattle.model.specs.Moves.{Tidied}
use Rattle.model.proofs.running.Ends.{tidied_over}
use Rattle.block.specs.Words.{WordsAre}

-- j words from w on are x, and so is the next one
pub one_more : (b : List ℕ) (w j x : ℕ) → WordsAre b w j x → word b (17 + w + j) ≡ x → WordsAre b w (j + 1) x
one_more b w j x h e i lt = go (ℕ_discrete i j)
  where
    go : Dec (i ≡ j) → word b (17 + (w + i)) ≡ x
    go (yes q) = let at : 17 + (w + i) ≡ 17 + w + j = omega arith in ap (word b) at ∙ e
    go (no q) = h i (omega arith)

-- no node of them is occupied: i is the first node of word w, and j that of the word behind them
pub tidied_words : {b e : List ℕ} (k w i j : ℕ) → i ≡ 32 * w + 1 → j ≡ 32 * (w + k) + 1 → WordsAre e w k 0 → Tidied b e i → Tidied b e j
tidied_words {b} {e} zero w i j p q f T = let same : i ≡ j = omega arith in subst (Tidied b e) same T
tidied_words {b} {e} (suc k) w i j p q f T =
    let low : 17 + w ≡ 17 + (w + 0) = omega arith in
    let next : (x : ℕ) → 17 + (w + 1 + x) ≡ 17 + (w + suc x) = λ x. omega arith in
    tidied_words k (w + 1) (32 * w + 33) j (omega arith) (omega arith) (λ x lt. ap (word e) (next x) ∙ f (suc x) (omega arith)) (tidied_over w T (omega arith) (ap (word e) low ∙ f 0 (omega arith)))

-- two words that differ in no bit
same_bits : (x y : ℕ) → bit_xor x y ≡ 0 → x ≡ y
same_bits x y e = omega (arith, e, xor_add_and x y, and_le_l x y, and_le_r x y)

-- a word joins those gathered: what is gathered is 0 only if it is x as well
pub joins : (b : List ℕ) (w j x other : ℕ) → (other ≡ 0 → WordsAre b w j x) → bit_or other (bit_xor (word b (17 + w + j)) x) ≡ 0 → WordsAre b w (j + 1) x
joins b w j x other h e =
    let y = bit_xor (word b (17 + w + j)) x in
    let none : other ≡ 0 = omega (arith, e, or_add_and other y, and_le_r other y) in
    let last : y ≡ 0 = omega (arith, e, or_add_and other y, and_le_l other y) in
    one_more b w j x (h none) (same_bits (word b (17 + w + j)) x last)

-- element i of the n words from k on
pub among : (b : List ℕ) (k n i : ℕ) → i < length (take n (drop k b)) → get_or (take n (drop k b)) i 0 ≡ word b (k + i)
among b k n i lt = get_or-take n (drop k b) i 0 (omega (arith, length-take n (drop k b))) ∙ get_or-drop k b i 0
