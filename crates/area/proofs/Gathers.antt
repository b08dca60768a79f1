-- Runs of zeros, by one `|` a word.
use mathlib.Core.Path.{◌≡◌, ap, sym, ◌∙◌}
use Prim.Native.Nat.{ℕ, ◌+◌, ◌≤◌, ◌<◌}
use mathlib.Core.Bool.{Bool}
use mathlib.Core.List.{List}
use lib.ListN.{get_or, length, take, drop, length-take}
use lib.Bits.{bit_or, or_add_and, and_le_l, and_le_r}
use lib.Seq.{get_or-take, get_or-drop}
use native.Mathlib.Omega.{arith}
use native.Mathlib.Decide.{ℕ_discrete, dec_lt}
use Rattle.model.specs.Tells.{Tells}
use Rattle.model.proofs.maps.Tells.{tells_map}
use Rattle.area.specs.Notes.{AllZero, Zeros}
use Rattle.area.proofs.Area.{get_d_past}

-- z is 0 exactly when the first i words are
pub record Gathered (a : List ℕ) (i z : ℕ) : Type 0 where
  pub zeros : z ≡ 0 → (j : ℕ) → j < i → get_or a j 0 ≡ 0
  pub zero : ((j : ℕ) → j < i → get_or a j 0 ≡ 0) → z ≡ 0

module _ (a : List ℕ) where
  pub gathered_more : (i z : ℕ) → Gathered a i z → Gathered a (i + 1) (bit_or z (get_or a i 0))
  gathered_more i z G = record {
    zeros = λ q j lt. go q j lt (ℕ_discrete j i);
    zero = λ Z. omega (arith, or_add_and z (get_or a i 0), G.zero (λ j lt. Z j (omega arith)), Z i (omega arith));
  }
    where
      go : bit_or z (get_or a i 0) ≡ 0 → (j : ℕ) → j < i + 1 → Dec (j ≡ i) → get_or a j 0 ≡ 0
      go q j lt (yes p) = ap (λ k. get_or a k 0) p ∙ omega (arith, or_add_and z (get_or a i 0), and_le_l z (get_or a i 0))
      go q j lt (no p) = G.zeros (omega (arith, or_add_and z (get_or a i 0), and_le_r z (get_or a i 0))) j (omega arith)

-- the m words of a part
pub zeros_part : (a : List ℕ) (from k m : ℕ) → from + k ≤ length a → m ≡ k → (r : Bool) → Tells r (AllZero (take m (drop from a))) → Tells r (Zeros a from k)
zeros_part a from k m le e r = tells_map r (λ Z i lt. sym (same i lt) ∙ Z i) (λ Z i. back Z i (dec_lt i k))
  where
    same : (i : ℕ) → i < k → get_or (take m (drop from a)) i 0 ≡ get_or a (from + i) 0
    same i lt = get_or-take m (drop from a) i 0 (omega arith) ∙ get_or-drop from a i 0

    back : Zeros a from k → (i : ℕ) → Dec (i < k) → get_or (take m (drop from a)) i 0 ≡ 0
    back Z i (yes lt) = same i lt ∙ Z i lt
    back Z i (no p) = get_d_past (take m (drop from a)) i (omega (arith, length-take m (drop from a)))
