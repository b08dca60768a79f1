-- Occupancy bits that come up one after another, and words of none.
use mathlib.Core.Path.{◌≡◌, refl, ap, sym, subst, ◌∙◌}
use mathlib.Core.Logic.{◌≢◌}
use Prim.Native.Nat.{ℕ, zero, suc, ◌+◌, ◌-◌, ◌*◌, ◌/◌, ◌%◌, ◌^◌, ◌≤◌, ◌<◌}
use mathlib.Core.Bool.{Bool, false, true≢false}
use mathlib.Core.List.{List}
use lib.ListN.{get_or}
use lib.Dec.{eqb}
use lib.Pow.{shr-shr}
use borrow.Author.Tests.{lt-ltb, eq-eqb, ne_eqb}
use native.Mathlib.Omega.{arith}
use native.Mathlib.Numerals.{add-one}
use Rattle.model.specs.Block.{word, room, width, occupied_at}
use Rattle.model.specs.Tells.{Tells}
use Rattle.area.specs.Area.{area}
use Rattle.area.specs.Notes.{Zeros, Fair}
use Rattle.model.proofs.block.Bits.{word-free}
use Rattle.model.proofs.maps.Tells.{tells_map, each_more}
use Rattle.audit.specs.Whole.{MarkOk, MarksOk}

-- the two sorts of nodes
module _ (a : List ℕ) (i m : ℕ) (r : Bool) where
  pub mark_live : m ≡ 1 → Tells r (Fair (area a) (i + 1)) → Tells r (MarkOk a (eqb m 1) (i + 1))
  mark_live e = tells_map r (λ F. record { fair = λ _. F; zeros = λ z. absurd (true≢false (sym (eq-eqb m 1 e) ∙ z)) }) (λ M. M.fair (eq-eqb m 1 e))

  pub mark_free : m ≢ 1 → Tells r (Zeros a (width * i) width) → Tells r (MarkOk a (eqb m 1) (i + 1))
  mark_free e = tells_map r
      (λ Z. record { fair = λ z. absurd (true≢false (sym z ∙ ne_eqb m 1 e)); zeros = λ _. rw (add-one i) Z })
      (λ M. rw (add-one i) at (M.zeros (ne_eqb m 1 e)))

-- bit j of occupancy word w is that of node 32w + j + 1
module _ (b a : List ℕ) (w j m : ℕ) (lt : j < 32) (in_room : 32 * w + j < room b) (e : m ≡ word b (17 + w) / 2 ^ j) where
  mark_is : occupied_at b (32 * w + j + 1) ≡ eqb (m % 2) 1
  mark_is =
      let p : (32 * w + j) / 32 ≡ w = omega arith in
      let q : (32 * w + j) % 32 ≡ j = omega arith in
      rw (add-one (32 * w + j), lt-ltb (32 * w + j) (room b) in_room, p, q, e)

  pub marks_more : MarksOk b a (32 * w) (32 * w + j) → MarkOk a (eqb (m % 2) 1) (32 * w + j + 1) → MarksOk b a (32 * w) (32 * w + (j + 1))
  marks_more C z =
      let s : 32 * w + j + 1 ≡ 32 * w + (j + 1) = omega arith in
      subst (MarksOk b a (32 * w)) s (each_more (32 * w) (32 * w + j) (λ i. MarkOk a (occupied_at b i) i) C (subst (λ o. MarkOk a o (32 * w + j + 1)) (sym mark_is) z))

  pub marks_no : (MarkOk a (eqb (m % 2) 1) (32 * w + j + 1) → ⊥) → MarksOk b a (32 * w) (32 * w + 32) → ⊥
  marks_no z C = z (subst (λ o. MarkOk a o (32 * w + j + 1)) mark_is (C (32 * w + j + 1) (omega arith) (omega arith)))

  pub bits_next : m / 2 ≡ word b (17 + w) / 2 ^ (j + 1)
  bits_next = ap (λ x. x / 2) e ∙ shr-shr (word b (17 + w)) j 1

-- an occupancy word of none
module _ (b a : List ℕ) (w : ℕ) (within : 32 * w + 32 ≤ room b) (e : word b (17 + w) ≡ 0) where
  free : (i : ℕ) → 32 * w < i → i ≤ 32 * w + 32 → occupied_at b i ≡ false
  free zero p q = refl
  free (suc k) p q = let at : 17 + k / 32 ≡ 17 + w = omega arith in word-free b k (ap (word b) at ∙ e)

  pub marks_none : (r : Bool) → Tells r (Zeros a (32 * width * w) (32 * width)) → Tells r (MarksOk b a (32 * w) (32 * w + 32))
  marks_none r = tells_map r there back
    where
      there : Zeros a (32 * width * w) (32 * width) → MarksOk b a (32 * w) (32 * w + 32)
      there Z zero p q = absurd (omega arith)
      there Z (suc i) p q = record {
        fair = λ o. absurd (true≢false (sym o ∙ free (suc i) p q));
        zeros = λ _ j lt. let z : 32 * width * w + (width * i + j - 32 * width * w) ≡ width * i + j = omega arith in ap (λ y. get_or a y 0) (sym z) ∙ Z (width * i + j - 32 * width * w) (omega arith);
      }

      back : MarksOk b a (32 * w) (32 * w + 32) → Zeros a (32 * width * w) (32 * width)
      back M i lt =
          let k = 32 * w + i / 8 in
          let z : width * k + i % 8 ≡ 32 * width * w + i = omega arith in
          ap (λ y. get_or a y 0) (sym z) ∙ (M (suc k) (omega arith) (omega arith)).zeros (free (suc k) (omega arith) (omega arith)) (i % 8) (omega arith)
