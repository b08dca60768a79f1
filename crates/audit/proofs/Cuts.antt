-- The block up to its last occupied node.
use mathlib.Core.Path.{◌≡◌, refl, sym, ap, ◌∙◌}
use Prim.Native.Nat.{ℕ, zero, suc, ◌+◌, ◌-◌, ◌*◌, ◌/◌, ◌%◌, ◌≤◌, ◌<◌}
use mathlib.Core.Bool.{Bool, false}
use mathlib.Core.List.{List}
use lib.ListN.{length, get_or, take, length-drop, length-take}
use lib.Seq.{get_or-drop, get_or-take}
use borrow.Author.Tests.{le-ltb}
use native.Mathlib.Omega.{arith}
use native.Mathlib.Decide.{dec_lt}
use Rattle.model.specs.Heap.{Blank, Sound}
use Rattle.model.specs.Block.{word, room, width, node_word, occupied_at, heap, Shaped, SoundBlock}
use Rattle.model.specs.Tells.{Tells}
use Rattle.model.proofs.block.Bits.{word-free}
use Rattle.model.proofs.maps.Tells.{tells_map}
use Rattle.area.specs.Area.{area_word}
use Rattle.area.specs.Notes.{Zeros}
use Rattle.area.proofs.Area.{get_d_past}
use Rattle.audit.specs.Whole.{nodes_of, up_to, Cut}
use Rattle.audit.proofs.Words.{eight}
use Rattle.audit.proofs.Trims.{trimmed, untrimmed}

pub area_long : (b a : List ℕ) → Shaped b → a ≡ nodes_of b → length a ≡ width * room b
area_long b a B ea = rw ea (length-drop (17 + room b / 32) b ∙ omega (arith, B.long))

word_is : (b a : List ℕ) → a ≡ nodes_of b → (j i : ℕ) → node_word b j (suc i) ≡ get_or a (width * i + j) 0
word_is b a ea j i = rw ea (ap (word b) (omega arith) ∙ sym (get_or-drop (17 + room b / 32) b (width * i + j) 0))

-- nothing is occupied from occupancy word w on
module _ (b a : List ℕ) (B : Shaped b) (ea : a ≡ nodes_of b) (w : ℕ) (le : w ≤ room b / 32) (none : (k : ℕ) → w ≤ k → k < room b / 32 → word b (17 + k) ≡ 0) where
  free : (i : ℕ) → 32 * w < i → occupied_at b i ≡ false
  free zero p = refl
  free (suc k) p = go (dec_lt k (room b))
    where
      go : Dec (k < room b) → occupied_at b (suc k) ≡ false
      go (yes q) = word-free b k (none (k / 32) (omega arith) (omega (arith, B.whole)))
      go (no q) = rw (le-ltb k (room b) (omega arith))

  -- in a sound block the words beyond are zeros
  pub tail_zeros : SoundBlock b → Zeros a (width * (32 * w)) (width * room b - width * (32 * w))
  tail_zeros S i lt =
      let k = 32 * w + i / 8 in
      let z : width * k + i % 8 ≡ width * (32 * w) + i = omega arith in
      let Z = S.sound.kept.linked.blank (suc k) (omega arith) (omega arith) (free (suc k) (omega arith)) in
      ap (λ y. get_or a y 0) (sym z) ∙ sym (word_is b a ea (i % 8) k) ∙ blank_word (suc k) Z (i % 8) (omega arith)
    where
      blank_word : (y : ℕ) → Blank (heap b) y → (j : ℕ) → j < 8 → node_word b j y ≡ 0
      blank_word y Z = eight (λ j. node_word b j y ≡ 0) Z.key Z.value Z.left Z.right Z.size Z.count (omega (arith, Z.sum)) (omega (arith, Z.sum))

  pub cut_is : (m : ℕ) → m ≡ 32 * w → Zeros a (width * (32 * w)) (width * room b - width * (32 * w)) → Cut b (take (width * m) a) m
  cut_is m em Z = record {
    shaped = B;
    within = omega (arith, B.whole);
    whole = ap (λ x. x % 32) em ∙ omega arith;
    long = length-take (width * m) a ∙ omega (arith, area_long b a B ea, B.whole);
    words = words;
    free = λ i p. free i (omega arith);
  }
    where
      words : (j i : ℕ) → node_word b j i ≡ area_word (take (width * m) a) j i
      words j zero = refl
      words j (suc i) = word_is b a ea j i ∙ go (dec_lt (width * i + j) (width * m)) (dec_lt (width * i + j) (width * room b))
        where
          go : Dec (width * i + j < width * m) → Dec (width * i + j < width * room b) → get_or a (width * i + j) 0 ≡ get_or (take (width * m) a) (width * i + j) 0
          go (yes p) d = sym (get_or-take (width * m) a (width * i + j) 0 p)
          go (no p) (yes q) =
              let z : width * (32 * w) + (width * i + j - width * (32 * w)) ≡ width * i + j = omega arith in
              ap (λ y. get_or a y 0) (sym z) ∙ Z (width * i + j - width * (32 * w)) (omega arith) ∙ sym (get_d_past (take (width * m) a) (width * i + j) (omega (arith, length-take (width * m) a)))
          go (no p) (no q) = get_d_past a (width * i + j) (omega (arith, area_long b a B ea)) ∙ sym (get_d_past (take (width * m) a) (width * i + j) (omega (arith, length-take (width * m) a)))

-- the cut heap is sound exactly when the block is
pub cut_tells : (b a : List ℕ) (n : ℕ) → Cut b a n → (r : Bool) → Tells r (Sound (up_to (heap b) n)) → Tells r (SoundBlock b)
cut_tells b a n C r = tells_map r
    (λ S. record { shaped = C.shaped; sound = untrimmed (heap b) n C.within C.free beyond S })
    (λ S. trimmed (heap b) n C.within C.free beyond S.sound)
  where
    zero_word : (j i : ℕ) → n < i → node_word b j i ≡ 0
    zero_word j zero p = absurd (omega arith)
    zero_word j (suc i) p = C.words j (suc i) ∙ get_d_past a (width * i + j) (omega (arith, C.long))

    beyond : (i : ℕ) → n < i → Blank (heap b) i
    beyond i p = record { key = zero_word 0 i p; value = zero_word 1 i p; left = zero_word 2 i p; right = zero_word 3 i p; size = zero_word 4 i p; count = zero_word 5 i p; sum = omega (arith, zero_word 6 i p, zero_word 7 i p) }
