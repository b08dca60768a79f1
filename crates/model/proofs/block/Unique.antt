-- UNIQUE: two sound blocks with the same N and the same versions are the same words.
use mathlib.Core.Path.{◌≡◌, refl, sym, ◌∙◌}
use Prim.Native.Nat.{ℕ, zero, suc, ◌+◌, ◌-◌, ◌*◌, ◌/◌, ◌%◌, ◌^◌, ◌<◌}
use mathlib.Core.Bool.{Bool, true, false, true≢false}
use mathlib.Core.List.{List}
use lib.ListN.{length}
use lib.Seq.{ext_get_or}
use lib.Pow.{shr-shr}
use lib.Dec.{eqb}
use borrow.Author.Tests.{eqb-true, eqb-false, lt-ltb}
use native.Mathlib.Omega.{arith}
use native.Mathlib.Decide.{dec_lt}
use Rattle.model.specs.Heap.{version}
use Rattle.model.specs.Block.{word, room, width, node_word, bit, occupied_at, heap, Words, SoundBlock}
use Rattle.model.proofs.block.Reach.{SameHeap, SameNode, unique_heap}

-- a number below 2 ^ k is told by its k bits
pub bits_ext : (k x y : ℕ) → x < 2 ^ k → y < 2 ^ k → ((j : ℕ) → j < k → bit x j ≡ bit y j) → x ≡ y
bits_ext zero x y p q e = omega arith
bits_ext (suc k) x y p q e =
    let halves : x / 2 ≡ y / 2 = bits_ext k (x / 2) (y / 2) (omega arith) (omega arith) (λ j lt. shift j (e (1 + j) (omega arith))) in
    let lowest : x % 2 ≡ y % 2 = rw (one x, one y) at (e 0 (omega arith)) in
    omega arith
  where
    one : (z : ℕ) → z / 2 ^ 0 ≡ z
    one z = omega arith

    shift : (j : ℕ) → bit x (1 + j) ≡ bit y (1 + j) → bit (x / 2) j ≡ bit (y / 2) j
    shift j h = rw (shr-shr x 1 j, shr-shr y 1 j) h

-- bits are told by tests
bit_test : (x y j : ℕ) → eqb (bit x j) 1 ≡ eqb (bit y j) 1 → bit x j ≡ bit y j
bit_test x y j e = go (eqb (bit x j) 1) (eqb (bit y j) 1) refl refl
  where
    go : (s t : Bool) → eqb (bit x j) 1 ≡ s → eqb (bit y j) 1 ≡ t → bit x j ≡ bit y j
    go true true p q = omega (arith, eqb-true (bit x j) 1 p, eqb-true (bit y j) 1 q)
    go false false p q = omega (arith, eqb-false (bit x j) 1 p, eqb-false (bit y j) 1 q)
    go true false p q = let z : true ≡ false = cc in absurd (true≢false z)
    go false true p q = let z : true ≡ false = cc in absurd (true≢false z)

module _ (b c : List ℕ) (B : SoundBlock b) (C : SoundBlock c) (N : room b ≡ room c) (same : (v : ℕ) → v < 16 → version (heap b) v ≡ version (heap c) v) where
  same_heap : SameHeap (heap b) (heap c)
  same_heap = unique_heap (heap b) (heap c) B.sound.kept C.sound.kept N same

  at : (i j : ℕ) → j ≡ i → word b j ≡ word c j → word b i ≡ word c i
  at i j e h = rw (← e) h

  -- what the test of an occupied node is for a node of the block
  occupied_bit : (d : List ℕ) (w j : ℕ) → w < room d / 32 → j < 32 → occupied_at d (suc (32 * w + j)) ≡ eqb (bit (word d (17 + w)) j) 1
  occupied_bit d w j lw lj =
      let q : (32 * w + j) / 32 ≡ w = omega arith in
      let r : (32 * w + j) % 32 ≡ j = omega arith in
      rw (lt-ltb (32 * w + j) (room d) (omega arith), q, r)

  same_bit : (w j : ℕ) → w < room b / 32 → j < 32 → bit (word b (17 + w)) j ≡ bit (word c (17 + w)) j
  same_bit w j lw lj = bit_test (word b (17 + w)) (word c (17 + w)) j
      (sym (occupied_bit b w j lw lj) ∙ same_heap.occupied (suc (32 * w + j)) ∙ occupied_bit c w j (rw N at lw) lj)

  same_node : Words b → Words c → (n j : ℕ) → n < room b → j < width → word b (17 + room b / 32 + width * n + j) ≡ word c (17 + room b / 32 + width * n + j)
  same_node fb fc n j q lt = pick j lt (same_heap.nodes (suc n) (omega arith) q) (same_heap.count (suc n) (omega arith) q)
    where
      -- two words tell their number, and the number its two words
      low : SameNode (heap b) (heap c) (suc n) → node_word b 6 (suc n) ≡ node_word c 6 (suc n)
      low S = omega (arith, S.sum, fb (17 + room b / 32 + width * n + 6), fc (17 + room c / 32 + width * n + 6))

      high : SameNode (heap b) (heap c) (suc n) → node_word b 7 (suc n) ≡ node_word c 7 (suc n)
      high S = omega (arith, S.sum, fb (17 + room b / 32 + width * n + 6), fc (17 + room c / 32 + width * n + 6))

      pick : (j : ℕ) → j < width → SameNode (heap b) (heap c) (suc n) → (heap b).count (suc n) ≡ (heap c).count (suc n)
          → word b (17 + room b / 32 + width * n + j) ≡ word c (17 + room b / 32 + width * n + j)
      pick zero lt S t = rw (← N) at S.key
      pick (suc zero) lt S t = rw (← N) at S.value
      pick (suc (suc zero)) lt S t = rw (← N) at S.left
      pick (suc (suc (suc zero))) lt S t = rw (← N) at S.right
      pick (suc (suc (suc (suc zero)))) lt S t = rw (← N) at S.size
      pick (suc (suc (suc (suc (suc zero))))) lt S t = rw (← N) at t
      pick (suc (suc (suc (suc (suc (suc zero)))))) lt S t = rw (← N) at (low S)
      pick (suc (suc (suc (suc (suc (suc (suc zero))))))) lt S t = rw (← N) at (high S)
      pick (suc (suc (suc (suc (suc (suc (suc (suc j)))))))) lt S t = absurd (omega arith)

  pub unique : Words b → Words c → b ≡ c
  unique fb fc = ext_get_or 0 b c (B.shaped.long ∙ rw N (sym C.shaped.long)) each
    where
      each : (i : ℕ) → i < length b → word b i ≡ word c i
      each i lt = head (dec_lt i 1) (dec_lt i 17) (dec_lt i (17 + room b / 32))
        where
          node : ¬ (i < 17 + room b / 32) → word b i ≡ word c i
          node p =
              let m = (i - (17 + room b / 32)) / width in
              let j = (i - (17 + room b / 32)) % width in
              at i (17 + room b / 32 + width * m + j) (omega arith) (same_node fb fc m j (omega (arith, B.shaped.long)) (omega arith))

          head : Dec (i < 1) → Dec (i < 17) → Dec (i < 17 + room b / 32) → word b i ≡ word c i
          head (yes p) y z = at i 0 (omega arith) N
          head (no p) (yes q) z = at i (1 + (i - 1)) (omega arith) (same_heap.root (i - 1) (omega arith))
          head (no p) (no q) (yes r) = at i (17 + (i - 17)) (omega arith) (bits_ext 32 (word b (17 + (i - 17))) (word c (17 + (i - 17))) (fb (17 + (i - 17))) (fc (17 + (i - 17))) (λ j l. same_bit (i - 17) j (omega arith) l))
          head (no p) (no q) (no r) = node r
