-- A node's bit set or cleared, and its words written one after another: nothing else of the block changes.
use mathlib.Core.Path.{◌≡◌, refl, ap, sym, ◌∙◌}
use mathlib.Core.Logic.{◌≢◌}
use Prim.Native.Nat.{ℕ, zero, suc, ◌+◌, ◌-◌, ◌*◌, ◌/◌, ◌%◌, ◌^◌, ◌≤◌, ◌<◌}
use mathlib.Core.Bool.{Bool, true, false, true≢false, ◌&&◌}
use mathlib.Core.List.{List}
use lib.ListN.{set, length-set}
use lib.Seq.{get_or-set_same, get_or-set_other}
use lib.Dec.{eqb, ltb}
use borrow.Author.Tests.{ltb-true, lt-ltb, eqb-true, eqb-false}
use native.Mathlib.Omega.{arith}
use native.Mathlib.Decide.{ℕ_discrete}
use Rattle.model.specs.Heap.{Occupied}
use Rattle.model.specs.Block.{word, room, width, node_word, node_at, bit, occupied_at, heap, Shaped}
use Rattle.model.specs.Moves.{Except, Emptied, Writing}
use Rattle.model.proofs.block.Words.{spot, room-set, root_set, occupied_set, node_set_same, node_set_other, node_set-word, shaped_set}
use Rattle.block.specs.Words.{written}
use lib.Bits.{bit_xor}
use Rattle.std.proofs.lemmas.Nat.Bits.{bit_at_xor, bit_at-pow_same, bit_at-pow_other}

-- The bit

abbrev bit_of : List ℕ → ℕ → ℕ
bit_of b n = bit (word b (17 + n / 32)) (n % 32)

bit-one : (b : List ℕ) (n : ℕ) → occupied_at b (suc n) ≡ true → (n < room b) × (bit_of b n ≡ 1)
bit-one b n o = go (ltb n (room b)) (eqb (bit_of b n) 1) refl refl o
  where
    go : (s t : Bool) → ltb n (room b) ≡ s → eqb (bit_of b n) 1 ≡ t → (s && t) ≡ true → (n < room b) × (bit_of b n ≡ 1)
    go true true p q e = (ltb-true n (room b) p, eqb-true (bit_of b n) 1 q)
    go true false p q e = absurd (true≢false (sym e))
    go false true p q e = absurd (true≢false (sym e))
    go false false p q e = absurd (true≢false (sym e))

bit-zero : (b : List ℕ) (n : ℕ) → n < room b → occupied_at b (suc n) ≡ false → bit_of b n ≡ 0
bit-zero b n lt z =
    let e : eqb (bit_of b n) 1 ≡ false = rw (lt-ltb n (room b) lt) at z in
    omega (arith, eqb-false (bit_of b n) 1 e)

-- the word of node suc n's bit becomes y, in which all other bits are as they were
module _ (b : List ℕ) (B : Shaped b) (n y : ℕ) (taken : Bool) (lt : n < room b) (here : eqb (bit y (n % 32)) 1 ≡ taken) (others : (i : ℕ) → i ≢ n % 32 → bit y i ≡ bit (word b (17 + n / 32)) i) (xs : ℕ → ℕ) where
  abbrev marked : List ℕ
  marked = set b (17 + n / 32) y

  room_marked : room marked ≡ room b
  room_marked = get_or-set_other b (17 + n / 32) 0 y 0 (omega arith)

  word_marked : word marked (17 + n / 32) ≡ y
  word_marked = get_or-set_same b (17 + n / 32) y 0 (omega (arith, B.long))

  others_marked : (m : ℕ) → m ≢ suc n → occupied_at marked m ≡ occupied_at b m
  others_marked zero ne = refl
  others_marked (suc m) ne = rw room_marked (ap (λ x. ltb m (room b) && eqb x 1) (go (ℕ_discrete (m / 32) (n / 32))))
    where
      go : Dec (m / 32 ≡ n / 32) → bit_of marked m ≡ bit_of b m
      go (yes e) = rw (e, word_marked) (others (m % 32) (omega arith))
      go (no e) = rw (get_or-set_other b (17 + n / 32) (17 + m / 32) y 0 (omega arith))

  words_marked : (i m : ℕ) → i < width → node_word marked i m ≡ node_word b i m
  words_marked i zero l = refl
  words_marked i (suc m) l = rw room_marked (get_or-set_other b (17 + n / 32) (17 + room b / 32 + width * m + i) y 0 (omega (arith, B.whole)))

  bit_marked : Writing b marked (suc n) taken xs 0
  bit_marked = record {
    shaped = record { least = rw room_marked B.least; most = rw room_marked B.most; whole = rw room_marked B.whole; long = rw room_marked (length-set b (17 + n / 32) y ∙ B.long) };
    low = omega arith;
    high = rw room_marked lt;
    room_kept = room_marked;
    root = λ v l. get_or-set_other b (17 + n / 32) (1 + v) y 0 (omega arith);
    occupied = others_marked;
    bit = rw (room_marked, lt-ltb n (room b) lt, word_marked) here;
    words = λ i m l _. words_marked i m l;
    here = λ i l. absurd (omega arith);
  }

-- of node n's words the first j are written, and its count is 0, as in every free node
abbrev pub Uncounted : (b e : List ℕ) (n : ℕ) (taken : Bool) (xs : ℕ → ℕ) (j : ℕ) → Type 0
Uncounted b e n taken xs j = Writing b e n taken xs j × (node_word e 5 n ≡ 0)

-- a node that a make can take
pub record Unoccupied (b : List ℕ) (n : ℕ) : Type 0 where
  pub shaped : Shaped b
  pub low : 1 ≤ n
  pub high : n ≤ room b
  pub free : occupied_at b n ≡ false

-- bit j of a word is turned, and every other bit stays
turned_here : (x j : ℕ) → bit (bit_xor x (2 ^ j)) j ≡ 1 - bit x j
turned_here x j = omega (arith, bit_at_xor x (2 ^ j) j, bit_at-pow_same j)

turned_other : (x j i : ℕ) → i ≢ j → bit (bit_xor x (2 ^ j)) i ≡ bit x i
turned_other x j i ne = omega (arith, bit_at_xor x (2 ^ j) i, bit_at-pow_other j i ne)

-- a free node is taken
pub took : {b e : List ℕ} (n : ℕ) (xs : ℕ → ℕ) → Unoccupied b n → node_word b 5 n ≡ 0
    → e ≡ set b (17 + (n - 1) / 32) (bit_xor (word b (17 + (n - 1) / 32)) (2 ^ ((n - 1) % 32))) → Uncounted b e n true xs 0
took zero xs F z q = absurd (omega (arith, F.low))
took {b} (suc n) xs F z q =
    let e : suc n - 1 ≡ n = omega arith in
    let x = word b (17 + n / 32) in
    let y = bit_xor x (2 ^ (n % 32)) in
    let here : eqb (bit y (n % 32)) 1 ≡ true = rw (turned_here x (n % 32), bit-zero b n F.high F.free) in
    let others = turned_other x (n % 32) in
    rw (q, e) (bit_marked b F.shaped n y true F.high here others xs, words_marked b F.shaped n y true F.high here others xs 5 (suc n) (omega arith) ∙ z)

-- an occupied one is free again
pub free-asks : (b : List ℕ) (n : ℕ) → Shaped b → Occupied (heap b) n
    → Shaped b × (1 ≤ n) × (n ≤ room b) × (bit (word b (17 + (n - 1) / 32)) ((n - 1) % 32) ≡ 1)
free-asks b zero B o = absurd (true≢false (sym o))
free-asks b (suc n) B o = let q = bit-one b n o in let e : suc n - 1 ≡ n = omega arith in (B, omega arith, q.0, rw e q.1)

pub occupied_within : (b : List ℕ) (n : ℕ) → Occupied (heap b) n → (1 ≤ n) × (n ≤ room b)
occupied_within b zero o = absurd (true≢false (sym o))
occupied_within b (suc n) o = (omega arith, (bit-one b n o).0)

pub freed : {b e : List ℕ} (n : ℕ) (xs : ℕ → ℕ) → Shaped b → Occupied (heap b) n
    → e ≡ set b (17 + (n - 1) / 32) (bit_xor (word b (17 + (n - 1) / 32)) (2 ^ ((n - 1) % 32))) → Writing b e n false xs 0
freed zero xs B o q = absurd (true≢false (sym o))
freed {b} (suc n) xs B o q =
    let e : suc n - 1 ≡ n = omega arith in
    let x = word b (17 + n / 32) in
    let one = bit-one b n o in
    rw (q, e) (bit_marked b B n (bit_xor x (2 ^ (n % 32))) false one.0 (rw (turned_here x (n % 32), one.1)) (turned_other x (n % 32)) xs)

-- The words

abbrev pub fields : (k v l r s t : ℕ) → ℕ → ℕ
fields k v l r s t zero = k
fields k v l r s t (suc zero) = v
fields k v l r s t (suc (suc zero)) = l
fields k v l r s t (suc (suc (suc zero))) = r
fields k v l r s t (suc (suc (suc (suc zero)))) = s
fields k v l r s t (suc (suc (suc (suc (suc zero))))) = 0
fields k v l r s t (suc (suc (suc (suc (suc (suc zero)))))) = t % 4294967296
fields k v l r s t (suc (suc (suc (suc (suc (suc (suc j))))))) = t / 4294967296

-- one word more of those that are written in their order
grow : {b e : List ℕ} {n j : ℕ} {taken : Bool} {xs : ℕ → ℕ} → Writing b e n taken xs j → node_word e j n ≡ xs j → Writing b e n taken xs (suc j)
grow {b} {e} {n} {j} {taken} {xs} W is = record { shaped = W.shaped; low = W.low; high = W.high; room_kept = W.room_kept; root = W.root; occupied = W.occupied; bit = W.bit; words = W.words; here = λ i l. go i l (ℕ_discrete i j) }
  where
    go : (i : ℕ) → i < suc j → Dec (i ≡ j) → node_word e i n ≡ xs i
    go i l (yes d) = rw d is
    go i l (no d) = W.here i (omega arith)

-- word i of node n becomes x: its other words stay
module _ {b e : List ℕ} (n : ℕ) {j : ℕ} {taken : Bool} {xs : ℕ → ℕ} (i x p : ℕ) (W : Writing b e (suc n) taken xs j) (in_node : i < width) (at : p ≡ node_at e (suc n) + i) where
  there : p ≡ spot e n i
  there = omega arith

  put_here : node_word (set e p x) i (suc n) ≡ x
  put_here = rw there (node_set_same e W.shaped n i x W.high in_node)

  put_other : (m : ℕ) → m < width → m ≢ i → node_word (set e p x) m (suc n) ≡ node_word e m (suc n)
  put_other m l ne = rw there (node_set-word e W.shaped n i x W.high in_node m (suc n) l ne)

  put : j ≤ i → Writing b (set e p x) (suc n) taken xs j
  put before = rw there (record {
    shaped = shaped_set e W.shaped n i x W.high in_node;
    low = W.low;
    high = rw (room-set e W.shaped n i x W.high in_node) W.high;
    room_kept = room-set e W.shaped n i x W.high in_node ∙ W.room_kept;
    root = λ v l. root_set e W.shaped n i x W.high in_node v l ∙ W.root v l;
    occupied = λ m ne. occupied_set e W.shaped n i x W.high in_node m ∙ W.occupied m ne;
    bit = occupied_set e W.shaped n i x W.high in_node (suc n) ∙ W.bit;
    words = λ k m l ne. node_set_other e W.shaped n i x W.high in_node k m l ne ∙ W.words k m l ne;
    here = λ k l. node_set-word e W.shaped n i x W.high in_node k (suc n) (omega arith) (omega arith) ∙ W.here k l;
  })

-- the next word, which is not the count
step : {b e : List ℕ} (n : ℕ) {j : ℕ} {taken : Bool} {xs : ℕ → ℕ} (x p : ℕ) → Uncounted b e n taken xs j → j < width → j ≢ 5
    → p ≡ node_at e n + j → x ≡ xs j → Uncounted b (set e p x) n taken xs (suc j)
step zero x p (W, z) in_node ne at is = absurd (omega (arith, W.low))
step (suc n) {j} x p (W, z) in_node ne at is =
    (grow (put n j x p W in_node at (omega arith)) (put_here n j x p W in_node at ∙ is), put_other n j x p W in_node at 5 (omega arith) (λ e. ne (omega (arith, e))) ∙ z)

-- the count alone
pub uncounted : {b e f : List ℕ} (n : ℕ) {taken : Bool} {xs : ℕ → ℕ} → Writing b e n taken xs 0 → f ≡ set e (node_at e n + 5) 0 → Uncounted b f n taken xs 0
uncounted zero W q = absurd (omega (arith, W.low))
uncounted {b} {e} (suc n) W q = let p = node_at e (suc n) + 5 in rw q (put n 5 0 p W (omega arith) refl (omega arith), put_here n 5 0 p W (omega arith) refl)

pub wrote : {b e f : List ℕ} (n : ℕ) {taken : Bool} (k v l r s t : ℕ) → Uncounted b e n taken (fields k v l r s t) 0
    → f ≡ written e (node_at e n) k v l r s t → Writing b f n taken (fields k v l r s t) width
unfolding written
wrote {b} {e} n k v l r s t W0 q =
    let p = node_at e n in
    let kept = W0.0.room_kept in
    let W1 = step n k p W0 (omega arith) (omega arith) (omega arith) refl in
    let W2 = step n v (p + 1) W1 (omega arith) (omega arith) (omega (arith, kept, W1.0.room_kept)) refl in
    let W3 = step n l (p + 2) W2 (omega arith) (omega arith) (omega (arith, kept, W2.0.room_kept)) refl in
    let W4 = step n r (p + 3) W3 (omega arith) (omega arith) (omega (arith, kept, W3.0.room_kept)) refl in
    let W5 = step n s (p + 4) W4 (omega arith) (omega arith) (omega (arith, kept, W4.0.room_kept)) refl in
    let W7 = step n (t % 4294967296) (p + 6) (grow W5.0 W5.1, W5.1) (omega arith) (omega arith) (omega (arith, kept, W5.0.room_kept)) refl in
    rw q (step n (t / 4294967296) (p + 7) W7 (omega arith) (omega arith) (omega (arith, kept, W7.0.room_kept)) refl).0

pub writing_except : {b e : List ℕ} {n j : ℕ} {taken : Bool} {xs : ℕ → ℕ} → Writing b e n taken xs j → Except (heap b) (heap e) n
writing_except {b} {e} {n} W = record { room = W.room_kept; root = W.root; occupied = W.occupied; key = words 0 (omega arith); value = words 1 (omega arith); left = words 2 (omega arith); right = words 3 (omega arith); size = words 4 (omega arith); sum = λ m ne. omega (arith, words 6 (omega arith) m ne, words 7 (omega arith) m ne) }
  where
    words : (i : ℕ) → i < width → (m : ℕ) → m ≢ n → node_word e i m ≡ node_word b i m
    words i l m ne = W.words i m l ne

-- all of them zero
pub emptied : {b e : List ℕ} {n : ℕ} → Writing b e n false (fields 0 0 0 0 0 0) width → Occupied (heap b) n → Emptied (heap b) (heap e) n
emptied W o = record {
  was = o;
  except = writing_except W;
  free = W.bit;
  blank = record { key = W.here 0 (omega arith); value = W.here 1 (omega arith); left = W.here 2 (omega arith); right = W.here 3 (omega arith); size = W.here 4 (omega arith); count = W.here 5 (omega arith); sum = omega (arith, W.here 6 (omega arith), W.here 7 (omega arith)) };
  counts = λ m ne. W.words 5 m (omega arith) ne;
}
