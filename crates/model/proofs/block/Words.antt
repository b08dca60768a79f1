-- How a block's nodes change when one word is set.
use mathlib.Core.Path.{◌≡◌, refl, ap, sym, ◌∙◌}
use mathlib.Core.Logic.{◌≢◌}
use Prim.Native.Nat.{ℕ, zero, suc, ◌+◌, ◌-◌, ◌*◌, ◌/◌, ◌%◌, ◌≤◌, ◌<◌}
use mathlib.Core.Bool.{true, ◌&&◌}
use mathlib.Core.List.{List}
use lib.ListN.{set, length-set}
use lib.Seq.{get_or-set_same, get_or-set_other}
use lib.Dec.{eqb, ltb}
use borrow.Author.Tests.{le-ltb}
use native.Mathlib.Omega.{arith}
use native.Mathlib.Decide.{ℕ_discrete, dec_lt}
use Rattle.model.specs.Heap.{sum_at, hit}
use Rattle.model.specs.Moves.{Same, Lowered, Raised}
use Rattle.model.proofs.block.Counts.{hit_yes, hit_no}
use Rattle.model.specs.Block.{word, room, width, node_word, node_at, two_words, bit, occupied_at, heap, Shaped}

-- where word j of node suc n lies
abbrev pub spot : List ℕ → ℕ → ℕ → ℕ
spot b n j = 17 + room b / 32 + width * n + j

module _ (b : List ℕ) (B : Shaped b) (n j x : ℕ) (fits : n < room b) (in_node : j < width) where
  pub room-set : room (set b (spot b n j) x) ≡ room b
  room-set = get_or-set_other b (spot b n j) 0 x 0 (omega arith)

  pub root_set : (v : ℕ) → v < 16 → word (set b (spot b n j) x) (1 + v) ≡ word b (1 + v)
  root_set v lt = get_or-set_other b (spot b n j) (1 + v) x 0 (omega arith)

  pub occupied_set : (m : ℕ) → occupied_at (set b (spot b n j) x) m ≡ occupied_at b m
  occupied_set zero = refl
  occupied_set (suc m) = rw room-set (go (dec_lt m (room b)))
    where
      go : Dec (m < room b)
          → (ltb m (room b) && eqb (bit (word (set b (spot b n j) x) (17 + m / 32)) (m % 32)) 1) ≡ (ltb m (room b) && eqb (bit (word b (17 + m / 32)) (m % 32)) 1)
      go (yes p) = rw (get_or-set_other b (spot b n j) (17 + m / 32) x 0 (omega (arith, B.whole)))
      go (no p) = rw (le-ltb m (room b) (omega arith))

  pub node_set_same : node_word (set b (spot b n j) x) j (suc n) ≡ x
  node_set_same = rw room-set (get_or-set_same b (spot b n j) x 0 (omega (arith, B.long)))

  -- another node, or another word of the same
  pub node_set_other : (i m : ℕ) → i < width → m ≢ suc n → node_word (set b (spot b n j) x) i m ≡ node_word b i m
  node_set_other i zero lt ne = refl
  node_set_other i (suc m) lt ne = rw room-set (get_or-set_other b (spot b n j) (17 + room b / 32 + width * m + i) x 0 (omega arith))

  pub node_set-word : (i m : ℕ) → i < width → i ≢ j → node_word (set b (spot b n j) x) i m ≡ node_word b i m
  node_set-word i zero lt ne = refl
  node_set-word i (suc m) lt ne = rw room-set (get_or-set_other b (spot b n j) (17 + room b / 32 + width * m + i) x 0 (omega arith))

-- the same place as code finds it, from the node's number
pub node_word_at : (b : List ℕ) (j n : ℕ) → 1 ≤ n → node_word b j n ≡ word b (node_at b n + j)
node_word_at b j zero p = absurd (omega arith)
node_word_at b j (suc n) p = ap (word b) (omega arith)

-- the shape stays
pub shaped_set : (b : List ℕ) → Shaped b → (n j x : ℕ) → n < room b → j < width → Shaped (set b (spot b n j) x)
shaped_set b B n j x lt in_node = let e = room-set b B n j x lt in_node in record { least = rw e B.least; most = rw e B.most; whole = rw e B.whole; long = rw e (length-set b (spot b n j) x ∙ B.long) }

-- as code finds the place
pub spot_at : (b : List ℕ) (n j : ℕ) → spot b n j ≡ node_at b (suc n) + j
spot_at b n j = omega arith

-- A count set

module _ (b : List ℕ) (B : Shaped b) (n x : ℕ) (lt : n < room b) where
  abbrev counted : List ℕ
  counted = set b (spot b n 5) x

  same_counted : Same (heap b) (heap counted)
  same_counted = record { room = room-set b B n 5 x lt (omega arith); occupied = occupied_set b B n 5 x lt (omega arith); key = other 0 (omega arith) (omega arith); value = other 1 (omega arith) (omega arith); left = other 2 (omega arith) (omega arith); right = other 3 (omega arith) (omega arith); size = other 4 (omega arith) (omega arith); sum = λ m. omega (arith, other 6 (omega arith) (omega arith) m, other 7 (omega arith) (omega arith) m) }
    where
      other : (i : ℕ) → i < width → i ≢ 5 → (m : ℕ) → node_word counted i m ≡ node_word b i m
      other i l ne m = node_set-word b B n 5 x lt (omega arith) i m l ne

  here_counted : node_word counted 5 (suc n) ≡ x
  here_counted = node_set_same b B n 5 x lt (omega arith)

  others_counted : (m : ℕ) → m ≢ suc n → node_word counted 5 m ≡ node_word b 5 m
  others_counted m ne = node_set_other b B n 5 x lt (omega arith) 5 m (omega arith) ne

  words_lowered : occupied_at b (suc n) ≡ true → node_word b 5 (suc n) ≡ x + 1 → Lowered (heap b) (heap counted) (suc n)
  words_lowered o c = record { same = same_counted; root = root_set b B n 5 x lt (omega arith); was = o; here = omega (arith, c, here_counted); others = others_counted }

  words_raised : x ≡ node_word b 5 (suc n) + 1 → Raised (heap b) (heap counted) (suc n)
  words_raised c = record { same = same_counted; root = root_set b B n 5 x lt (omega arith); none = refl; counts = λ m p. go m (ℕ_discrete m (suc n)) }
    where
      go : (m : ℕ) → Dec (m ≡ suc n) → node_word counted 5 m ≡ node_word b 5 m + hit (suc n) m
      go m (yes p) = rw (p, hit_yes (suc n) (suc n) refl) (here_counted ∙ c)
      go m (no p) = omega (arith, others_counted m p, hit_no (suc n) m (λ q. p (sym q)))

-- what the code that lowers a count leaves
pub lowers : (b e : List ℕ) (n x : ℕ) → Shaped b → 1 ≤ n → n ≤ room b → occupied_at b n ≡ true → 1 ≤ node_word b 5 n → x ≡ node_word b 5 n - 1
    → e ≡ set b (node_at b n + 5) x → Shaped e × Lowered (heap b) (heap e) n × (x ≡ node_word e 5 n)
lowers b e zero x B p q o one c w = absurd (omega arith)
lowers b e (suc n) x B p q o one c w = rw (w ∙ ap (λ i. set b i x) (sym (spot_at b n 5))) (shaped_set b B n 5 x q (omega arith), words_lowered b B n x q o (omega arith), sym (here_counted b B n x q))

-- and the code that raises it
pub raises : (b e : List ℕ) (n x : ℕ) → Shaped b → n ≢ 0 → n ≤ room b → x ≡ node_word b 5 n + 1 → e ≡ set b (node_at b n + 5) x
    → Shaped e × Raised (heap b) (heap e) n
raises b e zero x B ne le c w = absurd (ne refl)
raises b e (suc n) x B ne le c w = rw (w ∙ ap (λ i. set b i x) (sym (spot_at b n 5))) (shaped_set b B n 5 x le (omega arith), words_raised b B n x le c)

pub raised_none : (b : List ℕ) (n : ℕ) → n ≡ 0 → Raised (heap b) (heap b) n
raised_none b n e = record {
  same = record { room = refl; occupied = λ m. refl; key = λ m. refl; value = λ m. refl; left = λ m. refl; right = λ m. refl; size = λ m. refl; sum = λ m. refl };
  root = λ v lt. refl;
  none = refl;
  counts = λ m p. omega (arith, hit_no n m (omega arith));
}

-- a sum as code reads its two words
pub sum-words : (b : List ℕ) (n k low high : ℕ) → n ≢ 0 → k ≡ node_at b n → low ≡ word b (k + 6) → high ≡ word b (k + 7) → two_words low high ≡ sum_at (heap b) n
sum-words b zero k low high ne at el eh = absurd (ne refl)
sum-words b (suc n) k low high ne at el eh =
    let l : word b (k + 6) ≡ node_word b 6 (suc n) = ap (word b) (omega arith) in
    let h : word b (k + 7) ≡ node_word b 7 (suc n) = ap (word b) (omega arith) in
    omega arith
