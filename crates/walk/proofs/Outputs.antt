-- Wanted rows put one after another into their places are the part of the listing that fits, and what stood after it.
use mathlib.Core.Path.{◌≡◌, refl, ap, sym, ◌∙◌}
use mathlib.Core.Bool.{Bool, true, false}
use mathlib.Core.List.{List, [], ◌∷◌, ◌++◌, append_assoc}
use Prim.Native.Nat.{ℕ, zero, suc, ◌+◌, ◌-◌, ◌*◌, ◌/◌, ◌≤◌, ◌<◌, min}
use native.Mathlib.Nat.{add-zero, sub-zero, add-sub_cancel_left, suc-mul, le-div_iff_mul-le}
use native.Mathlib.Numerals.{add-one}
use native.Mathlib.Omega.{arith}
use native.Mathlib.Decide.{dec_le}
use lib.ListN.{length, take, drop, length-append, length-take, length-drop}
use lib.Seq.{sets, sets-eq, take_at, drop-append-add, drop-drop}
use lib.Dec.{ltb}
use borrow.Rule.Slice.PartMut.{put_mid}
use borrow.Author.Tests.{lt-ltb, le-ltb, le-leb, lt-leb}
use Rattle.model.specs.Listing.{Row}
use Rattle.walk.specs.declared.Wanted.{Wanted}
use Rattle.walk.specs.declared.Wanted.TheVariants.{Rows, Puts, Removes}
use Rattle.walk.specs.Rows.{wants, chosen, width, words, words_of, part, written, put_at, counted, shown}

-- all rows shown, the first after n wanted ones
unfoldable pub shows : Wanted → ℕ → ℕ → List Row → List ℕ → List ℕ
shows w start n [] out = out
shows w start n (r ∷ rs) out = shows w start (n + counted w r) rs (shown w start n r out)

-- the same of wanted rows only
placed : Wanted → ℕ → ℕ → List Row → List ℕ → List ℕ
placed w start n [] out = out
placed w start n (r ∷ rs) out = placed w start (suc n) rs (elim (ltb n start) [ true ↦ out | false ↦ put_at (width w) (n - start) (words w r) out ])

module _ (w : Wanted) (start : ℕ) where
  shows_chosen : (n : ℕ) (rs : List Row) (out : List ℕ) → shows w start n rs out ≡ placed w start n (chosen w rs) out
  unfolding shows placed chosen counted shown
  shows_chosen n [] out = refl
  shows_chosen n (r ∷ rs) out = go (λ m o. shows_chosen m rs o) (wants w r)
    where
      put : List ℕ
      put = elim (ltb n start) [ true ↦ out | false ↦ put_at (width w) (n - start) (words w r) out ]

      go : ((m : ℕ) (o : List ℕ) → shows w start m rs o ≡ placed w start m (chosen w rs) o) → (t : Bool)
          → shows w start (n + elim t [ true ↦ 1 | false ↦ 0 ]) rs (elim t [ true ↦ put | false ↦ out ]) ≡ placed w start n (elim t [ true ↦ r ∷ chosen w rs | false ↦ chosen w rs ]) out
      go ih true = rw add-one (ih (suc n) put)
      go ih false = rw add-zero (ih n out)

  -- rows before the start leave the output alone
  placed_skips : (n : ℕ) (rs : List Row) (out : List ℕ) → n ≤ start → placed w start n rs out ≡ placed w start start (drop (start - n) rs) out
  unfolding placed
  placed_skips n [] out h = go (start - n)
    where
      go : (k : ℕ) → out ≡ placed w start start (drop k []) out
      go zero = refl
      go (suc k) = refl
  placed_skips n (r ∷ rs) out h = go (dec_le start n) (placed_skips (suc n) rs out)
    where
      go : Dec (start ≤ n) → (suc n ≤ start → placed w start (suc n) rs out ≡ placed w start start (drop (start - suc n) rs) out)
          → placed w start n (r ∷ rs) out ≡ placed w start start (drop (start - n) (r ∷ rs)) out
      go (yes p) ih =
          let e : n ≡ start = omega arith in
          let z : 0 ≡ start - n = omega arith in
          ap (λ (k : ℕ). placed w start k (r ∷ rs) out) e ∙ ap (λ (k : ℕ). placed w start start (drop k (r ∷ rs)) out) z
      go (no p) ih =
          let e : start - n ≡ suc (start - suc n) = omega arith in
          rw (e, lt-ltb n start (omega arith)) (ih (omega arith))

-- division by the width, where the width is a number
record Divides (k : ℕ) : Type 0 where
  none : (x : ℕ) → x < k → x / k ≡ 0
  some : (x : ℕ) → k ≤ x → x / k ≡ suc ((x - k) / k)
  ahead : (i x : ℕ) → (i * k + x) / k ≡ i + x / k
  next : (i : ℕ) → suc i * k ≡ i * k + k

divides : (w : Wanted) → Divides (width w)
divides Rows = record { none = λ x h. omega arith; some = λ x h. omega arith; ahead = λ i x. omega arith; next = λ i. omega arith }
divides Puts = record { none = λ x h. omega arith; some = λ x h. omega arith; ahead = λ i x. omega arith; next = λ i. omega arith }
divides Removes = record { none = λ x h. omega arith; some = λ x h. omega arith; ahead = λ i x. omega arith; next = λ i. omega arith }

words_long : (w : Wanted) (r : Row) → length (words w r) ≡ width w
words_long Rows r = refl
words_long Puts r = refl
words_long Removes r = refl

module _ (k i : ℕ) (ws out : List ℕ) where
  pub put_none : length out / k ≤ i → put_at k i ws out ≡ out
  unfolding put_at
  put_none h = rw (le-leb (length out / k) i h, put_at)

  pub put_some : i < length out / k → put_at k i ws out ≡ sets out (i * k) ws
  unfolding put_at
  put_some h = rw (lt-leb (length out / k) i h, put_at)

-- the words written over a part of the output, from word i * k on
pub put_mid_at : (k i : ℕ) (ws out : List ℕ) → 0 < k → i < length out / k → length ws ≡ k → put_mid (i * k) (i * k + k - i * k) out ws ≡ put_at k i ws out
put_mid_at k i ws out p h e =
    let n : i * k + k - i * k ≡ k = add-sub_cancel_left (i * k) k in
    let fits : suc i * k ≤ length out = (le-div_iff_mul-le p).0 h in
    let room : i * k + length ws ≤ length out = rw e (omega (arith, suc-mul i k)) in
    rw (put_some k i ws out h, sets-eq ws out (i * k) room, n, drop-drop k (i * k) out, e, append_assoc)

-- row i right after i rows, if it fits
put_next : (k i : ℕ) (ws p o : List ℕ) → Divides k → length ws ≡ k → length p ≡ i * k → k ≤ length o → put_at k i ws (p ++ o) ≡ (p ++ ws) ++ drop k o
put_next k i ws p o d e f h =
    let g : length (p ++ o) ≡ i * k + length o = omega (arith, length-append p o) in
    let room : i < length (p ++ o) / k = rw (g, d.ahead i (length o), d.some (length o) h) (omega arith) in
    let past : drop (i * k + length ws) (p ++ o) ≡ drop k o = rw (e, ← f) (drop-append-add p o k) in
    put_some k i ws (p ++ o) room ∙ (sets-eq ws (p ++ o) (i * k) (omega arith) ∙ rw (take_at p o (i * k) f, past, append_assoc))

module _ (w : Wanted) (start : ℕ) where
  -- a full output stays
  placed_full : (i : ℕ) (rs : List Row) (out : List ℕ) → length out / width w ≤ i → placed w start (start + i) rs out ≡ out
  unfolding placed
  placed_full i [] out h = refl
  placed_full i (r ∷ rs) out h =
      let e : suc (start + i) ≡ start + suc i = omega arith in
      let f : start + i - start ≡ i = omega arith in
      rw (le-ltb (start + i) start (omega arith), f, put_none (width w) i (words w r) out h, e) (placed_full (suc i) rs out (omega arith))

  -- rows from the start on, after i rows p
  placed_fills : (i : ℕ) (rs : List Row) (p o : List ℕ) → length p ≡ i * width w →
      placed w start (start + i) rs (p ++ o) ≡ p ++ (words_of w (take (length o / width w) rs) ++ drop (length (words_of w (take (length o / width w) rs))) o)
  unfolding placed words_of
  placed_fills i [] p o f = go (length o / width w)
    where
      go : (k : ℕ) → p ++ o ≡ p ++ (words_of w (take k []) ++ drop (length (words_of w (take k []))) o)
      go zero = refl
      go (suc k) = refl
  placed_fills i (r ∷ rs) p o f = go (dec_le (width w) (length o)) (placed_fills (suc i) rs)
    where
      d : Divides (width w)
      d = divides w

      ws : List ℕ
      ws = words w r

      Goal : ℕ → Type 0
      Goal k = placed w start (start + i) (r ∷ rs) (p ++ o) ≡ p ++ (words_of w (take k (r ∷ rs)) ++ drop (length (words_of w (take k (r ∷ rs)))) o)

      After : Type 0
      After = (q v : List ℕ) → length q ≡ suc i * width w → placed w start (start + suc i) rs (q ++ v) ≡ q ++ (words_of w (take (length v / width w) rs) ++ drop (length (words_of w (take (length v / width w) rs))) v)

      go : Dec (width w ≤ length o) → After → Goal (length o / width w)
      go (no q) ih =
          let z = d.none (length o) (omega arith) in
          let full : length (p ++ o) / width w ≤ i = rw (length-append p o, f, d.ahead i (length o), z) (omega arith) in
          rw z (placed_full i (r ∷ rs) (p ++ o) full)
      go (yes q) ih =
          let v = drop (width w) o in
          let long : length v ≡ length o - width w = length-drop (width w) o in
          let rest = words_of w (take (length v / width w) rs) in
          let e : suc (start + i) ≡ start + suc i = omega arith in
          let g : start + i - start ≡ i = omega arith in
          let m : length (p ++ ws) ≡ suc i * width w = omega (arith, length-append p ws, words_long w r, d.next i) in
          let k : length o / width w ≡ suc (length v / width w) = rw long (d.some (length o) q) in
          let past : drop (length (ws ++ rest)) o ≡ drop (length rest) v = rw (length-append ws rest, words_long w r) (sym (drop-drop (length rest) (width w) o)) in
          rw (k, le-ltb (start + i) start (omega arith), g, put_next (width w) i ws p o d (words_long w r) f q, e)
          (ih (p ++ ws) v m ∙ rw (past, append_assoc, append_assoc))

  -- the walk's own way of writing gives the part from the start on
  pub shows_written : (rs : List Row) (out : List ℕ) → shows w start 0 rs out ≡ written w start rs out
  unfolding written part
  shows_written rs out =
      let cs = chosen w rs in
      shows_chosen w start 0 rs out
      ∙ (placed_skips w start 0 cs out (omega arith)
      ∙ (ap (λ (k : ℕ). placed w start start (drop k cs) out) (sub-zero start)
      ∙ (ap (λ (k : ℕ). placed w start k (drop start cs) out) (sym (add-zero start)) ∙ placed_fills 0 (drop start cs) [] out (omega arith))))

-- how many words are written
words_of_long : (w : Wanted) (rs : List Row) → length (words_of w rs) ≡ length rs * width w
unfolding words_of
words_of_long w [] = omega arith
words_of_long w (r ∷ rs) = omega (arith, length-append (words w r) (words_of w rs), words_long w r, words_of_long w rs, (divides w).next (length rs))

module _ (w : Wanted) (start : ℕ) (rs : List Row) where
  pub part_long : (room : ℕ) → length (part w start room rs) ≡ min (room / width w) (length (chosen w rs) - start) * width w
  unfolding part
  part_long room = words_of_long w (take (room / width w) (drop start (chosen w rs))) ∙ rw (length-take (room / width w) (drop start (chosen w rs)), length-drop start (chosen w rs))

-- one more row counts if it is wanted
pub chosen_more : (w : Wanted) (n : ℕ) (r : Row) (rs : List Row) → n + length (chosen w (r ∷ rs)) ≡ (n + counted w r) + length (chosen w rs)
unfolding chosen counted
chosen_more w n r rs = go (wants w r)
  where
    go : (t : Bool)
        → n + length {A = Row} (elim t [ true ↦ r ∷ chosen w rs | false ↦ chosen w rs ]) ≡ (n + elim t [ true ↦ 1 | false ↦ 0 ]) + length (chosen w rs)
    go true = omega arith
    go false = omega arith
