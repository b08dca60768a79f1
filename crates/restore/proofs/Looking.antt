-- Lines are read one after another, and the first that is faulty decides: all before it are good.
use mathlib.Core.Path.{◌≡◌, refl, ap, sym, ◌∙◌}
use mathlib.Core.Logic.{◌≢◌}
use Prim.Native.Nat.{ℕ, zero, suc, ◌+◌, ◌-◌, ◌*◌, ◌/◌, ◌%◌, ◌≤◌, ◌<◌}
use mathlib.Core.Option.{none, some}
use mathlib.Core.List.{List, ◌++◌}
use lib.ListN.{length, take, drop, length-take, length-drop, length-append}
use lib.Seq.{take-append_seam, drop-append_seam, drop-drop}
use native.Mathlib.Omega.{arith}
use native.Mathlib.Decide.{ℕ_discrete}
use Rattle.model.specs.Tree.{Entry}
use Rattle.model.specs.Frame.{field}
use Rattle.model.specs.Text.{numbers_of, entry_of, line_at, line_count, entry_at}
use Rattle.model.specs.Numbers.{ZERO, LINE, ORDER}
use Rattle.model.specs.Restore.{fault_at}
use Rattle.model.proofs.link.Texts.{Closed, entry_open, entry_closed, entry_at_lem}
use Rattle.model.proofs.calls.Restores.{fault_line, fault_zero, order_means, good_faultless}
use Rattle.restore.specs.Answers.{or_zeros, Judged}

-- The numbers of a line.

module _ (cs : List ℕ) where
  -- 17 bytes that do not end in a newline
  pub no_newline : (Closed cs → ⊥) → none ≡ entry_of cs
  no_newline o = sym (entry_open cs o)

  module _ (C : Closed cs) where
    pub no_key : none ≡ field cs 0 8 → none ≡ entry_of cs
    unfolding numbers_of
    no_key e = sym (entry_closed cs C ∙ rw (sym e, numbers_of))

    module _ {key : ℕ} (k : some key ≡ field cs 0 8) where
      pub no_value : none ≡ field cs 8 8 → none ≡ entry_of cs
      unfolding numbers_of
      no_value e = sym (entry_closed cs C ∙ rw (sym k, numbers_of) (rw (sym e)))

      pub both_numbers : {value : ℕ} → some value ≡ field cs 8 8 → some (key, value) ≡ entry_of cs
      unfolding numbers_of
      both_numbers v = sym (entry_closed cs C ∙ rw (sym k, numbers_of) (rw (sym v)))

-- The lines of a text.

-- the least key that line i may have
unfoldable pub lowest : List ℕ → ℕ → ℕ
lowest t zero = 0
lowest t (suc j) = suc (entry_at t j).0

-- i lines have been looked at, and none is faulty
pub record Looked (t : List ℕ) (i low : ℕ) : Type 0 where
  pub upto : i ≤ length t / 17
  pub good : (j : ℕ) → j < i → fault_at t j ≡ 0
  pub least : low ≡ lowest t i

pub looked_none : (t : List ℕ) → Looked t 0 0
unfolding lowest
looked_none t = record { upto = omega arith; good = λ j h. absurd (omega arith); least = refl }

-- a piece of the text that is line i
pub piece_line : (t : List ℕ) (i at end : ℕ) → at ≡ 17 * i → end ≡ at + 17 → take (end - at) (drop at t) ≡ line_at t i
piece_line t i at end e f = let n : end - at ≡ 17 = omega arith in rw (n, e)

pub piece_entry : (t : List ℕ) (i at end : ℕ) → at ≡ 17 * i → end ≡ at + 17 → or_zeros (entry_of (take (end - at) (drop at t))) ≡ entry_at t i
unfolding entry_at
piece_entry t i at end e f = ap (λ (cs : List ℕ). or_zeros (entry_of cs)) (piece_line t i at end e f)

-- a text from line i on, cut after 17 bytes: the first part is line i, and behind it the text goes on from the next line
module _ (t : List ℕ) (i : ℕ) {r : List ℕ} (from : r ≡ drop (17 * i) t) where
  module _ (x s : List ℕ) (cut : r ≡ x ++ s) (long : length x ≡ 17) where
    pub cut_line : x ≡ line_at t i
    cut_line = sym (take-append_seam x s) ∙ ap (λ n. take n (x ++ s)) long ∙ ap (take 17) (sym cut ∙ from)

    pub cut_there : i < length t / 17
    cut_there = let n = ap length (sym cut ∙ from) in omega (arith, n, long, length-append x s, length-drop (17 * i) t)

    pub cut_next : s ≡ drop (17 * (i + 1)) t
    cut_next = let n : 17 * (i + 1) ≡ 17 * i + 17 = omega arith in sym (drop-append_seam x s) ∙ ap (λ n. drop n (x ++ s)) long ∙ ap (drop 17) (sym cut ∙ from) ∙ drop-drop 17 (17 * i) t ∙ ap (λ n. drop n t) (omega arith)

  pub cut_none : length r < 17 → length t / 17 ≤ i
  cut_none lt = let n = ap length from in omega (arith, n, length-drop (17 * i) t)

module _ {t : List ℕ} {i low : ℕ} (L : Looked t i low) where
  -- line i is the first faulty one
  faulty : (n : ℕ) → i < line_count t → fault_at t i ≡ n → n ≢ 0 → Judged t n i
  faulty n h e ne = record { fine = λ z. absurd (ne z); faulty = λ _. record { there = h; is = sym e; faulty = ne; first = L.good } }

  pub finds_malformed : i < length t / 17 → none ≡ entry_of (line_at t i) → Judged t LINE i
  finds_malformed h e = faulty LINE (omega arith) (fault_line t i (sym e)) (λ z. omega arith)

  module _ {k v : ℕ} (h : i < length t / 17) (e : some (k, v) ≡ entry_of (line_at t i)) where
    pub finds_zero : v ≡ 0 → Judged t ZERO i
    finds_zero z = faulty ZERO (omega arith) (fault_zero t i (k, v) (sym e) z) (λ z. omega arith)

    module _ (ne : v ≢ 0) where
      pub finds_order : k < low → Judged t ORDER i
      unfolding lowest
      finds_order lt = go i refl
        where
          go : (j : ℕ) → i ≡ j → Judged t ORDER i
          go zero p = absurd (omega (arith, L.least ∙ ap (lowest t) p))
          go (suc j) p =
              let q : i - 1 ≡ j = omega arith in
              let least = L.least ∙ ap (lowest t) p in
              faulty ORDER (omega arith) ((order_means t i).1 ((k, v), sym e, ne, omega arith, rw q (omega (arith, least)))) (λ z. omega arith)

      above_last : low ≤ k → 0 < i → (entry_at t (i - 1)).0 < k
      unfolding lowest
      above_last le pos = go i refl
        where
          go : (j : ℕ) → i ≡ j → (entry_at t (i - 1)).0 < k
          go zero p = absurd (omega arith)
          go (suc j) p = let q : i - 1 ≡ j = omega arith in let least = L.least ∙ ap (lowest t) p in rw q (omega (arith, least))

      pub goes_on : low ≤ k → Looked t (i + 1) (k + 1)
      unfolding lowest
      goes_on le = record {
        upto = omega arith;
        good = λ j lt. next j lt (ℕ_discrete j i);
        least = least;
      }
        where
          least : k + 1 ≡ lowest t (i + 1)
          least =
              let n : suc i ≡ i + 1 = omega arith in
              let s : k + 1 ≡ suc (entry_at t i).0 = omega (arith, ap (λ (x : Entry). x.0) (entry_at_lem t i (k, v) (sym e))) in
              s ∙ ap (lowest t) n

          next : (j : ℕ) → j < i + 1 → Dec (j ≡ i) → fault_at t j ≡ 0
          next j lt (yes p) = rw p (good_faultless t i (k, v) (sym e) ne (above_last le))
          next j lt (no p) = L.good j (omega arith)

  -- all whole lines are good, and bytes are left behind them
  pub finds_short : length t / 17 ≤ i → length t % 17 ≢ 0 → Judged t LINE (length t / 17)
  finds_short h ne =
      let m = length t / 17 in
      let short : length (line_at t m) < 17 = omega (arith, length-take 17 (drop (17 * m) t), length-drop (17 * m) t) in
      let e : fault_at t m ≡ LINE = fault_line t m (entry_open (line_at t m) (λ C. omega (arith, C.long))) in
      record { fine = λ z. absurd (omega arith); faulty = λ _. record { there = omega arith; is = sym e; faulty = λ z. omega arith; first = λ j lt. L.good j (omega arith) } }
