-- The wanted ones of neighbouring indexes, part by part, and as they are written one after another.
use mathlib.Core.Path.{◌≡◌, refl, ap, sym, ◌∙◌}
use Prim.Native.Nat.{ℕ, zero, suc, ◌+◌, ◌-◌, ◌≤◌, ◌<◌, min}
use mathlib.Core.Bool.{Bool, true, false}
use mathlib.Core.List.{List, [], ◌∷◌, ◌++◌, append_assoc, append-nil}
use native.Mathlib.Omega.{arith}
use native.Mathlib.Numerals.{add-one}
use lib.ListN.{length, take, set, length-set}
use lib.Seq.{take-suc-set}
use lib.Dec.{leb}
use borrow.Author.Tests.{leb-true, leb-false}
use Rattle.requests.specs.Reading.{choice}

choice-split : (want : ℕ → Bool) (i m n : ℕ) → choice want i (m + n) ≡ choice want i m ++ choice want (i + m) n
unfolding choice
choice-split want i zero n =
    let e : i + 0 ≡ i = omega arith in
    let z : 0 + n ≡ n = omega arith in
    rw (e, z) refl
choice-split want i (suc m) n = go (want i) refl (choice-split want (suc i) m n)
  where
    s : suc m + n ≡ suc (m + n)
    s = omega arith

    e : suc i + m ≡ i + suc m
    e = omega arith

    go : (b : Bool) → want i ≡ b → choice want (suc i) (m + n) ≡ choice want (suc i) m ++ choice want (suc i + m) n
        → choice want i (suc m + n) ≡ choice want i (suc m) ++ choice want (i + suc m) n
    go true q IH = rw (s, q, choice) (ap (λ is. i ∷ is) (IH ∙ rw e refl))
    go false q IH = rw (s, q, choice) (IH ∙ rw e refl)

pub choice_same : (v w : ℕ → Bool) (i n : ℕ) → ((j : ℕ) → i ≤ j → j < i + n → v j ≡ w j) → choice v i n ≡ choice w i n
unfolding choice
choice_same v w i zero f = refl
choice_same v w i (suc n) f = go (w i) refl (choice_same v w (suc i) n (λ j l h. f j (omega arith) (omega arith)))
  where
    go : (b : Bool) → w i ≡ b → choice v (suc i) n ≡ choice w (suc i) n → choice v i (suc n) ≡ choice w i (suc n)
    go true q IH = rw (f i (omega arith) (omega arith), q, choice) (ap (λ is. i ∷ is) IH)
    go false q IH = rw (f i (omega arith) (omega arith), q, choice) IH

choice_false : (i n : ℕ) → choice (λ j. false) i n ≡ []
unfolding choice
choice_false i zero = refl
choice_false i (suc n) = choice_false (suc i) n

-- nothing is wanted
pub choice_none : (want : ℕ → Bool) (i n : ℕ) → ((j : ℕ) → i ≤ j → j < i + n → want j ≡ false) → choice want i n ≡ []
choice_none want i n f = choice_same want (λ j. false) i n f ∙ choice_false i n

-- those below m, and those from m on
pub choice_at : (want : ℕ → Bool) (i m end : ℕ) → i ≤ m → choice want i (end - i) ≡ choice want i (min m end - i) ++ choice want m (end - m)
choice_at want i m end h = go (leb m end) refl
  where
    go : (b : Bool) → leb m end ≡ b → choice want i (end - i) ≡ choice want i (min m end - i) ++ choice want m (end - m)
    go true q =
        let l : m ≤ end = leb-true m end q in
        let a : end - i ≡ (m - i) + (end - m) = omega arith in
        let b : min m end ≡ m = omega arith in
        let c : i + (m - i) ≡ m = omega arith in
        rw (a, b) (choice-split want i (m - i) (end - m) ∙ rw c refl)
    go false q =
        let l : end < m = leb-false m end q in
        let b : min m end ≡ end = omega arith in
        let z : end - m ≡ 0 = omega arith in
        rw (b, z) (unfold choice in sym (append-nil (choice want i (end - i))))

-- one index more at the end
choice-next : (i n : ℕ) → choice (λ j. true) i (n + 1) ≡ choice (λ j. true) i n ++ ((i + n) ∷ [])
unfolding choice
choice-next i n = choice-split (λ j. true) i n 1

-- the indexes from first on, up to i, stand behind the k words that were chosen before
pub record Written (k first end : ℕ) (ws vs : List ℕ) (i n : ℕ) : Type 0 where
  pub low : first ≤ i
  pub high : i - first ≤ end - first
  pub count : n ≡ k + (i - first)
  pub long : length vs ≡ 4096
  pub same : take n vs ≡ take k ws ++ choice (λ j. true) first (i - first)

pub written_none : (k first end : ℕ) (ws : List ℕ) → length ws ≡ 4096 → Written k first end ws ws first k
written_none k first end ws l =
    let z : first - first ≡ 0 = omega arith in
    record { low = omega arith; high = omega arith; count = omega arith; long = l; same = rw z (unfold choice in sym (append-nil (take k ws))) }

module _ {k first end i n : ℕ} {ws vs : List ℕ} (W : Written k first end ws vs i n) where
  pub written_more : {m : ℕ} → k ≤ first → end ≤ 4096 → i < end → m ≡ n → Written k first end ws (set vs m i) (i + 1) (n + 1)
  written_more {m} a b h e = record {
    low = omega (arith, W.low);
    high = omega (arith, W.low);
    count = omega (arith, W.low, W.count);
    long = length-set vs m i ∙ W.long;
    same = rw (e, one, add-one n) (take-suc-set vs n i room ∙ rw (W.same, append_assoc) (ap (λ js. take k ws ++ js) last));
  }
    where
      one : i + 1 - first ≡ i - first + 1
      one = omega (arith, W.low)

      last : choice (λ j. true) first (i - first) ++ (i ∷ []) ≡ choice (λ j. true) first (i - first + 1)
      last = let here : first + (i - first) ≡ i = omega (arith, W.low) in sym (choice-next first (i - first) ∙ rw here refl)

      room : n < length vs
      room = omega (arith, W.count, W.low, W.long)

  pub written_all : end ≤ i → (n ≡ k + (end - first)) × (take n vs ≡ take k ws ++ choice (λ j. true) first (end - first))
  written_all h = let e : end - first ≡ i - first = omega (arith, W.low, W.high) in rw e (W.count, W.same)
