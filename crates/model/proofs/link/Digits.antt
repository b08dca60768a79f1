-- Digits: a number is read as it was written, and nothing else is read.
use mathlib.Core.Path.{◌≡◌, refl, ap, sym, ◌∙◌}
use mathlib.Core.Logic.{◌≢◌}
use Prim.Native.Nat.{ℕ, zero, suc, ◌+◌, ◌-◌, ◌*◌, ◌/◌, ◌%◌, ◌^◌, ◌≤◌, ◌<◌}
use mathlib.Core.Bool.{Bool, true, false, ◌&&◌}
use mathlib.Core.Option.{Option, none, some}
use mathlib.Core.List.{List, [], ◌∷◌, ◌++◌, append-nil}
use native.Mathlib.Nat.{pow-suc, add-zero, zero-add}
use native.Mathlib.Omega.{arith}
use lib.Dec.{ltb, leb}
use lib.ListN.{length, get_or, drop, length-append}
use lib.Seq.{append_snoc}
use borrow.Author.Tests.{ltb-true, ltb-false, leb-true, lt-ltb, le-ltb, le-leb}
use Rattle.model.specs.Frame.{digit, value, digits, number, first_bad}
use Rattle.model.proofs.maps.Tests.{both}

-- a digit is read as it was written
pub value-digit : (d : ℕ) → d < 16 → value (digit d) ≡ some d
unfolding digit value
value-digit d h = go (ltb d 10) refl
  where
    go : (b : Bool) → ltb d 10 ≡ b → value (digit d) ≡ some d
    go true e =
        let l = ltb-true d 10 e in
        rw (e, digit) (rw (le-leb 48 (48 + d) (omega arith), lt-ltb (48 + d) 58 (omega arith), value) (ap some (omega arith)))
    go false e =
        let l = ltb-false d 10 e in
        rw (e, digit) (rw (le-leb 48 (87 + d) (omega arith), le-ltb (87 + d) 58 (omega arith), value)
        (rw (le-leb 97 (87 + d) (omega arith), lt-ltb (87 + d) 103 (omega arith)) (ap some (omega arith))))

-- a byte that is read is the digit of what it says
pub digit_value : (c d : ℕ) → value c ≡ some d → (c ≡ digit d) × (d < 16)
unfolding digit value
digit_value c d h = first (leb 48 c && ltb c 58) refl
  where
    second : (b : Bool) → (leb 97 c && ltb c 103) ≡ b → elim b [ true ↦ some (c - 87) | false ↦ none ] ≡ some d → (c ≡ digit d) × (d < 16)
    second true e q =
        let t = both (leb 97 c) (ltb c 103) e in
        let low = leb-true 97 c t.0 in
        let high = ltb-true c 103 t.1 in
        let n : c - 87 ≡ d = cc q in
        (rw (le-ltb d 10 (omega arith), digit) (omega arith), omega arith)
    second false e q = let z : ◌≡◌ {A = ℕ} 0 1 = cc q in absurd (omega arith)

    first : (b : Bool) → (leb 48 c && ltb c 58) ≡ b → (c ≡ digit d) × (d < 16)
    first true e =
        let t = both (leb 48 c) (ltb c 58) e in
        let low = leb-true 48 c t.0 in
        let high = ltb-true c 58 t.1 in
        let n : c - 48 ≡ d = cc (rw (e, value) at h) in
        (rw (lt-ltb d 10 (omega arith), digit) (omega arith), omega arith)
    first false e = second (leb 97 c && ltb c 103) refl (rw (e, value) at h)

-- k digits
pub length_digits : (k n : ℕ) → length (digits k n) ≡ k
unfolding digits
length_digits zero n = refl
length_digits (suc k) n = omega (arith, length-append (digits k (n / 16)) (digit (n % 16) ∷ []), length_digits k (n / 16))

-- one more digit at the low end
number_snoc : (cs : List ℕ) (a n c d : ℕ) → number a cs ≡ some n → value c ≡ some d → number a (cs ++ c ∷ []) ≡ some (n * 16 + d)
unfolding number
number_snoc [] a n c d e h = let f : a ≡ n = cc e in rw (h, number) (rw f)
number_snoc (b ∷ cs) a n c d e h = go (value b) refl (λ m q. number_snoc cs m n c d q h)
  where
    go : (o : Option ℕ) → value b ≡ o → ((m : ℕ) → number m cs ≡ some n → number m (cs ++ c ∷ []) ≡ some (n * 16 + d))
        → number a (b ∷ cs ++ c ∷ []) ≡ some (n * 16 + d)
    go none q ih = let z : ◌≡◌ {A = ℕ} 0 1 = cc (rw (q, number) at e) in absurd (omega arith)
    go (some v) q ih = rw (q, number) (ih (a * 16 + v) (rw (q, number) at e))

-- a number that fits is read as it was written
pub number_digits : (k n : ℕ) → n < 16 ^ k → number 0 (digits k n) ≡ some n
unfolding digits number
number_digits zero n h = let e : n ≡ 0 = omega arith in rw e
number_digits (suc k) n h =
    number_snoc (digits k (n / 16)) 0 (n / 16) (digit (n % 16)) (n % 16) (number_digits k (n / 16) (omega (arith, pow-suc 16 k))) (value-digit (n % 16) (omega arith))
    ∙ ap some (omega arith)

-- what is read behind k digits that gave a was written as the number's digits
number_behind : (cs : List ℕ) (k a n : ℕ) → number a cs ≡ some n → a < 16 ^ k
    → (digits k a ++ cs ≡ digits (k + length cs) n) × (n < 16 ^ (k + length cs))
unfolding digits number
number_behind [] k a n e h =
    let f : a ≡ n = cc e in
    rw (append-nil (digits k a), add-zero k, ← f) (refl, h)
number_behind (c ∷ cs) k a n e h = go (value c) refl (λ m. number_behind cs (suc k) m n)
  where
    go : (o : Option ℕ) → value c ≡ o
        → ((m : ℕ) → number m cs ≡ some n → m < 16 ^ suc k → (digits (suc k) m ++ cs ≡ digits (suc k + length cs) n) × (n < 16 ^ (suc k + length cs)))
        → (digits k a ++ c ∷ cs ≡ digits (k + suc (length cs)) n) × (n < 16 ^ (k + suc (length cs)))
    go none q ih = let z : ◌≡◌ {A = ℕ} 0 1 = cc (rw (q, number) at e) in absurd (omega arith)
    go (some v) q ih =
        let t = digit_value c v q in
        let r = ih (a * 16 + v) (rw (q, number) at e) (omega (arith, t.1, pow-suc 16 k)) in
        let quotient : (a * 16 + v) / 16 ≡ a = omega (arith, t.1) in
        let rest : (a * 16 + v) % 16 ≡ v = omega (arith, t.1) in
        let more : k + suc (length cs) ≡ suc k + length cs = omega arith in
        rw more (rw (t.0, ← append_snoc (digits k a) (digit v) cs) (rw (quotient, rest) at r.0), r.1)

-- bytes that are read are the digits of what they say
pub digits_number : (cs : List ℕ) (n : ℕ) → number 0 cs ≡ some n → (cs ≡ digits (length cs) n) × (n < 16 ^ length cs)
unfolding digits
digits_number cs n e = rw (zero-add (length cs)) at (number_behind cs 0 0 n e (omega arith))

-- The first byte that is no digit.

some_none : {d : ℕ} → ◌≡◌ {A = Option ℕ} (some d) none → ⊥
some_none e = let z : ◌≡◌ {A = ℕ} 0 1 = cc e in absurd (omega arith)

-- those before it are digits
pub first_before : (cs : List ℕ) (i : ℕ) → i < first_bad cs → value (get_or cs i 0) ≢ none
unfolding first_bad
first_before [] i h = absurd (omega arith)
first_before (c ∷ cs) i h = go (value c) refl i (first_before cs) h
  where
    go : (o : Option ℕ) → value c ≡ o → (i : ℕ) → ((j : ℕ) → j < first_bad cs → value (get_or cs j 0) ≢ none) → i < first_bad (c ∷ cs)
        → value (get_or (c ∷ cs) i 0) ≢ none
    go none q i ih h = absurd (omega (arith, rw (q, first_bad) at h))
    go (some d) q zero ih h = λ e. some_none (rw q at e)
    go (some d) q (suc j) ih h = ih j (omega (arith, rw (q, first_bad) at h))

-- it is none
pub first_is : (cs : List ℕ) → first_bad cs < length cs → value (get_or cs (first_bad cs) 0) ≡ none
unfolding first_bad
first_is [] h = absurd (omega arith)
first_is (c ∷ cs) h = go (value c) refl (first_is cs)
  where
    go : (o : Option ℕ) → value c ≡ o → (first_bad cs < length cs → value (get_or cs (first_bad cs) 0) ≡ none) → value (get_or (c ∷ cs) (first_bad (c ∷ cs)) 0) ≡ none
    go none q ih = rw (q, first_bad) q
    go (some d) q ih = rw (q, first_bad) (ih (omega (arith, rw (q, first_bad) at h)))

-- behind digits a byte that is none is the first, and one that is a digit is not
pub first_bad_lem : (cs : List ℕ) (i : ℕ) → i ≤ first_bad cs → value (get_or cs i 0) ≡ none → i ≡ first_bad cs
first_bad_lem cs i h e = go (ltb i (first_bad cs)) refl
  where
    go : (b : Bool) → ltb i (first_bad cs) ≡ b → i ≡ first_bad cs
    go true q = absurd (first_before cs i (ltb-true i (first_bad cs) q) e)
    go false q = omega (arith, ltb-false i (first_bad cs) q)

pub first_more : (cs : List ℕ) (i d : ℕ) → i ≤ first_bad cs → i < length cs → value (get_or cs i 0) ≡ some d → i < first_bad cs
first_more cs i d h l e = go (ltb i (first_bad cs)) refl
  where
    go : (b : Bool) → ltb i (first_bad cs) ≡ b → i < first_bad cs
    go true q = ltb-true i (first_bad cs) q
    go false q =
        let z : first_bad cs ≡ i = omega (arith, ltb-false i (first_bad cs) q) in
        absurd (some_none (sym e ∙ ap (λ j. value (get_or cs j 0)) (sym z) ∙ first_is cs (omega arith)))

-- behind digits it is the first of the rest
pub first_drop : (cs : List ℕ) (at : ℕ) → at ≤ first_bad cs → first_bad cs ≡ at + first_bad (drop at cs)
unfolding first_bad
first_drop cs zero h = sym (zero-add (first_bad cs))
first_drop [] (suc k) h = absurd (omega arith)
first_drop (c ∷ cs) (suc k) h = go (value c) refl (first_drop cs k)
  where
    go : (o : Option ℕ) → value c ≡ o → (k ≤ first_bad cs → first_bad cs ≡ k + first_bad (drop k cs)) → first_bad (c ∷ cs) ≡ suc k + first_bad (drop k cs)
    go none q ih = absurd (omega (arith, rw (q, first_bad) at h))
    go (some d) q ih = rw (q, first_bad) (omega (arith, ih (omega (arith, rw (q, first_bad) at h))))

-- it is not among bytes that are read
pub number_good : (cs ds : List ℕ) (a n : ℕ) → number a cs ≡ some n → length cs ≤ first_bad (cs ++ ds)
unfolding number first_bad
number_good [] ds a n e = omega arith
number_good (c ∷ cs) ds a n e = go (value c) refl (λ m. number_good cs ds m n)
  where
    go : (o : Option ℕ) → value c ≡ o → ((m : ℕ) → number m cs ≡ some n → length cs ≤ first_bad (cs ++ ds)) → length (c ∷ cs) ≤ first_bad (c ∷ cs ++ ds)
    go none q ih = let z : ◌≡◌ {A = ℕ} 0 1 = cc (rw (q, number) at e) in absurd (omega arith)
    go (some v) q ih = rw (q, first_bad) (omega (arith, ih (a * 16 + v) (rw (q, number) at e)))

-- and it is among those that are not
pub number_bad : (cs ds : List ℕ) (a : ℕ) → number a cs ≡ none → first_bad (cs ++ ds) < length cs
unfolding number first_bad
number_bad [] ds a e = absurd (some_none e)
number_bad (c ∷ cs) ds a e = go (value c) refl (λ m. number_bad cs ds m)
  where
    go : (o : Option ℕ) → value c ≡ o → ((m : ℕ) → number m cs ≡ none → first_bad (cs ++ ds) < length cs) → first_bad (c ∷ cs ++ ds) < length (c ∷ cs)
    go none q ih = rw (q, first_bad) (omega arith)
    go (some v) q ih = rw (q, first_bad) (omega (arith, ih (a * 16 + v) (rw (q, number) at e)))
