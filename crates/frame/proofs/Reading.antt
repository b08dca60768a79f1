-- Digits are read one after another: those that are left, behind the number so far, say what all of them say.
use mathlib.Core.Path.{◌≡◌, refl, ap, ap₂, sym}
use Rattle.std.specs.Prelude as code
use Prim.Native.Nat.{ℕ, suc, ◌+◌, ◌-◌, ◌*◌, ◌/◌, ◌%◌, ◌^◌, ◌≤◌, ◌<◌}
use mathlib.Core.Option.{Option, none, some}
use mathlib.Core.List.{List, [], ◌∷◌, ◌++◌}
use native.Mathlib.Numerals.{add-one}
use native.Mathlib.Nat.{add-zero, pow-suc, pow-le-pow_right}
use native.Mathlib.Omega.{arith}
use lib.ListN.{length, get_or, take, drop, length-drop, drop_of_length-le}
use lib.Seq.{take-add, drop-drop, drop-cons, length-take-le, get_or-take, get_or-drop}
use Rattle.model.specs.Frame.{◌>>=◌, value, number, field, first_bad}
use Rattle.model.proofs.link.Digits.{digit_value, digits_number, first_bad_lem, first_more}
use Rattle.answers.specs.declared.Fault.TheVariants.{Digit}
use Rattle.frame.specs.Fields.{field_read}

-- what a field that is a number says
pub field_says : (cs : List ℕ) (at k n : ℕ) → some n ≡ field cs at k → code.Ok n ≡ field_read cs at k
unfolding field_read
field_says cs at k n e = rw (sym e, field_read) refl

-- j of the k digits from `at` on are read, and gave n
pub record Reads (cs : List ℕ) (at k n j : ℕ) : Type 0 where
  pub within : j ≤ k
  pub small : n < 16 ^ j
  pub good : at + j ≤ first_bad cs
  pub rest : number n (drop j (take k (drop at cs))) ≡ field cs at k

module _ {cs : List ℕ} {at k n : ℕ} (i : ℕ) (R : Reads cs at k n (i - at)) (inside : at + k ≤ length cs) where
  long : length (take k (drop at cs)) ≡ k
  long = length-take-le k (drop at cs) (omega (arith, length-drop at cs))

  next : at ≤ i → i < at + k → drop (i - at) (take k (drop at cs)) ≡ get_or cs i 0 ∷ drop (i - at + 1) (take k (drop at cs))
  next l h =
      let e : at + (i - at) ≡ i = omega arith in
      rw (add-one, drop-cons (take k (drop at cs)) (i - at) 0 (omega (arith, long)), get_or-take k (drop at cs) (i - at) 0 (omega arith), get_or-drop at cs (i - at) 0, e) refl

  -- a byte that is no digit makes the whole none, and is the line's first
  pub reads_bad : at ≤ i → i < at + k → none ≡ value (get_or cs i 0) → code.Err (Digit i) ≡ field_read cs at k
  unfolding number field_read
  reads_bad l h e =
      let z : none ≡ field cs at k = rw (sym e, number) at (rw (next l h) at R.rest) in
      rw (sym z, field_read) (ap (λ p. code.Err (Digit p)) (first_bad_lem cs i (omega (arith, R.good)) (sym e)))

  -- a digit is taken in
  pub reads_more : (d : ℕ) → at ≤ i → i < at + k → some d ≡ value (get_or cs i 0) → Reads cs at k (n * 16 + d) (i + 1 - at)
  unfolding number
  reads_more d l h e =
      let step : i + 1 - at ≡ i - at + 1 = omega arith in
      rw step (record {
        within = omega arith;
        small = rw (add-one, pow-suc 16 (i - at)) (omega (arith, R.small, (digit_value (get_or cs i 0) d (sym e)).1));
        good = omega (arith, first_more cs i d (omega (arith, R.good)) (omega (arith, inside)) (sym e));
        rest = rw (sym e, number) at (rw (next l h) at R.rest);
      })

  -- which fits, as there are at most eight
  pub reads_fit : (d : ℕ) → k ≤ 8 → at ≤ i → i < at + k → some d ≡ value (get_or cs i 0) → n * 16 + d < 2 ^ 32
  reads_fit d short l h e =
      let most = pow-le-pow_right {n = 16} (omega arith) {i = i + 1 - at} {j = 8} (omega arith) in
      omega (arith, (reads_more d l h e).small, most)

  -- all are read
  pub reads_all : at + k ≤ i → code.Ok n ≡ field_read cs at k
  unfolding number field_read
  reads_all h =
      let e : i - at ≡ k = omega (arith, R.within) in
      let z : drop (i - at) (take k (drop at cs)) ≡ [] = rw e (drop_of_length-le (take k (drop at cs)) {i = k} (omega (arith, long))) in
      let all : some n ≡ field cs at k = rw z at R.rest in
      rw (sym all, field_read)

-- Numbers side by side: digits are read behind the number of those before
number_append : (a : ℕ) (cs ds : List ℕ) → number a (cs ++ ds) ≡ (number a cs >>= λ n. number n ds)
unfolding number
number_append a [] ds = refl
number_append a (c ∷ cs) ds = go (value c) refl (λ n. number_append n cs ds)
  where
    go : (o : Option ℕ) → value c ≡ o → ((n : ℕ) → number n (cs ++ ds) ≡ (number n cs >>= λ m. number m ds))
        → number a (c ∷ cs ++ ds) ≡ (number a (c ∷ cs) >>= λ m. number m ds)
    go none q ih = rw (q, number) refl
    go (some d) q ih = rw (q, number) (ih (a * 16 + d))

-- which goes up by as many places
number_behind : (a b : ℕ) (cs : List ℕ) → number (a + b) cs ≡ (number b cs >>= λ n. some (a * 16 ^ length cs + n))
unfolding number
number_behind a b [] = ap some (omega arith)
number_behind a b (c ∷ cs) = go (value c) refl (λ d. number_behind (a * 16) (b * 16 + d) cs)
  where
    go : (o : Option ℕ) → value c ≡ o → ((d : ℕ) → number (a * 16 + (b * 16 + d)) cs ≡ (number (b * 16 + d) cs >>= λ n. some (a * 16 * 16 ^ length cs + n)))
        → number (a + b) (c ∷ cs) ≡ (number b (c ∷ cs) >>= λ n. some (a * 16 ^ suc (length cs) + n))
    go none q ih = rw (q, number) refl
    go (some d) q ih =
        let sum : (a + b) * 16 + d ≡ a * 16 + (b * 16 + d) = omega arith in
        let up : a * 16 ^ suc (length cs) ≡ a * 16 * 16 ^ length cs = rw (pow-suc 16 (length cs)) (omega arith) in
        rw (q, number) (rw (sum, up) (ih d))

-- so eight digits say what two times four say, the high ones first
pub side_by_side : (cs : List ℕ) (at : ℕ) → at + 8 ≤ length cs → {A : Type 0} (f : ℕ → ℕ → Option A)
    → (field cs at 8 >>= λ n. f (n / 65536) (n % 65536)) ≡ (field cs at 4 >>= λ i. field cs (at + 4) 4 >>= λ c. f i c)
side_by_side cs at inside {A} f = rw (take-add 4 4 (drop at cs), drop-drop 4 at cs, number_append 0 (take 4 (drop at cs)) low) (first (field cs at 4))
  where
    low : List ℕ
    low = take 4 (drop (at + 4) cs)

    long : length low ≡ 4
    long = length-take-le 4 (drop (at + 4) cs) (omega (arith, length-drop (at + 4) cs, inside))

    second : (i : ℕ) (o : Option ℕ) → number 0 low ≡ o → (o >>= λ c. some (i * 65536 + c)) >>= (λ n. f (n / 65536) (n % 65536)) ≡ (o >>= λ c. f i c)
    second i none q = refl
    second i (some c) q =
        let small = rw long at (digits_number low c q).1 in
        ap₂ f (omega (arith, small)) (omega (arith, small))

    first : (o : Option ℕ) → (o >>= λ n. number n low) >>= (λ n. f (n / 65536) (n % 65536)) ≡ (o >>= λ i. number 0 low >>= λ c. f i c)
    first none = refl
    first (some i) =
        let behind : number i low ≡ (number 0 low >>= λ c. some (i * 65536 + c)) = rw (add-zero i, long) at (number_behind i 0 low) in
        rw behind (second i (number 0 low) refl)
