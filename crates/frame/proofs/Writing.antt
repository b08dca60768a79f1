-- Digits are written from the low end: before the place reached all is as it was, behind it stand the digits written.
use mathlib.Core.Path.{◌≡◌, refl, ap, sym, ◌∙◌}
use Prim.Native.Nat.{ℕ, zero, suc, ◌+◌, ◌-◌, ◌*◌, ◌/◌, ◌%◌, ◌≤◌, ◌<◌}
use mathlib.Core.List.{List, [], ◌∷◌, ◌++◌, append_assoc}
use native.Mathlib.Numerals.{sub-one}
use native.Mathlib.Omega.{arith}
use lib.ListN.{length, get_or, take, drop, set, length-append, drop_of_length-le, take-append-drop}
use lib.Seq.{take-suc, drop-cons, append_snoc, set_at, take_at, get_or_at, length-take-le, take_all, drop-append-add, drop-drop}
use Rattle.model.specs.Frame.{Frame, digit, digits, line}
use Rattle.model.proofs.link.Digits.{length_digits}
use Rattle.frame.specs.Alternate.{alternate}
use Rattle.frame.proofs.Values.{digit-sum}

-- of the k digits of x the last k - j are written to out, which was o; y is what is left of x
pub record Puts (o out : List ℕ) (at k x j y : ℕ) : Type 0 where
  pub within : j ≤ k
  pub inside : at + k ≤ length o
  pub left : digits j y ≡ take j (digits k x)
  pub written : out ≡ take (at + j) o ++ (drop j (digits k x) ++ drop (at + k) o)

-- at the start nothing is written
puts_none : (o : List ℕ) (at k x : ℕ) → at + k ≤ length o → Puts o o at k x k x
puts_none o at k x h =
    let l = length_digits k x in
    record {
      within = omega arith;
      inside = h;
      left = sym (take_all k (digits k x) (omega arith));
      written = rw (drop_of_length-le (digits k x) {i = k} (omega arith), take-append-drop (at + k) o);
    }

-- the last of some digits
last : (D xs : List ℕ) (d i : ℕ) → xs ++ (d ∷ []) ≡ take (suc i) D → length xs ≡ i → i < length D → (xs ≡ take i D) × (d ≡ get_or D i 0)
last D xs d i e l h =
    let g : xs ++ (d ∷ []) ≡ take i D ++ (get_or D i 0 ∷ []) = e ∙ take-suc D i 0 h in
    let t : length (take i D) ≡ i = length-take-le i D (omega arith) in (
      sym (take_at xs (d ∷ []) i l) ∙ ap (take i) g ∙ take_at (take i D) (get_or D i 0 ∷ []) i t,
      sym (get_or_at xs d [] 0 i l) ∙ ap (λ (s : List ℕ). get_or s i 0) g ∙ get_or_at (take i D) (get_or D i 0) [] 0 i t,
    )

-- one byte more in front of those written
put : (o D Z : List ℕ) (at i d : ℕ) → d ≡ get_or D i 0 → i < length D → at + i < length o
    → set (take (at + suc i) o ++ (drop (suc i) D ++ Z)) (at + i) d ≡ take (at + i) o ++ (drop i D ++ Z)
put o D Z at i d e h k =
    let n : at + suc i ≡ suc (at + i) = omega arith in
    let t : length (take (at + i) o) ≡ at + i = length-take-le (at + i) o (omega arith) in
    rw (n, take-suc o (at + i) 0 k, drop-cons D i 0 h, e, append_snoc (take (at + i) o) (get_or o (at + i) 0) (drop (suc i) D ++ Z))
    (set_at (take (at + i) o) (get_or o (at + i) 0) (drop (suc i) D ++ Z) (get_or D i 0) (at + i) t)

-- one digit more
puts_more : {o out : List ℕ} {at k x y : ℕ} (j : ℕ) → Puts o out at k x j y → 0 < j → Puts o (set out (at + (j - 1)) (digit (y % 16))) at k x (j - 1) (y / 16)
unfolding digits
puts_more zero P h = absurd (omega arith)
puts_more {o} {out} {at} {k} {x} {y} (suc i) P h =
    let D = digits k x in
    let l : i < length D = omega (arith, length_digits k x, P.within) in
    let w = last D (digits i (y / 16)) (digit (y % 16)) i P.left (length_digits i (y / 16)) l in
    rw (sub-one, P.written) (record {
      within = omega (arith, P.within);
      inside = P.inside;
      left = w.0;
      written = put o D (drop (at + k) o) at i (digit (y % 16)) w.1 l (omega (arith, P.within, P.inside));
    })

-- what is left of x is `rest`: one half has its digits at even places, the other those at odd places
pub record Halves (o out : List ℕ) (at k x j low high : ℕ) : Type 0 where
  pub rest : ℕ
  pub fits : rest < 4294967296
  pub puts : Puts o out at k x j rest
  pub even : low ≡ alternate 4 rest
  pub odd : high ≡ alternate 4 (rest / 16)

digit_byte : (n : ℕ) → digit (n % 16) < 256
digit_byte n = omega (arith, digit-sum (n % 16) (omega arith))

pub alternate-fits : (n : ℕ) → alternate 4 n < 4294967296
unfolding alternate
alternate-fits n = omega (arith, digit_byte n, digit_byte (n / 256), digit_byte (n / 256 / 256), digit_byte (n / 256 / 256 / 256))

-- a half without its lowest digit, and with a 0 in front
alternate-next : (n : ℕ) → n < 4294967296 → (alternate 4 n % 256 ≡ digit (n % 16)) × (alternate 4 n / 256 + 805306368 ≡ alternate 4 (n / 16 / 16))
unfolding alternate digit
alternate-next n h =
    let twice : n / 16 / 16 ≡ n / 256 = omega arith in
    let none : n / 256 / 256 / 256 / 256 ≡ 0 = omega arith in
    rw (twice, none) (omega (arith, digit_byte n), omega (arith, digit_byte n))

-- at the start, in the two halves of one word
pub halves_none : {o : List ℕ} {at k x both : ℕ} → at + k ≤ length o → x < 4294967296 → both ≡ alternate 4 x + 4294967296 * alternate 4 (x / 16)
    → Halves o o at k x k (both % 4294967296) (both / 4294967296)
halves_none {o} {at} {k} {x} h f e = record {
  rest = x;
  fits = f;
  puts = puts_none o at k x h;
  even = omega (arith, e, alternate-fits x);
  odd = omega (arith, e, alternate-fits x);
}

-- one digit more
pub halves_more : {o out : List ℕ} {at k x low high : ℕ} (j : ℕ) → Halves o out at k x j low high → 0 < j
    → Halves o (set out (at + (j - 1)) (low % 256)) at k x (j - 1) high (low / 256 + 805306368)
halves_more j H h =
    let next = alternate-next H.rest H.fits in
    rw (H.even, next.0, next.1) (record {
      rest = H.rest / 16;
      fits = omega (arith, H.fits);
      puts = puts_more j H.puts h;
      even = H.odd;
      odd = refl;
    })

-- x is o with its first m bytes now those of A
record Filled (o x A : List ℕ) (m : ℕ) : Type 0 where
  size : length A ≡ m
  filled : x ≡ A ++ drop m o

-- k digits more, which end at n
filled_more : {o x y A : List ℕ} {m : ℕ} → Filled o x A m → (k v n : ℕ) → m + k ≡ n → n ≤ length o
    → y ≡ take m x ++ (digits k v ++ drop (m + k) x) → Filled o y (A ++ digits k v) n
filled_more {o} {x} {y} {A} {m} F k v n e h w =
    let front : take m x ≡ A = rw F.filled (take_at A (drop m o) m F.size) in
    let back : drop (m + k) x ≡ drop (m + k) o = rw F.filled (ap (λ i. drop (i + k) (A ++ drop m o)) (sym F.size) ∙ drop-append-add A (drop m o) k ∙ drop-drop k m o) in
    record {
      size = omega (arith, length-append A (digits k v), length_digits k v, F.size);
      filled = w ∙ rw (front, back, e) (sym (append_assoc A (digits k v) (drop n o)));
    }

-- the six fields written one after another from `at` on
pub record Written (o : List ℕ) (at : ℕ) (f : Frame) (o1 o2 o3 o4 o5 o6 : List ℕ) : Type 0 where
  pub inside : at + 35 ≤ length o
  pub batch : o1 ≡ take at o ++ (digits 8 f.batch ++ drop (at + 8) o)
  pub index : o2 ≡ take (at + 8) o1 ++ (digits 4 f.index ++ drop (at + 8 + 4) o1)
  pub count : o3 ≡ take (at + 12) o2 ++ (digits 4 f.count ++ drop (at + 12 + 4) o2)
  pub kind : o4 ≡ take (at + 16) o3 ++ (digits 2 f.kind ++ drop (at + 16 + 2) o3)
  pub key : o5 ≡ take (at + 18) o4 ++ (digits 8 f.key ++ drop (at + 18 + 8) o4)
  pub value : o6 ≡ take (at + 26) o5 ++ (digits 8 f.value ++ drop (at + 26 + 8) o5)

-- and a newline: the frame's line
pub written-line : {o : List ℕ} {at : ℕ} {f : Frame} {o1 o2 o3 o4 o5 o6 : List ℕ} → Written o at f o1 o2 o3 o4 o5 o6
    → set o6 (at + 34) 10 ≡ take at o ++ (line f ++ drop (at + 35) o)
unfolding line
written-line {o} {at} {f} {o1} {o2} {o3} {o4} {o5} {o6} W =
    let within = W.inside in
    let s0 : Filled o o (take at o) at = record { size = length-take-le at o (omega arith); filled = sym (take-append-drop at o) } in
    let s1 = filled_more s0 8 f.batch (at + 8) refl (omega arith) W.batch in
    let s2 = filled_more s1 4 f.index (at + 12) (omega arith) (omega arith) W.index in
    let s3 = filled_more s2 4 f.count (at + 16) (omega arith) (omega arith) W.count in
    let s4 = filled_more s3 2 f.kind (at + 18) (omega arith) (omega arith) W.kind in
    let s5 = filled_more s4 8 f.key (at + 26) (omega arith) (omega arith) W.key in
    let s6 = filled_more s5 8 f.value (at + 34) (omega arith) (omega arith) W.value in
    ends (take at o) (digits 8 f.batch) (digits 4 f.index) (digits 4 f.count) (digits 2 f.kind) (digits 8 f.key) (digits 8 f.value) s6
  where
    ends : (T A B C D E G : List ℕ) → Filled o o6 ((((((T ++ A) ++ B) ++ C) ++ D) ++ E) ++ G) (at + 34)
        → set o6 (at + 34) 10 ≡ T ++ ((A ++ B ++ C ++ D ++ E ++ G ++ 10 ∷ []) ++ drop (at + 35) o)
    ends T A B C D E G s =
        let P = (((((T ++ A) ++ B) ++ C) ++ D) ++ E) ++ G in
        let n : at + 35 ≡ suc (at + 34) = omega arith in
        let z : set (P ++ drop (at + 34) o) (at + 34) 10 ≡ P ++ (10 ∷ drop (at + 35) o) =
        rw (n, drop-cons o (at + 34) 0 (omega (arith, W.inside))) (set_at P (get_or o (at + 34) 0) (drop (suc (at + 34)) o) 10 (at + 34) s.size) in
        rw s.filled (z ∙ simp append_assoc)
