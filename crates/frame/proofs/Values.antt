-- A digit's byte and a byte's digit by the tests that the code makes.
use mathlib.Core.Path.{◌≡◌, refl, ap}
use Prim.Native.Nat.{ℕ, ◌+◌, ◌-◌, ◌*◌, ◌/◌, ◌≤◌, ◌<◌}
use mathlib.Core.List.{[], ◌∷◌}
use mathlib.Core.Bool.{Bool, true, false}
use mathlib.Core.Option.{none, some}
use lib.Dec.{ltb}
use borrow.Author.Tests.{ltb-true, ltb-false, lt-ltb, le-ltb, lt-leb, le-leb}
use native.Mathlib.Omega.{arith}
use Rattle.model.specs.Frame.{digit, value}

pub digit_low : (n : ℕ) → n < 10 → 48 + n ≡ digit n
unfolding digit
digit_low n h = rw (lt-ltb n 10 h, digit)

pub digit_high : (n : ℕ) → 10 ≤ n → 87 + n ≡ digit n
unfolding digit
digit_high n h = rw (le-ltb n 10 h, digit)

-- both in one sum: n + 6 carries out of four bits from 10 on
pub digit-sum : (n : ℕ) → n < 16 → 48 + n + 39 * ((n + 6) / 16) ≡ digit n
digit-sum n h = go (ltb n 10) refl
  where
    go : (b : Bool) → ltb n 10 ≡ b → 48 + n + 39 * ((n + 6) / 16) ≡ digit n
    go true e = omega (arith, digit_low n (ltb-true n 10 e), ltb-true n 10 e)
    go false e = omega (arith, digit_high n (ltb-false n 10 e), ltb-false n 10 e)

-- the sixteen bytes
pub sixteen_digits : digit 0 ∷ digit 1 ∷ digit 2 ∷ digit 3 ∷ digit 4 ∷ digit 5 ∷ digit 6 ∷ digit 7 ∷ digit 8 ∷ digit 9 ∷ digit 10 ∷ digit 11 ∷ digit 12 ∷ digit 13 ∷ digit 14 ∷ digit 15 ∷ []
    ≡ 48 ∷ 49 ∷ 50 ∷ 51 ∷ 52 ∷ 53 ∷ 54 ∷ 55 ∷ 56 ∷ 57 ∷ 97 ∷ 98 ∷ 99 ∷ 100 ∷ 101 ∷ 102 ∷ []
unfolding digit
sixteen_digits = refl

-- 0 to 9
pub value_low : (c : ℕ) → 48 ≤ c → c < 58 → some (c - 48) ≡ value c
unfolding value
value_low c p q = rw (le-leb 48 c p, lt-ltb c 58 q, value)

-- a to f
pub value_high : (c : ℕ) → 97 ≤ c → c < 103 → some (c - 97 + 10) ≡ value c
unfolding value
value_high c p q = rw (le-leb 48 c (omega arith), le-ltb c 58 (omega arith), value) (rw (le-leb 97 c p, lt-ltb c 103 q) (ap some (omega arith)))

-- no other byte: before, between, after
pub value_before : (c : ℕ) → c < 48 → none ≡ value c
unfolding value
value_before c p = rw (lt-leb 48 c p, value) (rw (lt-leb 97 c (omega arith)))

pub value_between : (c : ℕ) → 58 ≤ c → c < 97 → none ≡ value c
unfolding value
value_between c p q = rw (le-leb 48 c (omega arith), le-ltb c 58 p, value) (rw (lt-leb 97 c q))

pub value_after : (c : ℕ) → 103 ≤ c → none ≡ value c
unfolding value
value_after c p = rw (le-leb 48 c (omega arith), le-ltb c 58 (omega arith), value) (rw (le-leb 97 c (omega arith), le-ltb c 103 p))
