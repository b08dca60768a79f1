-- The three words of an account after an operation, of its own account and of any other.
use mathlib.Core.Path.{◌≡◌, ◌∙◌}
use mathlib.Core.Logic.{◌≢◌}
use Prim.Native.Nat.{ℕ, ◌+◌, ◌-◌, ◌*◌, ◌≤◌, ◌<◌}
use mathlib.Core.List.{List}
use lib.ListN.{length, get_or, set, length-set}
use lib.Seq.{get_or-set_same, get_or-set_other}
use borrow.Author.Tests.{eq-eqb, ne_eqb}
use native.Mathlib.Omega.{arith}
use native.Mathlib.Decide.{ℕ_discrete}
use Rattle.ledger.specs.Ledger.{topped, spent, free, accounts, if_own, topped_up, less_free, settled_for}

pub own_same : (x a m : ℕ) → x ≡ a → if_own x a m ≡ m
unfolding if_own
own_same x a m e = rw (eq-eqb x a e, if_own)

pub own_other : (x a m : ℕ) → x ≢ a → if_own x a m ≡ 0
unfolding if_own
own_other x a m e = rw (ne_eqb x a e, if_own)

-- an account's words lie within
within : (l : List ℕ) (a : ℕ) → a < accounts l → 3 * a + 2 < length l
within l a p = omega arith

-- the words of account a: what they were, and what was added or taken
pub record Words (l m : List ℕ) (a credit used given taken : ℕ) : Type 0 where
  pub topped_is : topped m a ≡ topped l a + credit
  pub spent_is : spent m a ≡ spent l a + used
  pub free_is : free m a + taken ≡ free l a + given
  pub long : length m ≡ length l

-- two words set, and another read
apart : (l : List ℕ) (i j k y z : ℕ) → k ≢ i → k ≢ j → get_or (set (set l i y) j z) k 0 ≡ get_or l k 0
apart l i j k y z p q = get_or-set_other (set l i y) j k z 0 q ∙ get_or-set_other l i k y 0 p

first : (l : List ℕ) (i j y z : ℕ) → i < length l → i ≢ j → get_or (set (set l i y) j z) i 0 ≡ y
first l i j y z p q = get_or-set_other (set l i y) j i z 0 q ∙ get_or-set_same l i y 0 p

second : (l : List ℕ) (i j y z : ℕ) → j < length l → get_or (set (set l i y) j z) j 0 ≡ z
second l i j y z p = get_or-set_same (set l i y) j z 0 (rw (length-set l i y) p)

long_twice : (l : List ℕ) (i j y z : ℕ) → length (set (set l i y) j z) ≡ length l
long_twice l i j y z = length-set (set l i y) j z ∙ length-set l i y

module _ (l : List ℕ) (x a : ℕ) (p : x < accounts l) where
  pub topped_up_words : (m : ℕ) → Words l (topped_up l x m) a (if_own x a m) 0 (if_own x a m) 0
  topped_up_words m = go (ℕ_discrete x a)
    where
      T : ℕ
      T = topped l x + m

      F : ℕ
      F = free l x + m

      go : Dec (x ≡ a) → Words l (topped_up l x m) a (if_own x a m) 0 (if_own x a m) 0
      go (yes e) = rw (own_same x a m e) (rw (← e) (record {
        topped_is = first l (3 * x) (3 * x + 2) T F (omega arith) (omega arith);
        spent_is = omega (arith, apart l (3 * x) (3 * x + 2) (3 * x + 1) T F (omega arith) (omega arith));
        free_is = omega (arith, second l (3 * x) (3 * x + 2) T F (within l x p));
        long = long_twice l (3 * x) (3 * x + 2) T F;
      }))
      go (no e) = rw (own_other x a m e) (record {
        topped_is = omega (arith, apart l (3 * x) (3 * x + 2) (3 * a) T F (omega arith) (omega arith));
        spent_is = omega (arith, apart l (3 * x) (3 * x + 2) (3 * a + 1) T F (omega arith) (omega arith));
        free_is = omega (arith, apart l (3 * x) (3 * x + 2) (3 * a + 2) T F (omega arith) (omega arith));
        long = long_twice l (3 * x) (3 * x + 2) T F;
      })

  pub less-free-words : (m : ℕ) → m ≤ free l x → Words l (less_free l x m) a 0 0 0 (if_own x a m)
  less-free-words m enough = go (ℕ_discrete x a)
    where
      F : ℕ
      F = free l x - m

      go : Dec (x ≡ a) → Words l (less_free l x m) a 0 0 0 (if_own x a m)
      go (yes e) = rw (own_same x a m e) (rw (← e) (record {
        topped_is = omega (arith, get_or-set_other l (3 * x + 2) (3 * x) F 0 (omega arith));
        spent_is = omega (arith, get_or-set_other l (3 * x + 2) (3 * x + 1) F 0 (omega arith));
        free_is = omega (arith, get_or-set_same l (3 * x + 2) F 0 (within l x p));
        long = length-set l (3 * x + 2) F;
      }))
      go (no e) = rw (own_other x a m e) (record {
        topped_is = omega (arith, get_or-set_other l (3 * x + 2) (3 * a) F 0 (omega arith));
        spent_is = omega (arith, get_or-set_other l (3 * x + 2) (3 * a + 1) F 0 (omega arith));
        free_is = omega (arith, get_or-set_other l (3 * x + 2) (3 * a + 2) F 0 (omega arith));
        long = length-set l (3 * x + 2) F;
      })

  pub settled_words : (held used : ℕ) → used ≤ held → Words l (settled_for l x held used) a 0 (if_own x a used) (if_own x a held) (if_own x a used)
  settled_words held used below = go (ℕ_discrete x a)
    where
      S : ℕ
      S = spent l x + used

      F : ℕ
      F = free l x + (held - used)

      go : Dec (x ≡ a) → Words l (settled_for l x held used) a 0 (if_own x a used) (if_own x a held) (if_own x a used)
      go (yes e) = rw (own_same x a used e, own_same x a held e) (rw (← e) (record {
        topped_is = omega (arith, apart l (3 * x + 1) (3 * x + 2) (3 * x) S F (omega arith) (omega arith));
        spent_is = first l (3 * x + 1) (3 * x + 2) S F (omega arith) (omega arith);
        free_is = omega (arith, second l (3 * x + 1) (3 * x + 2) S F (within l x p));
        long = long_twice l (3 * x + 1) (3 * x + 2) S F;
      }))
      go (no e) = rw (own_other x a used e, own_other x a held e) (record {
        topped_is = omega (arith, apart l (3 * x + 1) (3 * x + 2) (3 * a) S F (omega arith) (omega arith));
        spent_is = omega (arith, apart l (3 * x + 1) (3 * x + 2) (3 * a + 1) S F (omega arith) (omega arith));
        free_is = omega (arith, apart l (3 * x + 1) (3 * x + 2) (3 * a + 2) S F (omega arith) (omega arith));
        long = long_twice l (3 * x + 1) (3 * x + 2) S F;
      })
