-- Roots counted one after another.
use mathlib.Core.Path.{◌≡◌, ap, sym}
use mathlib.Core.Logic.{◌≢◌}
use Prim.Native.Nat.{ℕ, zero, suc, ◌+◌, ◌-◌, ◌≤◌, ◌<◌}
use mathlib.Core.List.{List}
use lib.ListN.{length, get_or, set}
use lib.Seq.{get_or-set_same, get_or-set_other}
use native.Mathlib.Omega.{arith}
use native.Mathlib.Numerals.{add-one}
use native.Mathlib.Decide.{ℕ_discrete}
use Rattle.model.specs.Heap.{hit, hits}
use Rattle.model.specs.Block.{word}
use Rattle.model.proofs.block.Counts.{hit_yes}
use Rattle.area.proofs.Taking.{hit_le, lowered}
use Rattle.audit.specs.Whole.{RootsOk, RootsTaken}

hits_on : (f : ℕ → ℕ) (y k j : ℕ) → hits f y k ≤ hits f y (j + k)
unfolding hits
hits_on f y k zero = let e : 0 + k ≡ k = omega arith in rw e (omega arith)
hits_on f y k (suc j) = let e : suc j + k ≡ suc (j + k) = omega arith in rw e (omega (arith, hits_on f y k j))

-- v roots are taken from t, and u is left; place 0 still has enough for the others
pub record Taking (b : List ℕ) (n : ℕ) (t u : List ℕ) (v : ℕ) : Type 0 where
  pub within : (i : ℕ) → i < v → word b (1 + i) ≤ n
  pub taken : RootsTaken b t u v
  pub enough : 16 ≤ get_or u 0 0 + v

module _ (b : List ℕ) (n : ℕ) (t : List ℕ) where
  pub taking_none : 16 ≤ get_or t 0 0 → Taking b n t t 0
  unfolding hits
  taking_none e = record { within = λ i l. absurd (omega arith); taken = λ y p. omega arith; enough = omega arith }

  module _ (u : List ℕ) (v x : ℕ) (T : Taking b n t u v) (e : x ≡ word b (1 + v)) where
    pub taking_more : (w : List ℕ) → x ≤ n → x < length u → get_or u x 0 ≢ 0 → w ≡ set u x (get_or u x 0 - 1) → Taking b n t w (v + 1)
    unfolding hits
    taking_more w le lt p ew = record {
      within = λ i l. go i l (ℕ_discrete i v);
      taken = λ y q. rw (add-one v) (omega (arith, T.taken y q, lowered u w x lt p ew y, ap (λ z. hit z y) e));
      enough = omega (arith, T.enough, lowered u w x lt p ew 0, hit_le x 0);
    }
      where
        go : (i : ℕ) → i < v + 1 → Dec (i ≡ v) → word b (1 + i) ≤ n
        go i l (yes q) = rw q (omega (arith, e))
        go i l (no q) = T.within i (omega arith)

    -- a root for which nothing is left is one too many
    pub taking_no : v < 16 → (get_or u x 0 ≢ 0 → ⊥) → RootsOk b n t 16 → ⊥
    unfolding hits
    taking_no lt f R = f (λ z. go z (ℕ_discrete x 0))
      where
        more : (y : ℕ) → hit (word b (1 + v)) y + hits (λ i. word b (1 + i)) y v ≤ hits (λ i. word b (1 + i)) y 16
        more y = let q : 15 - v + suc v ≡ 16 = omega arith in rw q at (hits_on (λ i. word b (1 + i)) y (suc v) (15 - v))

        go : get_or u x 0 ≡ 0 → Dec (x ≡ 0) → ⊥
        go z (yes q) = omega (arith, T.enough, ap (λ y. get_or u y 0) q)
        go z (no q) = omega (arith, R.fits x (omega arith), T.taken x (omega arith), more x, hit_yes (word b (1 + v)) x (sym e))

-- place 0 is filled up before
module _ (b : List ℕ) (n : ℕ) (t : List ℕ) where
  kept : (y : ℕ) → 1 ≤ y → get_or (set t 0 16) y 0 ≡ get_or t y 0
  kept y p = get_or-set_other t 0 y 16 0 (λ z. absurd (omega arith))

  pub filled : 0 < length t → 16 ≤ get_or (set t 0 16) 0 0
  filled lt = omega (arith, get_or-set_same t 0 16 0 lt)

  pub roots_filled : RootsOk b n t 16 → RootsOk b n (set t 0 16) 16
  roots_filled R = record { within = R.within; fits = λ y p. omega (arith, R.fits y p, kept y p) }
