-- One line's tests are document 02's.
use mathlib.Core.Path.{◌≡◌, refl}
use mathlib.Core.Logic.{◌≢◌}
use Prim.Native.Nat.{ℕ, suc, ◌+◌}
use mathlib.Core.Bool.{Bool, true, false, ◌&&◌}
use mathlib.Core.List.{List, [], ◌∷◌}
use native.Mathlib.Omega.{arith}
use native.Mathlib.Decide.{ℕ_discrete}
use lib.Dec.{eqb, leb}
use borrow.Author.Tests.{eq-eqb, ne_eqb}
use Rattle.model.specs.Frame as model
use Rattle.model.specs.Request.{last_of, in_place, right_kind, ascend, says_complete, all_of}

-- what is asked of a line that asks
abbrev pub Asks : (f : model.Frame) (count place least : ℕ) → Bool
Asks f count place least = in_place count place f && right_kind f && leb least f.key && leb (last_of f) 4095

-- One line of several.

pub batch_other : (batch : ℕ) (f : model.Frame) (fs : List model.Frame) → f.batch ≢ batch → all_of batch (f ∷ fs) ≡ false
unfolding all_of
batch_other batch f fs n = rw (ne_eqb f.batch batch n) refl

pub batch_same : (batch : ℕ) (f : model.Frame) (fs : List model.Frame) → f.batch ≡ batch → all_of batch (f ∷ fs) ≡ all_of batch fs
unfolding all_of
batch_same batch f fs e = rw (eq-eqb f.batch batch e) refl

pub batch_end : (batch : ℕ) → all_of batch [] ≡ true
unfolding all_of
batch_end batch = refl

module _ (f : model.Frame) (count place least : ℕ) where
  pub ascend_off : (fs : List model.Frame) → Asks f count place least ≡ false → ascend count place least (f ∷ fs) ≡ false
  unfolding ascend
  ascend_off fs e = rw e refl

  pub ascend_on : {l : ℕ} (fs : List model.Frame) → Asks f count place least ≡ true → l ≡ last_of f
      → ascend count place least (f ∷ fs) ≡ ascend count (place + 1) (l + 1) fs
  unfolding ascend
  ascend_on {l} fs e q =
      let p : place + 1 ≡ suc place = omega arith in
      let m : l + 1 ≡ suc (last_of f) = omega (arith, q) in
      rw (e, p, m) refl

pub ascend_end : (count place least : ℕ) → ascend count place least [] ≡ true
unfolding ascend
ascend_end count place least = refl

-- The only line.
module _ (f : model.Frame) where
  pub complete_count : f.count ≢ 1 → says_complete (f ∷ []) ≡ false
  unfolding says_complete in_place
  complete_count n = rw (ne_eqb f.count 1 n) (go (eqb f.index 0) _ _ _)
    where
      go : (b p q r : Bool) → (b && false && p && q && r) ≡ false
      go true p q r = refl
      go false p q r = refl

  pub complete_kind : f.count ≡ 1 → f.kind ≢ 18 → says_complete (f ∷ []) ≡ false
  unfolding says_complete in_place
  complete_kind c n = rw (eq-eqb f.count 1 c, ne_eqb f.kind 18 n) (go (eqb f.index 0) _ _)
    where
      go : (b p q : Bool) → (b && true && false && p && q) ≡ false
      go true p q = refl
      go false p q = refl

  -- a sum is 0 exactly where its parts are
  pub complete_sum : (m : ℕ) → f.count ≡ 1 → f.kind ≡ 18 → m ≡ f.index + f.key + f.value → says_complete (f ∷ []) ≡ eqb m 0
  unfolding says_complete in_place
  complete_sum m c k e = go (ℕ_discrete f.index 0) (ℕ_discrete f.key 0) (ℕ_discrete f.value 0)
    where
      go : Dec (f.index ≡ 0) → Dec (f.key ≡ 0) → Dec (f.value ≡ 0)
          → (eqb f.index 0 && eqb f.count 1 && eqb f.kind 18 && eqb f.key 0 && eqb f.value 0) ≡ eqb m 0
      go (no i) q r = rw (ne_eqb f.index 0 i, ne_eqb m 0 (λ z. i (omega (arith, e, z)))) refl
      go (yes i) (no q) r = rw (eq-eqb f.index 0 i, eq-eqb f.count 1 c, eq-eqb f.kind 18 k, ne_eqb f.key 0 q, ne_eqb m 0 (λ z. q (omega (arith, e, z)))) refl
      go (yes i) (yes q) (no r) =
          rw (eq-eqb f.index 0 i, eq-eqb f.count 1 c, eq-eqb f.kind 18 k, eq-eqb f.key 0 q, ne_eqb f.value 0 r, ne_eqb m 0 (λ z. r (omega (arith, e, z)))) refl
      go (yes i) (yes q) (yes r) =
          rw (eq-eqb f.index 0 i, eq-eqb f.count 1 c, eq-eqb f.kind 18 k, eq-eqb f.key 0 q, eq-eqb f.value 0 r, eq-eqb m 0 (omega (arith, e, i, q, r))) refl
