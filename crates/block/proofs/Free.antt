-- The search for the lowest free node.
use mathlib.Core.Path.{◌≡◌, refl, sym, ap, ◌∙◌}
use mathlib.Core.Bool.{Bool, true, false}
use mathlib.Core.List.{List, [], ◌∷◌}
use Prim.Native.Nat.{ℕ, zero, suc, ◌+◌, ◌-◌, ◌*◌, ◌/◌, ◌%◌, ◌^◌, ◌≤◌, ◌<◌}
use native.Mathlib.Nat.{add-zero, suc-add, zero-add}
use native.Mathlib.Omega.{arith}
use native.Mathlib.Decide.{ℕ_discrete}
use lib.ListN.{drop}
use lib.Dec.{eqb}
use lib.Count.{trailing_of_zero}
use Rattle.std.specs.Prelude.{Some, None, slice_get}
use Rattle.std.proofs.lemmas.Option.{none-some, same_Some}
use borrow.Author.Tests.{lt-ltb}
use Rattle.model.specs.Block.{word, room, bit, occupied_at}
use Rattle.model.specs.Heap.{free_from}
use Rattle.block.specs.Words.{WordsAre, first_zero}
use Rattle.model.proofs.block.Bits.{below_all-set, at_clear}

-- nodes that are taken are passed over
pub skip : (occ : ℕ → Bool) (m a k : ℕ) → ((x : ℕ) → a ≤ x → x < a + m → occ x ≡ true) → free_from occ a (m + k) ≡ free_from occ (a + m) k
unfolding free_from
skip occ zero a k h = rw (zero-add, add-zero)
skip occ (suc m) a k h =
    rw (suc-add m k) (rw (h a (omega arith) (omega arith), free_from) (skip occ m (suc a) k (λ x p q. h x (omega arith) (omega arith)) ∙ ap (λ i. free_from occ i k) (omega arith)))

here : (occ : ℕ → Bool) (a k : ℕ) → occ a ≡ false → slice_get (free_from occ a (suc k)) 0 ≡ Some a
unfolding free_from
here occ a k e = rw (e, free_from)

pub none_left : (occ : ℕ → Bool) (a : ℕ) → slice_get (free_from occ a 0) 0 ≡ None
unfolding free_from
none_left occ a = refl

module _ (b : List ℕ) (w : ℕ) (fits : word b (17 + w) < 2 ^ 32) (whole : room b % 32 ≡ 0) (in_range : w < room b / 32) where
  occupied_in : (x j : ℕ) → x ≡ suc (32 * w + j) → j < 32 → occupied_at b x ≡ eqb (bit (word b (17 + w)) j) 1
  occupied_in x j e lt =
      let q : (32 * w + j) / 32 ≡ w = omega arith in
      let r : (32 * w + j) % 32 ≡ j = omega arith in
      rw e (rw (lt-ltb (32 * w + j) (room b) (omega arith), q, r))

  taken_in : (m : ℕ) → m ≤ 32 → m ≤ first_zero b w → (x : ℕ) → suc (32 * w) ≤ x → x < suc (32 * w) + m → occupied_at b x ≡ true
  taken_in m six le x p q = occupied_in x (x - suc (32 * w)) (omega arith) (omega arith) ∙ rw (below_all-set 32 (word b (17 + w)) (x - suc (32 * w)) fits (omega arith))

  -- t is the place of its lowest 0
  module _ (t : ℕ) (is : t ≡ first_zero b w) where
    -- every node of word w is taken
    pub over_word : 32 ≤ t → free_from (occupied_at b) (suc (32 * w)) (room b - 32 * w) ≡ free_from (occupied_at b) (suc (32 * (w + 1))) (room b - 32 * (w + 1))
    over_word full =
        let split : room b - 32 * w ≡ 32 + (room b - 32 * (w + 1)) = omega arith in
        let next : suc (32 * w) + 32 ≡ suc (32 * (w + 1)) = omega arith in
        ap (λ k. free_from (occupied_at b) (suc (32 * w)) k) split
        ∙ skip (occupied_at b) 32 (suc (32 * w)) (room b - 32 * (w + 1)) (taken_in 32 (omega arith) (omega arith))
        ∙ ap (λ j. free_from (occupied_at b) j (room b - 32 * (w + 1))) next

    -- bit t of word w is the first free node's
    pub in_word : t < 32 → slice_get (free_from (occupied_at b) (suc (32 * w)) (room b - 32 * w)) 0 ≡ Some (32 * w + t + 1)
    in_word h =
        let split : room b - 32 * w ≡ t + suc (room b - 32 * w - t - 1) = omega arith in
        ap (λ k. slice_get (free_from (occupied_at b) (suc (32 * w)) k) 0) split
        ∙ ap (λ fs. slice_get fs 0) (skip (occupied_at b) t (suc (32 * w)) (suc (room b - 32 * w - t - 1)) (taken_in t (omega arith) (omega arith)))
        ∙ here (occupied_at b) (suc (32 * w) + t) (room b - 32 * w - t - 1) (occupied_in (suc (32 * w) + t) t (omega arith) h ∙ rw (is, at_clear 32 (word b (17 + w)) fits (omega arith)))
        ∙ ap Some (omega arith)

-- words of all ones are passed over
full_word : (b : List ℕ) (w : ℕ) → word b (17 + w) ≡ 4294967295 → first_zero b w ≡ 32
full_word b w e = rw e (trailing_of_zero 32)

over-words : (b : List ℕ) (n w : ℕ) → room b % 32 ≡ 0 → w + n ≤ room b / 32 → WordsAre b w n 4294967295
    → free_from (occupied_at b) (suc (32 * w)) (room b - 32 * w) ≡ free_from (occupied_at b) (suc (32 * (w + n))) (room b - 32 * (w + n))
over-words b zero w whole le f = rw (add-zero w) refl
over-words b (suc n) w whole le f =
    let low : 17 + w ≡ 17 + (w + 0) = omega arith in
    let here : word b (17 + w) ≡ 4294967295 = ap (word b) low ∙ f 0 (omega arith) in
    let next : w + 1 + n ≡ w + suc n = omega arith in
    over_word b w (omega (arith, here)) whole (omega arith) 32 (sym (full_word b w here)) (omega arith)
    ∙ over-words b n (w + 1) whole (omega arith) (λ i lt. let q : 17 + (w + 1 + i) ≡ 17 + (w + suc i) = omega arith in ap (word b) q ∙ f (suc i) (omega arith))
    ∙ ap (λ x. free_from (occupied_at b) (suc (32 * x)) (room b - 32 * x)) next

pub over_run : (b : List ℕ) (from to : ℕ) → room b % 32 ≡ 0 → from ≤ to → to ≤ room b / 32 → WordsAre b from (to - from) 4294967295
    → free_from (occupied_at b) (suc (32 * to)) (room b - 32 * to) ≡ free_from (occupied_at b) (suc (32 * from)) (room b - 32 * from)
over_run b from to whole le most f =
    let all : from + (to - from) ≡ to = omega arith in
    ap (λ x. free_from (occupied_at b) (suc (32 * x)) (room b - 32 * x)) (sym all)
    ∙ sym (over-words b (to - from) from whole (omega (arith, all, most)) f)

-- what was found
pub found_cons : (fs : List ℕ) (n : ℕ) → Some n ≡ slice_get fs 0 → fs ≡ n ∷ drop 1 fs
found_cons [] n e = absurd (none-some n (sym e))
found_cons (f ∷ fs) n e = ap (λ x. x ∷ fs) (sym (same_Some n f e))

pub found_none : (fs : List ℕ) → None ≡ slice_get fs 0 → fs ≡ []
found_none [] e = refl
found_none (f ∷ fs) e = absurd (none-some f e)

pub found_free : (occ : ℕ → Bool) (a k n : ℕ) (ns : List ℕ) → free_from occ a k ≡ n ∷ ns → (occ n ≡ false) × (a ≤ n) × (n < a + k)
unfolding free_from
found_free occ a zero n ns e = let z : ◌≡◌ {A = ℕ} 0 1 = cc e in absurd (omega arith)
found_free occ a (suc k) n ns e = go (occ a) refl (found_free occ (suc a) k n ns)
  where
    go : (t : Bool) → occ a ≡ t → (free_from occ (suc a) k ≡ n ∷ ns → (occ n ≡ false) × (suc a ≤ n) × (n < suc a + k))
        → (occ n ≡ false) × (a ≤ n) × (n < a + suc k)
    go true o ih = let r = ih (rw (o, free_from) at e) in (r.0, omega arith, omega arith)
    go false o ih =
        let e' : a ∷ free_from occ (suc a) k ≡ n ∷ ns = rw (o, free_from) at e in
        let q : a ≡ n = cc e' in
        (rw (← q) o, omega arith, omega arith)

-- below the lowest free node all are occupied
pub below_lowest : (occ : ℕ → Bool) (a k m n : ℕ) → Some n ≡ slice_get (free_from occ a k) 0 → a ≤ m → m < n → occ m ≡ true
unfolding free_from
below_lowest occ a zero m n e p q = absurd (none-some n (sym e))
below_lowest occ a (suc k) m n e p q = go (occ a) refl (ℕ_discrete a m) (below_lowest occ (suc a) k m n)
  where
    go : (t : Bool) → occ a ≡ t → Dec (a ≡ m) → (Some n ≡ slice_get (free_from occ (suc a) k) 0 → suc a ≤ m → m < n → occ m ≡ true) → occ m ≡ true
    go true o (yes d) ih = rw (← d) o
    go true o (no d) ih = ih (rw (o, free_from) at e) (omega arith) q
    go false o d ih = let first : Some n ≡ Some a = rw (o, free_from) at e in absurd (omega (arith, same_Some n a first))

-- and so are all where none is free
pub none_free : (occ : ℕ → Bool) (a k m : ℕ) → free_from occ a k ≡ [] → a ≤ m → m < a + k → occ m ≡ true
unfolding free_from
none_free occ a zero m e p q = absurd (omega arith)
none_free occ a (suc k) m e p q = go (occ a) refl (ℕ_discrete a m) (none_free occ (suc a) k m)
  where
    go : (t : Bool) → occ a ≡ t → Dec (a ≡ m) → (free_from occ (suc a) k ≡ [] → suc a ≤ m → m < suc a + k → occ m ≡ true) → occ m ≡ true
    go true o (yes d) ih = rw (← d) o
    go true o (no d) ih = ih (rw (o, free_from) at e) (omega arith) (omega arith)
    go false o d ih = let z : ◌≡◌ {A = ℕ} 0 1 = cc (rw (o, free_from) at e) in absurd (omega arith)
