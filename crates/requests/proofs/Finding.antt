-- The runs from an index on: none where all are heard, else the first, and those behind it.
use mathlib.Core.Path.{◌≡◌, refl, ap, sym, ◌∙◌}
use mathlib.Core.Logic.{◌⊎◌, inl, inr, ⊎_elim, ◌≢◌}
use Prim.Native.Nat.{ℕ, zero, suc, ◌+◌, ◌-◌, ◌≤◌, ◌<◌}
use mathlib.Core.Bool.{Bool, true, false, true≢false}
use mathlib.Core.List.{List, [], ◌∷◌}
use lib.ListN.{length, drop, length-drop, drop_of_length-le}
use lib.Seq.{drop-drop}
use native.Mathlib.Omega.{arith}
use native.Mathlib.Decide.{ℕ_discrete}
use Rattle.model.specs.Inbox.{count_of, heard_at}
use Rattle.model.specs.Request.{unheard}
use Rattle.model.proofs.requests.Runs.{unheard_run}
use Rattle.requests.specs.Runs.{Reaches, runs_from}

-- up to i the search has met none
pub record Passed (x : List ℕ) (from end : ℕ) (is : Bool) (i : ℕ) : Type 0 where
  pub low : from ≤ i
  pub high : i ≤ end
  pub same : (j : ℕ) → from ≤ j → j < i → heard_at x j ≡ is

-- indexes that are heard belong to no run
unheard-over : (heard : ℕ → Bool) (k i n : ℕ) → ((j : ℕ) → i ≤ j → j < i + k → heard j ≡ true) → unheard heard i (k + n) ≡ unheard heard (i + k) n
unfolding unheard
unheard-over heard zero i n f =
    let e : i + 0 ≡ i = omega arith in
    let z : 0 + n ≡ n = omega arith in
    rw (e, z) refl
unheard-over heard (suc k) i n f =
    let c : suc k + n ≡ suc (k + n) = omega arith in
    let e : suc i + k ≡ i + suc k = omega arith in
    rw (c, f i (omega arith) (omega arith), unheard) (unheard-over heard k (suc i) n (λ j l h. f j (omega arith) (omega arith)) ∙ rw e refl)

module _ {x : List ℕ} {i a : ℕ} (R : Reaches x i (count_of x) true a) where
  -- where the search for a missing index begins makes no difference
  pub runs_over : runs_from x i ≡ runs_from x a
  runs_over =
      let k : count_of x - i ≡ (a - i) + (count_of x - a) = omega (arith, R.low, R.high) in
      let e : i + (a - i) ≡ a = omega (arith, R.low) in
      rw k (unheard-over (heard_at x) (a - i) i (count_of x - a) (λ j l h. R.same j l (omega (arith, R.low))) ∙ rw e refl)

  pub runs_none : a ≡ count_of x → runs_from x i ≡ []
  unfolding unheard
  runs_none e = let z : count_of x - a ≡ 0 = omega (arith, e) in runs_over ∙ rw z refl

  module _ (n : a ≢ count_of x) {b : ℕ} (S : Reaches x a (count_of x) false b) where
    here : heard_at x a ≡ false
    here = ⊎_elim (λ e. absurd (n e)) (λ h. h) R.other

    -- the run is not empty
    pub runs_past : a < b
    runs_past = go (ℕ_discrete a b)
      where
        go : Dec (a ≡ b) → a < b
        go (yes e) = absurd (⊎_elim (λ q. n (e ∙ q)) (λ h. true≢false (sym h ∙ ap (heard_at x) (sym e) ∙ here)) S.other)
        go (no q) = omega (arith, S.low, q)

    ends : (count_of x - b ≡ 0) ⊎ (heard_at x b ≡ true)
    ends = ⊎_elim (λ e. inl (omega (arith, e))) (λ h. inr h) S.other

    is_run : runs_from x a ≡ record { first = a; last = b - 1 } ∷ runs_from x b
    is_run =
        let long : count_of x - a ≡ suc (b - 1 - a) + (count_of x - b) = omega (arith, runs_past, S.high) in
        let last : a + (b - 1 - a) ≡ b - 1 = omega (arith, runs_past) in
        let next : a + suc (b - 1 - a) ≡ b = omega (arith, runs_past) in
        let missing : (j : ℕ) → j ≤ b - 1 - a → heard_at x (a + j) ≡ false = λ j l. S.same (a + j) (omega arith) (omega (arith, l, runs_past)) in
        rw long (unheard_run (heard_at x) (b - 1 - a) a (count_of x - b) missing (rw next ends) ∙ rw (last, next) refl)

    pub runs_some : (runs_from x i ≡ record { first = a; last = b - 1 } ∷ runs_from x (suc (b - 1))) × (i ≤ b - 1) × (b - 1 < count_of x)
    runs_some =
        let after : suc (b - 1) ≡ b = omega (arith, runs_past) in
        (runs_over ∙ rw after is_run, omega (arith, R.low, runs_past), omega (arith, runs_past, S.high))

-- What was found.

-- the first run from index i on ends with b
pub record Next (x : List ℕ) (i b : ℕ) : Type 0 where
  pub first : ℕ
  pub runs : runs_from x i ≡ record { first = first; last = b } ∷ runs_from x (b + 1)
  pub low : i ≤ b
  pub high : b < count_of x

pub found : (x : List ℕ) (i a b : ℕ) → (runs_from x i ≡ record { first = a; last = b } ∷ runs_from x (suc b)) × (i ≤ b) × (b < count_of x) → Next x i b
found x i a b F = let next : b + 1 ≡ suc b = omega arith in record { first = a; runs = rw next F.0; low = F.1; high = F.2 }

-- n runs are passed, those from index i on are left
pub record Counted (x : List ℕ) (i n : ℕ) : Type 0 where
  pub within : i ≤ count_of x
  pub few : n ≤ i
  pub same : n + length (runs_from x i) ≡ length (runs_from x 0)

-- those from index i on are those behind the first k
pub record Behind (x : List ℕ) (i k : ℕ) : Type 0 where
  pub within : i ≤ count_of x
  pub same : runs_from x i ≡ drop k (runs_from x 0)

module _ {x : List ℕ} {i k : ℕ} (B : Behind x i k) where
  pub behind_more : {b : ℕ} → Next x i b → Behind x (b + 1) (k + 1)
  behind_more N = record { within = omega (arith, N.high); same = ap (drop 1) (sym N.runs ∙ B.same) ∙ drop-drop 1 k (runs_from x 0) }

  -- none is left: behind more of them there is none either
  pub behind_none : {n : ℕ} → k ≤ n → runs_from x i ≡ [] → (runs_from x i ≡ drop n (runs_from x 0)) × (i ≤ count_of x)
  behind_none {n} h e =
      let few : length (runs_from x 0) ≤ n = omega (arith, length-drop k (runs_from x 0), ap length (sym B.same ∙ e)) in
      (e ∙ sym (drop_of_length-le (runs_from x 0) few), B.within)
