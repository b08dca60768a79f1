-- How the number of references changes.
use mathlib.Core.Path.{◌≡◌, refl}
use mathlib.Core.Logic.{◌≢◌}
use Prim.Native.Nat.{ℕ, zero, suc, ◌+◌, ◌≤◌, ◌<◌}
use borrow.Author.Tests.{eq-eqb, ne_eqb}
use native.Mathlib.Omega.{arith}
use native.Mathlib.Decide.{ℕ_discrete}
use Rattle.model.specs.Heap.{hit, hits}

pub hit_yes : (x n : ℕ) → x ≡ n → hit x n ≡ 1
unfolding hit
hit_yes x n e = rw (eq-eqb x n e, hit)

pub hit_no : (x n : ℕ) → x ≢ n → hit x n ≡ 0
unfolding hit
hit_no x n e = rw (ne_eqb x n e, hit)

pub hits_same : (f g : ℕ → ℕ) (n k : ℕ) → ((i : ℕ) → i < k → g i ≡ f i) → hits g n k ≡ hits f n k
unfolding hits
hits_same f g n zero e = refl
hits_same f g n (suc k) e = rw (e k (omega arith), hits_same f g n k (λ i lt. e i (omega arith)))

-- one of the words counted changes
pub hits_change : (f g : ℕ → ℕ) (n k i : ℕ) → i < k → ((j : ℕ) → j < k → j ≢ i → g j ≡ f j) → hits g n k + hit (f i) n ≡ hits f n k + hit (g i) n
unfolding hits
hits_change f g n zero i lt e = absurd (omega arith)
hits_change f g n (suc k) i lt e = go (ℕ_discrete i k) (λ l. hits_change f g n k i l (λ j l' ne. e j (omega arith) ne))
  where
    go : Dec (i ≡ k) → (i < k → hits g n k + hit (f i) n ≡ hits f n k + hit (g i) n)
        → hit (g k) n + hits g n k + hit (f i) n ≡ hit (f k) n + hits f n k + hit (g i) n
    go (yes p) ih = rw (p, hits_same f g n k (λ j l. e j (omega arith) (omega arith))) (omega arith)
    go (no p) ih = rw (e k (omega arith) (omega arith)) (omega (arith, ih (omega arith)))

pub hits-find : (f : ℕ → ℕ) (n k : ℕ) → 1 ≤ hits f n k → (i : ℕ) × (i < k) × (f i ≡ n)
unfolding hits
hits-find f n zero h = absurd (omega arith)
hits-find f n (suc k) h = go (ℕ_discrete (f k) n) (hits-find f n k)
  where
    go : Dec (f k ≡ n) → (1 ≤ hits f n k → (i : ℕ) × (i < k) × (f i ≡ n)) → (i : ℕ) × (i < suc k) × (f i ≡ n)
    go (yes p) ih = (k, omega arith, p)
    go (no p) ih = let w = ih (omega (arith, hit_no (f k) n p)) in (w.0, omega arith, w.2)

pub hits_none : (f : ℕ → ℕ) (n k : ℕ) → ((i : ℕ) → i < k → f i ≢ n) → hits f n k ≡ 0
unfolding hits
hits_none f n zero e = refl
hits_none f n (suc k) e = omega (arith, hit_no (f k) n (e k (omega arith)), hits_none f n k (λ i lt. e i (omega arith)))

pub hits_some : (f : ℕ → ℕ) (n k i : ℕ) → i < k → f i ≡ n → 1 ≤ hits f n k
unfolding hits
hits_some f n zero i lt e = absurd (omega arith)
hits_some f n (suc k) i lt e = go (ℕ_discrete i k) (λ l. hits_some f n k i l e)
  where
    go : Dec (i ≡ k) → (i < k → 1 ≤ hits f n k) → 1 ≤ hit (f k) n + hits f n k
    go (yes p) ih = omega (arith, hit_yes (f k) n (rw (← p) e))
    go (no p) ih = omega (arith, ih (omega arith))
