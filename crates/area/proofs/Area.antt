-- Words of the area as code finds them, and what a link says.
use mathlib.Core.Path.{◌≡◌, refl, sym, ◌∙◌}
use mathlib.Core.Logic.{◌≢◌}
use Prim.Native.Nat.{ℕ, zero, suc, ◌+◌, ◌*◌, ◌≤◌, ◌<◌}
use mathlib.Core.Bool.{false, true≢false}
use mathlib.Core.List.{List, [], ◌∷◌}
use lib.ListN.{length, get_or}
use borrow.Author.Tests.{eq-eqb, ne_eqb}
use native.Mathlib.Omega.{arith}
use native.Mathlib.Decide.{dec_lt}
use Rattle.model.specs.Block.{width}
use Rattle.model.specs.Heap.{Occupied, Named, size_at}
use Rattle.area.specs.Area.{area_word, area}

-- a list ends
pub get_d_past : (l : List ℕ) (i : ℕ) → length l ≤ i → get_or l i 0 ≡ 0
get_d_past [] i h = refl
get_d_past (x ∷ l) zero h = absurd (omega arith)
get_d_past (x ∷ l) (suc i) h = get_d_past l i (omega arith)

module _ (a : List ℕ) where
  pub live : (x c : ℕ) → c ≡ area_word a 5 x → c ≢ 0 → Occupied (area a) x
  live x c e p = rw (ne_eqb (area_word a 5 x) 0 (λ z. p (e ∙ z)))

  pub dead : (x c : ℕ) → c ≡ area_word a 5 x → c ≡ 0 → (area a).occupied x ≡ false
  dead x c e p = rw (eq-eqb (area_word a 5 x) 0 (sym e ∙ p))

  pub not_live : (x c : ℕ) → c ≡ area_word a 5 x → c ≡ 0 → Occupied (area a) x → ⊥
  not_live x c e p o = true≢false (sym o ∙ dead x c e p)

  pub within-area : (n x : ℕ) → length a ≡ width * n → Occupied (area a) x → (1 ≤ x) × (x ≤ n)
  within-area n zero l o = absurd (true≢false (sym o))
  within-area n (suc x) l o = go (dec_lt x n)
    where
      go : Dec (x < n) → (1 ≤ suc x) × (suc x ≤ n)
      go (yes p) = (omega arith, omega arith)
      go (no p) = absurd (not_live (suc x) 0 (sym (get_d_past a (width * x + 5) (omega arith))) refl o)

  pub occupied_named : (x : ℕ) → Occupied (area a) x → Named (area a) x
  occupied_named zero o = tt
  occupied_named (suc x) o = o

  pub named_le : (n x : ℕ) → length a ≡ width * n → Named (area a) x → x ≤ n
  named_le n zero l o = omega arith
  named_le n (suc x) l o = (within-area n (suc x) l o).1

  pub size_at_some : (x : ℕ) → x ≢ 0 → size_at (area a) x ≡ area_word a 4 x
  size_at_some zero p = absurd (p refl)
  size_at_some (suc x) p = refl
