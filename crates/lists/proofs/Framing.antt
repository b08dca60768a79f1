-- The lines of the changes that words hold are those of the delta, each 35 bytes long.
use mathlib.Core.Path.{◌≡◌, refl, ap, subst, ◌∙◌}
use mathlib.Core.Logic.{◌≢◌}
use Prim.Native.Nat.{ℕ, zero, suc, ◌+◌, ◌*◌, ◌≤◌, ◌<◌}
use mathlib.Core.Option.{none, some}
use mathlib.Core.List.{List}
use native.Mathlib.Omega.{arith}
use lib.ListN.{length, get_or}
use borrow.Author.Tests.{lt-ltb, le-ltb}
use Rattle.model.specs.Frame.{frame_of, frames_of, frame_at}
use Rattle.model.proofs.link.Frames.{frames-length, frame_at_lem}
use Rattle.lists.specs.Changes.{change_in, changes_in, at_least_one, frame_in}
use Rattle.lists.proofs.Holding.{changes_length, changes_at}

-- "nothing changed" counts as one
pub some_are : (n : ℕ) → n ≢ 0 → n ≡ at_least_one n
some_are zero ne = absurd (ne refl)
some_are (suc n) ne = refl

pub one_few : (n : ℕ) → n ≤ 4096 → at_least_one n ≤ 4096
one_few zero h = omega arith
one_few (suc n) h = h

-- the frame of change i, whose words begin at `at`
module _ (batch puts : ℕ) (ws : List ℕ) (i : ℕ) where
  pub frame_none : (n : ℕ) → n ≡ 0 → i < at_least_one n → record { batch = batch; index = i; count = 1; kind = 0; key = i; value = 0 } ≡ frame_in batch puts n ws i
  unfolding frame_in
  frame_none n e l = let z : i ≡ 0 = omega (arith, subst (λ m. i < at_least_one m) e l) in rw (z, e, frame_in)

  change_put : i < puts → record { key = get_or ws (2 * i) 0; now = some (get_or ws (2 * i + 1) 0) } ≡ change_in puts ws i
  unfolding change_in
  change_put h = rw (lt-ltb i puts h, change_in)

  change_remove : puts ≤ i → record { key = get_or ws (2 * i) 0; now = none } ≡ change_in puts ws i
  unfolding change_in
  change_remove h = rw (le-ltb i puts h, change_in)

  pub frame_put : (n at : ℕ) → n ≢ 0 → at ≡ 2 * i → i < puts
      → record { batch = batch; index = i; count = n; kind = 1; key = get_or ws at 0; value = get_or ws (at + 1) 0 } ≡ frame_in batch puts n ws i
  unfolding frame_in frame_of
  frame_put zero at ne a h = absurd (ne refl)
  frame_put (suc n) at ne a h = rw a (ap (frame_of batch (suc n) i) (change_put h))

  pub frame_remove : (n at : ℕ) → n ≢ 0 → at ≡ 2 * i → puts ≤ i
      → record { batch = batch; index = i; count = n; kind = 2; key = get_or ws at 0; value = 0 } ≡ frame_in batch puts n ws i
  unfolding frame_in frame_of
  frame_remove zero at ne a h = absurd (ne refl)
  frame_remove (suc n) at ne a h = rw a (ap (frame_of batch (suc n) i) (change_remove h))

module _ (batch puts : ℕ) (ws : List ℕ) where
  pub frames_long : (n : ℕ) → length (frames_of batch (changes_in puts ws n 0)) ≡ at_least_one n
  unfolding frames_of changes_in
  frames_long zero = refl
  frames_long (suc n) = let l = changes_length puts ws (suc n) 0 in frames-length batch (changes_in puts ws (suc n) 0) (omega arith) ∙ l

  pub frame_in_lem : (n i : ℕ) → i < at_least_one n → frame_at (frames_of batch (changes_in puts ws n 0)) i ≡ frame_in batch puts n ws i
  unfolding frames_of changes_in frame_in
  frame_in_lem zero zero h = refl
  frame_in_lem zero (suc i) h = absurd (omega arith)
  frame_in_lem (suc n) i h =
      let l = changes_length puts ws (suc n) 0 in
      let z : 0 + i ≡ i = omega arith in
      frame_at_lem batch (changes_in puts ws (suc n) 0) i (omega arith) ∙ rw (l, changes_at puts ws (suc n) 0 i h, z)
