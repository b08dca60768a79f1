-- What a union gives back.
use Rattle.std.specs.Prelude.{ℕ, ◌+◌, ◌<◌, Bool, true, false, List, [], ◌∷◌, Option}
use Rattle.std.proofs.Math.Option as maybe
use Rattle.model.specs.Rules.{merged_left, merged_right, union_by}
use Rattle.model.specs.Heap.{size_at, tree}
use Rattle.model.specs.Block.{heap}
use Rattle.block.specs.Outcome.{Outcome}

-- b became e by the union of the trees below l and r, the same with any fuel above their two sizes together
pub record United (b e : List ℕ) (q : Option ℕ) (merge : ℕ → ℕ → ℕ) (l r : ℕ) : Type 0 where
  pub any : (fuel : ℕ) → size_at (heap b) l + size_at (heap b) r < fuel → Outcome b e (l ∷ r ∷ []) q (union_by merge fuel (tree (heap b) l) (tree (heap b) r))

-- the first of two numbers, or the second
abbrev pub picked : Bool → ℕ → ℕ → ℕ
picked true x y = x
picked false x y = y

-- the value of the root's key, merged as (left, right) where the other tree has it; the root is the left tree's, or the right's
abbrev pub merged : Bool → (ℕ → ℕ → ℕ) → ℕ → maybe.Option ℕ → ℕ
merged true merge value other = merged_left merge value other
merged false merge value other = merged_right merge other value
