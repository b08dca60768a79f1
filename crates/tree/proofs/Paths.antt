-- A node of the path of insert or remove: the call goes on in a child, whose size is smaller, and comes back to make the node again.
use mathlib.Core.Path.{◌≡◌}
use Prim.Native.Nat.{ℕ, suc, ◌≤◌, ◌<◌}
use mathlib.Core.List.{List, [], ◌∷◌}
use native.Mathlib.Omega.{arith}
use Rattle.model.specs.Tree.{Tree, size}
use Rattle.model.specs.Supply.{Supply, Make}
use Rattle.model.specs.Heap.{Named, size_at, tree}
use Rattle.model.specs.Block.{heap}
use Rattle.model.specs.Moves.{held, Holding}
use Rattle.model.proofs.running.Growing.{holding_less}
use Rattle.std.specs.Prelude.{Some}
use Rattle.block.specs.declared.Node.{Node}
use Rattle.block.specs.Outcome.{Outcome}
use Rattle.block.proofs.Levels.{Asks, Level, read_left, read_right, read-size, level_holds, out_most, then_left, then_right}

-- node n of the path was taken apart from b to c, and is m
pub record Path (b c : List ℕ) (n : ℕ) (m : Node) : Type 0 where
  pub level : Level b c n m
  pub holding : Holding b (n ∷ [])
  pub small : size_at (heap b) n < 1048575

module _ {b c : List ℕ} {n : ℕ} {m : Node} (P : Path b c n m) where
  -- the children are the pieces
  pub children : Holding c (m.left ∷ m.right ∷ [])
  unfolding held
  children = level_holds P.level P.holding [] (λ x i. omega arith) (λ x i. omega arith)

  -- what a make of them asks, and what the call on one of them does
  pub both : Asks c m.left m.right
  both = (children, read_left P.level, read_right P.level, omega (arith, read-size P.level, P.small))

  pub down_left : {t : ℕ} → size_at (heap b) n ≡ t
      → (size_at (heap c) m.left < t) × (Holding c (m.left ∷ []) × Named (heap c) m.left × (size_at (heap c) m.left < 1048575))
  unfolding held
  down_left e = let z = read-size P.level in (omega (arith, z, e), (holding_less children (λ x i. omega arith), read_left P.level, omega (arith, z, P.small)))

  pub down_right : {t : ℕ} → size_at (heap b) n ≡ t
      → (size_at (heap c) m.right < t) × (Holding c (m.right ∷ []) × Named (heap c) m.right × (size_at (heap c) m.right < 1048575))
  unfolding held
  down_right e = let z = read-size P.level in (omega (arith, z, e), (holding_less children (λ x i. omega arith), read_right P.level, omega (arith, z, P.small)))

  -- there a rule that adds at most one entry has made x
  module _ {d : List ℕ} {x : ℕ} {rule : Make Tree} where
    pub up_left : Outcome c d (m.left ∷ []) (Some x) rule → ((s : Supply) → size (rule s).0 ≤ suc (size (tree (heap c) m.left))) → Asks d x m.right
    unfolding held
    up_left O p = then_left children O m.right (λ x i. omega arith) (omega (arith, read-size P.level, P.small, out_most m.left children (λ x i. omega arith) (read_left P.level) O p))

    pub up_right : Outcome c d (m.right ∷ []) (Some x) rule → ((s : Supply) → size (rule s).0 ≤ suc (size (tree (heap c) m.right))) → Asks d m.left x
    unfolding held
    up_right O p = then_right children O m.left (λ x i. omega arith) (omega (arith, read-size P.level, P.small, out_most m.right children (λ x i. omega arith) (read_right P.level) O p))
