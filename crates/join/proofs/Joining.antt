-- Join is right because each level follows the rule by the same sizes: it joins below, then makes the node above, and stops where that finds no room.
use mathlib.Core.Path.{◌≡◌, refl}
use Prim.Native.Nat.{ℕ, ◌+◌, ◌*◌, ◌≤◌, ◌<◌}
use mathlib.Core.List.{List, [], ◌∷◌}
use borrow.Author.Tests.{lt-ltb, le-ltb}
use native.Mathlib.Omega.{arith}
use Rattle.model.specs.Tree.{Tree, leaf, node, size}
use Rattle.model.specs.Supply.{apart, ◌>>=◌, ◌>>◌}
use Rattle.model.specs.Rules.{balanced, join}
use Rattle.model.specs.Heap.{Named, size_at, tree}
use Rattle.model.specs.Block.{heap}
use Rattle.model.specs.Moves.{held, Holding, Still}
use Rattle.model.proofs.block.Loads.{tree-size}
use Rattle.model.proofs.running.Growing.{holding_less}
use Rattle.model.proofs.rules.Sizes.{join-size}
use Rattle.model.proofs.rules.Steady.{balanced_onward}
use Rattle.std.specs.Prelude.{Option, Some}
use Rattle.block.specs.declared.Node.{Node}
use Rattle.block.specs.Outcome.{Outcome}
use Rattle.block.proofs.Outcomes.{stock, out_size}
use Rattle.block.proofs.Levels.{Asks, Level, read-tree, read_left, read_right, read-size, level_holds, level_still, level_out, then_left, then_right, Above}

-- the rule by sizes alone
module _ (k v : ℕ) where
  right_larger : (l : Tree) (j g u : ℕ) (rl rr : Tree) → 3 * size l < size (node j g u rl rr)
      → join k v l (node j g u rl rr) ≡ (apart j >> (join k v l rl >>= λ t. balanced g u t rr))
  unfolding join
  right_larger leaf j g u rl rr lt = refl
  right_larger (node i h w ll lr) j g u rl rr lt = rw (lt-ltb (3 * size (node i h w ll lr)) (size (node j g u rl rr)) lt, join)

  left_larger : (i h w : ℕ) (ll lr r : Tree) → 3 * size r < size (node i h w ll lr)
      → join k v (node i h w ll lr) r ≡ (apart i >> (join k v lr r >>= λ t. balanced h w ll t))
  unfolding join
  left_larger i h w ll lr leaf lt = refl
  left_larger i h w ll lr (node j g u rl rr) lt = rw (le-ltb (3 * size (node i h w ll lr)) (size (node j g u rl rr)) (omega arith), join) (rw (lt-ltb (3 * size (node j g u rl rr)) (size (node i h w ll lr)) lt))

  neither : (l r : Tree) → size r ≤ 3 * size l → size l ≤ 3 * size r → join k v l r ≡ balanced k v l r
  unfolding join size
  neither leaf leaf p q = refl
  neither leaf (node j g u rl rr) p q = absurd (omega arith)
  neither (node i h w ll lr) leaf p q = absurd (omega arith)
  neither (node i h w ll lr) (node j g u rl rr) p q = rw (le-ltb (3 * size (node i h w ll lr)) (size (node j g u rl rr)) p, join) (rw (le-ltb (3 * size (node j g u rl rr)) (size (node i h w ll lr)) q))

-- the larger side m is over 3 times the other, o, and was taken apart from b to c: it is n
pub record Larger (b c : List ℕ) (m o : ℕ) (n : Node) : Type 0 where
  pub level : Level b c m n
  pub holding : Holding b (m ∷ o ∷ [])
  pub small : size_at (heap b) m + size_at (heap b) o < 1048576
  pub over : 3 * size_at (heap b) o < size_at (heap b) m

module _ {b c : List ℕ} {m o : ℕ} {n : Node} (D : Larger b c m o n) where
  S : Still b c o
  unfolding held
  S = level_still D.level D.holding o (λ x i. omega arith)

  -- the three pieces
  J : Holding c (o ∷ n.left ∷ n.right ∷ [])
  unfolding held
  J = level_holds D.level D.holding (o ∷ []) (λ x i. omega arith) (λ x i. omega arith)

  sized : (x : ℕ) → Named (heap c) x → size (tree (heap c) x) ≡ size_at (heap c) x
  sized x p = tree-size (heap c) J.running.linked x p

  over_trees : 3 * size (tree (heap c) o) < size (node m n.key n.value (tree (heap c) n.left) (tree (heap c) n.right))
  unfolding size
  over_trees = omega (arith, D.over, sized o S.named, S.size, sized n.left (read_left D.level), sized n.right (read_right D.level), read-size D.level)

  bound : size_at (heap c) o + size_at (heap c) n.left + size_at (heap c) n.right + 1 < 1048576
  bound = omega (arith, D.small, S.size, read-size D.level)

-- down the right's left spine
module _ {b c : List ℕ} {l r : ℕ} {n : Node} (D : Larger b c r l n) where
  pub right_asks : {t : ℕ} → size_at (heap b) l + size_at (heap b) r ≡ t → (size_at (heap c) l + size_at (heap c) n.left < t) × Asks c l n.left
  unfolding held
  right_asks e = (omega (arith, read-size D.level, (S D).size), (holding_less (J D) (λ x i. omega arith), (S D).named, read_left D.level, omega (arith, bound D)))

  module _ (k v : ℕ) where
    pub right_spine : Above b c (l ∷ r ∷ []) (l ∷ n.left ∷ []) (join k v (tree (heap b) l) (tree (heap b) r)) (join k v (tree (heap c) l) (tree (heap c) n.left)) (λ t u. balanced n.key n.value t u) n.right
    unfolding held
    right_spine = let x = tree (heap c) n.left in let y = tree (heap c) n.right in record {
      holds = holding_less (J D) (λ x i. omega arith);
      onward = λ t. balanced_onward n.key n.value t y;
      by = λ e q O. rw (← (S D).tree, read-tree D.level) (rw (right_larger k v (tree (heap c) l) r n.key n.value x y (over_trees D)) (level_out D.level (l ∷ []) (λ x i. omega arith) (λ x i. omega arith) O));
    }

    -- what the make above asks
    pub right_next : {d : List ℕ} {a : ℕ} → Outcome c d (l ∷ n.left ∷ []) (Some a) (join k v (tree (heap c) l) (tree (heap c) n.left)) → Asks d a n.right
    unfolding held
    right_next {d} {a} O =
        let rule = join k v (tree (heap c) l) (tree (heap c) n.left) in
        then_left (J D) O n.right (λ x i. omega arith) (omega (arith, out_size c d a rule (J D) (λ x i. omega arith) O, join-size k v (tree (heap c) l) (tree (heap c) n.left) (stock (J D)), sized D l (S D).named, sized D n.left (read_left D.level), bound D))

-- down the left's right spine
module _ {b c : List ℕ} {l r : ℕ} {n : Node} (D : Larger b c l r n) where
  pub left_asks : {t : ℕ} → size_at (heap b) l + size_at (heap b) r ≡ t → (size_at (heap c) n.right + size_at (heap c) r < t) × Asks c n.right r
  unfolding held
  left_asks e = (omega (arith, read-size D.level, (S D).size), (holding_less (J D) (λ x i. omega arith), read_right D.level, (S D).named, omega (arith, bound D)))

  module _ (k v : ℕ) where
    pub left_spine : Above b c (l ∷ r ∷ []) (n.right ∷ r ∷ []) (join k v (tree (heap b) l) (tree (heap b) r)) (join k v (tree (heap c) n.right) (tree (heap c) r)) (λ t u. balanced n.key n.value u t) n.left
    unfolding held
    left_spine = let x = tree (heap c) n.left in let y = tree (heap c) n.right in record {
      holds = holding_less (J D) (λ x i. omega arith);
      onward = λ t. balanced_onward n.key n.value x t;
      by = λ e q O. rw (← (S D).tree, read-tree D.level) (rw (left_larger k v l n.key n.value x y (tree (heap c) r) (over_trees D)) (level_out D.level (r ∷ []) (λ x i. omega arith) (λ x i. omega arith) O));
    }

    pub left_next : {d : List ℕ} {a : ℕ} → Outcome c d (n.right ∷ r ∷ []) (Some a) (join k v (tree (heap c) n.right) (tree (heap c) r)) → Asks d n.left a
    unfolding held
    left_next {d} {a} O =
        let rule = join k v (tree (heap c) n.right) (tree (heap c) r) in
        then_right (J D) O n.left (λ x i. omega arith) (omega (arith, out_size c d a rule (J D) (λ x i. omega arith) O, join-size k v (tree (heap c) n.right) (tree (heap c) r) (stock (J D)), sized D r (S D).named, sized D n.right (read_right D.level), bound D))

-- neither side is over 3 times the other
pub even : {b e : List ℕ} {q : Option ℕ} (k v l r : ℕ) → Asks b l r → size_at (heap b) r ≤ 3 * size_at (heap b) l → size_at (heap b) l ≤ 3 * size_at (heap b) r
    → Outcome b e (l ∷ r ∷ []) q (balanced k v (tree (heap b) l) (tree (heap b) r)) → Outcome b e (l ∷ r ∷ []) q (join k v (tree (heap b) l) (tree (heap b) r))
even {b} k v l r A p q O =
    let x = tree-size (heap b) A.0.running.linked l A.1 in
    let y = tree-size (heap b) A.0.running.linked r A.2 in
    rw (neither k v (tree (heap b) l) (tree (heap b) r) (omega (arith, x, y)) (omega (arith, x, y))) O
