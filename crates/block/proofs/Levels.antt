-- A node taken apart as code reads it, and what the next make asks: a rule that ran keeps the pieces that it did not take.
use mathlib.Core.Path.{◌≡◌, ap, subst, ◌∙◌}
use Prim.Native.Nat.{ℕ, zero, suc, ◌+◌, ◌≤◌, ◌<◌}
use mathlib.Core.Option.{some}
use mathlib.Core.List.{List, [], ◌∷◌}
use native.Mathlib.Omega.{arith}
use Rattle.model.specs.Tree.{Tree, node, size}
use Rattle.model.specs.Supply.{Supply, Make, make, apart, ◌>>=◌, ◌>>◌}
use Rattle.model.specs.Heap.{Heap, Occupied, Named, size_at, tree}
use Rattle.model.specs.Block.{heap}
use Rattle.model.specs.Moves.{Running, held, Among, Covered, Holding, Came, Still, Apart}
use Rattle.model.proofs.block.Loads.{tree_node, tree-size, size_at_occupied}
use Rattle.model.proofs.running.Growing.{came_still, came_holding, came_apart}
use Rattle.model.proofs.rules.Steady.{Onward}
use Rattle.model.proofs.rules.Sizes.{make-size}
use Rattle.block.specs.declared.Node.{Node}
use Rattle.std.specs.Prelude.{Option, Some, None}
use Rattle.block.specs.Pairs.{Pair}
use Rattle.block.specs.Outcome.{Outcome, tree_at, node_of}
use Rattle.block.proofs.Outcomes.{stock, out_bind, out_stop, out_size}

-- what a make of l and r asks
abbrev pub Asks : List ℕ → ℕ → ℕ → Type 0
Asks b l r = Pair b l r

-- node n of a running block was taken apart from b to c, and is m
pub record Level (b c : List ℕ) (n : ℕ) (m : Node) : Type 0 where
  pub running : Running b
  pub occupied : Occupied (heap b) n
  pub is : m ≡ node_of (heap b) n
  pub apart : Apart b c n

module _ {b c : List ℕ} {n : ℕ} {m : Node} (L : Level b c n m) where
  left_is : m.left ≡ (heap b).left n
  left_is = ap (λ z. z.left) L.is

  right_is : m.right ≡ (heap b).right n
  right_is = ap (λ z. z.right) L.is

  pub read-tree : tree (heap b) n ≡ node n m.key m.value (tree (heap c) m.left) (tree (heap c) m.right)
  read-tree = rw L.is (tree_node (heap b) L.running.linked n L.occupied ∙ rw (L.apart.left.tree, L.apart.right.tree))

  pub read_left : Named (heap c) m.left
  read_left = rw left_is L.apart.left.named

  pub read_right : Named (heap c) m.right
  read_right = rw right_is L.apart.right.named

  pub read-size : size_at (heap b) n ≡ suc (size_at (heap c) m.left + size_at (heap c) m.right)
  read-size = rw (left_is, right_is) (size_at_occupied (heap b) L.running.linked n L.occupied ∙ L.running.linked.sizes n L.occupied ∙ rw (L.apart.left.size, L.apart.right.size))

  -- its children are pieces in the place of it
  pub level_came : Came (Unit {0}) b c (n ∷ []) (m.left ∷ m.right ∷ []) (some tt) (apart n)
  level_came = rw (left_is, right_is) L.apart.came

  pub level_holds : {ps qs : List ℕ} → Holding b ps → (rest : List ℕ) → Among (n ∷ []) rest ps → Covered qs (m.left ∷ m.right ∷ []) rest → Holding c qs
  level_holds H rest p q = came_holding H level_came rest p q

  pub level_still : {ps : List ℕ} → Holding b ps → (y : ℕ) → Among (n ∷ []) (y ∷ []) ps → Still b c y
  level_still H y p = came_still H level_came y p

  -- the rule goes on with them, and with the pieces `rest` that stayed
  pub level_out : {e ins tot : List ℕ} {q : Option ℕ} {rule : Make Tree} (rest : List ℕ) → Among (n ∷ []) rest tot → Covered ins (m.left ∷ m.right ∷ []) rest
      → Outcome c e ins q rule → Outcome b e tot q (apart n >> rule)
  level_out {e} {q = q} {rule = rule} rest p r O = record { named = O.named; came = came_apart b c e rest p r n (tree_at (heap e) q) rule level_came O.came }

-- a link with a size is a node
pub sized_occupied : (h : Heap) (n : ℕ) → Named h n → 1 ≤ size_at h n → Occupied h n
sized_occupied h zero o p = absurd (omega arith)
sized_occupied h (suc n) o p = o

-- the size of a node that was made
pub out_made : {b c qs : List ℕ} {x k v : ℕ} (l r : ℕ) → Holding b qs → Among (l ∷ r ∷ []) [] qs → Named (heap b) l → Named (heap b) r
    → Outcome b c (l ∷ r ∷ []) (Some x) (make k v (tree (heap b) l) (tree (heap b) r))
    → size_at (heap c) x ≡ suc (size_at (heap b) l + size_at (heap b) r)
out_made {b} {c} {qs} {x} {k} {v} l r H p nl nr O =
    out_size b c x (make k v (tree (heap b) l) (tree (heap b) r)) H p O
    ∙ make-size k v (tree (heap b) l) (tree (heap b) r) (stock H)
    ∙ omega (arith, tree-size (heap b) H.running.linked l nl, tree-size (heap b) H.running.linked r nr)

-- x was made of some of the pieces qs, and y is another of them: a make of the two
module _ {b c ps qs : List ℕ} {x : ℕ} {m : Make Tree} (H : Holding b qs) (O : Outcome b c ps (Some x) m) (y : ℕ) (p : Among ps (y ∷ []) qs) where
  pub then_still : Still b c y
  then_still = came_still H O.came y p

  pub then_left : size_at (heap c) x + size_at (heap b) y < 1048576 → Asks c x y
  unfolding held
  then_left s = (came_holding H O.came (y ∷ []) p (λ n i. omega arith), O.named, then_still.named, omega (arith, then_still.size))

  pub then_right : size_at (heap b) y + size_at (heap c) x < 1048576 → Asks c y x
  unfolding held
  then_right s = (came_holding H O.came (y ∷ []) p (λ n i. omega arith), then_still.named, O.named, omega (arith, then_still.size))

-- a rule that adds at most one to the tree below y has made x
pub out_most : {b c ps qs : List ℕ} {x : ℕ} {m : Make Tree} (y : ℕ) → Holding b qs → Among ps [] qs → Named (heap b) y
    → Outcome b c ps (Some x) m → ((s : Supply) → size (m s).0 ≤ suc (size (tree (heap b) y))) → size_at (heap c) x ≤ suc (size_at (heap b) y)
out_most {b} {c} {x = x} {m = m} y H p o O z = omega (arith, out_size b c x m H p O, z (stock H), tree-size (heap b) H.running.linked y o)

-- the rule `goal` at a node: the node was taken apart from b to c; `low` takes the pieces ps there, then mk takes what that made and the other side y
pub record Above (b c tot ps : List ℕ) (goal low : Make Tree) (mk : Tree → Tree → Make Tree) (y : ℕ) : Type 0 where
  pub holds : Holding c (y ∷ ps)
  pub onward : (t : Tree) → Onward (mk t (tree (heap c) y))
  pub by : (e : List ℕ) (q : Option ℕ) → Outcome c e (y ∷ ps) q (low >>= λ t. mk t (tree (heap c) y)) → Outcome b e tot q goal

module _ {b c tot ps : List ℕ} {goal low : Make Tree} {mk : Tree → Tree → Make Tree} {y : ℕ} (A : Above b c tot ps goal low mk y) where
  other : Among ps (y ∷ []) (y ∷ ps)
  unfolding held
  other n i = omega arith

  -- low finds no room
  pub above_stop : {e : List ℕ} → Outcome c e ps None low → Outcome b e tot None goal
  unfolding held
  above_stop {e} O = A.by e None (out_stop c e low (λ t. mk t (tree (heap c) y)) (λ n i. omega arith) O A.onward)

  module _ {d : List ℕ} {x : ℕ} (O : Outcome c d ps (Some x) low) where
    pub above_last : {e : List ℕ} {q : Option ℕ} → Outcome d e (x ∷ y ∷ []) q (mk (tree (heap d) x) (tree (heap d) y)) → Outcome b e tot q goal
    unfolding held
    above_last {e} {q} P = A.by e q (out_bind c d e (y ∷ []) x q low (λ t. mk t (tree (heap c) y)) (λ n i. omega arith) (λ n i. omega arith) O (subst (λ t. Outcome d e (x ∷ y ∷ []) q (mk (tree (heap d) x) t)) (then_still A.holds O y other).tree P))

    pub above_last_right : {e : List ℕ} {q : Option ℕ} → Outcome d e (y ∷ x ∷ []) q (mk (tree (heap d) x) (tree (heap d) y)) → Outcome b e tot q goal
    unfolding held
    above_last_right {e} {q} P = A.by e q (out_bind c d e (y ∷ []) x q low (λ t. mk t (tree (heap c) y)) (λ n i. omega arith) (λ n i. omega arith) O (subst (λ t. Outcome d e (y ∷ x ∷ []) q (mk (tree (heap d) x) t)) (then_still A.holds O y other).tree P))
