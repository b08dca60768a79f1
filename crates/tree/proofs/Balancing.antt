-- The balanced make is right because the code asks the rule's tests in the rule's order, and a node taken apart is the tree's root.
use mathlib.Core.Path.{◌≡◌, sym, subst, ◌∙◌}
use Prim.Native.Nat.{ℕ, ◌+◌, ◌*◌, ◌≤◌, ◌<◌}
use mathlib.Core.List.{List, [], ◌∷◌}
use borrow.Author.Tests.{lt-ltb, le-ltb}
use native.Mathlib.Omega.{arith}
use Rattle.model.specs.Tree.{Tree, size}
use Rattle.model.specs.Supply.{Make, make, ◌>>=◌}
use Rattle.model.specs.Rules.{weight, twice, rotate_left, rotate_right, balanced}
use Rattle.model.specs.Heap.{Named, size_at, tree, Occupied}
use Rattle.model.specs.Block.{heap}
use Rattle.model.specs.Moves.{held, Among, Holding, Still}
use Rattle.model.proofs.block.Loads.{tree-size}
use Rattle.model.proofs.running.Growing.{came_still, came_holding, holding_less}
use Rattle.model.proofs.rules.Steady.{make_onward}
use Rattle.std.specs.Prelude.{Option, Some, None}
use Rattle.block.specs.declared.Node.{Node}
use Rattle.block.specs.Outcome.{Outcome}
use Rattle.block.proofs.Outcomes.{out_bind, out_stop}
use Rattle.block.specs.Pairs.{Pair}
use Rattle.block.proofs.Levels.{Asks, Level, read-tree, read_left, read_right, read-size, level_holds, level_still, level_out, out_made, then_still, then_left, then_right, Above, sized_occupied}

-- twice: the middle node m was taken apart from b to c, and is n
pub record Middle (b c : List ℕ) (k v l m h w r : ℕ) (n : Node) : Type 0 where
  pub level : Level b c m n
  pub holding : Holding b (l ∷ m ∷ r ∷ [])
  pub small : size_at (heap b) l + size_at (heap b) m + size_at (heap b) r + 1 < 1048576

module _ {b c : List ℕ} {k v l m h w r : ℕ} {n : Node} (M : Middle b c k v l m h w r n) where
  L : Still b c l
  unfolding held
  L = level_still M.level M.holding l (λ x i. omega arith)

  R : Still b c r
  unfolding held
  R = level_still M.level M.holding r (λ x i. omega arith)

  -- the four pieces
  H : Holding c (l ∷ n.left ∷ n.right ∷ r ∷ [])
  unfolding held
  H = level_holds M.level M.holding (l ∷ r ∷ []) (λ x i. omega arith) (λ x i. omega arith)

  sz : size_at (heap c) l + size_at (heap c) n.left + size_at (heap c) n.right + size_at (heap c) r + 2 < 1048576
  sz = omega (arith, read-size M.level, M.small, L.size, R.size)

  abbrev goal : Make Tree
  goal = twice k v (tree (heap b) l) (tree (heap b) m) h w (tree (heap b) r)

  abbrev one : Make Tree
  one = make k v (tree (heap c) l) (tree (heap c) n.left)

  abbrev two : Make Tree
  two = make h w (tree (heap c) n.right) (tree (heap c) r)

  abbrev then : Tree → Make Tree
  then a = two >>= λ z. make n.key n.value a z

  whole : {e : List ℕ} {q : Option ℕ} → Outcome c e (l ∷ n.left ∷ n.right ∷ r ∷ []) q (one >>= then) → Outcome b e (l ∷ m ∷ r ∷ []) q goal
  unfolding twice held
  whole {e} {q} O = rw (read-tree M.level, ← L.tree, ← R.tree, twice) (level_out M.level (l ∷ r ∷ []) (λ x i. omega arith) (λ x i. omega arith) O)

  pub twice-asks : Asks c l n.left
  unfolding held
  twice-asks = (holding_less H (λ x i. omega arith), L.named, read_left M.level, omega (arith, sz))

  pub twice_stop : {e : List ℕ} → Outcome c e (l ∷ n.left ∷ []) None one → Outcome b e (l ∷ m ∷ r ∷ []) None goal
  unfolding held
  twice_stop {e} O = whole (out_stop c e one then (λ x i. omega arith) O (λ a s p. make_onward n.key n.value a (two s).0 (two s).1 (make_onward h w (tree (heap c) n.right) (tree (heap c) r) s p)))

  module _ {d : List ℕ} {x : ℕ} (O : Outcome c d (l ∷ n.left ∷ []) (Some x) one) where
    Y : Still c d n.right
    unfolding held
    Y = came_still H O.came n.right (λ x i. omega arith)

    Z : Still c d r
    unfolding held
    Z = came_still H O.came r (λ x i. omega arith)

    I : Holding d (x ∷ n.right ∷ r ∷ [])
    unfolding held
    I = came_holding H O.came (n.right ∷ r ∷ []) (λ x i. omega arith) (λ x i. omega arith)

    pub twice_asks_2 : Asks d n.right r
    unfolding held
    twice_asks_2 = (holding_less I (λ x i. omega arith), Y.named, Z.named, omega (arith, sz, Y.size, Z.size))

    abbrev second : Make Tree
    second = make h w (tree (heap d) n.right) (tree (heap d) r)

    back : {e : List ℕ} {q : Option ℕ} → Outcome d e (n.right ∷ r ∷ []) q second → Outcome d e (n.right ∷ r ∷ []) q two
    back P = rw (← Y.tree, ← Z.tree) P

    first : {e : List ℕ} {q : Option ℕ} → Outcome d e (x ∷ n.right ∷ r ∷ []) q (then (tree (heap d) x)) → Outcome b e (l ∷ m ∷ r ∷ []) q goal
    unfolding held
    first {e} {q} P = whole (out_bind c d e (n.right ∷ r ∷ []) x q one then (λ x i. omega arith) (λ x i. omega arith) O P)

    pub twice_stop_2 : {e : List ℕ} → Outcome d e (n.right ∷ r ∷ []) None second → Outcome b e (l ∷ m ∷ r ∷ []) None goal
    unfolding held
    twice_stop_2 {e} P = first (out_stop d e two (λ z. make n.key n.value (tree (heap d) x) z) (λ x i. omega arith) (back P) (λ z. make_onward n.key n.value (tree (heap d) x) z))

    module _ {f : List ℕ} {y : ℕ} (P : Outcome d f (n.right ∷ r ∷ []) (Some y) second) where
      aside : Among (n.right ∷ r ∷ []) (x ∷ []) (x ∷ n.right ∷ r ∷ [])
      unfolding held
      aside z i = omega arith

      pub twice_asks_3 : Asks f x y
      unfolding held
      twice_asks_3 = then_right I P x aside (omega (
        arith,
        sz,
        out_made l n.left H (λ x i. omega arith) L.named (read_left M.level) O,
        out_made n.right r I (λ x i. omega arith) Y.named Z.named P,
        Y.size,
        Z.size,
      ))

      pub twice_last : {e : List ℕ} {q : Option ℕ} → Outcome f e (x ∷ y ∷ []) q (make n.key n.value (tree (heap f) x) (tree (heap f) y))
          → Outcome b e (l ∷ m ∷ r ∷ []) q goal
      unfolding held
      twice_last {e} {q} Q = first (out_bind d f e (x ∷ []) y q two (λ z. make n.key n.value (tree (heap d) x) z) (λ z i. omega arith) (λ z i. omega arith) (back P) (subst (λ t. Outcome f e (x ∷ y ∷ []) q (make n.key n.value t (tree (heap f) y))) (then_still I P x aside).tree Q))

-- two pieces the other way round
pub swapped : {b : List ℕ} {l r : ℕ} → Holding b (l ∷ r ∷ []) → Holding b (r ∷ l ∷ [])
unfolding held
swapped H = holding_less H (λ x i. omega arith)

-- a rotation: the child m, on the side that is too heavy, was taken apart from b to c and is n, whose sides have the sizes x and z; y is the other side
pub record Heavy (b c : List ℕ) (k v m y : ℕ) (n : Node) (x z : ℕ) : Type 0 where
  pub level : Level b c m n
  pub holding : Holding b (m ∷ y ∷ [])
  pub small : size_at (heap b) m + size_at (heap b) y < 1048576
  pub left : x ≡ size_at (heap c) n.left
  pub right : z ≡ size_at (heap c) n.right

module _ {b c : List ℕ} {k v m y : ℕ} {n : Node} {x z : ℕ} (T : Heavy b c k v m y n x z) where
  S : Still b c y
  unfolding held
  S = level_still T.level T.holding y (λ x i. omega arith)

  -- the three pieces
  J : Holding c (n.right ∷ y ∷ n.left ∷ [])
  unfolding held
  J = level_holds T.level T.holding (y ∷ []) (λ x i. omega arith) (λ x i. omega arith)

  nl : Named (heap c) n.left
  nl = read_left T.level

  nr : Named (heap c) n.right
  nr = read_right T.level

  abbrev left : Tree
  left = tree (heap c) n.left

  abbrev right : Tree
  right = tree (heap c) n.right

  abbrev other : Tree
  other = tree (heap c) y

  abbrev top : Tree → Tree → Make Tree
  top t u = make n.key n.value t u

  sl : size left ≡ x
  sl = tree-size (heap c) J.running.linked n.left nl ∙ sym T.left

  sr : size right ≡ z
  sr = tree-size (heap c) J.running.linked n.right nr ∙ sym T.right

  -- what the two children and the other side hold
  pub together : x + z + size_at (heap c) y + 1 < 1048576
  together = omega (arith, read-size T.level, T.small, T.left, T.right, S.size)

  -- what the lower make asks, and the upper one
  pub left_asks : Asks c y n.left
  unfolding held
  left_asks = (holding_less J (λ x i. omega arith), S.named, nl, omega (arith, together, T.left))

  pub right_asks : Asks c n.right y
  unfolding held
  right_asks = (holding_less J (λ x i. omega arith), nr, S.named, omega (arith, together, T.right))

  pub left_asks_2 : {d : List ℕ} {a : ℕ} → Outcome c d (y ∷ n.left ∷ []) (Some a) (make k v other left) → Asks d a n.right
  unfolding held
  left_asks_2 O = then_left J O n.right (λ x i. omega arith) (omega (arith, together, T.left, T.right, out_made y n.left J (λ x i. omega arith) S.named nl O))

  pub right_asks_2 : {d : List ℕ} {a : ℕ} → Outcome c d (n.right ∷ y ∷ []) (Some a) (make k v right other) → Asks d n.left a
  unfolding held
  right_asks_2 O = then_right J O n.left (λ x i. omega arith) (omega (arith, together, T.left, T.right, out_made n.right y J (λ x i. omega arith) nr S.named O))

  pub left_once : x + 1 < 2 * (z + 1)
      → Above b c (y ∷ m ∷ []) (y ∷ n.left ∷ []) (rotate_left k v (tree (heap b) y) (tree (heap b) m)) (make k v other left) (λ t u. top t u) n.right
  unfolding rotate_left held
  left_once p = record {
    holds = J;
    onward = λ t. make_onward n.key n.value t right;
    by = λ e q O. rw (← S.tree) (rw (read-tree T.level, rotate_left) (rw (lt-ltb (weight left) (2 * weight right) (omega (arith, p, sl, sr))) (level_out T.level (y ∷ []) (λ x i. omega arith) (λ x i. omega arith) O)));
  }

  pub right_once : z + 1 < 2 * (x + 1)
      → Above b c (m ∷ y ∷ []) (n.right ∷ y ∷ []) (rotate_right k v (tree (heap b) m) (tree (heap b) y)) (make k v right other) (λ t u. top u t) n.left
  unfolding rotate_right held
  right_once p = record {
    holds = holding_less J (λ x i. omega arith);
    onward = λ t. make_onward n.key n.value left t;
    by = λ e q O. rw (← S.tree, read-tree T.level, rotate_right) (rw (lt-ltb (weight right) (2 * weight left) (omega (arith, p, sl, sr))) (level_out T.level (y ∷ []) (λ x i. omega arith) (λ x i. omega arith) O));
  }

  -- otherwise the inner child is a node, and goes to the top
  pub left_inner : 2 * (z + 1) ≤ x + 1
      → Holding c (y ∷ n.left ∷ n.right ∷ []) × Named (heap c) y × Occupied (heap c) n.left × Named (heap c) n.right × (size_at (heap c) y + size_at (heap c) n.left + size_at (heap c) n.right + 1 < 1048576)
  unfolding held
  left_inner p = (holding_less J (λ x i. omega arith), S.named, sized_occupied (heap c) n.left nl (omega (arith, p, T.left)), nr, omega (arith, together, T.left, T.right))

  pub right_inner : 2 * (x + 1) ≤ z + 1
      → Holding c (n.left ∷ n.right ∷ y ∷ []) × Named (heap c) n.left × Occupied (heap c) n.right × Named (heap c) y × (size_at (heap c) n.left + size_at (heap c) n.right + size_at (heap c) y + 1 < 1048576)
  unfolding held
  right_inner p = (holding_less J (λ x i. omega arith), nl, sized_occupied (heap c) n.right nr (omega (arith, p, T.right)), S.named, omega (arith, together, T.left, T.right))

  pub left_twice : {e : List ℕ} {q : Option ℕ} → 2 * (z + 1) ≤ x + 1
      → Outcome c e (y ∷ n.left ∷ n.right ∷ []) q (twice k v other left n.key n.value right)
      → Outcome b e (y ∷ m ∷ []) q (rotate_left k v (tree (heap b) y) (tree (heap b) m))
  unfolding rotate_left held
  left_twice {e} {q} p O = rw (← S.tree) (rw (read-tree T.level, rotate_left) (rw (le-ltb (weight left) (2 * weight right) (omega (arith, p, sl, sr))) (level_out T.level (y ∷ []) (λ x i. omega arith) (λ x i. omega arith) O)))

  pub right_twice : {e : List ℕ} {q : Option ℕ} → 2 * (x + 1) ≤ z + 1
      → Outcome c e (n.left ∷ n.right ∷ y ∷ []) q (twice n.key n.value left right k v other)
      → Outcome b e (m ∷ y ∷ []) q (rotate_right k v (tree (heap b) m) (tree (heap b) y))
  unfolding rotate_right held
  right_twice {e} {q} p O = rw (← S.tree, read-tree T.level, rotate_right) (rw (le-ltb (weight right) (2 * weight left) (omega (arith, p, sl, sr))) (level_out T.level (y ∷ []) (λ x i. omega arith) (λ x i. omega arith) O))

-- the balanced make: the sides l and r have the sizes x and y
pub record Sides (b : List ℕ) (k v l r x y : ℕ) : Type 0 where
  pub asks : Asks b l r
  pub left : x ≡ size_at (heap b) l
  pub right : y ≡ size_at (heap b) r

module _ {b : List ℕ} {k v l r x y : ℕ} (S : Sides b k v l r x y) where
  abbrev T : Tree
  T = tree (heap b) l

  abbrev U : Tree
  U = tree (heap b) r

  st : size T ≡ x
  st = tree-size (heap b) S.asks.0.running.linked l S.asks.1 ∙ sym S.left

  su : size U ≡ y
  su = tree-size (heap b) S.asks.0.running.linked r S.asks.2 ∙ sym S.right

  -- a side that has a size is a node
  pub heavy_right : 1 ≤ y → Pair b l r × Occupied (heap b) r
  heavy_right p = (S.asks, sized_occupied (heap b) r S.asks.2 (omega (arith, p, S.right)))

  pub heavy_left : 1 ≤ x → Pair b l r × Occupied (heap b) l
  heavy_left p = (S.asks, sized_occupied (heap b) l S.asks.1 (omega (arith, p, S.left)))

  module _ {e : List ℕ} {q : Option ℕ} where
    pub plain_low : x + y < 2 → Outcome b e (l ∷ r ∷ []) q (make k v T U) → Outcome b e (l ∷ r ∷ []) q (balanced k v T U)
    unfolding balanced
    plain_low p O = rw (lt-ltb (size T + size U) 2 (omega (arith, st, su)), balanced) O

    pub turn_left : 2 ≤ x + y → 3 * (x + 1) < y + 1 → Outcome b e (l ∷ r ∷ []) q (rotate_left k v T U) → Outcome b e (l ∷ r ∷ []) q (balanced k v T U)
    unfolding balanced
    turn_left p h O = rw (le-ltb (size T + size U) 2 (omega (arith, st, su)), balanced) (rw (lt-ltb (3 * weight T) (weight U) (omega (arith, st, su))) O)

    pub turn_right : 2 ≤ x + y → y + 1 ≤ 3 * (x + 1) → 3 * (y + 1) < x + 1 → Outcome b e (l ∷ r ∷ []) q (rotate_right k v T U)
        → Outcome b e (l ∷ r ∷ []) q (balanced k v T U)
    unfolding balanced
    turn_right p g h O = rw (le-ltb (size T + size U) 2 (omega (arith, st, su)), balanced) (rw (le-ltb (3 * weight T) (weight U) (omega (arith, st, su))) (rw (lt-ltb (3 * weight U) (weight T) (omega (arith, st, su))) O))

    pub plain_even : 2 ≤ x + y → y + 1 ≤ 3 * (x + 1) → x + 1 ≤ 3 * (y + 1) → Outcome b e (l ∷ r ∷ []) q (make k v T U)
        → Outcome b e (l ∷ r ∷ []) q (balanced k v T U)
    unfolding balanced
    plain_even p g h O = rw (le-ltb (size T + size U) 2 (omega (arith, st, su)), balanced) (rw (le-ltb (3 * weight T) (weight U) (omega (arith, st, su))) (rw (le-ltb (3 * weight U) (weight T) (omega (arith, st, su))) O))
