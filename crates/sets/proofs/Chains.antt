-- A level is right because it does what its rule does, in the rule's order: the root taken apart, the other tree split at its key, the left parts, the right parts, then the last make; where one of them finds no room, so does the rule.
use Rattle.std.proofs.Common.{◌≡◌, ℕ, zero, suc, ◌+◌, ◌<◌, ◌≤◌, ◌≢◌, List, [], ◌∷◌, sym, ap, ◌∙◌, subst, arith}
use mathlib.Core.Option as maybe
use Rattle.model.specs.Tree.{Tree, node, size}
use Rattle.model.specs.Supply.{Supply, Make, apart, ◌>>=◌, ◌>>◌}
use Rattle.model.specs.Rules.{Parts, split}
use Rattle.model.specs.Heap.{Occupied, Named, size_at, tree}
use Rattle.model.specs.Block.{heap}
use Rattle.model.specs.Moves.{held, Holding, Still, Apart}
use Rattle.model.proofs.block.Loads.{tree_node, tree-size}
use Rattle.model.proofs.block.Lookups.{link_occupied}
use Rattle.model.proofs.running.Growing.{named_occupied, came_bind, came_stop, came_still, came_holding, holding_less}
use Rattle.model.proofs.rules.Steady.{Onward, bind_onward}
use Rattle.std.specs.Prelude.{Option, Some, None}
use Rattle.block.specs.declared.Node.{Node}
use Rattle.answers.specs.Answers.{answer}
use Rattle.block.specs.Outcome.{Outcome, tree_at, node_of}
use Rattle.block.proofs.Outcomes.{stock, out_bind, out_stop, out_size}
use Rattle.block.proofs.Levels.{Asks, Level, read-tree, read-size, level_holds, level_still, level_out}
use Rattle.join.specs.declared.Pieces.{Pieces}
use Rattle.join.specs.Division.{parts_of, Division}
use Rattle.join.proofs.Splitting.{parts_size}

-- b became e by low of the trees below x and y, the same with any fuel above their two sizes together
abbrev pub Fed : List ℕ → List ℕ → Option ℕ → (ℕ → Tree → Tree → Make Tree) → ℕ → ℕ → Type 0
Fed b e q low x y = (fuel : ℕ) → size_at (heap b) x + size_at (heap b) y < fuel → Outcome b e (x ∷ y ∷ []) q (low fuel (tree (heap b) x) (tree (heap b) y))

-- what a call on x and y in e asks, made for node i and tree c of b
pub record Called (b e : List ℕ) (i c x y : ℕ) : Type 0 where
  pub smaller : size_at (heap e) x < size_at (heap b) i
  pub fewer : size_at (heap e) x + size_at (heap e) y < size_at (heap b) i + size_at (heap b) c
  pub asks : Asks e x y

-- two nodes, and the one that is taken was taken apart from b to o
pub record Rooted (b o : List ℕ) (i c : ℕ) (m : Node) : Type 0 where
  pub level : Level b o i m
  pub holding : Holding b (i ∷ c ∷ [])
  pub some : c ≢ 0
  pub small : size_at (heap b) i + size_at (heap b) c < 1048576

pub rooted : {b o : List ℕ} {i c : ℕ} {m : Node} → Asks b i c → i ≢ 0 → c ≢ 0 → (m ≡ node_of (heap b) i) × Apart b o i → Rooted b o i c m
rooted {b} {o} {i} {c} A p q e = record { level = record { running = A.0.running; occupied = link_occupied (heap b) i A.1 p; is = e.0; apart = e.1 }; holding = A.0; some = q; small = A.3 }

module _ {b o : List ℕ} {i c : ℕ} {m : Node} (R : Rooted b o i c m) where
  -- the other tree is as it was
  pub other : Still b o c
  unfolding held
  other = level_still R.level R.holding c (λ x i. omega arith)

  -- the three pieces
  pub pieces : Holding o (m.left ∷ m.right ∷ c ∷ [])
  unfolding held
  pieces = level_holds R.level R.holding (c ∷ []) (λ x i. omega arith) (λ x i. omega arith)

  pub root_size : size (node i m.key m.value (tree (heap o) m.left) (tree (heap o) m.right)) ≡ size_at (heap b) i
  root_size = sym (ap size (read-tree R.level)) ∙ tree-size (heap b) R.level.running.linked i (named_occupied (heap b) i R.level.occupied)

  pub other_size : size (tree (heap o) c) ≡ size_at (heap b) c
  other_size = tree-size (heap o) pieces.running.linked c other.named ∙ other.size

  pub other_node : Occupied (heap o) c
  other_node = link_occupied (heap o) c other.named R.some

  pub other_some : 1 ≤ size (tree (heap o) c)
  unfolding size
  other_some = rw (tree_node (heap o) pieces.running.linked c other_node) (omega arith)

-- the rule goal at node i, which is m: tree c is split at its key, the parts are put to low, and top makes the end
pub record Chain (b o : List ℕ) (goal : ℕ → Make Tree) (low : ℕ → Tree → Tree → Make Tree) (top : maybe.Option ℕ → Tree → Tree → Make Tree) (i c : ℕ) (m : Node) : Type 0 where
  pub rooted : Rooted b o i c m
  pub fits : (n : ℕ) (t u : Tree) (s : Supply) → size (low n t u s).0 ≤ size t + size u
  pub low_onward : (n : ℕ) (t u : Tree) → Onward (low n t u)
  pub top_onward : (o : maybe.Option ℕ) (t u : Tree) → Onward (top o t u)
  pub is : (n : ℕ)
      → goal (suc n) ≡ (apart i >> (split (tree (heap o) c) m.key >>= λ p. low n (tree (heap o) m.left) p.left >>= λ t. low n (tree (heap o) m.right) p.right >>= λ u. top p.found t u))

module _ {b o : List ℕ} {goal : ℕ → Make Tree} {low : ℕ → Tree → Tree → Make Tree} {top : maybe.Option ℕ → Tree → Tree → Make Tree} {i c : ℕ} {m : Node} (C : Chain b o goal low top i c m) where
  R : Level b o i m
  R = C.rooted.level

  abbrev left : Tree
  left = tree (heap o) m.left

  abbrev right : Tree
  right = tree (heap o) m.right

  abbrev cut : Make Parts
  cut = split (tree (heap o) c) m.key

  -- what follows the left parts, and what follows the split
  abbrev later : ℕ → Parts → Tree → Make Tree
  later n p t = low n right p.right >>= λ u. top p.found t u

  abbrev both : ℕ → Parts → Make Tree
  both n p = low n left p.left >>= λ t. later n p t

  later_onward : (n : ℕ) (p : Parts) (t : Tree) → Onward (later n p t)
  later_onward n p t = bind_onward (low n right p.right) (λ u. top p.found t u) (C.low_onward n right p.right) (C.top_onward p.found t)

  both_onward : (n : ℕ) (p : Parts) → Onward (both n p)
  both_onward n p = bind_onward (low n left p.left) (later n p) (C.low_onward n left p.left) (later_onward n p)

  -- n and one more is fuel enough for this level
  abbrev Enough : ℕ → Type 0
  Enough n = size_at (heap b) i + size_at (heap b) c < suc n

  -- this level has come to e
  abbrev Ends : List ℕ → Option ℕ → Type 0
  Ends e q = (fuel : ℕ) → size_at (heap b) i + size_at (heap b) c < fuel → Outcome b e (i ∷ c ∷ []) q (goal fuel)

  as_goal : {e : List ℕ} {q : Option ℕ} → ((n : ℕ) → Enough n → Outcome o e (m.left ∷ m.right ∷ c ∷ []) q (cut >>= both n)) → Ends e q
  unfolding held
  as_goal O zero lt = absurd (omega arith)
  as_goal {e} {q} O (suc n) lt = rw (C.is n) (level_out R (c ∷ []) (λ x i. omega arith) (λ x i. omega arith) (O n lt))

  pub chain_asks : Holding o (c ∷ []) × Named (heap o) c × (size_at (heap o) c < 1048576)
  unfolding held
  chain_asks = (holding_less (pieces C.rooted) (λ x i. omega arith), (other C.rooted).named, omega (arith, C.rooted.small, (other C.rooted).size))

  pub chain_stop : {e : List ℕ} → Division o e (c ∷ []) None cut → Ends e None
  unfolding held
  chain_stop {e} D = as_goal (λ n lt. record { named = tt; came = came_stop o e (λ x i. omega arith) cut (both n) D.came (both_onward n) })

  -- low of y and z in e, and that what it made is no larger than the two
  once : {f : List ℕ} {q : Option ℕ} (e : List ℕ) (y z : ℕ) → Fed e f q low y z
      → Outcome e f (y ∷ z ∷ []) q (low (suc (size_at (heap e) y + size_at (heap e) z)) (tree (heap e) y) (tree (heap e) z))
  once e y z A = A (suc (size_at (heap e) y + size_at (heap e) z)) (omega arith)

  once_size : {f : List ℕ} {x : ℕ} (e : List ℕ) (y z : ℕ) → Asks e y z → Fed e f (Some x) low y z → size_at (heap f) x ≤ size_at (heap e) y + size_at (heap e) z
  unfolding held
  once_size {f} {x} e y z Q A =
      let n = suc (size_at (heap e) y + size_at (heap e) z) in
      let t = tree (heap e) y in
      let u = tree (heap e) z in
      let L = Q.0.running.linked in
      omega (arith, out_size e f x (low n t u) Q.0 (λ x i. omega arith) (once e y z A), C.fits n t u (stock Q.0), tree-size (heap e) L y Q.1, tree-size (heap e) L z Q.2)

  -- the other tree is split
  module _ {e : List ℕ} {p : Pieces} (D : Division o e (c ∷ []) (Some p) cut) where
    abbrev got : Parts
    got = parts_of (heap e) p

    abbrev four : List ℕ
    four = m.left ∷ m.right ∷ p.left ∷ p.right ∷ []

    after : {f : List ℕ} {q : Option ℕ} → ((n : ℕ) → Enough n → Outcome e f four q (both n got)) → Ends f q
    unfolding held
    after {f} {q} O = as_goal (λ n lt. record { named = (O n lt).named; came = came_bind o e f (m.left ∷ m.right ∷ []) (λ x i. omega arith) (λ x i. omega arith) got (tree_at (heap f) q) cut (both n) D.came (O n lt).came })

    H : Holding e four
    unfolding held
    H = came_holding (pieces C.rooted) D.came (m.left ∷ m.right ∷ []) (λ x i. omega arith) (λ x i. omega arith)

    on_left : Still o e m.left
    unfolding held
    on_left = came_still (pieces C.rooted) D.came m.left (λ x i. omega arith)

    on_right : Still o e m.right
    unfolding held
    on_right = came_still (pieces C.rooted) D.came m.right (λ x i. omega arith)

    parts : size_at (heap e) p.left + size_at (heap e) p.right ≤ size_at (heap b) c
    unfolding held
    parts = omega (arith, parts_size c m.key (pieces C.rooted) (λ x i. omega arith) (other C.rooted).named D, (other C.rooted).size)

    whole : size_at (heap b) i ≡ suc (size_at (heap e) m.left + size_at (heap e) m.right)
    whole = omega (arith, read-size R, on_left.size, on_right.size)

    pub chain_first : Called b e i c m.left p.left
    unfolding held
    chain_first = record {
      smaller = omega (arith, whole);
      fewer = omega (arith, whole, parts);
      asks = (holding_less H (λ x i. omega arith), on_left.named, D.left, omega (arith, whole, parts, C.rooted.small));
    }

    -- the fuel left is enough, and the root's left child is as it was
    as_first : {f : List ℕ} {q : Option ℕ} → Fed e f q low m.left p.left → (n : ℕ) → Enough n
        → Outcome e f (m.left ∷ p.left ∷ []) q (low n left got.left)
    as_first {f} {q} A n lt = subst (λ t. Outcome e f (m.left ∷ p.left ∷ []) q (low n t got.left)) on_left.tree (A n (omega (arith, chain_first.fewer)))

    pub chain_stop_first : {f : List ℕ} → Fed e f None low m.left p.left → Ends f None
    unfolding held
    chain_stop_first {f} A = after (λ n lt. out_stop e f (low n left got.left) (later n got) (λ x i. omega arith) (as_first A n lt) (later_onward n got))

    -- the left parts are done
    module _ {f : List ℕ} {x : ℕ} (A : Fed e f (Some x) low m.left p.left) where
      abbrev first : Outcome e f (m.left ∷ p.left ∷ []) (Some x) (low (suc (size_at (heap e) m.left + size_at (heap e) p.left)) (tree (heap e) m.left) (tree (heap e) p.left))
      first = once e m.left p.left A

      I : Holding f (x ∷ m.right ∷ p.right ∷ [])
      unfolding held
      I = came_holding H first.came (m.right ∷ p.right ∷ []) (λ x i. omega arith) (λ x i. omega arith)

      right_still : Still e f m.right
      unfolding held
      right_still = came_still H first.came m.right (λ x i. omega arith)

      piece_still : Still e f p.right
      unfolding held
      piece_still = came_still H first.came p.right (λ x i. omega arith)

      pub chain_second : Called b f i c m.right p.right
      unfolding held
      chain_second = record {
        smaller = omega (arith, right_still.size, whole);
        fewer = omega (arith, right_still.size, piece_still.size, whole, parts);
        asks = (holding_less I (λ x i. omega arith), right_still.named, piece_still.named, omega (arith, right_still.size, piece_still.size, whole, parts, C.rooted.small));
      }

      as_second : {g : List ℕ} {q : Option ℕ} → Fed f g q low m.right p.right → (n : ℕ) → Enough n
          → Outcome f g (m.right ∷ p.right ∷ []) q (low n right got.right)
      as_second {g} {q} B n lt =
          subst (λ t. Outcome f g (m.right ∷ p.right ∷ []) q (low n t got.right)) (right_still.tree ∙ on_right.tree)
          (subst (λ t. Outcome f g (m.right ∷ p.right ∷ []) q (low n (tree (heap f) m.right) t)) piece_still.tree (B n (omega (arith, chain_second.fewer))))

      then : {g : List ℕ} {q : Option ℕ} → ((n : ℕ) → Enough n → Outcome f g (x ∷ m.right ∷ p.right ∷ []) q (later n got (tree (heap f) x))) → Ends g q
      unfolding held
      then {g} {q} O = after (λ n lt. out_bind e f g (m.right ∷ p.right ∷ []) x q (low n left got.left) (later n got) (λ x i. omega arith) (λ x i. omega arith) (as_first A n lt) (O n lt))

      pub chain_stop_second : {g : List ℕ} → Fed f g None low m.right p.right → Ends g None
      unfolding held
      chain_stop_second {g} B = let t = tree (heap f) x in then (λ n lt. out_stop f g (low n right got.right) (top got.found t) (λ x i. omega arith) (as_second B n lt) (C.top_onward got.found t))

      -- the right parts are done
      module _ {g : List ℕ} {y : ℕ} (B : Fed f g (Some y) low m.right p.right) where
        abbrev second : Outcome f g (m.right ∷ p.right ∷ []) (Some y) (low (suc (size_at (heap f) m.right + size_at (heap f) p.right)) (tree (heap f) m.right) (tree (heap f) p.right))
        second = once f m.right p.right B

        first_still : Still f g x
        unfolding held
        first_still = came_still I second.came x (λ x i. omega arith)

        pub chain_last : Asks g x y
        unfolding held
        chain_last = (
          came_holding I second.came (x ∷ []) (λ x i. omega arith) (λ x i. omega arith),
          first_still.named,
          second.named,
          omega (arith, first_still.size, once_size e m.left p.left chain_first.asks A, once_size f m.right p.right chain_second.asks B, right_still.size, piece_still.size, whole, parts, C.rooted.small),
        )

        pub chain_done : {k : List ℕ} {q : Option ℕ} → Outcome g k (x ∷ y ∷ []) q (top (answer p.found) (tree (heap g) x) (tree (heap g) y)) → Ends k q
        unfolding held
        chain_done {k} {q} O = then (λ n lt. out_bind f g k (x ∷ []) y q (low n right got.right) (λ u. top got.found (tree (heap f) x) u) (λ x i. omega arith) (λ x i. omega arith) (as_second B n lt) (subst (λ t. Outcome g k (x ∷ y ∷ []) q (top got.found t (tree (heap g) y))) first_still.tree O))
