-- Remove is right because each node of the path is the rule's, and the minimum that takes a node's place is the right side's.
use mathlib.Core.Path.{◌≡◌, ap, sym, subst}
use mathlib.Core.Logic.{◌≢◌}
use Prim.Native.Nat.{ℕ, suc, ◌≤◌, ◌<◌}
use mathlib.Core.List.{List, [], ◌∷◌}
use mathlib.Core.Option as maybe
use native.Mathlib.Omega.{arith}
use Rattle.model.specs.Tree.{Tree, size}
use Rattle.model.specs.Supply.{Make, done, apart, given, ◌>>=◌, ◌>>◌}
use Rattle.model.specs.Rules.{balanced, Least, remove_min, without_key, remove_present}
use Rattle.model.specs.Heap.{Occupied, size_at, load, tree}
use Rattle.model.specs.Block.{heap}
use Rattle.model.specs.Moves.{Running, held, Among, Holding, Came, Still}
use Rattle.model.proofs.maps.Compare.{lt_cmp, eq_cmp, gt_cmp}
use Rattle.model.proofs.block.Loads.{tree_node, tree-size, size_at_occupied}
use Rattle.model.proofs.block.Lookups.{link_occupied}
use Rattle.model.proofs.rules.Sizes.{remove_min-size, remove_present-size}
use Rattle.model.proofs.running.Pieces.{holds-less}
use Rattle.model.proofs.running.Growing.{stocked_now, came_bind, came_stop, came_apart, came_done, came_still, came_holding, holding_less}
use Rattle.model.proofs.rules.Steady.{Onward, balanced_onward}
use Rattle.block.specs.declared.Node.{Node}
use Rattle.block.specs.Outcome.{Outcome, tree_at}
use Rattle.block.proofs.Outcomes.{stock, out_done}
use Rattle.block.proofs.Levels.{Asks, Level, read-tree, read_left, read_right, read-size, level_came, level_out, Above}
use Rattle.tree.specs.declared.Rest.{Rest}
use Rattle.std.specs.Prelude.{Option, Some, None}
use Rattle.tree.specs.Removal.{Removal, minimum}
use Rattle.tree.proofs.Paths.{Path, children, up_left, up_right}

-- the minimum of node n was taken out: what is left has one entry fewer
pub lost_size : {b c qs : List ℕ} {p : Rest} (n : ℕ) → Holding b qs → Among (n ∷ []) [] qs → Occupied (heap b) n
    → Removal b c (n ∷ []) (Some p) (minimum (heap b) n) → suc (size_at (heap c) p.node) ≡ size_at (heap b) n
lost_size {b} {c} {p = p} n H i o O =
    let h = heap b in
    let L = H.running.linked in
    let e : size (tree (heap c) p.node) ≡ size (minimum h n (stock H)).0.rest = ap (λ (z : Least). size z.rest) (sym (O.came.gives H.entry (λ x. 0) (holds-less (λ x l. omega (arith, i x l)) H.holds) (stock H) (stocked_now H)).0) in
    omega (
      arith,
      e,
      tree-size (heap c) O.came.running.linked p.node O.named,
      remove_min-size (h.key n) (h.value n) (tree h (h.left n)) (tree h (h.right n)) (given n (stock H)),
      tree-size h L (h.left n) (L.lefts n o),
      tree-size h L (h.right n) (L.rights n o),
      size_at_occupied h L n o,
      L.sizes n o,
    )

-- the minimum of node n, which was taken apart from b to c, and is m
module _ {b c : List ℕ} {n : ℕ} {m : Node} (P : Path b c n m) where
  abbrev here : Make Least
  here = remove_min m.key m.value (tree (heap c) m.left) (tree (heap c) m.right)

  same : here ≡ remove_min ((heap b).key n) ((heap b).value n) (tree (heap b) ((heap b).left n)) (tree (heap b) ((heap b).right n))
  same = rw P.level.is (rw (P.level.apart.left.tree, P.level.apart.right.tree))

  as_read : {e outs : List ℕ} {x : maybe.Option Least} → Came Least c e (m.left ∷ m.right ∷ []) outs x here → Came Least b e (n ∷ []) outs x (minimum (heap b) n)
  unfolding held
  as_read {e} {outs} {x} C = subst (λ r. Came Least b e (n ∷ []) outs x (apart n >> r)) same (came_apart b c e [] (λ x i. omega arith) (λ x i. omega arith) n x here (level_came P.level) C)

  pub min_here : m.left ≡ 0 → Removal b c (n ∷ []) (Some (record { key = m.key; value = m.value; node = m.right })) (minimum (heap b) n)
  unfolding remove_min tree load held
  min_here p = record { named = read_right P.level; came = as_read (rw p (came_done c (λ x i. omega arith) (record { key = m.key; value = m.value; rest = tree (heap c) m.right }) (children P).running)) }

  abbrev then : Least → Make Least
  then l = balanced m.key m.value l.rest (tree (heap c) m.right) >>= λ t. done (record { key = l.key; value = l.value; rest = t })

  ol : m.left ≢ 0 → Occupied (heap c) m.left
  ol p = link_occupied (heap c) m.left (read_left P.level) p

  below : {e outs : List ℕ} {x : maybe.Option Least} → m.left ≢ 0
      → Came Least c e (m.left ∷ m.right ∷ []) outs x (minimum (heap c) m.left >>= then)
      → Came Least b e (n ∷ []) outs x (minimum (heap b) n)
  unfolding remove_min
  below {e} {outs} {x} p C = as_read (rw (tree_node (heap c) (children P).running.linked m.left (ol p), remove_min) C)

  pub min_down : {t : ℕ} → m.left ≢ 0 → size_at (heap b) n ≡ t
      → (size_at (heap c) m.left < t) × (Holding c (m.left ∷ []) × Occupied (heap c) m.left × (size_at (heap c) m.left < 1048575))
  unfolding held
  min_down p e = let z = read-size P.level in (omega (arith, z, e), (holding_less (children P) (λ x i. omega arith), ol p, omega (arith, z, P.small)))

  pub min_stop : {e : List ℕ} → m.left ≢ 0 → Removal c e (m.left ∷ []) None (minimum (heap c) m.left)
      → Removal b e (n ∷ []) None (minimum (heap b) n)
  unfolding held
  min_stop {e} p O = record { named = tt; came = below p (came_stop c e (λ x i. omega arith) (minimum (heap c) m.left) then O.came (λ l. balanced_onward m.key m.value l.rest (tree (heap c) m.right))) }

  module _ {d : List ℕ} {p : Rest} (q : m.left ≢ 0) (O : Removal c d (m.left ∷ []) (Some p) (minimum (heap c) m.left)) where
    aside : Still c d m.right
    unfolding held
    aside = came_still (children P) O.came m.right (λ x i. omega arith)

    pub min_asks : Asks d p.node m.right
    unfolding held
    min_asks = (
      came_holding (children P) O.came (m.right ∷ []) (λ x i. omega arith) (λ x i. omega arith),
      O.named,
      aside.named,
      omega (arith, read-size P.level, P.small, lost_size m.left (children P) (λ x i. omega arith) (ol q) O, aside.size),
    )

    abbrev made : Make Tree
    made = balanced m.key m.value (tree (heap d) p.node) (tree (heap d) m.right)

    abbrev found : Least
    found = record { key = p.key; value = p.value; rest = tree (heap d) p.node }

    abbrev top : Tree → Make Least
    top t = done (record { key = p.key; value = p.value; rest = t })

    abbrev low : Make Tree
    low = balanced m.key m.value (tree (heap d) p.node) (tree (heap c) m.right)

    back : {e : List ℕ} {x : Option ℕ} → Outcome d e (p.node ∷ m.right ∷ []) x made → Outcome d e (p.node ∷ m.right ∷ []) x low
    back {e} {x} A = subst (λ t. Outcome d e (p.node ∷ m.right ∷ []) x (balanced m.key m.value (tree (heap d) p.node) t)) aside.tree A

    on : {e outs : List ℕ} {x : maybe.Option Least} → Came Least d e (p.node ∷ m.right ∷ []) outs x (then found)
        → Came Least b e (n ∷ []) outs x (minimum (heap b) n)
    unfolding held
    on {e} {outs} {x} C = below q (came_bind c d e (m.right ∷ []) (λ x i. omega arith) (λ x i. omega arith) found x (minimum (heap c) m.left) then O.came C)

    pub min_stop_2 : {e : List ℕ} → Outcome d e (p.node ∷ m.right ∷ []) None made → Removal b e (n ∷ []) None (minimum (heap b) n)
    unfolding held
    min_stop_2 {e} A = record { named = tt; came = on (came_stop d e (λ x i. omega arith) low top (back A).came (λ t s z. z)) }

    pub min_last : {e : List ℕ} {x : ℕ} → Outcome d e (p.node ∷ m.right ∷ []) (Some x) made
        → Removal b e (n ∷ []) (Some (record { key = p.key; value = p.value; node = x })) (minimum (heap b) n)
    unfolding held
    min_last {e} {x} A =
        let r : Least = record { key = p.key; value = p.value; rest = tree (heap e) x } in
        let last : Came Least e e (x ∷ []) (x ∷ []) (maybe.some r) (done r) = came_done e (λ x i. omega arith) r A.came.running in
        record { named = A.named; came = on (came_bind d e e [] (λ x i. omega arith) (λ x i. omega arith) (tree (heap e) x) (maybe.some r) low top (back A).came last) }

-- two trees without the key between them, by mk
module _ {b : List ℕ} (mk : ℕ → ℕ → Tree → Tree → Make Tree) (l r : ℕ) (A : Asks b l r) where
  abbrev all : Make Tree
  all = without_key mk (tree (heap b) l) (tree (heap b) r)

  abbrev R : Running b
  R = A.0.running

  pub sole_right : l ≡ 0 → Outcome b b (l ∷ r ∷ []) (Some r) all
  unfolding without_key tree load held
  sole_right p = rw p (out_done b r (λ x i. omega arith) R A.2)

  module _ (p : l ≢ 0) where
    nl : Occupied (heap b) l
    nl = link_occupied (heap b) l A.1 p

    pub sole_left : r ≡ 0 → Outcome b b (l ∷ r ∷ []) (Some l) all
    unfolding without_key tree load held
    sole_left q = rw q (rw (tree_node (heap b) R.linked l nl, without_key) (subst (λ t. Outcome b b (l ∷ 0 ∷ []) (Some l) (done t)) (tree_node (heap b) R.linked l nl) (out_done b l (λ x i. omega arith) R A.1)))

    module _ (q : r ≢ 0) where
      nr : Occupied (heap b) r
      nr = link_occupied (heap b) r A.2 q

      abbrev next : Least → Make Tree
      next m = mk m.key m.value (tree (heap b) l) m.rest

      both : {e : List ℕ} {x : Option ℕ} → Outcome b e (l ∷ r ∷ []) x (minimum (heap b) r >>= next) → Outcome b e (l ∷ r ∷ []) x all
      unfolding without_key
      both {e} {x} O = rw (tree_node (heap b) R.linked l nl, tree_node (heap b) R.linked r nr, without_key) (subst (λ t. Outcome b e (l ∷ r ∷ []) x (minimum (heap b) r >>= λ m. mk m.key m.value t m.rest)) (tree_node (heap b) R.linked l nl) O)

      pub without_min : Holding b (r ∷ []) × Occupied (heap b) r × (size_at (heap b) r < 1048575)
      unfolding held
      without_min = (holding_less A.0 (λ x i. omega arith), nr, omega (arith, A.3, size_at_occupied (heap b) R.linked l nl, R.linked.sizes l nl))

      pub without_stop : {e : List ℕ} → ((k v : ℕ) (t u : Tree) → Onward (mk k v t u)) → Removal b e (r ∷ []) None (minimum (heap b) r)
          → Outcome b e (l ∷ r ∷ []) None all
      unfolding held
      without_stop {e} o O = both (record { named = tt; came = came_stop b e (λ x i. omega arith) (minimum (heap b) r) next O.came (λ m. o m.key m.value (tree (heap b) l) m.rest) })

      module _ {c : List ℕ} {z : Rest} (O : Removal b c (r ∷ []) (Some z) (minimum (heap b) r)) where
        beside : Still b c l
        unfolding held
        beside = came_still A.0 O.came l (λ x i. omega arith)

        pub without_asks : Asks c l z.node
        unfolding held
        without_asks = (came_holding A.0 O.came (l ∷ []) (λ x i. omega arith) (λ x i. omega arith), beside.named, O.named, omega (arith, A.3, lost_size r A.0 (λ x i. omega arith) nr O, beside.size))

        pub without_last : {e : List ℕ} {x : Option ℕ}
            → Outcome c e (l ∷ z.node ∷ []) x (mk z.key z.value (tree (heap c) l) (tree (heap c) z.node))
            → Outcome b e (l ∷ r ∷ []) x all
        unfolding held
        without_last {e} {x} Q =
            let q = subst (λ t. Outcome c e (l ∷ z.node ∷ []) x (mk z.key z.value t (tree (heap c) z.node))) beside.tree Q in
            both (record { named = q.named; came = came_bind b c e (l ∷ []) (λ x i. omega arith) (λ x i. omega arith) (record { key = z.key; value = z.value; rest = tree (heap c) z.node }) (tree_at (heap e) x) (minimum (heap b) r) next O.came q.came })

-- remove at an empty tree
pub remove_none : {b : List ℕ} (n k : ℕ) → n ≡ 0 → Running b → Outcome b b (n ∷ []) (Some 0) (remove_present (tree (heap b) n) k)
unfolding remove_present tree load held
remove_none {b} n k p R = rw p (out_done b 0 (λ x i. omega arith) R tt)

-- a node of remove's path
pub record Removing (b c : List ℕ) (n : ℕ) (m : Node) (k : ℕ) : Type 0 where
  pub path : Path b c n m

module _ {b c : List ℕ} {n : ℕ} {m : Node} {k : ℕ} (I : Removing b c n m k) where
  abbrev L : Level b c n m
  L = I.path.level

  abbrev goal : Make Tree
  goal = remove_present (tree (heap b) n) k

  abbrev under : ℕ → Make Tree
  under x = remove_present (tree (heap c) x) k

  abbrev left : Tree
  left = tree (heap c) m.left

  abbrev right : Tree
  right = tree (heap c) m.right

  abbrev again : Tree → Tree → Make Tree
  again t u = balanced m.key m.value t u

  pub remove_here : {e : List ℕ} {q : Option ℕ} → k ≡ m.key → Outcome c e (m.left ∷ m.right ∷ []) q (without_key balanced left right)
      → Outcome b e (n ∷ []) q goal
  unfolding remove_present held
  remove_here {e} {q} p O = rw (read-tree L, remove_present) (rw (eq_cmp k m.key p) (level_out L [] (λ x i. omega arith) (λ x i. omega arith) O))

  pub remove_left : k < m.key → Above b c (n ∷ []) (m.left ∷ []) goal (under m.left) (λ t u. again t u) m.right
  unfolding remove_present held
  remove_left p = record {
    holds = holding_less (children I.path) (λ x i. omega arith);
    onward = λ t. balanced_onward m.key m.value t right;
    by = λ e q O. rw (read-tree L, remove_present) (rw (lt_cmp k m.key p) (level_out L [] (λ x i. omega arith) (λ x i. omega arith) O));
  }

  pub remove_right : k ≢ m.key → m.key ≤ k → Above b c (n ∷ []) (m.right ∷ []) goal (under m.right) (λ t u. again u t) m.left
  unfolding remove_present held
  remove_right p o = record {
    holds = holding_less (children I.path) (λ x i. omega arith);
    onward = λ t. balanced_onward m.key m.value left t;
    by = λ e q O. rw (read-tree L, remove_present) (rw (gt_cmp k m.key (omega (arith, p, o))) (level_out L [] (λ x i. omega arith) (λ x i. omega arith) O));
  }

  module _ {d : List ℕ} {x : ℕ} where
    pub remove_left_asks : Outcome c d (m.left ∷ []) (Some x) (under m.left) → Asks d x m.right
    remove_left_asks O = up_left I.path O (λ s. omega (arith, remove_present-size left k s))

    pub remove_right_asks : Outcome c d (m.right ∷ []) (Some x) (under m.right) → Asks d m.left x
    remove_right_asks O = up_right I.path O (λ s. omega (arith, remove_present-size right k s))
