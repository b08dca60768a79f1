-- Split is right because each level does what the rule does: splits the child on the key's side, then joins the node's other child to the part next to it, and stops where one of the two finds no room.
use mathlib.Core.Path.{◌≡◌, refl, ap, subst}
use mathlib.Core.Logic.{◌≢◌}
use Prim.Native.Nat.{ℕ, ◌+◌, ◌≤◌, ◌<◌}
use mathlib.Core.Option as maybe
use mathlib.Core.List.{List, [], ◌∷◌}
use native.Mathlib.Omega.{arith}
use Rattle.model.specs.Tree.{Tree, leaf, size}
use Rattle.model.specs.Supply.{Supply, Make, done, apart, ◌>>=◌, ◌>>◌}
use Rattle.model.specs.Rules.{join, split, Parts}
use Rattle.model.specs.Heap.{Named, size_at, load, tree}
use Rattle.model.specs.Block.{heap}
use Rattle.model.specs.Moves.{Running, held, Among, Holding, Came, Still}
use Rattle.model.proofs.maps.Compare.{lt_cmp, eq_cmp, gt_cmp}
use Rattle.model.proofs.block.Counts.{hit_no}
use Rattle.model.proofs.block.Loads.{tree-size}
use Rattle.model.proofs.running.Pieces.{holds-less}
use Rattle.model.proofs.running.Growing.{stocked_now, came_bind, came_stop, came_apart, came_done, came_still, came_holding, holding_less}
use Rattle.model.proofs.rules.Sizes.{split-size}
use Rattle.model.proofs.rules.Steady.{Onward, join_onward}
use Rattle.std.specs.Prelude.{Some, None}
use Rattle.block.specs.declared.Node.{Node}
use Rattle.block.specs.Outcome.{Outcome}
use Rattle.block.proofs.Outcomes.{stock}
use Rattle.block.proofs.Levels.{Asks, Level, read-tree, read_left, read_right, read-size, level_came, level_holds}
use Rattle.join.specs.declared.Pieces.{Pieces}
use Rattle.join.specs.Division.{into, parts_of, Division}

-- the parts that came
pub parts_are : {b e ps qs : List ℕ} {p : Pieces} {m : Make Parts} (H : Holding b qs) → Among ps [] qs → Division b e ps (Some p) m
    → (m (stock H)).0 ≡ parts_of (heap e) p
parts_are H i D = (D.came.gives H.entry (λ x. 0) (holds-less (λ x l. omega (arith, i x l)) H.holds) (stock H) (stocked_now H)).0

-- and their sizes
pub parts_size : {b e qs : List ℕ} {p : Pieces} (n k : ℕ) → Holding b qs → Among (n ∷ []) [] qs → Named (heap b) n
    → Division b e (n ∷ []) (Some p) (split (tree (heap b) n) k)
    → size_at (heap e) p.left + size_at (heap e) p.right ≤ size_at (heap b) n
parts_size {b} {e} {p = p} n k H i o D =
    let E = D.came.running.linked in
    omega (
      arith,
      split-size (tree (heap b) n) k (stock H),
      ap (λ (x : Parts). size x.left) (parts_are H i D),
      ap (λ (x : Parts). size x.right) (parts_are H i D),
      tree-size (heap e) E p.left D.left,
      tree-size (heap e) E p.right D.right,
      tree-size (heap b) H.running.linked n o,
    )

-- under no node
pub split_none : (b : List ℕ) (n k : ℕ) → n ≡ 0 → Running b → Division b b (n ∷ []) (into 0 None 0) (split (tree (heap b) n) k)
unfolding split tree load held
split_none b n k e R = rw e (record { left = tt; right = tt; came = came_done b (λ x i. omega (arith, hit_no 0 x (omega arith))) (record { left = leaf; found = maybe.none; right = leaf }) R })

-- a rule at a node that was taken apart from b to c: low splits the piece x, and top makes of the near part and of the other piece y what is put in place
pub record Parting (b c : List ℕ) (n x y : ℕ) (goal low : Make Parts) (near : Parts → Tree) (top : Tree → Tree → Make Tree) (place : Parts → Tree → Parts) : Type 0 where
  pub holds : Holding c (y ∷ x ∷ [])
  pub small : (s : Supply) → size (near (low s).0) + size_at (heap c) y < 1048576
  pub onward : (t : Tree) → Onward (top t (tree (heap c) y))
  pub by : (e outs : List ℕ) (z : maybe.Option Parts)
      → Came Parts c e (y ∷ x ∷ []) outs z (low >>= λ p. top (near p) (tree (heap c) y) >>= λ t. done (place p t))
      → Came Parts b e (n ∷ []) outs z goal

module _ {b c : List ℕ} {n x y : ℕ} {goal low : Make Parts} {near : Parts → Tree} {top : Tree → Tree → Make Tree} {place : Parts → Tree → Parts} (P : Parting b c n x y goal low near top place) where
  abbrev above : Parts → Make Parts
  above p = top (near p) (tree (heap c) y) >>= λ t. done (place p t)

  pub parting_stop : {e : List ℕ} → Division c e (x ∷ []) None low → Division b e (n ∷ []) None goal
  unfolding held
  parting_stop {e} D = record { left = tt; right = tt; came = P.by e [] maybe.none (came_stop c e (λ z i. omega arith) low above D.came (λ p. P.onward (near p))) }

  module _ {d : List ℕ} {p : Pieces} (D : Division c d (x ∷ []) (Some p) low) where
    abbrev got : Parts
    got = parts_of (heap d) p

    pub aside : Still c d y
    unfolding held
    aside = came_still P.holds D.came y (λ z i. omega arith)

    pub parted_holds : Holding d (p.left ∷ p.right ∷ y ∷ [])
    unfolding held
    parted_holds = came_holding P.holds D.came (y ∷ []) (λ z i. omega arith) (λ z i. omega arith)

    pub near_size : (a : ℕ) → near got ≡ tree (heap d) a → Named (heap d) a → size_at (heap d) a + size_at (heap d) y < 1048576
    unfolding held
    near_size a is o = omega (arith, aside.size, ap (λ (z : Parts). size (near z)) (parts_are P.holds (λ z i. omega arith) D), ap size is, tree-size (heap d) D.came.running.linked a o, P.small (stock P.holds))

    abbrev made : Make Tree
    made = top (near got) (tree (heap c) y)

    as_made : {f js outs : List ℕ} {z : maybe.Option Tree} → Came Tree d f js outs z (top (near got) (tree (heap d) y)) → Came Tree d f js outs z made
    as_made {f} {js} {outs} {z} C = subst (λ u. Came Tree d f js outs z (top (near got) u)) aside.tree C

    after : {f outs : List ℕ} {z : maybe.Option Parts} → Came Parts d f (p.left ∷ p.right ∷ y ∷ []) outs z (made >>= λ t. done (place got t))
        → Came Parts b f (n ∷ []) outs z goal
    unfolding held
    after {f} {outs} {z} C = P.by f outs z (came_bind c d f (y ∷ []) (λ z i. omega arith) (λ z i. omega arith) got z low above D.came C)

    pub parting_stop_2 : {f js : List ℕ} → Among js [] (p.left ∷ p.right ∷ y ∷ [])
        → Outcome d f js None (top (near got) (tree (heap d) y)) → Division b f (n ∷ []) None goal
    parting_stop_2 {f} i J = record { left = tt; right = tt; came = after (came_stop d f i made (λ t. done (place got t)) (as_made J.came) (λ t s q. q)) }

    pub parting_done : {f js : List ℕ} {t : ℕ} (far : ℕ) (outs : List ℕ) → Among js (far ∷ []) (p.left ∷ p.right ∷ y ∷ [])
        → Among outs [] (t ∷ far ∷ []) → Outcome d f js (Some t) (top (near got) (tree (heap d) y))
        → Came Parts b f (n ∷ []) outs (maybe.some (place got (tree (heap f) t))) goal
    unfolding held
    parting_done {f} {js} {t} far outs i j J =
        let z : Parts = place got (tree (heap f) t) in
        let last : Came Parts f f (t ∷ far ∷ []) outs (maybe.some z) (done z) = came_done f j z J.came.running in
        after (came_bind d f f (far ∷ []) i (λ z i. omega arith) (tree (heap f) t) (maybe.some z) made (λ u. done (place got u)) (as_made J.came) last)

-- node n was taken apart from b to c: it is m, and the tree below it is small
pub record Opened (b c : List ℕ) (n : ℕ) (m : Node) : Type 0 where
  pub level : Level b c n m
  pub holding : Holding b (n ∷ [])
  pub small : size_at (heap b) n < 1048576

module _ {b c : List ℕ} {n : ℕ} {m : Node} (N : Opened b c n m) where
  abbrev R : Level b c n m
  R = N.level

  children : Holding c (m.left ∷ m.right ∷ [])
  unfolding held
  children = level_holds R N.holding [] (λ x i. omega arith) (λ x i. omega arith)

  abbrev L : Tree
  L = tree (heap c) m.left

  abbrev T : Tree
  T = tree (heap c) m.right

  left_is : size L ≡ size_at (heap c) m.left
  left_is = tree-size (heap c) children.running.linked m.left (read_left R)

  right_is : size T ≡ size_at (heap c) m.right
  right_is = tree-size (heap c) children.running.linked m.right (read_right R)

  pub left_asks : {t : ℕ} → size_at (heap b) n ≡ t
      → (size_at (heap c) m.left < t) × (Holding c (m.left ∷ []) × Named (heap c) m.left × (size_at (heap c) m.left < 1048576))
  unfolding held
  left_asks e = (omega (arith, read-size R), (holding_less children (λ x i. omega arith), read_left R, omega (arith, N.small, read-size R)))

  pub right_asks : {t : ℕ} → size_at (heap b) n ≡ t
      → (size_at (heap c) m.right < t) × (Holding c (m.right ∷ []) × Named (heap c) m.right × (size_at (heap c) m.right < 1048576))
  unfolding held
  right_asks e = (omega (arith, read-size R), (holding_less children (λ x i. omega arith), read_right R, omega (arith, N.small, read-size R)))

  -- the node is the rule's first
  opens : {e outs ins : List ℕ} {z : maybe.Option Parts} (rule : Make Parts) → Among ins [] (m.left ∷ m.right ∷ [])
      → Came Parts c e ins outs z rule → Came Parts b e (n ∷ []) outs z (apart n >> rule)
  unfolding held
  opens {e} {outs} {ins} {z} rule i C = came_apart b c e [] (λ x i. omega arith) (λ x l. omega (arith, i x l)) n z rule (level_came R) C

  module _ (k : ℕ) where
    -- the key is here
    pub here : k ≡ m.key → Division b c (n ∷ []) (into m.left (Some m.value) m.right) (split (tree (heap b) n) k)
    unfolding split held
    here same =
        let x : Parts = record { left = L; found = maybe.some m.value; right = T } in
        let last : Came Parts c c (m.left ∷ m.right ∷ []) (m.left ∷ m.right ∷ []) (maybe.some x) (done x) = came_done c (λ x i. omega arith) x children.running in
        record { left = read_left R; right = read_right R; came = rw (read-tree R, split) (rw (eq_cmp k m.key same) (opens (done x) (λ x i. omega arith) last)) }

    -- the key is on the left: what is right of it is joined to the rest
    pub left_parting : k < m.key
        → Parting b c n m.left m.right (split (tree (heap b) n) k) (split L k) (λ p. p.right) (λ t u. join m.key m.value t u) (λ p t. record { left = p.left; found = p.found; right = t })
    unfolding split held
    left_parting lt = record {
      holds = holding_less children (λ x i. omega arith);
      small = λ s. omega (arith, split-size L k s, left_is, N.small, read-size R);
      onward = λ t. join_onward m.key m.value t T;
      by = λ e outs z C. rw (read-tree R, split) (rw (lt_cmp k m.key lt) (opens (split L k >>= λ p. join m.key m.value p.right T >>= λ t. done (record { left = p.left; found = p.found; right = t })) (λ x i. omega arith) C));
    }

    -- the key is on the right: what is left of it is joined to the rest
    pub right_parting : k ≢ m.key → m.key ≤ k
        → Parting b c n m.right m.left (split (tree (heap b) n) k) (split T k) (λ p. p.left) (λ t u. join m.key m.value u t) (λ p t. record { left = t; found = p.found; right = p.right })
    unfolding split held
    right_parting ne le = record {
      holds = holding_less children (λ x i. omega arith);
      small = λ s. omega (arith, split-size T k s, right_is, N.small, read-size R);
      onward = λ t. join_onward m.key m.value L t;
      by = λ e outs z C. rw (read-tree R, split) (rw (gt_cmp k m.key (omega (arith, ne))) (opens (split T k >>= λ p. join m.key m.value L p.left >>= λ t. done (record { left = t; found = p.found; right = p.right })) (λ x i. omega arith) C));
    }

    module _ {d : List ℕ} {p : Pieces} where
      module _ (lt : k < m.key) (D : Division c d (m.left ∷ []) (Some p) (split L k)) where
        pub left_next : Asks d p.right m.right
        unfolding held
        left_next = let Q = left_parting lt in (holding_less (parted_holds Q D) (λ x i. omega arith), D.right, (aside Q D).named, near_size Q D p.right refl D.right)

        pub left_stop : {f : List ℕ}
            → Outcome d f (p.right ∷ m.right ∷ []) None (join m.key m.value (tree (heap d) p.right) (tree (heap d) m.right))
            → Division b f (n ∷ []) None (split (tree (heap b) n) k)
        unfolding held
        left_stop O = parting_stop_2 (left_parting lt) D (λ x i. omega arith) O

        pub left_done : {f : List ℕ} {t : ℕ}
            → Outcome d f (p.right ∷ m.right ∷ []) (Some t) (join m.key m.value (tree (heap d) p.right) (tree (heap d) m.right))
            → Division b f (n ∷ []) (into p.left p.found t) (split (tree (heap b) n) k)
        unfolding held
        left_done {f} {t} O =
            let Q = left_parting lt in
            let far : Still d f p.left = came_still (parted_holds Q D) O.came p.left (λ x i. omega arith) in
            record { left = far.named; right = O.named; came = rw far.tree (parting_done Q D p.left (p.left ∷ t ∷ []) (λ x i. omega arith) (λ x i. omega arith) O) }

      module _ (ne : k ≢ m.key) (le : m.key ≤ k) (D : Division c d (m.right ∷ []) (Some p) (split T k)) where
        pub right_next : Asks d m.left p.left
        unfolding held
        right_next = let Q = right_parting ne le in (holding_less (parted_holds Q D) (λ x i. omega arith), (aside Q D).named, D.left, omega (arith, near_size Q D p.left refl D.left))

        pub right_stop : {f : List ℕ}
            → Outcome d f (m.left ∷ p.left ∷ []) None (join m.key m.value (tree (heap d) m.left) (tree (heap d) p.left))
            → Division b f (n ∷ []) None (split (tree (heap b) n) k)
        unfolding held
        right_stop O = parting_stop_2 (right_parting ne le) D (λ x i. omega arith) O

        pub right_done : {f : List ℕ} {t : ℕ}
            → Outcome d f (m.left ∷ p.left ∷ []) (Some t) (join m.key m.value (tree (heap d) m.left) (tree (heap d) p.left))
            → Division b f (n ∷ []) (into t p.found p.right) (split (tree (heap b) n) k)
        unfolding held
        right_done {f} {t} O =
            let Q = right_parting ne le in
            let far : Still d f p.right = came_still (parted_holds Q D) O.came p.right (λ x i. omega arith) in
            record { left = O.named; right = far.named; came = rw far.tree (parting_done Q D p.right (t ∷ p.right ∷ []) (λ x i. omega arith) (λ x i. omega arith) O) }
