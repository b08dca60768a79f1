-- Insert is right because each node of the path is the rule's, with the sides that the code has read or made.
use mathlib.Core.Path.{◌≡◌}
use mathlib.Core.Logic.{◌≢◌}
use Prim.Native.Nat.{ℕ, ◌≤◌, ◌<◌}
use mathlib.Core.Bool.{Bool, true, false}
use mathlib.Core.List.{List, [], ◌∷◌}
use native.Mathlib.Omega.{arith}
use Rattle.model.specs.Tree.{Tree}
use Rattle.model.specs.Supply.{Make, make}
use Rattle.model.specs.Rules.{balanced, insert_by}
use Rattle.model.specs.Heap.{load, tree}
use Rattle.model.specs.Block.{heap}
use Rattle.model.specs.Moves.{held, Holding}
use Rattle.model.proofs.maps.Compare.{lt_cmp, eq_cmp, gt_cmp}
use Rattle.model.proofs.block.Counts.{hit_no}
use Rattle.model.proofs.rules.Entries.{Keeps, make_keeps, balanced_keeps}
use Rattle.model.proofs.running.Growing.{holding_less}
use Rattle.model.proofs.rules.Sizes.{insert_by-size}
use Rattle.model.proofs.rules.Steady.{Onward, make_onward, balanced_onward}
use Rattle.std.specs.Prelude.{Option, Some}
use Rattle.block.specs.declared.Node.{Node}
use Rattle.block.specs.Outcome.{Outcome}
use Rattle.block.proofs.Outcomes.{out_less}
use Rattle.block.proofs.Levels.{Asks, Level, read-tree, level_out, Above}
use Rattle.tree.specs.Remade.{remade}
use Rattle.tree.proofs.Paths.{Path, children, up_left, up_right}

remade_onward : (f : Bool) (k v : ℕ) (l r : Tree) → Onward (remade f k v l r)
remade_onward true k v l r = balanced_onward k v l r
remade_onward false k v l r = make_onward k v l r

remade_keeps : (f : Bool) → Keeps (remade f)
remade_keeps true = balanced_keeps
remade_keeps false = make_keeps

-- which make remakes a node
module _ {b e ps : List ℕ} {q : Option ℕ} (f : Bool) (k v : ℕ) (l r : Tree) where
  pub by_balanced : f ≡ true → Outcome b e ps q (balanced k v l r) → Outcome b e ps q (remade f k v l r)
  by_balanced p O = rw p O

  pub by_make : f ≡ false → Outcome b e ps q (make k v l r) → Outcome b e ps q (remade f k v l r)
  by_make p O = rw p O

-- an empty tree: what a make of two empty ones asks, and what it made
pub insert_none_asks : {b : List ℕ} (n : ℕ) → Holding b (n ∷ []) → Asks b 0 0
unfolding held
insert_none_asks n H = (holding_less H (λ x i. omega (arith, hit_no 0 x (omega arith))), tt, tt, omega arith)

pub insert_none : {b e : List ℕ} {q : Option ℕ} (f : Bool) (n k v : ℕ) → n ≡ 0
    → Outcome b e (0 ∷ 0 ∷ []) q (make k v (tree (heap b) 0) (tree (heap b) 0))
    → Outcome b e (n ∷ []) q (insert_by (remade f) (tree (heap b) n) k v)
unfolding insert_by tree load held
insert_none f n k v p O = rw p (out_less (λ x i. omega (arith, hit_no 0 x (omega arith))) O)

-- a node of insert's path
pub record Insertion (b c : List ℕ) (n : ℕ) (m : Node) (f : Bool) (k v : ℕ) : Type 0 where
  pub path : Path b c n m

module _ {b c : List ℕ} {n : ℕ} {m : Node} {f : Bool} {k v : ℕ} (I : Insertion b c n m f k v) where
  abbrev L : Level b c n m
  L = I.path.level

  abbrev goal : Make Tree
  goal = insert_by (remade f) (tree (heap b) n) k v

  abbrev below : ℕ → Make Tree
  below x = insert_by (remade f) (tree (heap c) x) k v

  abbrev left : Tree
  left = tree (heap c) m.left

  abbrev right : Tree
  right = tree (heap c) m.right

  abbrev again : Tree → Tree → Make Tree
  again t u = remade f m.key m.value t u

  pub insert_here : {e : List ℕ} {q : Option ℕ} → k ≡ m.key → Outcome c e (m.left ∷ m.right ∷ []) q (remade f k v left right) → Outcome b e (n ∷ []) q goal
  unfolding insert_by held
  insert_here {e} {q} p O = rw (read-tree L, insert_by) (rw (eq_cmp k m.key p) (level_out L [] (λ x i. omega arith) (λ x i. omega arith) O))

  pub insert_left : k < m.key → Above b c (n ∷ []) (m.left ∷ []) goal (below m.left) (λ t u. again t u) m.right
  unfolding insert_by held
  insert_left p = record {
    holds = holding_less (children I.path) (λ x i. omega arith);
    onward = λ t. remade_onward f m.key m.value t right;
    by = λ e q O. rw (read-tree L, insert_by) (rw (lt_cmp k m.key p) (level_out L [] (λ x i. omega arith) (λ x i. omega arith) O));
  }

  pub insert_right : k ≢ m.key → m.key ≤ k → Above b c (n ∷ []) (m.right ∷ []) goal (below m.right) (λ t u. again u t) m.left
  unfolding insert_by held
  insert_right p o = record {
    holds = holding_less (children I.path) (λ x i. omega arith);
    onward = λ t. remade_onward f m.key m.value left t;
    by = λ e q O. rw (read-tree L, insert_by) (rw (gt_cmp k m.key (omega (arith, p, o))) (level_out L [] (λ x i. omega arith) (λ x i. omega arith) O));
  }

  module _ {d : List ℕ} {x : ℕ} where
    pub insert_left_asks : Outcome c d (m.left ∷ []) (Some x) (below m.left) → Asks d x m.right
    insert_left_asks O = up_left I.path O (λ s. insert_by-size (remade f) (remade_keeps f) left k v s)

    pub insert_right_asks : Outcome c d (m.right ∷ []) (Some x) (below m.right) → Asks d m.left x
    insert_right_asks O = up_right I.path O (λ s. insert_by-size (remade f) (remade_keeps f) right k v s)
