-- Union is right because code and rule take the same root: a side is empty, or the left is at least as large as the right, or it is smaller.
use Rattle.std.proofs.Common.{◌≡◌, ℕ, zero, suc, ◌+◌, ◌<◌, ◌≤◌, Bool, true, false, leb, ◌≢◌, List, [], ◌∷◌, sym, refl, subst, arith, le-leb, leb-false, leb-true}
use borrow.Author.Tests.{lt-leb}
use Rattle.model.specs.Tree.{Tree, leaf, node, size}
use Rattle.model.specs.Supply.{Make, done, apart, ◌>>=◌, ◌>>◌}
use Rattle.model.specs.Rules.{join, split, merged_left, merged_right, union_by}
use Rattle.model.specs.Heap.{size_at, load, tree}
use Rattle.model.specs.Block.{heap}
use Rattle.model.specs.Moves.{held, Apart}
use Rattle.model.proofs.rules.Sizes.{union_by-size}
use Rattle.model.proofs.rules.Steady.{union_by_onward, join_onward}
use Rattle.std.specs.Prelude.{Option, Some}
use Rattle.block.specs.declared.Node.{Node}
use Rattle.block.specs.Outcome.{Outcome, node_of}
use Rattle.block.proofs.Outcomes.{out_done, out_less}
use Rattle.block.proofs.Levels.{Asks, read-tree}
use Rattle.tree.proofs.Balancing.{swapped}
use Rattle.sets.specs.United.{United, picked, merged}
use Rattle.sets.proofs.Chains.{Fed, Called, Chain, Rooted, rooted, other, root_size, other_size, other_some}

straight : {b e : List ℕ} {q : Option ℕ} {merge : ℕ → ℕ → ℕ} {l r : ℕ} → Fed b e q (union_by merge) l r → United b e q merge l r
straight O = record { any = O }

-- the two trees the other way round
abbrev turned : (ℕ → ℕ → ℕ) → ℕ → Tree → Tree → Make Tree
turned merge n t u = union_by merge n u t

turn : {b e : List ℕ} {q : Option ℕ} {merge : ℕ → ℕ → ℕ} {l r : ℕ} → United b e q merge l r → Fed b e q (turned merge) r l
unfolding held
turn U n lt = out_less (λ x i. omega arith) (U.any n (omega arith))

turn-back : {b e : List ℕ} {q : Option ℕ} {merge : ℕ → ℕ → ℕ} {l r : ℕ} → Fed b e q (turned merge) r l → United b e q merge l r
unfolding held
turn-back O = record { any = λ n lt. out_less (λ x i. omega arith) (O n (omega arith)) }

asks_turned : (b : List ℕ) (l r : ℕ) → Asks b l r → Asks b r l
asks_turned b l r A = (swapped A.0, A.2, A.1, omega (arith, A.3))

-- what a union asks, and its sizes fall
module _ {b e : List ℕ} {i c x y t : ℕ} (Q : Called b e i c x y) where
  left_asks : size_at (heap b) i + size_at (heap b) c ≡ t → (size_at (heap e) x + size_at (heap e) y < t) × Asks e x y
  left_asks w = (omega (arith, Q.fewer), Q.asks)

  right_asks : size_at (heap b) c + size_at (heap b) i ≡ t → (size_at (heap e) y + size_at (heap e) x < t) × Asks e y x
  right_asks w = (omega (arith, Q.fewer), asks_turned e x y Q.asks)

-- the rule where the right is empty
sole : (merge : ℕ → ℕ → ℕ) (n : ℕ) (t : Tree) → union_by merge (suc n) t leaf ≡ done t
unfolding union_by
sole merge n leaf = refl
sole merge n (node i h w l r) = refl

pub left_empty : {b : List ℕ} {l r : ℕ} (merge : ℕ → ℕ → ℕ) → Asks b l r → l ≡ 0 → United b b (Some r) merge l r
unfolding union_by tree load held
left_empty {b} {l} {r} merge A e = record { any = go }
  where
    go : Fed b b (Some r) (union_by merge) l r
    go zero lt = absurd (omega arith)
    go (suc n) lt = rw e (out_done b r (λ x i. omega arith) A.0.running A.2)

pub right_empty : {b : List ℕ} {l r : ℕ} (merge : ℕ → ℕ → ℕ) → Asks b l r → r ≡ 0 → United b b (Some l) merge l r
unfolding tree load held
right_empty {b} {l} {r} merge A e = record { any = go }
  where
    go : Fed b b (Some l) (union_by merge) l r
    go zero lt = absurd (omega arith)
    go (suc n) lt = rw e (rw (sole merge n (tree (heap b) l)) (out_done b l (λ x i. omega arith) A.0.running A.1))

-- the rule at two trees with nodes, by their sizes
module _ (merge : ℕ → ℕ → ℕ) (n : ℕ) where
  by_left : (i h w : ℕ) (l r t : Tree) → 1 ≤ size t → size t ≤ size (node i h w l r)
      → union_by merge (suc n) (node i h w l r) t ≡ (apart i >> (split t h >>= λ p. union_by merge n l p.left >>= λ a. union_by merge n r p.right >>= λ c. join h (merged_left merge w p.found) a c))
  unfolding union_by size
  by_left i h w l r leaf some le = absurd (omega arith)
  by_left i h w l r (node j g u x y) some le = rw (le-leb (size (node j g u x y)) (size (node i h w l r)) le, union_by)

  by_right : (t : Tree) (j g u : ℕ) (l r : Tree) → 1 ≤ size t → size t < size (node j g u l r)
      → union_by merge (suc n) t (node j g u l r) ≡ (apart j >> (split t g >>= λ p. union_by merge n p.left l >>= λ a. union_by merge n p.right r >>= λ c. join g (merged_right merge p.found u) a c))
  unfolding union_by size
  by_right leaf j g u l r some lt = absurd (omega arith)
  by_right (node i h w x y) j g u l r some lt = rw (lt-leb (size (node j g u l r)) (size (node i h w x y)) lt, union_by)

-- the two chains of a union, by the left root and by the right
abbrev ByLeft : (b o : List ℕ) → (ℕ → ℕ → ℕ) → ℕ → ℕ → Node → Type 0
ByLeft b o merge l r m = Chain b o (λ n. union_by merge n (tree (heap b) l) (tree (heap b) r)) (union_by merge) (λ o t u. join m.key (merged_left merge m.value o) t u) l r m

abbrev ByRight : (b o : List ℕ) → (ℕ → ℕ → ℕ) → ℕ → ℕ → Node → Type 0
ByRight b o merge l r m = Chain b o (λ n. union_by merge n (tree (heap b) l) (tree (heap b) r)) (turned merge) (λ o t u. join m.key (merged_right merge o m.value) t u) r l m

module _ {b o : List ℕ} {i c : ℕ} {m : Node} (R : Rooted b o i c m) (merge : ℕ → ℕ → ℕ) where
  left_chain : size_at (heap b) c ≤ size_at (heap b) i → ByLeft b o merge i c m
  left_chain le = record {
    rooted = R;
    fits = union_by-size merge;
    low_onward = λ n t u. union_by_onward merge n t u;
    top_onward = λ o t u. join_onward m.key (merged_left merge m.value o) t u;
    is = λ n. rw (← (other R).tree, read-tree R.level) (by_left merge n i m.key m.value (tree (heap o) m.left) (tree (heap o) m.right) (tree (heap o) c) (other_some R) (omega (arith, root_size R, other_size R)));
  }

  right_chain : size_at (heap b) c < size_at (heap b) i → ByRight b o merge c i m
  right_chain lt = record {
    rooted = R;
    fits = λ n t u s. omega (arith, union_by-size merge n u t s);
    low_onward = λ n t u. union_by_onward merge n u t;
    top_onward = λ o t u. join_onward m.key (merged_right merge o m.value) t u;
    is = λ n. rw (← (other R).tree, read-tree R.level) (by_right merge n (tree (heap o) c) i m.key m.value (tree (heap o) m.left) (tree (heap o) m.right) (other_some R) (omega (arith, root_size R, other_size R)));
  }

-- Two nodes l and r of b: the root that is taken is i and the other tree c, l's root where `first`. Each law serves both ways.
pub record Taken (b : List ℕ) (l r : ℕ) (first : Bool) (i c : ℕ) : Type 0 where
  pub asks : Asks b l r
  pub left_some : l ≢ 0
  pub right_some : r ≢ 0
  pub order : first ≡ leb (size_at (heap b) r) (size_at (heap b) l)
  pub root : i ≡ picked first l r
  pub other : c ≡ picked first r l

pub taken-asks : {b : List ℕ} {l r i c : ℕ} (first : Bool) → Taken b l r first i c → Asks b i c
taken-asks true T = rw (T.root, T.other) T.asks
taken-asks {b} {l} {r} false T = rw (T.root, T.other) (asks_turned b l r T.asks)

pub root_some : {b : List ℕ} {l r i c : ℕ} (first : Bool) → Taken b l r first i c → i ≢ 0
root_some true T = rw T.root T.left_some
root_some false T = rw T.root T.right_some

other_one : {b : List ℕ} {l r i c : ℕ} (first : Bool) → Taken b l r first i c → c ≢ 0
other_one true T = rw T.other T.right_some
other_one false T = rw T.other T.left_some

-- a union of two trees, the one at the root first
abbrev pub low_of : Bool → (ℕ → ℕ → ℕ) → ℕ → Tree → Tree → Make Tree
low_of true merge = union_by merge
low_of false merge = turned merge

abbrev pub ByRoot : (b o : List ℕ) → (ℕ → ℕ → ℕ) → Bool → (l r i c : ℕ) → Node → Type 0
ByRoot b o merge first l r i c m = Chain b o (λ n. union_by merge n (tree (heap b) l) (tree (heap b) r)) (low_of first merge) (λ o t u. join m.key (merged first merge m.value o) t u) i c m

-- the chain of a level
pub root_chain : {b o : List ℕ} {l r i c : ℕ} {m : Node} (first : Bool) (merge : ℕ → ℕ → ℕ) → Taken b l r first i c
    → (m ≡ node_of (heap b) i) × Apart b o i → ByRoot b o merge first l r i c m
root_chain {b} {o} {l} {r} {i} {c} {m} first merge T e = go first T (rooted (taken-asks first T) (root_some first T) (other_one first T) e)
  where
    go : (f : Bool) → Taken b l r f i c → Rooted b o i c m → ByRoot b o merge f l r i c m
    go true T R =
        let le : size_at (heap b) c ≤ size_at (heap b) i = rw (T.root, T.other) (leb-true (size_at (heap b) r) (size_at (heap b) l) (sym T.order)) in
        rw (sym T.root, sym T.other) (left_chain R merge le)
    go false T R =
        let lt : size_at (heap b) c < size_at (heap b) i = rw (T.root, T.other) (leb-false (size_at (heap b) r) (size_at (heap b) l) (sym T.order)) in
        rw (sym T.root, sym T.other) (right_chain R merge lt)

-- what a union of the parts x and y asks, u and v in their order, and what it has come to
pub parts_asks : {b e : List ℕ} {l r i c x y u v t : ℕ} (first : Bool) → Taken b l r first i c → u ≡ picked first x y → v ≡ picked first y x
    → Called b e i c x y
    → size_at (heap b) l + size_at (heap b) r ≡ t → (size_at (heap e) u + size_at (heap e) v < t) × Asks e u v
parts_asks true T g h Q w = rw (g, h) (left_asks Q (rw (T.root, T.other) w))
parts_asks false T g h Q w = rw (g, h) (right_asks Q (rw (T.root, T.other) w))

pub parts_fed : {b e : List ℕ} {z : Option ℕ} {merge : ℕ → ℕ → ℕ} {u v : ℕ} (first : Bool) (x y : ℕ) → u ≡ picked first x y
    → v ≡ picked first y x → United b e z merge u v → Fed b e z (low_of first merge) x y
parts_fed {b} {e} {z} {merge} true x y g h U = let W : United b e z merge x y = rw (g, h) at U in W.any
parts_fed {b} {e} {z} {merge} false x y g h U = let W : United b e z merge y x = rw (g, h) at U in turn W

-- the level has come to an end
pub root_ends : {b e : List ℕ} {z : Option ℕ} {merge : ℕ → ℕ → ℕ} {l r i c : ℕ} (first : Bool) → Taken b l r first i c
    → ((fuel : ℕ) → size_at (heap b) i + size_at (heap b) c < fuel → Outcome b e (i ∷ c ∷ []) z (union_by merge fuel (tree (heap b) l) (tree (heap b) r)))
    → United b e z merge l r
root_ends {b} {e} {z} {merge} {l} {r} true T O = straight (λ n lt. subst (λ w. Outcome b e w z (union_by merge n (tree (heap b) l) (tree (heap b) r))) (rw (T.root, T.other) refl) (O n (rw (T.root, T.other) lt)))
root_ends {b} {e} {z} {merge} {l} {r} false T O = turn-back (λ n lt. subst (λ w. Outcome b e w z (union_by merge n (tree (heap b) l) (tree (heap b) r))) (rw (T.root, T.other) refl) (O n (rw (T.root, T.other) lt)))
