-- Difference is right because code and rule ask the same: whether a side is empty, whether the two roots are one node, and if not, what stays of the left root.
use Rattle.std.proofs.Common.{◌≡◌, ℕ, suc, ◌<◌, Bool, true, false, ◌&&◌, eqb, ◌≢◌, List, [], ◌∷◌, refl, arith}
use mathlib.Core.Option as maybe
use Rattle.model.specs.Tree.{Tree, leaf, node}
use Rattle.model.specs.Supply.{Make, done, apart, ◌>>=◌, ◌>>◌}
use Rattle.model.specs.Rules.{split, rest, kept, difference}
use Rattle.model.specs.Heap.{size_at, load, tree}
use Rattle.model.specs.Block.{heap}
use Rattle.model.specs.Moves.{held}
use Rattle.model.proofs.block.Counts.{hit_no}
use Rattle.model.proofs.block.Loads.{tree_node}
use Rattle.model.proofs.block.Lookups.{link_occupied}
use Rattle.model.proofs.rules.Sizes.{difference-size}
use Rattle.model.proofs.rules.Steady.{difference_onward, rest_onward}
use Rattle.std.specs.Prelude.{Option, Some}
use Rattle.block.specs.declared.Node.{Node}
use Rattle.block.specs.Outcome.{Outcome}
use Rattle.block.proofs.Outcomes.{out_done}
use Rattle.block.proofs.Levels.{Asks, read-tree}
use Rattle.sets.proofs.Chains.{Called, Chain, Rooted, other, pieces, other_node}

-- an outcome for any fuel is one
pub settled : {b e ps : List ℕ} {q : Option ℕ} {m : Make Tree} (k : ℕ) → ((n : ℕ) → k < n → Outcome b e ps q m) → Outcome b e ps q m
settled k O = O (suc k) (omega arith)

-- what a difference asks, and its left falls
pub left_falls : {b e : List ℕ} {i c x y t : ℕ} → Called b e i c x y → size_at (heap b) i ≡ t → (size_at (heap e) x < t) × Asks e x y
left_falls Q w = (omega (arith, Q.smaller), Q.asks)

module _ (diff : ℕ → ℕ → maybe.Option ℕ) (cancel : Bool) where
  -- the rule where the right is empty
  sole : (t : Tree) → difference diff cancel t leaf ≡ done t
  unfolding difference
  sole leaf = refl
  sole (node i h w l r) = refl

  pub no_left : (b : List ℕ) (l r : ℕ) → Asks b l r → l ≡ 0 → Outcome b b (l ∷ r ∷ []) (Some 0) (difference diff cancel (tree (heap b) l) (tree (heap b) r))
  unfolding difference tree load held
  no_left b l r A e = rw e (out_done b 0 (λ x i. omega arith) A.0.running tt)

  pub no_right : (b : List ℕ) (l r : ℕ) → Asks b l r → r ≡ 0 → Outcome b b (l ∷ r ∷ []) (Some l) (difference diff cancel (tree (heap b) l) (tree (heap b) r))
  unfolding tree load held
  no_right b l r A e = rw e (rw (sole (tree (heap b) l)) (out_done b l (λ x i. omega arith) A.0.running A.1))

  -- the rule at two nodes
  shared : (i h w : ℕ) (l r : Tree) (j g u : ℕ) (x y : Tree) → (cancel && eqb i j) ≡ true → difference diff cancel (node i h w l r) (node j g u x y) ≡ done leaf
  unfolding difference
  shared i h w l r j g u x y e = rw (e, difference)

  apart_by : (i h w : ℕ) (l r : Tree) (j g u : ℕ) (x y : Tree) → (cancel && eqb i j) ≡ false
      → difference diff cancel (node i h w l r) (node j g u x y) ≡ (apart i >> (split (node j g u x y) h >>= λ p. difference diff cancel l p.left >>= λ a. difference diff cancel r p.right >>= λ c. rest a h (kept diff w p.found) c))
  unfolding difference
  apart_by i h w l r j g u x y e = rw (e, difference)

  -- with cancelling, identical nodes (one number) leave nothing
  pub cancelled : (b : List ℕ) (l r : ℕ) → Asks b l r → l ≢ 0 → r ≢ 0 → cancel ≡ true → eqb l r ≡ true
      → Outcome b b (l ∷ r ∷ []) (Some 0) (difference diff cancel (tree (heap b) l) (tree (heap b) r))
  unfolding tree load held
  cancelled b l r A p q c e =
      let h = heap b in
      let R = A.0.running.linked in
      rw (tree_node h R l (link_occupied h l A.1 p), tree_node h R r (link_occupied h r A.2 q)) (rw (shared l _ _ _ _ r _ _ _ _ (rw (c, e))) (out_done b 0 (λ x i. omega (arith, hit_no 0 x (omega arith))) A.0.running tt))

  -- the chain of a difference
  abbrev pub ByRoot : (b o : List ℕ) → ℕ → ℕ → Node → Type 0
  ByRoot b o l r m = Chain b o (λ n. difference diff cancel (tree (heap b) l) (tree (heap b) r)) (λ n t u. difference diff cancel t u) (λ o t u. rest t m.key (kept diff m.value o) u) l r m

  pub root_chain : {b o : List ℕ} {l r : ℕ} {m : Node} → Rooted b o l r m → (cancel && eqb l r) ≡ false → ByRoot b o l r m
  root_chain {b} {o} {l} {r} {m} R e = let h = heap o in record {
    rooted = R;
    fits = λ n t u s. omega (arith, difference-size diff cancel t u s);
    low_onward = λ n t u. difference_onward diff cancel t u;
    top_onward = λ o t u. rest_onward t m.key (kept diff m.value o) u;
    is = λ n. rw (← (other R).tree, read-tree R.level, tree_node h (pieces R).running.linked r (other_node R)) (apart_by l m.key m.value (tree h m.left) (tree h m.right) r (h.key r) (h.value r) (tree h (h.left r)) (tree h (h.right r)) e);
  }

pub not_cancelling : (cancel : Bool) (i j : ℕ) → cancel ≡ false → (cancel && eqb i j) ≡ false
not_cancelling cancel i j e = rw e

pub not_shared : (cancel : Bool) (i j : ℕ) → eqb i j ≡ false → (cancel && eqb i j) ≡ false
not_shared false i j e = refl
not_shared true i j e = e
