-- No walk of balanced trees is too deep: a tree of weight at most `heaviest p` needs at most p pending items, since a left child weighs at most 3 times its sibling.
use mathlib.Core.Path.{◌≡◌, refl}
use mathlib.Core.Logic.{⊎_elim}
use Prim.Native.Nat.{ℕ, zero, suc, max, ◌+◌, ◌/◌, ◌≤◌, ◌<◌, compare, Ordering}
use mathlib.Core.Bool.{Bool, true, false}
use mathlib.Core.List.{List, [], ◌∷◌}
use lib.ListN.{length}
use lib.Dec.{eqb, leb}
use native.Mathlib.Omega.{arith}
use Rattle.model.specs.Tree.{Tree, leaf, node, size, id_of}
use Rattle.model.specs.Rules.{weight}
use Rattle.model.specs.Balance.{Level, Balanced}
use Rattle.model.specs.Listing.{Item, tree, entry, Sides, Turn, over, on, yield, pend, opened, turn, start, listing, next_sides, after}
use Rattle.model.specs.Delta.{delta_deep}
use Rattle.model.proofs.listing.Turns.{too_deep_exactly}

-- the largest weight for which p pending items are always enough: two more of them carry a left child of the weight before, and a third of that beside it
unfoldable pub heaviest : ℕ → ℕ
heaviest zero = 1
heaviest (suc zero) = 2
heaviest (suc (suc p)) = suc (heaviest p + max 1 (heaviest p / 3))

-- a balanced tree that stands before `behind` other items needs no more than n pending ones in all
pub record Enough (n behind : ℕ) (t : Tree) : Type 0 where
  pub p : ℕ
  pub light : weight t ≤ heaviest p
  pub fits : p + behind ≤ n
  pub some : 1 ≤ size t
  pub balanced : Balanced t

-- n pending items are enough for each of these and for those behind it
unfoldable pub Within : ℕ → List Item → Type 0
Within n [] = Unit {0}
Within n (tree t ∷ is) = Enough n (length is) t × Within n is
Within n (entry k v ∷ is) = (length is < n) × Within n is

-- no item is enough for a leaf alone
one_at_least : (p : ℕ) → 2 ≤ heaviest p → 1 ≤ p
unfolding heaviest
one_at_least zero h = absurd (omega arith)
one_at_least (suc p) h = omega arith

within-length : (n : ℕ) (is : List Item) → Within n is → length is ≤ n
unfolding Within
within-length n [] w = omega arith
within-length n (tree t ∷ is) w = let f = w.0 in omega (arith, f.fits, one_at_least f.p (omega (arith, f.light, f.some)))
within-length n (entry k v ∷ is) w = w.0

pend-length : (t : Tree) (is : List Item) → (length (pend t is) ≤ suc (length is)) × (length (pend t is) ≤ size t + length is)
unfolding size
pend-length leaf is = omega arith
pend-length (node i k v l r) is = omega arith

-- a leaf is not pending
within-pend : (n : ℕ) (t : Tree) (is : List Item) → (1 ≤ size t → Enough n (length is) t) → Within n is → Within n (pend t is)
unfolding Within size
within-pend n leaf is f w = w
within-pend n (node i k v l r) is f w = (f (omega arith), w)

-- each further item carries a heavier tree
heavier : (p : ℕ) → suc p ≤ heaviest p
unfolding heaviest
heavier zero = omega arith
heavier (suc zero) = omega arith
heavier (suc (suc p)) = omega (arith, heavier p)

-- a left child weighs at most 3 where it has no sibling
lone_left : (q w : ℕ) → w ≤ 3 → w + 1 ≤ heaviest (suc (suc q)) → w ≤ heaviest (suc q)
unfolding heaviest
lone_left zero w a b = omega arith
lone_left (suc q) w a b = omega (arith, heavier (suc (suc q)))

-- what the left child needs: it stands before its parent's entry, and before its sibling if there is one
left_enough : (n q : ℕ) (l r : Tree) (is : List Item) → weight l + weight r ≤ heaviest (suc (suc q)) → suc (suc (q + length is)) ≤ n
    → Level (weight l) (weight r)
    → 1 ≤ size l → Balanced l → Enough n (suc (length (pend r is))) l
unfolding heaviest size
left_enough n q l leaf is light fits v some b = record { p = suc q; light = lone_left q (weight l) (omega (arith, v)) (omega arith); fits = omega arith; some = some; balanced = b }
left_enough n q l (node i h x rl rr) is light fits v some b = record { p = q; light = omega (arith, v); fits = omega arith; some = some; balanced = b }

-- opening a node: the right child needs no more than the node
within-opened : (n : ℕ) (t : Tree) (is : List Item) → Enough n (length is) t → Within n is → Within n (opened t is)
unfolding Within Balanced heaviest size
within-opened n leaf is f w = w
within-opened n (node i h v l r) is f w = go f.p f.light f.fits f.balanced
  where
    go : (p : ℕ) → weight (node i h v l r) ≤ heaviest p → p + length is ≤ n → Balanced (node i h v l r) → Within n (opened (node i h v l r) is)
    go zero light fits b = absurd (omega arith)
    go (suc zero) light fits b =
        let p = pend-length r is in
        within-pend n l (entry h v ∷ pend r is) (λ z. absurd (omega arith)) (omega (arith, p), within-pend n r is (λ z. absurd (omega arith)) w)
    go (suc (suc q)) light fits b =
        let p = pend-length r is in
        within-pend n l (entry h v ∷ pend r is) (λ z. left_enough n q l r is (omega arith) (omega arith) b.0 z b.1)
        (omega (arith, p), within-pend n r is (λ z. record { p = suc (suc q); light = omega arith; fits = fits; some = z; balanced = b.2 }) w)

-- what a turn leaves
unfoldable Leaves : ℕ → Turn → Type 0
Leaves n over = Unit {0}
Leaves n (on s) = Within n s.left × Within n s.right
Leaves n (yield r s) = Within n s.left × Within n s.right

turn-within : (n : ℕ) (ls rs : List Item) → Within n ls → Within n rs → Leaves n (turn ls rs)
unfolding Leaves Within turn
turn-within n [] rs p q = tt
turn-within n (tree t ∷ ls) [] p q = (within-opened n t ls p.0 p.1, q)
turn-within n (tree t ∷ ls) (entry h w ∷ rs) p q = (within-opened n t ls p.0 p.1, q)
turn-within n (tree t ∷ ls) (tree u ∷ rs) p q = same (eqb (id_of t) (id_of u)) refl
  where
    larger : (b : Bool) → leb (size u) (size t) ≡ b → eqb (id_of t) (id_of u) ≡ false → Leaves n (turn (tree t ∷ ls) (tree u ∷ rs))
    larger true e d = rw (d, turn) (rw e (within-opened n t ls p.0 p.1, q))
    larger false e d = rw (d, turn) (rw e (p, within-opened n u rs q.0 q.1))

    same : (b : Bool) → eqb (id_of t) (id_of u) ≡ b → Leaves n (turn (tree t ∷ ls) (tree u ∷ rs))
    same true e = rw (e, turn) (p.1, q.1)
    same false e = larger (leb (size u) (size t)) refl e
turn-within n (entry k v ∷ ls) [] p q = (p.1, q)
turn-within n (entry k v ∷ ls) (tree u ∷ rs) p q = (p, within-opened n u rs q.0 q.1)
turn-within n (entry k v ∷ ls) (entry h w ∷ rs) p q = go (compare k h) refl
  where
    go : (o : Ordering) → compare k h ≡ o → Leaves n (turn (entry k v ∷ ls) (entry h w ∷ rs))
    go Ordering.lt e = rw (e, turn) (p.1, q)
    go Ordering.eq e = rw (e, turn) (p.1, q.1)
    go Ordering.gt e = rw (e, turn) (p, q.1)

next-within : (n : ℕ) (s : Sides) → Within n s.left → Within n s.right → Within n (next_sides s).left × Within n (next_sides s).right
unfolding next_sides Leaves
next-within n s p q = go (turn s.left s.right) refl (turn-within n s.left s.right p q)
  where
    go : (o : Turn) → turn s.left s.right ≡ o → Leaves n o → Within n (next_sides s).left × Within n (next_sides s).right
    go over e w = rw (e, next_sides) (p, q)
    go (on t) e w = rw (e, next_sides) w
    go (yield r t) e w = rw (e, next_sides) w

after-within : (n m : ℕ) (s : Sides) → Within n s.left → Within n s.right → Within n (after m s).left × Within n (after m s).right
unfolding after
after-within n zero s p q = (p, q)
after-within n (suc m) s p q = let w = next-within n s p q in after-within n m (next_sides s) w.0 w.1

-- The theorems

-- no more than p items are pending on either side
abbrev pub AtMost : ℕ → Sides → Type 0
AtMost p s = (length s.left ≤ p) × (length s.right ≤ p)

-- p are enough at every turn of a walk
pub few_pending : (p : ℕ) (a b : Tree) → Balanced a → Balanced b → weight a ≤ heaviest p → weight b ≤ heaviest p → (m : ℕ) → AtMost p (after m (start a b))
unfolding Within
few_pending p a b ba bb wa wb m =
    let w = after-within p m (start a b) (begin a ba wa) (begin b bb wb) in
    (within-length p (after m (start a b)).left w.0, within-length p (after m (start a b)).right w.1)
  where
    begin : (t : Tree) → Balanced t → weight t ≤ heaviest p → Within p (pend t [])
    begin t bt wt = within-pend p t [] (λ z. record { p = p; light = wt; fits = omega arith; some = z; balanced = bt }) tt

-- 49 items carry every weight up to 4,755, so 4,096 nodes; 44 carry 2,016 nodes. Fewer do not: Leaning.
pub carried_by_49 : heaviest 49 ≡ 4755
unfolding heaviest
carried_by_49 = refl

pub carried_by_44 : heaviest 44 ≡ 2067
unfolding heaviest
carried_by_44 = refl

pub at_most_49 : (a b : Tree) → Balanced a → Balanced b → size a ≤ 4096 → size b ≤ 4096 → (m : ℕ) → AtMost 49 (after m (start a b))
at_most_49 a b ba bb sa sb m = few_pending 49 a b ba bb (omega (arith, carried_by_49)) (omega (arith, carried_by_49)) m

-- so no listing of balanced trees is too deep
pub balanced_shallow : (a b : Tree) → Balanced a → Balanced b → size a ≤ 4096 → size b ≤ 4096 → (listing a b).deep ≡ false
balanced_shallow a b ba bb sa sb = go (listing a b).deep refl
  where
    go : (d : Bool) → (listing a b).deep ≡ d → (listing a b).deep ≡ false
    go false e = e
    go true e =
        let w = (too_deep_exactly a b).0 e in
        let f = at_most_49 a b ba bb sa sb w.0 in
        absurd (⊎_elim (λ q. omega (arith, f)) (λ q. omega (arith, f)) w.1)

-- nor a delta
pub balanced-delta_shallow : (a b : Tree) → Balanced a → Balanced b → size a ≤ 4096 → size b ≤ 4096 → delta_deep a b ≡ false
unfolding delta_deep
balanced-delta_shallow a b ba bb sa sb = rw (balanced_shallow b a bb ba sb sa, balanced_shallow a b ba bb sa sb, delta_deep)
