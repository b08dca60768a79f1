-- The walk ends, and it is too deep exactly when its loop at some turn is.
use mathlib.Core.Path.{◌≡◌, refl, ap, sym, subst, ◌∙◌}
use mathlib.Core.Logic.{◌⊎◌, inl, inr, ⊎_elim, ◌↔◌}
use Prim.Native.Nat.{ℕ, zero, suc, ◌+◌, ◌*◌, ◌≤◌, ◌<◌, compare, Ordering}
use mathlib.Core.Bool.{Bool, true, false, true≢false, ◌||◌}
use mathlib.Core.List.{List, [], ◌∷◌, ◌++◌}
use lib.ListN.{length}
use lib.Dec.{eqb, ltb, leb}
use borrow.Author.Tests.{ltb-true, lt-ltb, eq-eqb}
use native.Mathlib.Omega.{arith}
use Rattle.model.specs.Tree.{Tree, leaf, node, size, id_of}
use Rattle.model.specs.Listing.{Item, tree, entry, Sides, Row, Turn, over, on, yield, Walk, pend, opened, turn, too_deep, walk, start, turns, listing, until, next_sides, after, rows_in, ◌∈◌, Overflows}
use Rattle.model.proofs.maps.Tests.{either}
use Rattle.model.proofs.maps.Members.{in_left}

-- the turns that a side can take: two for each node of a tree, one for an entry
unfoldable pub cost : List Item → ℕ
cost [] = 0
cost (tree leaf ∷ is) = 1 + cost is
cost (tree (node i k v l r) ∷ is) = 2 * size (node i k v l r) + cost is
cost (entry k v ∷ is) = 1 + cost is

unfoldable pub costs : Sides → ℕ
costs s = cost s.left + cost s.right

cost_pend : (t : Tree) (is : List Item) → cost (pend t is) ≡ 2 * size t + cost is
unfolding cost size
cost_pend leaf is = omega arith
cost_pend (node i k v l r) is = refl

cost_opened : (t : Tree) (is : List Item) → cost (opened t is) < cost (tree t ∷ is)
unfolding cost size
cost_opened leaf is = omega arith
cost_opened (node i k v l r) is = omega (arith, cost_pend l (entry k v ∷ pend r is), cost_pend r is)

cost_rest : (t : Tree) (is : List Item) → cost is < cost (tree t ∷ is)
unfolding cost size
cost_rest leaf is = omega arith
cost_rest (node i k v l r) is = omega arith

-- a turn lowers the cost, and a row leaves no more pending than there was
unfoldable pub Falls : Sides → Turn → Type 0
Falls s over = Unit {0}
Falls s (on t) = costs t < costs s
Falls s (yield r t) = (costs t < costs s) × (length t.left ≤ length s.left) × (length t.right ≤ length s.right)

pub turn_falls : (ls rs : List Item) → Falls (record { left = ls; right = rs }) (turn ls rs)
unfolding Falls costs turn cost
turn_falls [] rs = tt
turn_falls (tree t ∷ ls) [] = omega (arith, cost_opened t ls)
turn_falls (tree t ∷ ls) (entry h w ∷ rs) = omega (arith, cost_opened t ls)
turn_falls (tree t ∷ ls) (tree u ∷ rs) = same (eqb (id_of t) (id_of u)) refl
  where
    larger : (b : Bool) → leb (size u) (size t) ≡ b → eqb (id_of t) (id_of u) ≡ false
        → Falls (record { left = tree t ∷ ls; right = tree u ∷ rs }) (turn (tree t ∷ ls) (tree u ∷ rs))
    larger true e d = rw (d, turn) (rw e (omega (arith, cost_opened t ls)))
    larger false e d = rw (d, turn) (rw e (omega (arith, cost_opened u rs)))

    same : (b : Bool) → eqb (id_of t) (id_of u) ≡ b → Falls (record { left = tree t ∷ ls; right = tree u ∷ rs }) (turn (tree t ∷ ls) (tree u ∷ rs))
    same true e = rw (e, turn) (omega (arith, cost_rest t ls, cost_rest u rs))
    same false e = larger (leb (size u) (size t)) refl e
turn_falls (entry k v ∷ ls) [] = (omega arith, omega arith, omega arith)
turn_falls (entry k v ∷ ls) (tree u ∷ rs) = omega (arith, cost_opened u rs)
turn_falls (entry k v ∷ ls) (entry h w ∷ rs) = go (compare k h) refl
  where
    go : (o : Ordering) → compare k h ≡ o → Falls (record { left = entry k v ∷ ls; right = entry h w ∷ rs }) (turn (entry k v ∷ ls) (entry h w ∷ rs))
    go Ordering.lt e = rw (e, turn) (omega arith, omega arith, omega arith)
    go Ordering.eq e = rw (e, turn) (omega arith, omega arith, omega arith)
    go Ordering.gt e = rw (e, turn) (omega arith)

-- no rows, and not too deep
abbrev pub nothing : Walk
nothing = record { rows = []; deep = false }

-- with no cost left there is nothing to do
walk-done : (f : ℕ) (s : Sides) → costs s ≡ 0 → walk f s ≡ nothing
unfolding walk Falls
walk-done zero s z = refl
walk-done (suc f) s z = go (turn s.left s.right) refl (turn_falls s.left s.right)
  where
    go : (o : Turn) → turn s.left s.right ≡ o → Falls s o → walk (suc f) s ≡ nothing
    go over e p = rw (e, walk)
    go (on t) e p = absurd (omega arith)
    go (yield r t) e p = absurd (omega (arith, p.0))

-- turns beyond the cost change nothing
walk_enough : (f g : ℕ) (s : Sides) → costs s ≤ f → costs s ≤ g → walk f s ≡ walk g s
unfolding walk Falls
walk_enough zero g s p q = sym (walk-done g s (omega arith))
walk_enough (suc f) zero s p q = walk-done (suc f) s (omega arith)
walk_enough (suc f) (suc g) s p q = go (turn s.left s.right) refl (turn_falls s.left s.right) (walk_enough f g)
  where
    go : (o : Turn) → turn s.left s.right ≡ o → Falls s o → ((t : Sides) → costs t ≤ f → costs t ≤ g → walk f t ≡ walk g t)
        → walk (suc f) s ≡ walk (suc g) s
    go over e c ih = rw (e, walk)
    go (on t) e c ih = rw (e, walk) (ap (λ (w : Walk). elim (too_deep t) [ true ↦ record { rows = []; deep = true } | false ↦ w ]) (ih t (omega arith) (omega arith)))
    go (yield r t) e c ih = rw (e, walk) (rw (ih t (omega (arith, c.0)) (omega (arith, c.0))))

pub costs_start : (a b : Tree) → costs (start a b) ≤ turns a b
unfolding costs cost
costs_start a b = omega (arith, cost_pend a [], cost_pend b [])

-- When it is too deep

pub neither : (x y : Bool) → (x || y) ≡ false → (x ≡ false) × (y ≡ false)
neither true y e = absurd (true≢false e)
neither false y e = (refl, e)

-- more than 64 items on one side
deep_says : (s : Sides) → (too_deep s ≡ true) ↔ ((64 < length s.left) ⊎ (64 < length s.right))
unfolding too_deep
deep_says s = (
  (λ e. ⊎_elim (λ p. inl (ltb-true 64 (length s.left) p)) (λ p. inr (ltb-true 64 (length s.right) p)) (either (ltb 64 (length s.left)) (ltb 64 (length s.right)) e)),
  ⊎_elim (λ p. rw (lt-ltb 64 (length s.left) p) refl) (λ p. on_right (ltb 64 (length s.left)) p),
)
  where
    on_right : (t : Bool) → 64 < length s.right → (t || ltb 64 (length s.right)) ≡ true
    on_right true p = refl
    on_right false p = lt-ltb 64 (length s.right) p

shallow_yield : (s t : Sides) → length t.left ≤ length s.left → length t.right ≤ length s.right → too_deep s ≡ false → too_deep t ≡ false
shallow_yield s t p q e = go (too_deep t) refl
  where
    go : (d : Bool) → too_deep t ≡ d → too_deep t ≡ false
    go false f = f
    go true f = absurd (true≢false (sym ((deep_says s).1 (⊎_elim (λ h. inl (omega arith)) (λ h. inr (omega arith)) ((deep_says t).0 f))) ∙ e))

shallow_start : (a b : Tree) → too_deep (start a b) ≡ false
unfolding too_deep
shallow_start leaf leaf = refl
shallow_start leaf (node i k v l r) = refl
shallow_start (node i k v l r) leaf = refl
shallow_start (node i k v l r) (node j h w x y) = refl

-- it is given up at some turn, with the rows up to there
deep_reached : (f : ℕ) (s : Sides) → (walk f s).deep ≡ true → (n : ℕ) × (too_deep (after n s) ≡ true) × (rows_in n s ≡ (walk f s).rows)
unfolding walk after next_sides rows_in
deep_reached zero s d = absurd (true≢false (sym d))
deep_reached (suc f) s d = go (turn s.left s.right) refl (deep_reached f)
  where
    Reached : Type 0
    Reached = (n : ℕ) × (too_deep (after n s) ≡ true) × (rows_in n s ≡ (walk (suc f) s).rows)

    go : (o : Turn) → turn s.left s.right ≡ o
        → ((t : Sides) → (walk f t).deep ≡ true → (n : ℕ) × (too_deep (after n t) ≡ true) × (rows_in n t ≡ (walk f t).rows)) → Reached
    go over e ih = absurd (true≢false (sym (rw (e, walk) at d)))
    go (on t) e ih = by (too_deep t) refl
      where
        by : (b : Bool) → too_deep t ≡ b → Reached
        by true p = (1, rw (e, next_sides) p, rw (e, rows_in, walk) (rw p))
        by false p = let w = ih t (rw p at (rw (e, walk) at d)) in (suc w.0, rw (e, next_sides) w.1, rw (e, rows_in, walk) (rw p w.2))
    go (yield r t) e ih = let w = ih t (rw (e, walk) at d) in (suc w.0, rw (e, next_sides) w.1, rw (e, rows_in, walk) (ap (λ (rs : List Row). r ∷ rs) w.2))

-- a turn that leaves too much pending is the walk's last or comes after it
reached_deep : (n f : ℕ) (s : Sides) → costs s ≤ f → too_deep s ≡ false → too_deep (after n s) ≡ true
    → (more : List Row) × ((walk f s).deep ≡ true) × (rows_in n s ≡ (walk f s).rows ++ more)
unfolding walk after next_sides rows_in Falls
reached_deep zero f s c e d = absurd (true≢false (sym d ∙ e))
reached_deep (suc n) f s c e d = go (turn s.left s.right) refl (turn_falls s.left s.right) f c (reached_deep n)
  where
    Given : ℕ → Type 0
    Given f = (more : List Row) × ((walk f s).deep ≡ true) × (rows_in (suc n) s ≡ (walk f s).rows ++ more)

    stays : (m : ℕ) → turn s.left s.right ≡ over → after m s ≡ s
    stays zero p = refl
    stays (suc m) p = rw (p, next_sides) (stays m p)

    go : (o : Turn) → turn s.left s.right ≡ o → Falls s o → (f : ℕ) → costs s ≤ f
        → ((f : ℕ) (t : Sides) → costs t ≤ f → too_deep t ≡ false → too_deep (after n t) ≡ true → (more : List Row) × ((walk f t).deep ≡ true) × (rows_in n t ≡ (walk f t).rows ++ more))
        → Given f
    go over p q f c ih = absurd (true≢false (sym d ∙ (ap too_deep (stays (suc n) p) ∙ e)))
    go (on t) p q zero c ih = absurd (omega arith)
    go (on t) p q (suc f) c ih = by (too_deep t) refl
      where
        by : (b : Bool) → too_deep t ≡ b → Given (suc f)
        by true z = (rows_in n t, rw (p, walk) (rw z), rw (p, rows_in, walk) (rw z))
        by false z = let w = ih f t (omega arith) z (rw (p, next_sides) at d) in (w.0, rw (p, walk) (rw z w.1), rw (p, rows_in, walk) (rw z w.2))
    go (yield r t) p q zero c ih = absurd (omega (arith, q.0))
    go (yield r t) p q (suc f) c ih =
        let w = ih f t (omega (arith, q.0)) (shallow_yield s t q.1 q.2 e) (rw (p, next_sides) at d) in
        (w.0, rw (p, walk) w.1, rw (p, rows_in, walk) (ap (λ (rs : List Row). r ∷ rs) w.2))

-- Until a first row

pub until_deep : (kind : Row → Bool) (rs : List Row) (d : Bool) → ((until kind rs d).deep ≡ true) ↔ ((d ≡ true) × ((r : Row) → r ∈ rs → kind r ≡ false))
unfolding until ◌∈◌
until_deep kind [] d = (λ e. (e, λ r m. absurd m), λ p. p.0)
until_deep kind (r ∷ rs) d = go (kind r) refl (until_deep kind rs d)
  where
    go : (t : Bool) → kind r ≡ t → ((until kind rs d).deep ≡ true) ↔ ((d ≡ true) × ((q : Row) → q ∈ rs → kind q ≡ false))
        → ((until kind (r ∷ rs) d).deep ≡ true) ↔ ((d ≡ true) × ((q : Row) → (q ≡ r) ⊎ (q ∈ rs) → kind q ≡ false))
    go true e ih = (λ p. absurd (true≢false (sym (rw (e, until) at p))), λ p. absurd (true≢false (sym e ∙ p.1 r (inl refl))))
    go false e ih = (
      λ p. let w = ih.0 (rw (e, until) at p) in (w.0, λ q. ⊎_elim (λ f. ap kind f ∙ e) (w.1 q)),
      λ p. rw (e, until) (ih.1 (p.0, λ q m. p.1 q (inr m))),
    )

-- The theorems

-- a walk ends: turns beyond two for each node change nothing
pub walk_ends : (a b : Tree) (f : ℕ) → turns a b ≤ f → walk f (start a b) ≡ listing a b
unfolding listing
walk_ends a b f p = walk_enough f (turns a b) (start a b) (omega (arith, costs_start a b)) (costs_start a b)

-- TOO_DEEP exactly when the loop, at some turn, has more than 64 items pending on one side
pub too_deep_exactly : (a b : Tree)
    → ((listing a b).deep ≡ true) ↔ ((n : ℕ) × ((64 < length (after n (start a b)).left) ⊎ (64 < length (after n (start a b)).right)))
unfolding listing
too_deep_exactly a b = (
  (λ d. let w = deep_reached (turns a b) (start a b) d in (w.0, (deep_says (after w.0 (start a b))).0 w.1)),
  (λ w. (reached_deep w.0 (turns a b) (start a b) (costs_start a b) (shallow_start a b) ((deep_says (after w.0 (start a b))).1 w.1)).1),
)

-- a walk that is left at its first row of a kind: TOO_DEEP exactly when the loop has more than 64 items pending on one side at some turn, and no row up to it is of the kind
pub too_deep_first : (kind : Row → Bool) (a b : Tree) → ((until kind (listing a b).rows (listing a b).deep).deep ≡ true) ↔ Overflows kind a b
unfolding listing
too_deep_first kind a b = (
  λ d.
      let u = (until_deep kind (listing a b).rows (listing a b).deep).0 d in
      let w = deep_reached (turns a b) (start a b) u.0 in
      record { turn = w.0; pending = (deep_says (after w.0 (start a b))).0 w.1; before = λ r m. u.1 r (subst (λ rs. r ∈ rs) w.2 m) },
  λ o.
      let w = reached_deep o.turn (turns a b) (start a b) (costs_start a b) (shallow_start a b) ((deep_says (after o.turn (start a b))).1 o.pending) in
      (until_deep kind (listing a b).rows (listing a b).deep).1 (w.1, λ r m. o.before r (subst (λ rs. r ∈ rs) (sym w.2) (in_left r (listing a b).rows w.0 m))),
)

-- an empty left lists nothing
pub empty_left_lists_nothing : (b : Tree) → listing leaf b ≡ nothing
unfolding walk turn
empty_left_lists_nothing b = sym (walk_ends leaf b (suc (turns leaf b)) (omega arith))

-- a tree against itself lists nothing
pub same_lists_nothing : (t : Tree) → listing t t ≡ nothing
unfolding walk turn too_deep costs cost id_of
same_lists_nothing leaf = empty_left_lists_nothing leaf
same_lists_nothing (node i k v l r) =
    let t = node i k v l r in
    sym (walk_ends t t (suc (turns t t)) (omega arith)) ∙ rw (eq-eqb i i refl, walk, turn) (walk-done (turns t t) (record { left = []; right = [] }) refl)
