-- Room that is enough: an insert or a remove finds room wherever three nodes are free for each level of the tree, and one more.
use mathlib.Core.Path.{◌≡◌, refl, ◌∙◌}
use Prim.Native.Nat.{ℕ, zero, suc, max, ◌+◌, ◌*◌, ◌≤◌, compare, Ordering}
use mathlib.Core.Bool.{Bool, true, false}
use mathlib.Core.Option.{Option, none, some}
use mathlib.Core.List.{List, [], ◌∷◌}
use lib.ListN.{length}
use lib.Dec.{ltb}
use native.Mathlib.Omega.{arith}
use native.Mathlib.Nat.{le-max_left, le-max_right}
use Rattle.model.specs.Tree.{Tree, leaf, node, size, height, lookup}
use Rattle.model.specs.Supply.{Supply, Make, make, done, apart, ◌>>=◌, ◌>>◌, after_first, is_none, among, taken, back, given, short}
use Rattle.model.specs.Rules.{heavy, once, twice, rotate_left, rotate_right, balanced, insert_by, insert, Least, remove_min, without_key, remove_present, remove}

-- with c numbers free a rule does not fall short, and it leaves all but c of what was free
record Spends (X : Type 0) (m : Make X) (c : ℕ) : Type 0 where
  rule : (s : Supply) → short s ≡ false → c ≤ length s.free → (short (m s).1 ≡ false) × (length s.free ≤ length (m s).1.free + c)

spends_done : {X : Type 0} (x : X) (c : ℕ) → Spends X (done x) c
spends_done x c = record { rule = λ s e p. (e, omega arith) }

spends_make : (k v : ℕ) (l r : Tree) (c : ℕ) → 1 ≤ c → Spends Tree (make k v l r) c
unfolding taken short is_none after_first
spends_make k v l r c q = record { rule = λ s e p. go s e p s.free refl }
  where
    go : (s : Supply) → short s ≡ false → c ≤ length s.free → (ns : List ℕ) → s.free ≡ ns
        → (short (taken s) ≡ false) × (length s.free ≤ length (taken s).free + c)
    go s e p [] f = absurd (omega (arith, rw f at p))
    go s e p (n ∷ ns) f = rw f (e, omega arith)

among-length : (i : ℕ) (ns : List ℕ) → length (among i ns) ≡ suc (length ns)
unfolding among
among-length i [] = refl
among-length i (n ∷ ns) = go (ltb i n) refl (among-length i ns)
  where
    go : (t : Bool) → ltb i n ≡ t → length (among i ns) ≡ suc (length ns) → length (among i (n ∷ ns)) ≡ suc (length (n ∷ ns))
    go true e ih = rw (e, among) refl
    go false e ih = rw (e, among) (omega (arith, ih))

back-length : (t : Bool) (i : ℕ) (ns : List ℕ) → length ns ≤ length (back t i ns)
unfolding back
back-length true i ns = omega arith
back-length false i ns = omega (arith, among-length i ns)

-- taking a node apart takes no room
spends_apart : {Y : Type 0} (i : ℕ) (m : Make Y) (c : ℕ) → Spends Y m c → Spends Y (apart i >> m) c
unfolding given short
spends_apart i m c f = record { rule = λ s e p. let le = back-length (s.stood i) i s.free in let r = f.rule (given i s) e (omega (arith, le)) in (r.0, omega (arith, le, r.1)) }

spends_bind : {X Y : Type 0} (m : Make X) (f : X → Make Y) (c d : ℕ) → Spends X m c → ((x : X) → Spends Y (f x) d) → Spends Y (m >>= f) (c + d)
spends_bind m f c d a b =
    record { rule = λ s e p. let q = a.rule s e (omega arith) in let r = (b (m s).0).rule (m s).1 q.0 (omega (arith, q.1)) in (r.0, omega (arith, q.1, r.1)) }

spends_more : {X : Type 0} (m : Make X) (c d : ℕ) → c ≤ d → Spends X m c → Spends X m d
spends_more m c d le f = record { rule = λ s e p. let r = f.rule s e (omega arith) in (r.0, omega (arith, r.1)) }

spends_if : {Y : Type 0} (t : Bool) (m n : Make Y) (c : ℕ) → Spends Y m c → Spends Y n c → Spends Y (elim t [ true ↦ m | false ↦ n ]) c
spends_if true m n c a b = a
spends_if false m n c a b = b

spends_cmp : {Y : Type 0} (o : Ordering) (m n k : Make Y) (c : ℕ) → Spends Y m c → Spends Y n c → Spends Y k c
    → Spends Y (elim o [ Ordering.lt ↦ m | Ordering.eq ↦ n | Ordering.gt ↦ k ]) c
spends_cmp Ordering.lt m n k c x y z = x
spends_cmp Ordering.eq m n k c x y z = y
spends_cmp Ordering.gt m n k c x y z = z

-- A balanced make makes three nodes at the most.

two : (k v : ℕ) (l r : Tree) (f : Tree → Make Tree) → ((a : Tree) → Spends Tree (f a) 1) → Spends Tree (make k v l r >>= f) 3
two k v l r f g = spends_bind (make k v l r) f 1 2 (spends_make k v l r 1 (omega arith)) (λ a. spends_more (f a) 1 2 (omega arith) (g a))

twice_spends : (k v : ℕ) (l m : Tree) (h w : ℕ) (r : Tree) → Spends Tree (twice k v l m h w r) 3
unfolding twice
twice_spends k v l leaf h w r = two k v l leaf (λ a. make h w a r) (λ a. spends_make h w a r 1 (omega arith))
twice_spends k v l (node i g u x y) h w r =
    spends_apart {Y = Tree} i _ 3 (spends_bind (make k v l x) (λ a. make h w y r >>= λ b. make g u a b) 1 2 (spends_make k v l x 1 (omega arith))
    (λ a. spends_bind (make h w y r) (λ b. make g u a b) 1 1 (spends_make h w y r 1 (omega arith)) (λ b. spends_make g u a b 1 (omega arith))))

rotate_left_spends : (k v : ℕ) (l r : Tree) → Spends Tree (rotate_left k v l r) 3
unfolding rotate_left
rotate_left_spends k v l leaf = spends_make k v l leaf 3 (omega arith)
rotate_left_spends k v l (node i h w rl rr) =
    spends_apart {Y = Tree} i _ 3 (spends_if {Y = Tree} (once rl rr) _ _ 3 (two k v l rl (λ a. make h w a rr) (λ a. spends_make h w a rr 1 (omega arith))) (twice_spends k v l rl h w rr))

rotate_right_spends : (k v : ℕ) (l r : Tree) → Spends Tree (rotate_right k v l r) 3
unfolding rotate_right
rotate_right_spends k v leaf r = spends_make k v leaf r 3 (omega arith)
rotate_right_spends k v (node i h w ll lr) r =
    spends_apart {Y = Tree} i _ 3 (spends_if {Y = Tree} (once lr ll) _ _ 3 (two k v lr r (λ a. make h w ll a) (λ a. spends_make h w ll a 1 (omega arith))) (twice_spends h w ll lr k v r))

balanced_spends : (k v : ℕ) (l r : Tree) → Spends Tree (balanced k v l r) 3
unfolding balanced
balanced_spends k v l r =
    spends_if {Y = Tree} (ltb (size l + size r) 2) _ _ 3 (spends_make k v l r 3 (omega arith))
    (spends_if {Y = Tree} (heavy r l) _ _ 3 (rotate_left_spends k v l r)
    (spends_if {Y = Tree} (heavy l r) _ _ 3 (rotate_right_spends k v l r) (spends_make k v l r 3 (omega arith))))

-- The edits of one key.

insert_by_spends : (mk : ℕ → ℕ → Tree → Tree → Make Tree) → ((k v : ℕ) (l r : Tree) → Spends Tree (mk k v l r) 3) → (t : Tree) (k v : ℕ)
    → Spends Tree (insert_by mk t k v) (3 * height t + 1)
unfolding insert_by height
insert_by_spends mk f leaf k v = spends_make k v leaf leaf 1 (omega arith)
insert_by_spends mk f (node i h w l r) k v =
    let c = 3 * suc (max (height l) (height r)) + 1 in
    spends_apart {Y = Tree} i _ c (spends_cmp {Y = Tree} (compare k h) _ _ _ c
    (spends_more {X = Tree} _ (3 * height l + 1 + 3) c (omega (arith, le-max_left (height l) (height r))) (spends_bind (insert_by mk l k v) (λ a. mk h w a r) (3 * height l + 1) 3 (insert_by_spends mk f l k v) (λ a. f h w a r)))
    (spends_more (mk k v l r) 3 c (omega arith) (f k v l r))
    (spends_more {X = Tree} _ (3 * height r + 1 + 3) c (omega (arith, le-max_right (height l) (height r))) (spends_bind (insert_by mk r k v) (λ a. mk h w l a) (3 * height r + 1) 3 (insert_by_spends mk f r k v) (λ a. f h w l a))))

remove_min_spends : (k v : ℕ) (l r : Tree) → Spends Least (remove_min k v l r) (3 * height l)
unfolding remove_min height
remove_min_spends k v leaf r = spends_done {X = Least} (record { key = k; value = v; rest = r }) 0
remove_min_spends k v (node j h w ll lr) r =
    let c = 3 * suc (max (height ll) (height lr)) in
    spends_apart {Y = Least} j _ c (spends_more {X = Least} _ (3 * height ll + (3 + 0)) c (omega (arith, le-max_left (height ll) (height lr)))
    (spends_bind (remove_min h w ll lr) (λ (m : Least). balanced k v m.rest r >>= λ t. done (record { key = m.key; value = m.value; rest = t })) (3 * height ll) (3 + 0) (remove_min_spends h w ll lr)
    (λ m. spends_bind (balanced k v m.rest r) (λ t. done (record { key = m.key; value = m.value; rest = t })) 3 0 (balanced_spends k v m.rest r) (λ t. spends_done {X = Least} (record { key = m.key; value = m.value; rest = t }) 0))))

without_key_spends : (l r : Tree) → Spends Tree (without_key balanced l r) (3 * height r)
unfolding without_key height
without_key_spends leaf r = spends_done r (3 * height r)
without_key_spends (node i h w ll lr) leaf = spends_done (node i h w ll lr) 0
without_key_spends (node i h w ll lr) (node j g u rl rr) =
    let c = 3 * suc (max (height rl) (height rr)) in
    spends_apart {Y = Tree} j _ c (spends_more {X = Tree} _ (3 * height rl + 3) c (omega (arith, le-max_left (height rl) (height rr)))
    (spends_bind (remove_min g u rl rr) (λ (m : Least). balanced m.key m.value (node i h w ll lr) m.rest) (3 * height rl) 3 (remove_min_spends g u rl rr)
    (λ m. balanced_spends m.key m.value (node i h w ll lr) m.rest)))

remove_present_spends : (t : Tree) (k : ℕ) → Spends Tree (remove_present t k) (3 * height t)
unfolding remove_present height
remove_present_spends leaf k = spends_done leaf 0
remove_present_spends (node i h w l r) k =
    let c = 3 * suc (max (height l) (height r)) in
    spends_apart {Y = Tree} i _ c (spends_cmp {Y = Tree} (compare k h) _ _ _ c
    (spends_more {X = Tree} _ (3 * height l + 3) c (omega (arith, le-max_left (height l) (height r))) (spends_bind (remove_present l k) (λ a. balanced h w a r) (3 * height l) 3 (remove_present_spends l k) (λ a. balanced_spends h w a r)))
    (spends_more (without_key balanced l r) (3 * height r) c (omega (arith, le-max_right (height l) (height r))) (without_key_spends l r))
    (spends_more {X = Tree} _ (3 * height r + 3) c (omega (arith, le-max_right (height l) (height r))) (spends_bind (remove_present r k) (λ a. balanced h w l a) (3 * height r) 3 (remove_present_spends r k) (λ a. balanced_spends h w l a))))

-- what a user can plan with: where so many nodes are free, the edit is not refused for room
pub insert-room : (t : Tree) (k v : ℕ) (s : Supply) → short s ≡ false → 3 * height t + 1 ≤ length s.free → short (insert t k v s).1 ≡ false
unfolding insert
insert-room t k v s e p = go (lookup t k) refl
  where
    go : (o : Option ℕ) → lookup t k ≡ o → short (insert t k v s).1 ≡ false
    go none q = rw (q, insert) ((insert_by_spends balanced balanced_spends t k v).rule s e p).0
    go (some w) q = rw (q, insert) ((insert_by_spends make (λ k v l r. spends_make k v l r 3 (omega arith)) t k v).rule s e p).0

pub remove-room : (t : Tree) (k : ℕ) (s : Supply) → short s ≡ false → 3 * height t ≤ length s.free → short (remove t k s).1 ≡ false
unfolding remove
remove-room t k s e p = go (lookup t k) refl
  where
    go : (o : Option ℕ) → lookup t k ≡ o → short (remove t k s).1 ≡ false
    go none q = rw (q, remove) e
    go (some w) q = rw (q, remove) ((remove_present_spends t k).rule s e p).0
