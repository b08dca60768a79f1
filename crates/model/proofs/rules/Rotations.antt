-- The balanced make gives a balanced tree where neither side weighs much above 9/2 of the other: one lemma on numbers for each rotation.
use mathlib.Core.Path.{◌≡◌, refl}
use Prim.Native.Nat.{ℕ, ◌+◌, ◌*◌, ◌≤◌, ◌<◌}
use mathlib.Core.Bool.{Bool, true, false}
use lib.Dec.{ltb}
use borrow.Author.Tests.{ltb-true, ltb-false, leb-true, leb-false}
use native.Mathlib.Omega.{arith}
use Rattle.model.specs.Tree.{Tree, leaf, node, size}
use Rattle.model.specs.Supply.{Supply, given}
use Rattle.model.specs.Rules.{weight, heavy, once, twice, rotate_left, rotate_right, balanced}
use Rattle.model.specs.Balance.{Level, Balanced}

-- what a balanced make asks of its two weights
abbrev pub Near : ℕ → ℕ → Type 0
Near a b = (2 * a ≤ 9 * b + 3) × (2 * b ≤ 9 * a + 3)

-- A child of weights a (outer) and b (inner) beside a sibling of weight c, above 3 times c.

-- rotated once: the inner half goes to the sibling
single : (a b c : ℕ) → 1 ≤ c → Level a b → 3 * c < a + b → 2 * (a + b) ≤ 9 * c + 3 → b < 2 * a → Level b c × Level a (b + c)
single a b c one e h n o = omega arith

-- rotated twice: the inner half's halves x (next to a) and y go to the two sides
double : (a x y c : ℕ) → 1 ≤ c → Level a (x + y) → Level x y → 3 * c < a + (x + y) → 2 * (a + (x + y)) ≤ 9 * c + 3 → 2 * a ≤ x + y
    → Level a x × Level y c × Level (a + x) (y + c)
double a x y c one e f h n o = omega arith

-- which of the two it is
turned_once : (inner outer : Tree) → once inner outer ≡ true → weight inner < 2 * weight outer
turned_once inner outer e = omega (arith, ltb-true, leb-true)

turned_twice : (inner outer : Tree) → once inner outer ≡ false → 2 * weight outer ≤ weight inner
turned_twice inner outer e = omega (arith, ltb-false, leb-false)

-- rotated twice: the middle tree is no leaf, and its halves are level with what they come to stand beside
twice-balanced : (k v : ℕ) (l m : Tree) (h w : ℕ) (r : Tree) (s : Supply) → Balanced l → Balanced m → Balanced r → 2 ≤ weight m
    → ((x y : ℕ) → weight m ≡ x + y → Level x y → Level (weight l) x × Level y (weight r) × Level (weight l + x) (y + weight r))
    → Balanced (twice k v l m h w r s).0
unfolding twice Balanced size
twice-balanced k v l leaf h w r s bl bm br two halves = absurd (omega arith)
twice-balanced k v l (node i g u x y) h w r s bl bm br two halves =
    let d = halves (weight x) (weight y) (omega arith) bm.0 in
    (omega (arith, d.2), (d.0, bl, bm.1), (d.1, bm.2, br))

rotate_left-balanced : (k v : ℕ) (l r : Tree) (s : Supply) → Balanced l → Balanced r → 3 * weight l < weight r
    → 2 * weight r ≤ 9 * weight l + 3 → Balanced (rotate_left k v l r s).0
unfolding rotate_left Balanced size
rotate_left-balanced k v l leaf s bl br p n = absurd (omega arith)
rotate_left-balanced k v l (node i h w rl rr) s bl br p n = go (once rl rr) refl
  where
    go : (b : Bool) → once rl rr ≡ b → Balanced (rotate_left k v l (node i h w rl rr) s).0
    go true e =
        let d = single (weight rr) (weight rl) (weight l) (omega arith) (omega (arith, br.0)) (omega arith) (omega arith) (turned_once rl rr e) in
        rw (e, rotate_left) (omega (arith, d), (omega (arith, d), bl, br.1), br.2)
    go false e =
        let t = turned_twice rl rr e in
        rw (e, rotate_left) (twice-balanced k v l rl h w rr (given i s) bl br.1 br.2 (omega (arith, t)) (λ x y q f.
        omega (arith, double (weight rr) y x (weight l) (omega arith) (omega (arith, br.0)) (omega arith) (omega arith) (omega arith) (omega (arith, t)))))

rotate_right-balanced : (k v : ℕ) (l r : Tree) (s : Supply) → Balanced l → Balanced r → 3 * weight r < weight l
    → 2 * weight l ≤ 9 * weight r + 3 → Balanced (rotate_right k v l r s).0
unfolding rotate_right Balanced size
rotate_right-balanced k v leaf r s bl br p n = absurd (omega arith)
rotate_right-balanced k v (node i h w ll lr) r s bl br p n = go (once lr ll) refl
  where
    go : (b : Bool) → once lr ll ≡ b → Balanced (rotate_right k v (node i h w ll lr) r s).0
    go true e =
        let d = single (weight ll) (weight lr) (weight r) (omega arith) (omega (arith, bl.0)) (omega arith) (omega arith) (turned_once lr ll e) in
        rw (e, rotate_right) (omega (arith, d), bl.1, (omega (arith, d), bl.2, br))
    go false e =
        let t = turned_twice lr ll e in
        rw (e, rotate_right) (twice-balanced h w ll lr k v r (given i s) bl.1 bl.2 br (omega (arith, t)) (λ x y q f.
        omega (arith, double (weight ll) x y (weight r) (omega arith) (omega (arith, bl.0)) (omega arith) (omega arith) (omega arith) (omega (arith, t)))))

-- the balanced make of two balanced trees that are near one another is balanced
pub balanced-balanced : (k v : ℕ) (l r : Tree) (s : Supply) → Balanced l → Balanced r → Near (weight l) (weight r) → Balanced (balanced k v l r s).0
unfolding balanced Balanced
balanced-balanced k v l r s bl br n = small (ltb (size l + size r) 2) refl
  where
    left : (b : Bool) → heavy l r ≡ b → ltb (size l + size r) 2 ≡ false → heavy r l ≡ false → Balanced (balanced k v l r s).0
    left true e f g = rw (f, balanced) (rw g (rw e (rotate_right-balanced k v l r s bl br (omega (arith, ltb-true)) n.0)))
    left false e f g = rw (f, balanced) (rw g (rw e (omega (arith, ltb-false), bl, br)))

    right : (b : Bool) → heavy r l ≡ b → ltb (size l + size r) 2 ≡ false → Balanced (balanced k v l r s).0
    right true e f = rw (f, balanced) (rw e (rotate_left-balanced k v l r s bl br (omega (arith, ltb-true)) n.1))
    right false e f = left (heavy l r) refl f e

    small : (b : Bool) → ltb (size l + size r) 2 ≡ b → Balanced (balanced k v l r s).0
    small true e = rw (e, balanced) (omega (arith, ltb-true), bl, br)
    small false e = right (heavy r l) refl e
