-- Join's rule in document 01's words: sizes are compared, and the larger side is descended.
use mathlib.Core.Path.{◌≡◌, refl}
use Prim.Native.Nat.{ℕ, ◌*◌, ◌≤◌, ◌<◌}
use borrow.Author.Tests.{lt-ltb, le-ltb}
use native.Mathlib.Omega.{arith}
use Rattle.model.specs.Tree.{Tree, leaf, node, size}
use Rattle.model.specs.Supply.{Supply, apart, ◌>>=◌, ◌>>◌}
use Rattle.model.specs.Rules.{balanced, join}

-- right > 3 × left descends the right's left spine, and the level is a balanced make
pub join_right : (k v : ℕ) (l : Tree) (j h w : ℕ) (rl rr : Tree) (s : Supply) → 3 * size l < size (node j h w rl rr)
    → join k v l (node j h w rl rr) s ≡ (apart j >> (join k v l rl >>= λ t. balanced h w t rr)) s
unfolding join
join_right k v leaf j h w rl rr s lt = refl
join_right k v (node i g u ll lr) j h w rl rr s lt = rw (lt-ltb (3 * size (node i g u ll lr)) (size (node j h w rl rr)) lt, join)

-- left > 3 × right mirrors it
pub join_left : (k v i h w : ℕ) (ll lr r : Tree) (s : Supply) → 3 * size r < size (node i h w ll lr)
    → join k v (node i h w ll lr) r s ≡ (apart i >> (join k v lr r >>= λ t. balanced h w ll t)) s
unfolding join
join_left k v i h w ll lr leaf s lt = refl
join_left k v i h w ll lr (node j g u rl rr) s lt =
    rw (le-ltb (3 * size (node i h w ll lr)) (size (node j g u rl rr)) (omega arith), join) (rw (lt-ltb (3 * size (node j g u rl rr)) (size (node i h w ll lr)) lt) refl)

-- else a balanced make
pub join_even : (k v : ℕ) (l r : Tree) (s : Supply) → size r ≤ 3 * size l → size l ≤ 3 * size r → join k v l r s ≡ balanced k v l r s
unfolding join size
join_even k v leaf leaf s p q = refl
join_even k v leaf (node j h w rl rr) s p q = absurd (omega arith)
join_even k v (node i h w ll lr) leaf s p q = absurd (omega arith)
join_even k v (node i h w ll lr) (node j g u rl rr) s p q =
    rw (le-ltb (3 * size (node i h w ll lr)) (size (node j g u rl rr)) p, join) (rw (le-ltb (3 * size (node j g u rl rr)) (size (node i h w ll lr)) q) refl)
