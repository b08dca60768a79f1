-- The tree rules of document 01, in its order.
use Prim.Native.Nat.{ℕ, zero, suc, min, max, ◌+◌, ◌*◌, ◌-◌, compare, Ordering}
use Rattle.std.specs.Prelude.{Bool, true, false, ◌&&◌, List, [], ◌∷◌, ltb, leb, eqb}
use Rattle.std.proofs.Math.Option.{Option, none, some}
use Rattle.model.specs.Tree.{Tree, leaf, node, Entry, size, lookup, find}
use Rattle.model.specs.Supply.{Make, make, done, apart, ◌>>=◌, ◌>>◌}

-- size plus 1
abbrev pub weight : Tree → ℕ
weight t = size t + 1

-- one side's weight is above 3 times the other's
abbrev pub heavy : Tree → Tree → Bool
heavy t u = ltb (3 * weight u) (weight t)

-- the heavy child's inner weight is below 2 times its outer weight: rotate once
abbrev pub once : Tree → Tree → Bool
once inner outer = ltb (weight inner) (2 * weight outer)

-- rotate twice: the middle tree's root goes to the top; where there is none (never reached) the right entry goes
unfoldable pub twice : ℕ → ℕ → Tree → Tree → ℕ → ℕ → Tree → Make Tree
twice k v l leaf h w r = do
  a ← make k v l leaf
  make h w a r
twice k v l (node m g u x y) h w r = do
  apart m
  a ← make k v l x
  b ← make h w y r
  make g u a b

-- the right child goes to the top, or its left child does
unfoldable pub rotate_left : ℕ → ℕ → Tree → Tree → Make Tree
rotate_left k v l leaf = make k v l leaf
rotate_left k v l (node i h w rl rr) = do
  apart i
  elim (once rl rr) [
    | true ↦ do
      a ← make k v l rl
      make h w a rr
    | false ↦ twice k v l rl h w rr
  ]

-- its mirror
unfoldable pub rotate_right : ℕ → ℕ → Tree → Tree → Make Tree
rotate_right k v leaf r = make k v leaf r
rotate_right k v (node i h w ll lr) r = do
  apart i
  elim (once lr ll) [
    | true ↦ do
      a ← make k v lr r
      make h w ll a
    | false ↦ twice h w ll lr k v r
  ]

-- the balanced make of key, value, left and right
unfoldable pub balanced : ℕ → ℕ → Tree → Tree → Make Tree
balanced k v l r = elim (ltb (size l + size r) 2) [
  | true ↦ make k v l r
  | false ↦ elim (heavy r l) [
    | true ↦ rotate_left k v l r
    | false ↦ elim (heavy l r) [
      | true ↦ rotate_right k v l r
      | false ↦ make k v l r
    ]
  ]
]

-- every node on the path is remade by mk, deepest first
unfoldable pub insert_by : (ℕ → ℕ → Tree → Tree → Make Tree) → Tree → ℕ → ℕ → Make Tree
insert_by mk leaf k v = make k v leaf leaf
insert_by mk (node i h w l r) k v = do
  apart i
  elim (compare k h) [
    | Ordering.lt ↦ do
      l' ← insert_by mk l k v
      mk h w l' r
    | Ordering.eq ↦ mk k v l r
    | Ordering.gt ↦ do
      r' ← insert_by mk r k v
      mk h w l r'
  ]

-- a new key uses balanced makes, an equal key plain ones
unfoldable pub insert : Tree → ℕ → ℕ → Make Tree
insert t k v = elim (lookup t k) [ none ↦ insert_by balanced t k v | some w ↦ insert_by make t k v ]

-- an entry taken out, and the tree that is left
pub record Least : Type 0 where
  pub key : ℕ
  pub value : ℕ
  pub rest : Tree

-- the minimum of a node; those above it are balanced makes
unfoldable pub remove_min : ℕ → ℕ → Tree → Tree → Make Least
remove_min k v leaf r = done (record { key = k; value = v; rest = r })
remove_min k v (node j h w ll lr) r = do
  apart j
  m ← remove_min h w ll lr
  t ← balanced k v m.rest r
  done (record { key = m.key; value = m.value; rest = t })

-- two trees without the key between them: a sole one is returned as is, else the minimum of the right takes the place, by mk
unfoldable pub without_key : (ℕ → ℕ → Tree → Tree → Make Tree) → Tree → Tree → Make Tree
without_key mk leaf r = done r
without_key mk (node i h w ll lr) leaf = done (node i h w ll lr)
without_key mk (node i h w ll lr) (node j g u rl rr) = do
  apart j
  m ← remove_min g u rl rr
  mk m.key m.value (node i h w ll lr) m.rest

-- the key is present: its node gives way, ancestors are balanced makes
unfoldable pub remove_present : Tree → ℕ → Make Tree
remove_present leaf k = done leaf
remove_present (node i h w l r) k = do
  apart i
  elim (compare k h) [
    | Ordering.lt ↦ do
      l' ← remove_present l k
      balanced h w l' r
    | Ordering.eq ↦ without_key balanced l r
    | Ordering.gt ↦ do
      r' ← remove_present r k
      balanced h w l r'
  ]

-- an absent key makes nothing
unfoldable pub remove : Tree → ℕ → Make Tree
remove t k = elim (lookup t k) [ none ↦ done t | some w ↦ remove_present t k ]

-- an edit by its kind, as frames and batches name it: 1 puts, 2 removes, 0 changes nothing
unfoldable pub edit_by : (kind k v : ℕ) → Tree → Make Tree
edit_by zero k v t = done t
edit_by (suc zero) k v t = insert t k v
edit_by (suc (suc n)) k v t = remove t k

-- one side's size, not weight, is above 3 times the other's
abbrev pub larger : Tree → Tree → Bool
larger t u = ltb (3 * size u) (size t)

-- the larger side's inner spine is descended; each level on the way back is a balanced make
unfoldable pub join : ℕ → ℕ → Tree → Tree → Make Tree
join k v leaf leaf = balanced k v leaf leaf
join k v leaf (node j h w rl rr) = do
  apart j
  l' ← join k v leaf rl
  balanced h w l' rr
join k v (node i h w ll lr) leaf = do
  apart i
  r' ← join k v lr leaf
  balanced h w ll r'
join k v (node i h w ll lr) (node j g u rl rr) =
    elim (larger (node j g u rl rr) (node i h w ll lr)) [
      | true ↦ do
        apart j
        l' ← join k v (node i h w ll lr) rl
        balanced g u l' rr
      | false ↦ elim (larger (node i h w ll lr) (node j g u rl rr)) [
        | true ↦ do
          apart i
          r' ← join k v lr (node j g u rl rr)
          balanced h w ll r'
        | false ↦ balanced k v (node i h w ll lr) (node j g u rl rr)
      ]
    ]

-- the two sides of a key, and its value
pub record Parts : Type 0 where
  pub left : Tree
  pub found : Option ℕ
  pub right : Tree

-- on an equal key the children; otherwise the side is split and the rest joined
unfoldable pub split : Tree → ℕ → Make Parts
split leaf k = done (record { left = leaf; found = none; right = leaf })
split (node i h w l r) k = do
  apart i
  elim (compare k h) [
    | Ordering.lt ↦ do
      p ← split l k
      t ← join h w p.right r
      done (record { left = p.left; found = p.found; right = t })
    | Ordering.eq ↦ done (record { left = l; found = some w; right = r })
    | Ordering.gt ↦ do
      p ← split r k
      t ← join h w l p.left
      done (record { left = t; found = p.found; right = p.right })
  ]

-- the value of a left key, merged where the right has the key
abbrev pub merged_left : (ℕ → ℕ → ℕ) → ℕ → Option ℕ → ℕ
merged_left merge x none = x
merged_left merge x (some y) = merge x y

-- the value of a right key, merged as (left value, right value)
abbrev pub merged_right : (ℕ → ℕ → ℕ) → Option ℕ → ℕ → ℕ
merged_right merge none y = y
merged_right merge (some x) y = merge x y

-- by the root of the larger, the left on equal sizes; fuel above the two sizes together is enough
unfoldable pub union_by : (ℕ → ℕ → ℕ) → ℕ → Tree → Tree → Make Tree
union_by merge zero l r = done leaf
union_by merge (suc fuel) leaf r = done r
union_by merge (suc fuel) (node i h w ll lr) leaf = done (node i h w ll lr)
union_by merge (suc fuel) (node i h w ll lr) (node j g u rl rr) =
    elim (leb (size (node j g u rl rr)) (size (node i h w ll lr))) [
      | true ↦ do
        apart i
        p ← split (node j g u rl rr) h
        a ← union_by merge fuel ll p.left
        b ← union_by merge fuel lr p.right
        join h (merged_left merge w p.found) a b
      | false ↦ do
        apart j
        p ← split (node i h w ll lr) g
        a ← union_by merge fuel p.left rl
        b ← union_by merge fuel p.right rr
        join g (merged_right merge p.found u) a b
    ]

-- the union of two trees
unfoldable pub union : (ℕ → ℕ → ℕ) → Tree → Tree → Make Tree
union merge l r = union_by merge (suc (size l + size r)) l r

-- the two sides with the root's entry where it stays, else without it
unfoldable pub rest : Tree → ℕ → Option ℕ → Tree → Make Tree
rest a h (some w) b = join h w a b
rest a h none b = without_key join a b

-- the value of a left key, or that it goes
abbrev pub kept : (ℕ → ℕ → Option ℕ) → ℕ → Option ℕ → Option ℕ
kept diff w none = some w
kept diff w (some u) = diff w u

-- by the left root; with cancelling, identical nodes (one number) give an empty result
unfoldable pub difference : (ℕ → ℕ → Option ℕ) → Bool → Tree → Tree → Make Tree
difference diff cancel leaf r = done leaf
difference diff cancel (node i h w ll lr) leaf = done (node i h w ll lr)
difference diff cancel (node i h w ll lr) (node j g u rl rr) =
    elim (cancel && eqb i j) [
      | true ↦ done leaf
      | false ↦ do
        apart i
        p ← split (node j g u rl rr) h
        a ← difference diff cancel ll p.left
        b ← difference diff cancel lr p.right
        rest a h (kept diff w p.found) b
    ]

-- union rules: 0 left, 1 right, 2 smaller, 3 larger, 4 sum
unfoldable pub merge_by : ℕ → ℕ → ℕ → ℕ
merge_by zero x y = x
merge_by (suc zero) x y = y
merge_by (suc (suc zero)) x y = min x y
merge_by (suc (suc (suc zero))) x y = max x y
merge_by (suc (suc (suc (suc n)))) x y = x + y

-- a value, and the value found on the other side if there is one, have a sum of at most 4,294,967,295
abbrev pub sum_fits : ℕ → Option ℕ → Bool
sum_fits x none = true
sum_fits x (some y) = leb (x + y) 4294967295

-- every key that both maps have does
unfoldable pub sums_fit : List Entry → List Entry → Bool
sums_fit [] ys = true
sums_fit (e ∷ es) ys = sum_fits e.1 (find ys e.0) && sums_fit es ys

-- what a union's rule asks of the two maps: rule 4, that every sum fits
unfoldable pub fits : ℕ → List Entry → List Entry → Bool
fits rule xs ys = elim (eqb rule 4) [ true ↦ sums_fit xs ys | false ↦ true ]

-- difference rules for a common key: 0 drop; 1 drop if equal, else left; 2 left; 3 left minus right if larger, else drop
unfoldable pub diff_by : ℕ → ℕ → ℕ → Option ℕ
diff_by zero x y = none
diff_by (suc zero) x y = elim (eqb x y) [ true ↦ none | false ↦ some x ]
diff_by (suc (suc zero)) x y = some x
diff_by (suc (suc (suc n))) x y = elim (ltb y x) [ true ↦ some (x - y) | false ↦ none ]
