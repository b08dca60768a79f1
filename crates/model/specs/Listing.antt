-- The listing of one tree against another: 001's loop.
use Rattle.std.specs.Prelude.{◌≡◌, ◌⊎◌, Bool, true, false, ◌||◌, List, [], ◌∷◌, length, eqb, ltb, leb}
use Prim.Native.Nat.{Ordering}
use Prim.Native.Nat.{ℕ, zero, suc, ◌+◌, ◌*◌, ◌<◌, compare}
use Rattle.std.proofs.Math.Option.{Option, none, some}
use Rattle.model.specs.Tree.{Tree, leaf, node, Entry, size, id_of}

-- what is pending on a side: a tree, or an entry whose left child has been shown
pub data Item : Type 0 where
  tree : Tree → Item
  entry : (key value : ℕ) → Item

-- what is pending on both sides, the next item first
pub record Sides : Type 0 where
  pub left : List Item
  pub right : List Item

-- a key of the left side, its value, and the right side's value where the key is common
pub record Row : Type 0 where
  pub key : ℕ
  pub left : ℕ
  pub right : Option ℕ

-- what one turn of the loop does: end, go on, or yield a row
pub data Turn : Type 0 where
  over : Turn
  on : Sides → Turn
  yield : Row → Sides → Turn

-- an empty tree is never pending
abbrev pub pend : Tree → List Item → List Item
pend leaf items = items
pend (node i k v l r) items = tree (node i k v l r) ∷ items

-- opening pushes right child, entry, left child
abbrev pub opened : Tree → List Item → List Item
opened leaf items = items
opened (node i k v l r) items = pend l (entry k v ∷ pend r items)

-- identical trees are both skipped, the left is opened when its size is at least the right's, else the right; an entry facing a tree opens the tree
unfoldable pub turn : List Item → List Item → Turn
turn [] rs = over
turn (tree t ∷ ls) [] = on (record { left = opened t ls; right = [] })
turn (tree t ∷ ls) (entry h w ∷ rs) = on (record { left = opened t ls; right = entry h w ∷ rs })
turn (tree t ∷ ls) (tree u ∷ rs) = elim (eqb (id_of t) (id_of u)) [
  | true ↦ on (record { left = ls; right = rs })
  | false ↦ elim (leb (size u) (size t)) [
    | true ↦ on (record { left = opened t ls; right = tree u ∷ rs })
    | false ↦ on (record { left = tree t ∷ ls; right = opened u rs })
  ]
]
turn (entry k v ∷ ls) [] = yield (record { key = k; left = v; right = none }) (record { left = ls; right = [] })
turn (entry k v ∷ ls) (tree u ∷ rs) = on (record { left = entry k v ∷ ls; right = opened u rs })
turn (entry k v ∷ ls) (entry h w ∷ rs) = elim (compare k h) [
  | Ordering.lt ↦ yield (record { key = k; left = v; right = none }) (record { left = ls; right = entry h w ∷ rs })
  | Ordering.eq ↦ yield (record { key = k; left = v; right = some w }) (record { left = ls; right = rs })
  | Ordering.gt ↦ on (record { left = entry k v ∷ ls; right = rs })
]

-- more than 64 pending items on one side
unfoldable pub too_deep : Sides → Bool
too_deep s = ltb 64 (length s.left) || ltb 64 (length s.right)

-- what a walk yields, and whether it was given up as too deep
pub record Walk : Type 0 where
  pub rows : List Row
  pub deep : Bool

-- the loop, for no more than `fuel` turns
unfoldable pub walk : ℕ → Sides → Walk
walk zero s = record { rows = []; deep = false }
walk (suc fuel) s = elim (turn s.left s.right) [
  | over ↦ record { rows = []; deep = false }
  | on t ↦ elim (too_deep t) [ true ↦ record { rows = []; deep = true } | false ↦ walk fuel t ]
  | yield r t ↦ let w = walk fuel t in record { rows = r ∷ w.rows; deep = w.deep }
]

-- each side starts with its root pending
abbrev pub start : Tree → Tree → Sides
start a b = record { left = pend a []; right = pend b [] }

-- turns enough for every walk
abbrev pub turns : Tree → Tree → ℕ
turns a b = 2 * (size a + size b) + 1

-- the listing of a against b
unfoldable pub listing : Tree → Tree → Walk
listing a b = walk (turns a b) (start a b)

-- a walk that is left at its first row of a kind: that row is the last, and how deep the rest would have been does not count
unfoldable pub until : (Row → Bool) → List Row → Bool → Walk
until kind [] deep = record { rows = []; deep = deep }
until kind (r ∷ rs) deep = elim (kind r) [
  | true ↦ record { rows = r ∷ []; deep = false }
  | false ↦ let w = until kind rs deep in record { rows = r ∷ w.rows; deep = w.deep }
]

-- the sides after one turn; a loop that is over stays as it is
unfoldable pub next_sides : Sides → Sides
next_sides s = elim (turn s.left s.right) [ over ↦ s | on t ↦ t | yield r t ↦ t ]

-- the sides after n turns, with no limit on what is pending
unfoldable pub after : ℕ → Sides → Sides
after zero s = s
after (suc n) s = after n (next_sides s)

-- the rows of n turns, with no limit on what is pending
unfoldable pub rows_in : ℕ → Sides → List Row
rows_in zero s = []
rows_in (suc n) s = elim (turn s.left s.right) [ over ↦ [] | on t ↦ rows_in n t | yield r t ↦ r ∷ rows_in n t ]

-- What is said of a listing.

-- the left entries of rows
unfoldable pub left_entries : List Row → List Entry
left_entries [] = []
left_entries (r ∷ rs) = (r.key, r.left) ∷ left_entries rs

-- x stands in the list
infix 4 ◌∈◌
unfoldable pub ◌∈◌ : {A : Type 0} → A → List A → Type 0
x ∈ [] = ⊥
x ∈ (y ∷ ys) = (x ≡ y) ⊎ (x ∈ ys)

-- keys ascend strictly
unfoldable pub Ascending : {A : Type 0} → (A → ℕ) → List A → Type 0
Ascending key [] = Unit {0}
Ascending {A} key (x ∷ xs) = ((y : A) → y ∈ xs → key x < key y) × Ascending key xs

-- rows of the map A against the map B, strictly ascending: each has A's value and what B holds there; a key of A that has no row has the same value in B
pub record Listed (A B : ℕ → Option ℕ) (rows : List Row) : Type 0 where
  pub ascends : Ascending (λ (r : Row). r.key) rows
  pub right : (r : Row) → r ∈ rows → (A r.key ≡ some r.left) × (B r.key ≡ r.right)
  pub whole : (k v : ℕ) → A k ≡ some v → (B k ≡ some v) ⊎ ((r : Row) × (r ∈ rows) × (r.key ≡ k))

-- the loop of a against b has more than 64 items pending on one side after some turn, and no row up to that turn is of the kind
pub record Overflows (kind : Row → Bool) (a b : Tree) : Type 0 where
  pub turn : ℕ
  pub pending : (64 < length (after turn (start a b)).left) ⊎ (64 < length (after turn (start a b)).right)
  pub before : (r : Row) → r ∈ rows_in turn (start a b) → kind r ≡ false
