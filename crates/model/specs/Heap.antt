-- Nodes by number, apart from where their words lie in the block.
use Rattle.std.specs.Prelude.{◌≡◌, ℕ, zero, suc, ◌+◌, ◌≤◌, ◌<◌, Bool, true, false, List, [], ◌∷◌, eqb}
use Rattle.model.specs.Tree.{Tree, leaf, node, Ordered}
use Rattle.model.specs.Supply.{Supply, first_of}

-- N, the roots, and the words and an occupancy bit for each node; its two words of the sum are one number
pub record Heap : Type 0 where
  pub room : ℕ
  pub root : ℕ → ℕ
  pub occupied : ℕ → Bool
  pub key : ℕ → ℕ
  pub value : ℕ → ℕ
  pub left : ℕ → ℕ
  pub right : ℕ → ℕ
  pub size : ℕ → ℕ
  pub count : ℕ → ℕ
  pub sum : ℕ → ℕ

-- an occupied node is one of 1 to room
abbrev pub Occupied : Heap → ℕ → Type 0
Occupied h n = h.occupied n ≡ true

-- 0 or an occupied node
abbrev pub Named : Heap → ℕ → Type 0
Named h zero = Unit {0}
Named h (suc n) = Occupied h (suc n)

-- the size that a link stands for
abbrev pub size_at : Heap → ℕ → ℕ
size_at h zero = 0
size_at h (suc n) = h.size (suc n)

-- the sum that a link stands for
abbrev pub sum_at : Heap → ℕ → ℕ
sum_at h zero = 0
sum_at h (suc n) = h.sum (suc n)

-- the tree below n, no deeper than `fuel`
unfoldable pub load : Heap → ℕ → ℕ → Tree
load h zero n = leaf
load h (suc fuel) zero = leaf
load h (suc fuel) (suc n) = node (suc n) (h.key (suc n)) (h.value (suc n)) (load h fuel (h.left (suc n))) (load h fuel (h.right (suc n)))

-- the tree below n
unfoldable pub tree : Heap → ℕ → Tree
tree h n = load h (size_at h n) n

-- the tree of version v
abbrev pub version : Heap → ℕ → Tree
version h v = tree h (h.root v)

-- whether x is n, as a number
unfoldable pub hit : ℕ → ℕ → ℕ
hit x n = elim (eqb x n) [ true ↦ 1 | false ↦ 0 ]

-- how many of f 0, .. f (k - 1) are n
unfoldable pub hits : (ℕ → ℕ) → ℕ → ℕ → ℕ
hits f n zero = 0
hits f n (suc k) = hit (f k) n + hits f n k

-- the number of roots and links that name n
unfoldable pub refs : Heap → ℕ → ℕ
refs h n = hits h.root n 16 + (hits (λ i. h.left (suc i)) n h.room + hits (λ i. h.right (suc i)) n h.room)

-- an unoccupied node is zeros
pub record Blank (h : Heap) (n : ℕ) : Type 0 where
  pub key : h.key n ≡ 0
  pub value : h.value n ≡ 0
  pub left : h.left n ≡ 0
  pub right : h.right n ≡ 0
  pub size : h.size n ≡ 0
  pub count : h.count n ≡ 0
  pub sum : h.sum n ≡ 0

-- what holds at every moment of a call
pub record Linked (h : Heap) : Type 0 where
  pub within : (n : ℕ) → Occupied h n → (1 ≤ n) × (n ≤ h.room)
  pub roots : (v : ℕ) → v < 16 → Named h (h.root v)
  pub lefts : (n : ℕ) → Occupied h n → Named h (h.left n)
  pub rights : (n : ℕ) → Occupied h n → Named h (h.right n)
  pub sizes : (n : ℕ) → Occupied h n → h.size n ≡ suc (size_at h (h.left n) + size_at h (h.right n))
  pub sums : (n : ℕ) → Occupied h n → h.sum n ≡ h.value n + (sum_at h (h.left n) + sum_at h (h.right n))
  pub blank : (n : ℕ) → 1 ≤ n → n ≤ h.room → h.occupied n ≡ false → Blank h n

-- each count is the number of roots and links that name the node, and `extra` besides: references that are about to be given up
abbrev pub Counted : Heap → (ℕ → ℕ) → Type 0
Counted h extra = (n : ℕ) → Occupied h n → h.count n ≡ refs h n + extra n

-- soundness, but for the order of keys
pub record Kept (h : Heap) : Type 0 where
  pub linked : Linked h
  pub counts : (n : ℕ) → Occupied h n → h.count n ≡ refs h n
  pub held : (n : ℕ) → Occupied h n → 1 ≤ h.count n

-- what holds between calls
pub record Sound (h : Heap) : Type 0 where
  pub kept : Kept h
  pub ordered : (n : ℕ) → Occupied h n → Ordered (tree h n)

-- the unoccupied among the numbers n, n + 1, .. (k of them), ascending
unfoldable pub free_from : (ℕ → Bool) → ℕ → ℕ → List ℕ
free_from occupied n zero = []
free_from occupied n (suc k) = elim (occupied n) [ true ↦ free_from occupied (suc n) k | false ↦ n ∷ free_from occupied (suc n) k ]

-- the unoccupied nodes, ascending
abbrev pub free : Heap → List ℕ
free h = free_from h.occupied 1 h.room

-- the lowest unoccupied number, or 0 where there is none
abbrev pub lowest : Heap → ℕ
lowest h = first_of (free h)

-- a call's supply at entry
unfoldable pub supply : Heap → Supply
supply h = record { free = free h; stood = h.occupied; dry = false }
