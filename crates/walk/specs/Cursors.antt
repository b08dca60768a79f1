-- What is pending on a side of the walk, and what one turn does.
use Prim.Native.Nat.{Ordering}
use Prim.Native.Nat.{ℕ, zero, suc, ◌<◌, ◌≤◌, compare}
use Rattle.std.specs.Prelude.{◌≡◌, true, false, List, [], ◌∷◌, length, drop, get_or, eqb, leb, Option, Some, None, Result, Ok, Err}
use Rattle.answers.specs.declared.Refusal.{Refusal}
use Rattle.answers.specs.declared.Refusal.TheVariants.{TooDeep}
use Rattle.model.specs.Heap.{Heap, Occupied, size_at, tree}
use Rattle.model.specs.Listing.{Item}
use Rattle.model.specs.Listing as listing
use Rattle.walk.specs.declared.Pending.{Pending}
use Rattle.walk.specs.declared.Pending.TheVariants.{Tree, Entry}
use Rattle.walk.specs.declared.Yield.{Yield}
use Rattle.walk.specs.declared.Act.{Act}
use Rattle.walk.specs.declared.Act.TheVariants.{Left, Right, Drop, Give}

-- the place past the end of a list
abbrev pub nowhere : Pending
nowhere = Tree 0

-- the first n places, the last of them first
unfoldable pub pile : List Pending → ℕ → List Pending
pile xs zero = []
pile xs (suc n) = get_or xs n nowhere ∷ pile xs n

abbrev pub top : List Pending → Option Pending
top [] = None
top (p ∷ s) = Some p

abbrev pub item : Heap → Pending → Item
item h (Tree n) = listing.tree (tree h n)
item h (Entry k v) = listing.entry k v

-- a side of the listing
unfoldable pub items : Heap → List Pending → List Item
items h [] = []
items h (p ∷ s) = item h p ∷ items h s

-- a pending tree is an occupied node
abbrev pub Standing : Heap → Pending → Type 0
Standing h (Tree n) = Occupied h n
Standing h (Entry k v) = Unit {0}

unfoldable pub AllStanding : Heap → List Pending → Type 0
AllStanding h [] = Unit {0}
AllStanding h (p ∷ s) = Standing h p × AllStanding h s

abbrev pub TopStanding : Heap → Option Pending → Type 0
TopStanding h None = Unit {0}
TopStanding h (Some p) = Standing h p

-- a link pushed: nothing for 0
abbrev pub kid : ℕ → List Pending → List Pending
kid zero s = s
kid (suc n) s = Tree (suc n) ∷ s

-- a side at the start
abbrev pub begun : ℕ → List Pending
begun n = kid n []

-- node m opened onto s
abbrev pub opened_on : Heap → ℕ → List Pending → List Pending
opened_on h m s = kid (h.left m) (Entry (h.key m) (h.value m) ∷ kid (h.right m) s)

-- node m opened in place of the top of s, if 64 places hold what is pending then
abbrev pub Opens : {A : Type 0} → Heap → ℕ → (s : List Pending) → Result A Refusal → (t : List Pending) → Type 0
Opens h m s (Ok u) t = (t ≡ opened_on h m (drop 1 s)) × (length (opened_on h m (drop 1 s)) ≤ 64)
Opens h m s (Err r) t = (r ≡ TooDeep) × (64 < length (opened_on h m (drop 1 s)))

unfoldable pub trees : Heap → ℕ → ℕ → Act
trees h x y = elim (eqb x y) [ true ↦ Drop 1 | false ↦ elim (leb (size_at h y) (size_at h x)) [ true ↦ Left x | false ↦ Right y ] ]

-- a key of the left side alone with its value
abbrev pub only : ℕ → ℕ → Yield
only k v = record { key = k; left = v; right = None }

-- a common key with both values
abbrev pub common : ℕ → ℕ → ℕ → Yield
common k v u = record { key = k; left = v; right = Some u }

unfoldable pub entries : ℕ → ℕ → ℕ → ℕ → Act
entries k v j u = elim (compare k j) [ Ordering.lt ↦ Give (only k v) | Ordering.eq ↦ Give (common k v u) | Ordering.gt ↦ Drop 0 ]

-- a on top of the left and z on top of the right
abbrev pub both_of : Heap → Pending → Pending → Act
both_of h (Tree x) (Tree y) = trees h x y
both_of h (Tree x) (Entry j u) = Left x
both_of h (Entry k v) (Tree y) = Right y
both_of h (Entry k v) (Entry j u) = entries k v j u

-- nothing on the right
abbrev pub alone_of : Pending → Act
alone_of (Tree x) = Left x
alone_of (Entry k v) = Give (only k v)

abbrev pub act_of : Heap → Pending → Option Pending → Act
act_of h a None = alone_of a
act_of h a (Some z) = both_of h a z

-- how many items a yield takes off the right
abbrev pub pops_of : Yield → ℕ
pops_of y = elim y.right [ None ↦ 0 | Some u ↦ 1 ]
