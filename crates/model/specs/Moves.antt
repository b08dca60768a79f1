-- How one step of a call changes a heap: what the contracts of the inner functions say.
use Rattle.std.specs.Prelude.{◌≡◌, ◌≢◌, ℕ, zero, suc, ◌+◌, ◌≤◌, ◌<◌, Bool, true, false, List, [], ◌∷◌}
use Rattle.std.proofs.Math.Option.{Option, none, some}
use Rattle.model.specs.Supply.{Supply, Make, apart, short}
use Rattle.model.specs.Block.{heap, word, room, width, node_word, occupied_at, Shaped}
use Rattle.model.specs.Heap.{Heap, Occupied, Named, size_at, sum_at, tree, version, hit, refs, Linked, Blank, Counted, Kept, free}

-- One node, one root, one count.

-- g is h but for node n and for counts
pub record Except (h g : Heap) (n : ℕ) : Type 0 where
  pub room : g.room ≡ h.room
  pub root : (v : ℕ) → v < 16 → g.root v ≡ h.root v
  pub occupied : (m : ℕ) → m ≢ n → g.occupied m ≡ h.occupied m
  pub key : (m : ℕ) → m ≢ n → g.key m ≡ h.key m
  pub value : (m : ℕ) → m ≢ n → g.value m ≡ h.value m
  pub left : (m : ℕ) → m ≢ n → g.left m ≡ h.left m
  pub right : (m : ℕ) → m ≢ n → g.right m ≡ h.right m
  pub size : (m : ℕ) → m ≢ n → g.size m ≡ h.size m
  pub sum : (m : ℕ) → m ≢ n → g.sum m ≡ h.sum m

-- node n was free and is a node over l and r now; nothing names it, and l and r have a reference more
pub record Made (h g : Heap) (n l r : ℕ) : Type 0 where
  pub free : h.occupied n ≡ false
  pub low : 1 ≤ n
  pub high : n ≤ h.room
  pub except : Except h g n
  pub occupied : Occupied g n
  pub left : g.left n ≡ l
  pub right : g.right n ≡ r
  pub size : g.size n ≡ suc (size_at h l + size_at h r)
  pub sum : g.sum n ≡ g.value n + (sum_at h l + sum_at h r)
  pub count : g.count n ≡ 0
  pub counts : (m : ℕ) → Occupied h m → g.count m ≡ h.count m + (hit l m + hit r m)
  pub blanks : (m : ℕ) → h.occupied m ≡ false → m ≢ n → g.count m ≡ h.count m

-- node n was occupied and is unoccupied now, zeros
pub record Emptied (h g : Heap) (n : ℕ) : Type 0 where
  pub was : Occupied h n
  pub except : Except h g n
  pub free : g.occupied n ≡ false
  pub blank : Blank g n
  pub counts : (m : ℕ) → m ≢ n → g.count m ≡ h.count m

-- node n, which nothing named, is unoccupied now, and its children have a reference fewer
pub record Opened (h g : Heap) (n : ℕ) : Type 0 where
  pub was : Occupied h n
  pub except : Except h g n
  pub free : g.occupied n ≡ false
  pub left : g.left n ≡ 0
  pub right : g.right n ≡ 0
  pub trees : (m : ℕ) → m ≢ n → Named h m → tree g m ≡ tree h m

-- g is h but for roots and counts
pub record Same (h g : Heap) : Type 0 where
  pub room : g.room ≡ h.room
  pub occupied : (m : ℕ) → g.occupied m ≡ h.occupied m
  pub key : (m : ℕ) → g.key m ≡ h.key m
  pub value : (m : ℕ) → g.value m ≡ h.value m
  pub left : (m : ℕ) → g.left m ≡ h.left m
  pub right : (m : ℕ) → g.right m ≡ h.right m
  pub size : (m : ℕ) → g.size m ≡ h.size m
  pub sum : (m : ℕ) → g.sum m ≡ h.sum m

-- the root of version v is n now
pub record Rooted (h g : Heap) (v n : ℕ) : Type 0 where
  pub same : Same h g
  pub there : v < 16
  pub here : g.root v ≡ n
  pub others : (w : ℕ) → w < 16 → w ≢ v → g.root w ≡ h.root w
  pub counts : (m : ℕ) → g.count m ≡ h.count m

-- one reference more to n, or none where n is 0
pub record Raised (h g : Heap) (n : ℕ) : Type 0 where
  pub same : Same h g
  pub root : (v : ℕ) → v < 16 → g.root v ≡ h.root v
  pub none : g.count 0 ≡ h.count 0
  pub counts : (m : ℕ) → 1 ≤ m → g.count m ≡ h.count m + hit n m

-- one reference fewer to n
pub record Lowered (h g : Heap) (n : ℕ) : Type 0 where
  pub same : Same h g
  pub root : (v : ℕ) → v < 16 → g.root v ≡ h.root v
  pub was : Occupied h n
  pub here : h.count n ≡ g.count n + 1
  pub others : (m : ℕ) → m ≢ n → g.count m ≡ h.count m

-- one reference fewer to n, or none where n is 0; nothing goes with it
pub record Unlinked (h g : Heap) (n : ℕ) : Type 0 where
  pub same : Same h g
  pub root : (v : ℕ) → v < 16 → g.root v ≡ h.root v
  pub linked : Linked g
  pub trees : (m : ℕ) → Named h m → tree g m ≡ tree h m
  pub counts : (extra : ℕ → ℕ) → Counted h (λ x. extra x + hit n x) → Counted g extra

-- node n of b has its bit set or cleared in e, and its first j words are those of xs
pub record Writing (b e : List ℕ) (n : ℕ) (taken : Bool) (xs : ℕ → ℕ) (j : ℕ) : Type 0 where
  pub shaped : Shaped e
  pub low : 1 ≤ n
  pub high : n ≤ room e
  pub room_kept : room e ≡ room b
  pub root : (v : ℕ) → v < 16 → word e (1 + v) ≡ word b (1 + v)
  pub occupied : (m : ℕ) → m ≢ n → occupied_at e m ≡ occupied_at b m
  pub bit : occupied_at e n ≡ taken
  pub words : (i m : ℕ) → i < width → m ≢ n → node_word e i m ≡ node_word b i m
  pub here : (i : ℕ) → i < j → node_word e i n ≡ xs i

-- Giving up.

-- references were given up: what is left stands as it stood, and has a reference if it had one
pub record Gave (h g : Heap) : Type 0 where
  pub linked : Linked g
  pub room : g.room ≡ h.room
  pub root : (v : ℕ) → v < 16 → g.root v ≡ h.root v
  pub fewer : (m : ℕ) → Occupied g m → Occupied h m
  pub trees : (m : ℕ) → Named g m → tree g m ≡ tree h m
  pub positive : (m : ℕ) → Occupied g m → 1 ≤ h.count m → 1 ≤ g.count m

-- one reference to n is owed beyond the roots and links
pub record Owed (h : Heap) (n : ℕ) : Type 0 where
  pub named : Named h n
  pub extra : ℕ → ℕ
  pub counts : Counted h (λ x. extra x + hit n x)

-- it has been given up: whatever else was owed still is, and what is owed stands
pub record Paid (h g : Heap) (n : ℕ) : Type 0 where
  pub gave : Gave h g
  pub counts : (extra : ℕ → ℕ) → Counted h (λ x. extra x + hit n x) → Counted g extra
  pub stays : (extra : ℕ → ℕ) → Counted h (λ x. extra x + hit n x) → (x : ℕ) → Occupied h x → 1 ≤ extra x → Occupied g x

-- nothing names n: its room is given up, and with it a reference to each child
pub record Freed (h g : Heap) (n : ℕ) : Type 0 where
  pub free : ¬ Occupied g n
  pub gave : Gave h g
  pub counts : (extra : ℕ → ℕ) → Counted h extra → Counted g extra
  pub stays : (extra : ℕ → ℕ) → Counted h extra → (x : ℕ) → Occupied h x → 1 ≤ extra x → Occupied g x

-- a node whose last reference is gone
pub record Unnamed (h : Heap) (n : ℕ) : Type 0 where
  pub was : Occupied h n
  pub zero : h.count n ≡ 0
  pub extra : ℕ → ℕ
  pub counts : Counted h extra

-- The running call.

-- what holds of a block while a call makes nodes
pub record Running (b : List ℕ) : Type 0 where
  pub shaped : Shaped b
  pub linked : Linked (heap b)
  pub counts : Counted (heap b) (λ x. 0)

-- The call's pieces: links in its hands. What it made it uses once; what stood at entry stays as it is.

-- how often n is among the pieces
unfoldable pub held : List ℕ → ℕ → ℕ
held [] n = 0
held (p ∷ ps) n = hit p n + held ps n

-- the pieces ps, and beside them the pieces rest, are among tot; a link of 0 is no piece
abbrev pub Among : (ps rest tot : List ℕ) → Type 0
Among ps rest tot = (n : ℕ) → 1 ≤ n → held ps n + held rest n ≤ held tot n

-- the pieces ps are among qs and rest
abbrev pub Covered : (ps qs rest : List ℕ) → Type 0
Covered ps qs rest = (n : ℕ) → 1 ≤ n → held ps n ≤ held qs n + held rest n

-- all that stood in a stands in h as it stood, but for counts
pub record Over (a h : Heap) : Type 0 where
  pub room : h.room ≡ a.room
  pub root : (v : ℕ) → v < 16 → h.root v ≡ a.root v
  pub occupied : (m : ℕ) → Occupied a m → Occupied h m
  pub key : (m : ℕ) → Occupied a m → h.key m ≡ a.key m
  pub value : (m : ℕ) → Occupied a m → h.value m ≡ a.value m
  pub left : (m : ℕ) → Occupied a m → h.left m ≡ a.left m
  pub right : (m : ℕ) → Occupied a m → h.right m ≡ a.right m
  pub size : (m : ℕ) → Occupied a m → h.size m ≡ a.size m

-- a call that began at a has come to h with the pieces ps, and `own n` times n besides: a node that it made is a piece once or has one link to it, not both
pub record Holds (a h : Heap) (ps : List ℕ) (own : ℕ → ℕ) : Type 0 where
  pub entry : Kept a
  pub over : Over a h
  pub named : (n : ℕ) → 1 ≤ n → 1 ≤ held ps n + own n → Occupied h n
  pub once : (n : ℕ) → 1 ≤ n → Occupied h n → a.occupied n ≡ false → held ps n + own n + refs h n ≤ 1

-- what a maker asks of the block and of its pieces
pub record Holding (b ps : List ℕ) : Type 0 where
  pub running : Running b
  pub entry : Heap
  pub holds : Holds entry (heap b) ps (λ n. 0)

-- the supply of a call that began at a has not fallen short, and it has the free numbers of h
pub record Stocked (a h : Heap) (s : Supply) : Type 0 where
  pub free : s.free ≡ free h
  pub stood : (n : ℕ) → s.stood n ≡ a.occupied n
  pub enough : short s ≡ false

-- what a rule gave is x, with a supply for g; where x is none, the supply ran short
abbrev pub Gives : {X : Type 0} → (a g : Heap) → Option X → X × Supply → Type 0
Gives a g (some x) r = (r.0 ≡ x) × Stocked a g r.1
Gives a g none r = short r.1 ≡ true

-- from h to g the call has turned some pieces into `outs`: its other pieces, `own`, are still there, and stand as they stood
pub record Turned (a h g : Heap) (outs : List ℕ) (own : ℕ → ℕ) : Type 0 where
  pub holds : Holds a g outs own
  pub trees : (m : ℕ) → 1 ≤ m → 1 ≤ own m → tree g m ≡ tree h m

-- the call has come from b to e as the rule m does, wherever it began and whatever else it holds: of the pieces `ins` it made the pieces `outs`;
-- x is what m gives, or a make of m finds no free node
pub record Came (X : Type 0) (b e ins outs : List ℕ) (x : Option X) (m : Make X) : Type 0 where
  pub running : Running e
  pub turned : (a : Heap) (own : ℕ → ℕ) → Holds a (heap b) ins own → Turned a (heap b) (heap e) outs own
  pub gives : (a : Heap) (own : ℕ → ℕ) → Holds a (heap b) ins own → (s : Supply) → Stocked a (heap b) s → Gives a (heap e) x (m s)

-- what was read below n is as it was
pub record Still (b e : List ℕ) (n : ℕ) : Type 0 where
  pub named : Named (heap e) n
  pub tree : tree (heap e) n ≡ tree (heap b) n
  pub size : size_at (heap e) n ≡ size_at (heap b) n

-- node n was taken apart: the call has its children in the place of it
pub record Apart (b e : List ℕ) (n : ℕ) : Type 0 where
  pub left : Still b e ((heap b).left n)
  pub right : Still b e ((heap b).right n)
  pub came : Came (Unit {0}) b e (n ∷ []) ((heap b).left n ∷ (heap b).right n ∷ []) (some tt) (apart n)

-- The end of a call.

-- all nodes below n are occupied: a make takes n or a higher number
abbrev pub FullBelow : Heap → ℕ → Type 0
FullBelow h n = (m : ℕ) → 1 ≤ m → m < n → Occupied h m

-- each occupied node below n has a reference
abbrev pub HeldBelow : Heap → ℕ → Type 0
HeldBelow h n = (m : ℕ) → m < n → Occupied h m → 1 ≤ h.count m

-- the nodes below n that nothing names are emptied: what is left has a reference
pub record Tidied (b e : List ℕ) (n : ℕ) : Type 0 where
  pub running : Running e
  pub gave : Gave (heap b) (heap e)
  pub held : HeldBelow (heap e) n

-- all nodes that nothing names are emptied
pub record Swept (b e : List ℕ) : Type 0 where
  pub shaped : Shaped e
  pub gave : Gave (heap b) (heap e)
  pub kept : Kept (heap e)

-- the tree below n is version dst now, and what was made and is not used is given up
pub record Finished (b e : List ℕ) (dst n : ℕ) : Type 0 where
  pub shaped : Shaped e
  pub kept : Kept (heap e)
  pub room_kept : room e ≡ room b
  pub here : version (heap e) dst ≡ tree (heap b) n
  pub others : (v : ℕ) → v < 16 → v ≢ dst → version (heap e) v ≡ version (heap b) v
