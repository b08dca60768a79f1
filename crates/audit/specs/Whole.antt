-- What the rest of the block adds to its node area.
use Rattle.std.specs.Prelude.{◌≡◌, ℕ, ◌+◌, ◌*◌, ◌/◌, ◌%◌, ◌≤◌, ◌<◌, Bool, true, false, List, length, get_or, drop}
use Rattle.model.specs.Heap.{Heap, hits}
use Rattle.model.specs.Block.{word, room, width, node_word, occupied_at, Shaped}
use Rattle.model.specs.Tells.{Each}
use Rattle.area.specs.Area.{area_word, area}
use Rattle.area.specs.Notes.{Fair, note, Upto, Heads}

-- the words of a block from its first node word
abbrev pub nodes_of : List ℕ → List ℕ
nodes_of b = drop (17 + room b / 32) b

-- a heap with its nodes 1 to n
abbrev pub up_to : Heap → ℕ → Heap
up_to h n = record {
  room = n;
  root = h.root;
  occupied = h.occupied;
  key = h.key;
  value = h.value;
  left = h.left;
  right = h.right;
  size = h.size;
  count = h.count;
  sum = h.sum;
}

-- a is the node area of the block b up to node n, and beyond there is nothing
pub record Cut (b a : List ℕ) (n : ℕ) : Type 0 where
  pub shaped : Shaped b
  pub within : n ≤ room b
  pub whole : n % 32 ≡ 0
  pub long : length a ≡ width * n
  pub words : (j i : ℕ) → node_word b j i ≡ area_word a j i
  pub free : (i : ℕ) → n < i → occupied_at b i ≡ false

-- node n, whose occupancy bit says o, is fair if it is occupied, and zeros if not
pub record MarkOk (a : List ℕ) (o : Bool) (n : ℕ) : Type 0 where
  pub fair : o ≡ true → Fair (area a) n
  pub zeros : o ≡ false → (j : ℕ) → j < width → area_word a j n ≡ 0

-- so it is at each of the nodes k + 1 to n of the block
abbrev pub MarksOk : List ℕ → List ℕ → ℕ → ℕ → Type 0
MarksOk b a k n = Each k n (λ i. MarkOk a (occupied_at b i) i)

-- the first k roots are at most n, and t has a reference for each of them that names a node
pub record RootsOk (b : List ℕ) (n : ℕ) (t : List ℕ) (k : ℕ) : Type 0 where
  pub within : (v : ℕ) → v < k → word b (1 + v) ≤ n
  pub fits : (y : ℕ) → 1 ≤ y → hits (λ v. word b (1 + v)) y k ≤ get_or t y 0

-- u has those references less
abbrev pub RootsTaken : List ℕ → List ℕ → List ℕ → ℕ → Type 0
RootsTaken b t u k = (y : ℕ) → 1 ≤ y → get_or u y 0 + hits (λ v. word b (1 + v)) y k ≡ get_or t y 0

-- after the first pass and the roots: every node is fair or zeros and noted, and in t its count is less by the roots that name it
pub record Begun (b a : List ℕ) (n : ℕ) (lo sn hd t : List ℕ) : Type 0 where
  pub marks : MarksOk b a 0 n
  pub keys : Upto lo (area_word a 0) n
  pub notes : Upto sn (note (area_word a 4)) n
  pub heads : Heads a hd n
  pub left : (y : ℕ) → 1 ≤ y → get_or t y 0 + hits (λ v. word b (1 + v)) y 16 ≡ area_word a 5 y
