-- The node area on its own: a block's words from the first node word.
use Rattle.std.specs.Prelude.{ℕ, zero, suc, ◌+◌, ◌*◌, ◌/◌, not, List, length, get_or, eqb}
use Rattle.model.specs.Tree.{Ordered}
use Rattle.model.specs.Block.{width, two_words}
use Rattle.model.specs.Heap.{Heap, Occupied, tree, Linked}

-- word j of node n of the area a, in which node 1 comes first
abbrev pub area_word : List ℕ → ℕ → ℕ → ℕ
area_word a j zero = 0
area_word a j (suc n) = get_or a (width * n + j) 0

-- The nodes of an area. Occupancy and roots lie outside it, so here the occupied nodes are those with a count, and no root names a node.
abbrev pub area : List ℕ → Heap
area a = record {
  room = length a / width;
  root = λ v. 0;
  occupied = λ n. not (eqb (area_word a 5 n) 0);
  key = area_word a 0;
  value = area_word a 1;
  left = area_word a 2;
  right = area_word a 3;
  size = area_word a 4;
  count = area_word a 5;
  sum = λ n. two_words (area_word a 6 n) (area_word a 7 n);
}

-- what the area can say of itself
pub record AreaOk (h : Heap) : Type 0 where
  pub linked : Linked h
  pub ordered : (n : ℕ) → Occupied h n → Ordered (tree h n)
