-- Outcomes one after another: what a maker's proof is put together from.
use mathlib.Core.Path.{◌≡◌, ap, sym, subst, ◌∙◌}
use Prim.Native.Nat.{ℕ}
use mathlib.Core.Bool.{false}
use mathlib.Core.List.{List, [], ◌∷◌}
use native.Mathlib.Omega.{arith}
use Rattle.model.specs.Tree.{Tree, size}
use Rattle.model.specs.Supply.{Supply, Make, done, ◌>>=◌}
use Rattle.model.specs.Heap.{Named, size_at, tree, free}
use Rattle.model.specs.Block.{heap}
use Rattle.model.specs.Moves.{Running, Among, Covered, Holding}
use Rattle.model.proofs.block.Loads.{tree-size}
use Rattle.model.proofs.rules.Steady.{Onward}
use Rattle.model.proofs.running.Pieces.{holds-less}
use Rattle.model.proofs.running.Growing.{stocked_now, came_bind, came_stop, came_done, came_less}
use Rattle.std.specs.Prelude.{Option, Some, None}
use Rattle.block.specs.Outcome.{tree_at, Outcome}

-- the answer as a match has told it
pub told : {b e ps : List ℕ} {m : Make Tree} (r q : Option ℕ) → r ≡ q → Outcome b e ps r m → Outcome b e ps q m
told {b} {e} {ps} {m} r q p O = subst (λ z. Outcome b e ps z m) p O

-- the second rule takes what the first made, and some of the pieces `rest` that the first left
pub out_bind : (b c e : List ℕ) {ins ins2 tot : List ℕ} (rest : List ℕ) (a : ℕ) (q : Option ℕ) (m : Make Tree) (f : Tree → Make Tree)
    → Among ins rest tot → Covered ins2 (a ∷ []) rest
    → Outcome b c ins (Some a) m → Outcome c e ins2 q (f (tree (heap c) a)) → Outcome b e tot q (m >>= f)
out_bind b c e rest a q m f p r A B = record { named = B.named; came = came_bind b c e rest p r (tree (heap c) a) (tree_at (heap e) q) m f A.came B.came }

pub out_stop : (b e : List ℕ) {ins tot : List ℕ} (m : Make Tree) (f : Tree → Make Tree) → Among ins [] tot → Outcome b e ins None m
    → ((x : Tree) → Onward (f x)) → Outcome b e tot None (m >>= f)
out_stop b e m f p A o = record { named = tt; came = came_stop b e p m f A.came o }

pub out_done : (b : List ℕ) {ps : List ℕ} (n : ℕ) → Among (n ∷ []) [] ps → Running b → Named (heap b) n → Outcome b b ps (Some n) (done (tree (heap b) n))
out_done b n p R o = record { named = o; came = came_done b p (tree (heap b) n) R }

-- more pieces than the rule takes
pub out_less : {b e ps qs : List ℕ} {q : Option ℕ} {m : Make Tree} → Among ps [] qs → Outcome b e ps q m → Outcome b e qs q m
out_less p O = record { named = O.named; came = came_less p O.came }

-- a supply for what the call holds
abbrev pub stock : {b ps : List ℕ} → Holding b ps → Supply
stock {b} H = record { free = free (heap b); stood = H.entry.occupied; dry = false }

-- the tree of what was made
pub out_tree : (b e : List ℕ) {ps qs : List ℕ} (a : ℕ) (m : Make Tree) (H : Holding b qs) → Among ps [] qs → Outcome b e ps (Some a) m
    → tree (heap e) a ≡ (m (stock H)).0
out_tree b e a m H p O = sym (O.came.gives H.entry (λ n. 0) (holds-less (λ n i. omega (arith, p n i)) H.holds) (stock H) (stocked_now H)).0

-- and its size
pub out_size : (b e : List ℕ) {ps qs : List ℕ} (a : ℕ) (m : Make Tree) (H : Holding b qs) → Among ps [] qs → Outcome b e ps (Some a) m
    → size_at (heap e) a ≡ size (m (stock H)).0
out_size b e a m H p O = sym (tree-size (heap e) O.came.running.linked a O.named) ∙ ap size (out_tree b e a m H p O)
