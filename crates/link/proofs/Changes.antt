-- The rule of a frame on a version is the edit by the frame's kind of the tree below its root.
use mathlib.Core.Path.{sym, subst}
use Prim.Native.Nat.{ℕ}
use mathlib.Core.List.{List, [], ◌∷◌}
use Rattle.model.specs.Tree.{Tree, Ordered}
use Rattle.model.specs.Supply.{Supply}
use Rattle.model.specs.Rules.{edit_by}
use Rattle.model.specs.Heap.{tree}
use Rattle.model.specs.Block.{heap}
use Rattle.model.specs.Frame as lines
use Rattle.model.specs.Link.{frame_rule}
use Rattle.model.proofs.rules.Orders.{edit_by_ordered}
use Rattle.std.specs.Prelude.{Option}
use Rattle.block.specs.Outcome.{Outcome}
use Rattle.frame.specs.declared.Frame.{Frame}
use Rattle.table.specs.Answers.{Source}
use Rattle.link.specs.Answers.{rule_of}

-- every kind keeps the order of keys
pub rule_ordered : (f : lines.Frame) (t : Tree) (s : Supply) → Ordered t → Ordered (frame_rule f t s).0
unfolding frame_rule
rule_ordered f t s o = edit_by_ordered f.kind f.key f.value t s o

pub rule_made : {b c : List ℕ} {v r : ℕ} {q : Option ℕ} (f : Frame) → Source b v r
    → Outcome b c (r ∷ []) q (edit_by f.kind f.key f.value (tree (heap b) r)) → Outcome b c (r ∷ []) q (rule_of b v f)
unfolding frame_rule
rule_made f S O = rw (← S.is) O
