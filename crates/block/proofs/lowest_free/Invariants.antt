use mathlib.Core.Path.{◌≡◌}
use Prim.Native.Nat.{suc, ◌-◌, ◌*◌}
use Rattle.model.specs.Block.{room, occupied_at}
use Rattle.model.specs.Heap.{free_from}
use Rattle.block.proofs.lowest_free.Given as goal

-- Words whose nodes are all occupied are passed over; in the first other word the lowest bit that is 0 is the node.
abbrev pub invariant-loop-w : goal.invariant-loop-w
invariant-loop-w l = free_from (occupied_at l.b) (suc (32 * l.w)) (room l.b - 32 * l.w) ≡ free_from (occupied_at l.b) 1 (room l.b)
