-- The lowest free node is taken and written, then each child's count raised: what stands in the end is the rule's node over its children's trees. A sum is below 2 ^ 52, as sizes are below 2 ^ 20.
use mathlib.Core.Bool.{true}
use Prim.Native.Nat.{ℕ, ◌+◌}
use Rattle.model.specs.Block.{heap}
use Rattle.model.specs.Heap.{size_at, sum_at, free}
use Rattle.model.proofs.running.Growing.{came_full}
use Rattle.block.proofs.Free.{found_none}
use Rattle.block.proofs.Writes.{Uncounted, fields, took, wrote}
use Rattle.block.proofs.Makes.{Lowest, lowest_found, Making, left_asks, right_asks, makes, makes_low}
use Rattle.block.proofs.make.Goals as goal
use Rattle.block.proofs.make.Goals.{After-turn_bit, After-write, In_ok-n}

-- the node that was found
found : (c : In_ok-n) → Lowest c.args.b.now c.in_ok-n.n
found c = lowest_found c.requires.0.0.running.shaped c.in_ok-n.ensures

-- its bit is set, and its count is still that of a free node
taken : (c : After-turn_bit) → Lowest c.args.b.now c.in_ok-n.n → (xs : ℕ → ℕ) → Uncounted c.args.b.now c.turn_bit.new.b c.in_ok-n.n true xs 0
taken c L xs =
    let F = L.node in
    let blank = c.requires.0.0.running.linked.blank _ F.low F.high F.free in
    took c.in_ok-n.n xs F blank.count c.turn_bit.ensures

-- its words are written
making : (c : After-write) → Lowest c.args.b.now c.in_ok-n.n → ((xs : ℕ → ℕ) → Uncounted c.args.b.now c.turn_bit.new.b c.in_ok-n.n true xs 0)
    → let a = c.args in Making a.b.now c.write.new.b c.in_ok-n.n a.key a.value a.left a.right
making c L bit =
    let a = c.args in
    let h = heap a.b.now in
    let left = c.size_at.ensures in
    let right = c.size_at-2.ensures in
    let value = c.from.ensures in
    let low = c.sum_at.ensures.0 in
    let high = c.sum_at-2.ensures.0 in
    let xs = fields a.key a.value a.left a.right (size_at h a.left + size_at h a.right + 1) (a.value + sum_at h a.left + sum_at h a.right) in
    record {
      running = c.requires.0.0.running;
      lowest = L;
      left = c.requires.0.1;
      right = c.requires.0.2;
      wrote = wrote c.in_ok-n.n a.key a.value a.left a.right _ _ (bit xs) (rw (left, right, value, low, high) at c.write.ensures);
    }

pub returns-in_err-n : goal.returns-in_err-n
returns-in_err-n c =
    rw c.from_residual.ensures (record { named = tt; came = came_full c.requires.0.0.running (found_none (free (heap c.args.b.now)) c.in_err-n.ensures) }, c.requires.1)

pub turn_bit-requires : goal.turn_bit-requires
turn_bit-requires c = let F = (found (goal.at.turn_bit-requires c).In_ok-n).node in (F.shaped, F.low, F.high)

pub write-requires : goal.write-requires
write-requires c =
    let at = goal.at.write-requires c in
    let bit = (taken at.After-turn_bit (found at.In_ok-n) (λ x. x)).0 in
    (bit.shaped, bit.low, bit.high)

pub raise-requires : goal.raise-requires
raise-requires c =
    let at = goal.at.raise-requires c in
    let L = found at.In_ok-n in
    left_asks (making at.After-write L (taken at.After-turn_bit L))

pub raise-requires-2 : goal.raise-requires-2
raise-requires-2 c =
    let at = goal.at.raise-requires-2 c in
    let L = found at.In_ok-n in
    right_asks (making at.After-write L (taken at.After-turn_bit L)) c.raise.ensures

pub returns : goal.returns
returns c =
    let at = goal.at.returns c in
    let L = found at.In_ok-n in
    let M = making at.After-write L (taken at.After-turn_bit L) in
    (makes M c.raise.ensures c.raise-2.ensures, makes_low M c.raise.ensures c.raise-2.ensures)
