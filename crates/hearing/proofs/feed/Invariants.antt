-- After i bytes their lines have been heard, and what follows the last of them is kept.
use Rattle.std.proofs.Common.{◌≤◌}
use Rattle.hearing.proofs.Feeding.{Feeding}
use Rattle.hearing.specs.Lines.{state}
use Rattle.hearing.proofs.feed.Given as goal

abbrev pub invariant-loop-byte : goal.invariant-loop-byte
invariant-loop-byte l =
    (l.len ≤ 36) × Feeding (state l.fn.b l.fn.x l.fn.progress) l.bytes (record { block = l.b; inbox = l.x; started = l.progress.begun; line = l.progress.line; len = l.len }) l.byte-index
