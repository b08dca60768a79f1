-- A sound inbox has heard no more than count, so the difference is exact.
use native.Mathlib.Omega.{arith}
use Rattle.model.specs.Inbox.{missing}
use Rattle.model.proofs.link.Missing.{heard_most}
use Rattle.inbox.proofs.missing.Goals as goal

pub overflow_sub-result : goal.overflow_sub-result
overflow_sub-result c =
    let most = heard_most c.args.x.now c.requires (λ i. omega (arith, c.shared_slice_known-2-1.given i)) in
    omega (arith, most, c.heard_in.ensures)

pub returns : goal.returns
unfolding missing
returns c = rw c.heard_in.ensures
