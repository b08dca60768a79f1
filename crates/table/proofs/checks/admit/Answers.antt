-- The block's check decides the first two, and the test of the versions the third.
use Rattle.table.proofs.Admitting.{checked, versions_known, version_unknown}
use Rattle.table.proofs.checks.admit.Goals as goal

pub returns-then-not-known : goal.returns-then-not-known
returns-then-not-known c = version_unknown _ (checked c.in_ok-check.was c.check.ensures) c.known.ensures c.if-not-known.true

pub returns : goal.returns
returns c = versions_known _ (checked c.in_ok-check.was c.check.ensures) c.known.ensures c.if-not-known.false
