-- The test is the fact itself.
use lib.ListN.{length}
use Rattle.model.proofs.maps.Tells.{tells_eqb}
use Rattle.inbox.proofs.shape.Goals as goal

pub returns : goal.returns
returns c = tells_eqb (length c.args.x.now) 130 (λ e. e) (λ e. e)
