-- The last of the places that are taken is on top.
use Rattle.walk.proofs.Piles.{top_none, top_some}
use Rattle.walk.proofs.Cursor.top.Goals as goal

pub returns-then-self-eq0 : goal.returns-then-self-eq0
returns-then-self-eq0 c = rw (← c.self.view_is) (top_none c.self.inside.places c.self.inside.len c.if-self-eq0.true)

pub returns-else-self-eq0 : goal.returns-else-self-eq0
returns-else-self-eq0 c = rw (← c.self.view_is) (top_some c.self.inside.places c.self.inside.len c.if-self-eq0.false)
