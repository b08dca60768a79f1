-- Fewer places are what is below.
use native.Mathlib.Omega.{arith}
use Rattle.walk.proofs.Piles.{piled, pile-drop}
use Rattle.walk.proofs.Cursor.pop.Goals as goal

pub overflow_sub-self : goal.overflow_sub-self
overflow_sub-self c = omega (arith, piled c.self.inside.places c.self.inside.len c.args.self.now c.self.view_is)

pub returns : goal.returns
returns c =
    let p = c.self.inside in
    rw (← c.self.view_is) (pile-drop p.places p.len c.args.count (omega (arith, piled p.places p.len c.args.self.now c.self.view_is)))
