-- Each turn passes one run; where none is left there is none behind more of them either.
use native.Mathlib.Omega.{arith}
use Rattle.requests.proofs.Finding.{found, behind_more, behind_none}
use Rattle.requests.proofs.runs.behind.Goals as goal

pub returns-in_default : goal.returns-in_default
returns-in_default c = behind_none c.loop-k.invariant (omega arith) c.in_default.ensures

pub loop-k-preserved : goal.loop-k-preserved
loop-k-preserved c = behind_more c.loop-k.invariant (found c.args.x.now c.loop-k.i _ _ c.in-Some.ensures)
