use mathlib.Core.List.{List, map}
use Rattle.model.specs.Frame.{Frame, line}
use Rattle.lists.specs.Changes.{Gives}
use Rattle.lists.proofs.Laying.{Laid}
use Rattle.lists.proofs.lines.write_lines.Given as goal

-- Each turn writes the next line behind those written, until the room or the lines are used up.
abbrev pub invariant-loop-i : goal.invariant-loop-i
invariant-loop-i g l = (fs : List Frame) → Gives (goal.F-post g l.frame) l.total fs → Laid (map line fs) l.start l.k l.initial.out l.out l.i
