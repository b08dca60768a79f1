-- The inbox is checked first, so a refusal writes nothing; then the runs are counted, and with none the one line is written.
use native.Mathlib.Omega.{arith}
use mathlib.Core.Path.{◌≡◌, refl}
use Rattle.std.proofs.Common.{rules}
use mathlib.Core.List.{[], ◌∷◌}
use Rattle.frame.specs.Fields.{fields_of}
use Rattle.lists.proofs.Asking.{inbox_sound, ask_one, ask_runs}
use Rattle.lists.proofs.ask.ask.Goals as goal

pub returns-then-count-eq0 : goal.returns-then-count-eq0
returns-then-count-eq0 c =
    let wrote = c.write_lines.ensures (fields_of c.alone-only.result ∷ []) (refl, λ i f h p. let z : i ≡ 0 = omega arith in let is : f ≡ c.alone-only.result = search rules in rw (z, is)) in
    ask_one (inbox_sound c.in_ok-check.was c.check.ensures) c.args.start c.run_count-count.ensures c.if-count-eq0.true c.alone-only.ensures wrote

pub returns : goal.returns
returns c = ask_runs (inbox_sound c.in_ok-check.was c.check.ensures) c.args.start c.run_count-count.ensures c.if-count-eq0.false c.write_runs.ensures
