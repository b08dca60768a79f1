-- The checks and both walks come first, so a refusal writes nothing; then the lines of the collected changes are written.
use native.Mathlib.Omega.{arith}
use Prim.Native.Nat.{◌<◌}
use Rattle.std.proofs.Common.{rules}
use Rattle.frame.specs.Fields.{fields_of}
use Rattle.lists.specs.Changes.{at_least_one, frame_in}
use mathlib.Core.Path.{◌≡◌, refl, sym, ◌∙◌}
use Rattle.table.proofs.Admitting.{admission, known_first, known_second}
use Rattle.lists.proofs.Framing.{one_few, frames_long, frame_in_lem}
use Rattle.lists.proofs.Sending.{Gathered, gathered_few, gathered_done}
use Rattle.lists.proofs.lines.frames.Goals as goal
use Rattle.lists.proofs.lines.frames.Goals.{After-collect}

gathered : (c : After-collect)
    → let s = c.args in Gathered s.b.now s.from s.to c.collect.new.words c.collect.result
gathered c = record { admitted = admission c.in_ok-admit.was c.admit.ensures; is = c.collect.ensures }

pub collect-requires : goal.collect-requires
collect-requires c = let A = admission c.in_ok-admit.was c.admit.ensures in (A.sound, known_first _ A.versions, known_second _ _ A.versions, refl)

pub write_lines-requires : goal.write_lines-requires
write_lines-requires c =
    let few = gathered_few (gathered (goal.at.write_lines-requires c).After-collect) c.in_ok-changes.was in
    record { few = omega (arith, c.frames-total.ensures, one_few _ few); gives = λ i h. let l : i < at_least_one c.in_ok-changes.changes.count = omega (arith, c.frames-total.ensures) in search rules }

pub returns : goal.returns
returns c =
    let k = c.in_ok-changes.changes in
    let ws = c.collect.new.words in
    let wrote = c.write_lines.ensures _ (frames_long c.args.batch k.puts ws k.count ∙ sym c.frames-total.ensures, λ i f h p. let is : fields_of f ≡ frame_in c.args.batch k.puts k.count ws i = search rules in is ∙ sym (frame_in_lem c.args.batch k.puts ws k.count i (omega (arith, c.frames-total.ensures)))) in
    gathered_done (gathered (goal.at.returns c).After-collect) c.args.start c.args.batch c.write_lines.result c.in_ok-changes.was wrote c.frames-total.ensures
