-- The checks, the request's form, its batch and both walks come first, so a refusal writes nothing; then the chosen lines of the collected changes are written.
use native.Mathlib.Omega.{arith}
use mathlib.Core.Path.{◌≡◌, refl, sym, ◌∙◌}
use mathlib.Core.Bool.{true}
use mathlib.Core.List.{List, [], ◌∷◌}
use Prim.Native.Nat.{◌/◌, ◌≤◌, ◌<◌}
use lib.ListN.{length, get_or}
use Rattle.std.proofs.Common.{rules}
use Rattle.frame.specs.Fields.{fields_of}
use Rattle.std.proofs.lemmas.Result.{err_from_is_err_and}
use Rattle.model.specs.Frame.{Frame}
use Rattle.model.specs.Request.{well_formed, all_of}
use Rattle.table.proofs.Admitting.{Admission, admission, known_first, known_second}
use Rattle.lists.specs.Changes.{at_least_one, frame_in}
use Rattle.lists.proofs.Framing.{one_few}
use Rattle.lists.proofs.Choosing.{chosen_frames, chosen_lines, chosen_long, chosen_at}
use Rattle.lists.proofs.Sending.{Gathered, gathered_few}
use Rattle.lists.proofs.Resending.{Read, unread, is_read, read-holds, Picked, picked, picked_few, picked_below, resend_unread, resend_batch, resend_deep, resend_done}
use Rattle.lists.proofs.resend.resend.Goals as goal
use Rattle.lists.proofs.resend.resend.Goals.{After-choose-total, After-collect, Else-not-of_batch, Else-not-well_formed, In_ok-admit}

admitted : (c : In_ok-admit) → let s = c.args in Admission s.b.now (s.from ∷ s.to ∷ [])
admitted c = admission c.in_ok-admit.was c.admit.ensures

read : (c : Else-not-well_formed) → let q = c.args.request.now in (fs : List Frame) × Read q (length q / 35) fs
read c = is_read _ _ refl (sym c.if-not-well_formed.ensures)

own : (c : Else-not-of_batch) → {fs : List Frame}
    → let s = c.args in Read s.request.now (length s.request.now / 35) fs → all_of s.batch fs ≡ true
own c R = sym (read-holds R (all_of c.args.batch)) ∙ sym c.if-not-of_batch.ensures

gathered : (c : After-collect)
    → let s = c.args in Gathered s.b.now s.from s.to c.collect.new.words c.collect.result
gathered c = record { admitted = admission c.in_ok-admit.was c.admit.ensures; is = c.collect.ensures }

chose : (c : After-choose-total) → {fs : List Frame}
    → let q = c.args.request.now in Read q (length q / 35) fs → Picked fs (at_least_one c.in_ok-changes.changes.count) c.choose-total.result c.choose-total.new.chosen
chose c R = picked R _ _ c.frames.ensures c.choose-total.ensures

pub returns-then-not-well_formed : goal.returns-then-not-well_formed
returns-then-not-well_formed c =
    let a = c.args in
    let none = unread a.request.now (sym c.if-not-well_formed.ensures) in
    resend_unread (record { block = a.b.now; from = a.from; to = a.to; batch = a.batch }) a.request.now a.start (admitted (goal.at.returns-then-not-well_formed c).In_ok-admit) none refl

pub of_batch-requires : goal.of_batch-requires
of_batch-requires c = (read c).1.whole

pub returns-then-not-of_batch : goal.returns-then-not-of_batch
returns-then-not-of_batch c =
    let a = c.args in
    let R = (read (goal.at.returns-then-not-of_batch c).Else-not-well_formed).1 in
    let other = sym (read-holds R (all_of a.batch)) ∙ sym c.if-not-of_batch.ensures in
    resend_batch (record { block = a.b.now; from = a.from; to = a.to; batch = a.batch }) a.request.now a.start (admitted (goal.at.returns-then-not-of_batch c).In_ok-admit) R other refl

pub collect-requires : goal.collect-requires
collect-requires c = let A = admitted (goal.at.collect-requires c).In_ok-admit in (A.sound, known_first _ A.versions, known_second _ _ A.versions, refl)

pub returns-in_err-changes : goal.returns-in_err-changes
returns-in_err-changes c =
    let a = c.args in
    let p = err_from_is_err_and c.from_residual-in_err-changes.result c.from_residual-in_err-changes.ensures.1 in
    let R = (read (goal.at.returns-in_err-changes c).Else-not-well_formed).1 in
    rw (p.1, p.2)
    (resend_deep (record { block = a.b.now; from = a.from; to = a.to; batch = a.batch }) a.request.now a.start (admitted (goal.at.returns-in_err-changes c).In_ok-admit) R (own (goal.at.returns-in_err-changes c).Else-not-of_batch R) (gathered (goal.at.returns-in_err-changes c).After-collect) c.in_err-changes.was refl)

pub choose-total-requires : goal.choose-total-requires
choose-total-requires c =
    let R = (read (goal.at.choose-total-requires c).Else-not-well_formed).1 in
    let few = gathered_few (gathered (goal.at.choose-total-requires c).After-collect) c.in_ok-changes.was in
    (R.whole, omega (arith, c.frames.ensures, one_few _ few), refl, read-holds R well_formed ∙ R.well)

pub write_lines-requires : goal.write_lines-requires
write_lines-requires c =
    let P = chose (goal.at.write_lines-requires c).After-choose-total (read (goal.at.write_lines-requires c).Else-not-well_formed).1 in
    let few = gathered_few (gathered (goal.at.write_lines-requires c).After-collect) c.in_ok-changes.was in
    record { few = omega (arith, picked_few P, one_few _ few); gives = λ i h. let l = picked_below P i h in let m : i < 4096 = omega (arith, picked_few P, one_few _ few) in search rules }

pub returns : goal.returns
returns c =
    let a = c.args in
    let k = c.in_ok-changes.changes in
    let ws = c.collect.new.words in
    let q = c.choose-total.new.chosen in
    let n = c.choose-total.result in
    let R = (read (goal.at.returns c).Else-not-well_formed).1 in
    let P = chose (goal.at.returns c).After-choose-total R in
    let few = gathered_few (gathered (goal.at.returns c).After-collect) c.in_ok-changes.was in
    let fits : n ≤ length q = omega (arith, picked_few P, one_few _ few, c.choose-total.auto.chosen) in
    let wrote = c.write_lines.ensures (chosen_frames a.batch k.puts k.count ws n q) (chosen_long a.batch k.puts k.count ws n q fits, λ i f h p. let is : fields_of f ≡ frame_in a.batch k.puts k.count ws (get_or q i 0) = search rules in is ∙ chosen_at a.batch k.puts k.count ws n q fits i h) in
    resend_done (record { block = a.b.now; from = a.from; to = a.to; batch = a.batch }) a.request.now a.start (admitted (goal.at.returns c).In_ok-admit) R (own (goal.at.returns c).Else-not-of_batch R) (gathered (goal.at.returns c).After-collect) _ c.in_ok-changes.was P (rw chosen_lines at wrote) refl
