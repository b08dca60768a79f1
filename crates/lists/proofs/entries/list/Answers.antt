-- The checks come first, then a walk into words of its own; what fits of them is copied to the output, so a refusal leaves it alone.
use native.Mathlib.Omega.{arith}
use mathlib.Core.Path.{refl, sym}
use mathlib.Core.List.{[], ◌∷◌}
use Prim.Native.Nat.{ℕ, ◌*◌, ◌≤◌}
use lib.ListN.{replicate, length-replicate}
use lib.Seq.{length-take-le}
use Rattle.std.proofs.lemmas.Result.{err_from_is_err_and}
use Rattle.model.proofs.block.Versions.{version_named}
use Rattle.table.proofs.Admitting.{Admission, admission, known_first, known_second}
use Rattle.lists.proofs.Listing.{Walks, from_roots, walked_deep, walked_few, walked_done}
use Rattle.lists.proofs.entries.list.Goals as goal
use Rattle.lists.proofs.entries.list.Goals.{After-shown-written, After-walk, In_ok-admit}

admitted : (c : In_ok-admit) → Admission c.args.b.now (c.args.left ∷ c.args.right ∷ [])
admitted c = admission c.in_ok-admit.was c.admit.ensures

walks : (c : After-walk)
    → let s = c.args in Walks s.b.now s.left s.right s.start (replicate 16384 0) c.walk.new.out c.walk.result
walks c =
    from_roots (admission c.in_ok-admit.was c.admit.ensures) (length-replicate {A = ℕ} 16384 0) c.root-l.ensures c.root-r.ensures c.walk.ensures.value c.walk.ensures.out_after

few : (c : After-shown-written) → c.shown-written.result ≤ 4096
few c =
    let W = from_roots (admission c.in_ok-admit.was c.admit.ensures) (length-replicate {A = ℕ} 16384 0) c.root-l.ensures c.root-r.ensures c.walk.ensures.value c.walk.ensures.out_after in
    omega (arith, (walked_few W _ c.in_ok-total.was).1, c.shown-written.ensures)

pub root-l-requires : goal.root-l-requires
root-l-requires c = let A = admitted c in (A.sound.shaped, known_first _ A.versions)

pub root-r-requires : goal.root-r-requires
root-r-requires c = let A = admitted (goal.at.root-r-requires c).In_ok-admit in (A.sound.shaped, known_second _ _ A.versions)

pub walk-requires : goal.walk-requires
walk-requires c =
    let A = admitted (goal.at.walk-requires c).In_ok-admit in
    (A.sound, version_named A.sound _ _ (known_first _ A.versions) c.root-l.ensures, version_named A.sound _ _ (known_second _ _ A.versions) c.root-r.ensures)

pub returns-in_err-total : goal.returns-in_err-total
returns-in_err-total c =
    let p = err_from_is_err_and c.from_residual-in_err-total.result c.from_residual-in_err-total.ensures.1 in
    rw (p.1, p.2) (walked_deep (walks (goal.at.returns-in_err-total c).After-walk) c.in_err-total.was)

pub overflow_mul-written : goal.overflow_mul-written
overflow_mul-written c = omega (arith, few c)

pub slice_bounds-words-end : goal.slice_bounds-words-end
slice_bounds-words-end c = omega (arith, few (goal.at.slice_bounds-words-end c).After-shown-written, c.walk.auto.out)

pub slice_bounds-copy_from_slice-end-3 : goal.slice_bounds-copy_from_slice-end-3
slice_bounds-copy_from_slice-end-3 c =
    let m = 4 * c.shown-written.result in
    sym (length-take-le m c.walk.new.out (omega (arith, few (goal.at.slice_bounds-copy_from_slice-end-3 c).After-shown-written, c.walk.auto.out)))

pub copy_from_slice-requires : goal.copy_from_slice-requires
copy_from_slice-requires c =
    let m = 4 * c.shown-written.result in
    let all = length-take-le m c.walk.new.out (omega (arith, few (goal.at.copy_from_slice-requires c).After-shown-written, c.walk.auto.out)) in
    let room = length-take-le m c.args.out.now (omega (arith, c.shown-written.ensures)) in
    omega (arith, all, room)

pub returns : goal.returns
returns c =
    rw c.copy_from_slice.ensures.after (walked_done (walks (goal.at.returns c).After-walk) _ c.shown-written.result c.in_ok-total.was c.shown-written.ensures refl)
