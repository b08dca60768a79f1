-- The checks come first; then the walk up to its first put, and where it met none the two sizes.
use mathlib.Core.List.{[], ◌∷◌}
use borrow.Author.Tests.{ne_eqb}
use Rattle.std.proofs.lemmas.Result.{err_from_is_err_and}
use Rattle.table.proofs.Admitting.{Admission, admission, known_first, known_second}
use Rattle.table.proofs.Settling.{source_named, read-asks}
use Rattle.lists.proofs.Comparing.{Compared, first_source, second_source, same_deep, same_put, same_sizes}
use Rattle.lists.proofs.same.same.Goals as goal
use Rattle.lists.proofs.same.same.Goals.{After-walk, In_ok-admit}

admitted : (c : In_ok-admit) → let s = c.args in Admission s.b.now (s.from ∷ s.to ∷ [])
admitted c = admission c.in_ok-admit.was c.admit.ensures

compared : (c : After-walk)
    → let s = c.args in Compared s.b.now s.from s.to c.root-x.result c.root-y.result c.walk.result
compared c = record {
  admitted = admission c.in_ok-admit.was c.admit.ensures;
  old = c.root-x.ensures;
  new = c.root-y.ensures;
  answered = c.walk.ensures.value;
}

pub root-x-requires : goal.root-x-requires
root-x-requires c = let A = admitted c in (A.sound.shaped, known_first _ A.versions)

pub root-y-requires : goal.root-y-requires
root-y-requires c = let A = admitted (goal.at.root-y-requires c).In_ok-admit in (A.sound.shaped, known_second _ _ A.versions)

pub walk-requires : goal.walk-requires
walk-requires c =
    let A = admitted (goal.at.walk-requires c).In_ok-admit in
    (A.sound, source_named (second_source A c.root-y.ensures), source_named (first_source A c.root-x.ensures))

pub returns-in_err-puts : goal.returns-in_err-puts
returns-in_err-puts c =
    let p = err_from_is_err_and c.from_residual-in_err-puts.result c.from_residual-in_err-puts.ensures.1 in
    rw (p.1, p.2) (same_deep (compared (goal.at.returns-in_err-puts c).After-walk) c.in_err-puts.was)

pub size_at-requires : goal.size_at-requires
size_at-requires c = read-asks (first_source (admitted (goal.at.size_at-requires c).In_ok-admit) c.root-x.ensures)

pub size_at-requires-then-no_puts : goal.size_at-requires-then-no_puts
size_at-requires-then-no_puts c = read-asks (second_source (admitted (goal.at.size_at-requires-then-no_puts c).In_ok-admit) c.root-y.ensures)

pub returns-then-no_puts : goal.returns-then-no_puts
returns-then-no_puts c =
    same_sizes (compared (goal.at.returns-then-no_puts c).After-walk) c.in_ok-puts.was c.if-no_puts.true c.size_at.ensures c.size_at-then-no_puts.ensures

pub returns-else-no_puts : goal.returns-else-no_puts
returns-else-no_puts c =
    rw (ne_eqb c.in_ok-puts.puts 0 c.if-no_puts.false) (same_put (compared (goal.at.returns-else-no_puts c).After-walk) c.in_ok-puts.was c.if-no_puts.false)
