-- Nothing is made: the empty tree is the outcome.
use mathlib.Core.Path.{refl}
use Prim.Native.Nat.{ℕ}
use mathlib.Core.List.{[]}
use native.Mathlib.Omega.{arith}
use Rattle.model.specs.Tree.{Ordered}
use Rattle.model.specs.Block.{heap}
use Rattle.model.specs.Calls.{clearing}
use Rattle.std.specs.Prelude.{Some}
use Rattle.table.proofs.Admitting.{admission, known_first}
use Rattle.table.proofs.Settling.{Run, settle_asks, settled, done_ended}
use Rattle.table.proofs.Rules.{cleared, no_pieces}
use Rattle.table.proofs.edits.clear.Goals as goal
use Rattle.table.proofs.edits.clear.Goals.{After-makes_from-from}

run : (c : After-makes_from-from)
    → Run c.args.b.now c.args.b.now c.makes_from-from.result (Some 0) (clearing c.args.version)
unfolding Ordered
run c =
    let A = admission c.in_ok-admit.was c.admit.ensures in
    record {
      begun = record { sound = A.sound; versions = A.versions; legal = refl; positive = refl; fits = refl };
      low_is = c.makes_from-from.ensures;
      pieces = [];
      named = no_pieces (heap c.args.b.now);
      out = cleared A.sound;
      ordered = tt;
    }

pub settle-requires : goal.settle-requires
settle-requires c = let R = settle_asks (run (goal.at.settle-requires c).After-makes_from-from) in (R.0, known_first _ (admission c.in_ok-admit.was c.admit.ensures).versions, R.1, R.2, R.3)

pub returns : goal.returns
returns c =
    settled (run (goal.at.returns c).After-makes_from-from) _ c.settle.ensures (done_ended c.settle.result) (λ i. omega (arith, c.slice_known-1.given i)) (λ i. omega (arith, c.type_inv.b i))
