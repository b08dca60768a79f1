-- A ledger's operation is one of the table's own edits or none: what it leaves of a reached block is reached.
use mathlib.Core.Path.{◌≡◌, sym, subst}
use mathlib.Core.List.{List}
use Prim.Native.Nat.{ℕ}
use Rattle.model.specs.Calls.{fails, passes}
use Rattle.model.specs.Reached.{Call, insert, remove, edit_of, Reached, edited}
use Rattle.ledger.specs.Ledger.{Act, Ends, Reserve, Settle}
use Rattle.ledger.specs.Steps.{Operation, top_up, reserve, settle, release, Does}

module _ (s : Act) (R : Reached s.block) where
  -- a refusal leaves the block
  stays : s.block' ≡ s.block → Reached s.block'
  stays e = subst Reached (sym e) R

  -- the table's edit is done or refused: either is a step of the table
  ends : (c : Call) (after : List ℕ) → Ends s (edit_of s.block c) after → Reached s.block'
  ends c after E = edited c R E.1

  reserve_reached : (v call minutes : ℕ) → Reserve s v call minutes → Reached s.block'
  reserve_reached v call minutes (fails p r) = stays r.2
  reserve_reached v call minutes (passes p (fails q r)) = stays r.2
  reserve_reached v call minutes (passes p (passes q (a, L, fails n r))) = stays r.2
  reserve_reached v call minutes (passes p (passes q (a, L, passes n (fails o r)))) = stays r.2
  reserve_reached v call minutes (passes p (passes q (a, L, passes n (passes o (fails f r))))) = stays r.2
  reserve_reached v call minutes (passes p (passes q (a, L, passes n (passes o (passes f E))))) = ends (insert v v call minutes) _ E

  settle_reached : (v call used : ℕ) → Settle s v call used → Reached s.block'
  settle_reached v call used (fails p r) = stays r.2
  settle_reached v call used (passes p (fails q r)) = stays r.2
  settle_reached v call used (passes p (passes q (a, L, fails n r))) = stays r.2
  settle_reached v call used (passes p (passes q (a, L, passes n (fails o r)))) = stays r.2
  settle_reached v call used (passes p (passes q (a, L, passes n (passes o (fails u r))))) = stays r.2
  settle_reached v call used (passes p (passes q (a, L, passes n (passes o (passes u (fails f r)))))) = stays r.2
  settle_reached v call used (passes p (passes q (a, L, passes n (passes o (passes u (passes f E)))))) = ends (remove v v call) _ E

  -- so a ledger's block never meets TOO_DEEP either
  pub operation_reached : (v : ℕ) (o : Operation) → Does s v o → Reached s.block'
  operation_reached v (top_up account minutes) d = stays d.2
  operation_reached v (reserve call minutes) d = reserve_reached v call minutes d
  operation_reached v (settle call used) d = settle_reached v call used d
  operation_reached v (release call) d = settle_reached v call 0 d
