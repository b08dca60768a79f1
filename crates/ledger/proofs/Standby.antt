-- A standby that has heard a whole batch has the same open reservations of every account, and the ledger may go on there.
use mathlib.Core.Path.{◌≡◌, ap, sym, ◌∙◌}
use Prim.Native.Nat.{ℕ}
use mathlib.Core.List.{List}
use Rattle.model.specs.Tree.{Tree, entries}
use Rattle.model.specs.Heap.{version}
use Rattle.model.specs.Block.{heap}
use Rattle.model.specs.Inbox.{begun, Complete}
use Rattle.model.specs.Replica.{Elsewhere, Hearing, Replicated}
use Rattle.ledger.specs.Ledger.{reserved}
use Rattle.ledger.specs.Steps.{Steps, beside}

pub standby_reserves : (A B : Tree) (batch v : ℕ) {b : List ℕ} {lines : List (List ℕ)} {c y : List ℕ} (run : Hearing (Elsewhere v) v b (begun batch) lines c y)
    → Replicated A B batch v run → Complete y
    → (a : ℕ) → reserved a (entries (version (heap c) v)) ≡ reserved a (entries B)
standby_reserves A B batch v run R C a = ap (reserved a) (R.equal C)

-- to go on with the ledger at the standby is a step beside: all minutes are still kept
pub failover : (A B : Tree) (batch v : ℕ) {b : List ℕ} {lines : List (List ℕ)} {c y : List ℕ} (run : Hearing (Elsewhere v) v b (begun batch) lines c y)
    → Replicated A B batch v run → Complete y
    → {l p l' b' : List ℕ} → entries (version (heap p) v) ≡ entries B → Steps v l c l' b' → Steps v l p l' b'
failover A B batch v run R C e later = beside R.sound_block (R.equal C ∙ sym e) later
