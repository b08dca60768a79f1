-- A restore from its checks to its end.
use mathlib.Core.Path.{◌≡◌, refl, sym, ◌∙◌}
use Prim.Native.Nat.{ℕ, ◌≤◌, ◌<◌}
use mathlib.Core.Bool.{true≢false}
use mathlib.Core.List.{List, [], ◌∷◌}
use lib.ListN.{length}
use native.Mathlib.Omega.{arith}
use Rattle.model.specs.Heap.{supply}
use Rattle.model.specs.Block.{heap, SoundBlock}
use Rattle.model.specs.Moves.{Holding, FullBelow}
use Rattle.model.specs.Numbers.{NO_ROOM}
use Rattle.model.specs.Calls.{fails, passes, Ending}
use Rattle.model.specs.Text.{entries_of}
use Rattle.model.specs.Restore.{Faultless, restored, Restore}
use Rattle.model.proofs.calls.Checks.{check_map}
use Rattle.model.proofs.running.Pieces.{AllNamed}
use Rattle.model.proofs.calls.Builds.{built_ordered}
use Rattle.model.proofs.calls.Restores.{faultless_count, faultless_sorted, too_many}
use Rattle.std.specs.Prelude.{Option, Result, Ok, Err, IsErrAnd}
use Rattle.answers.specs.declared.Refusal.{Refusal}
use Rattle.answers.specs.Numbers as refusals
use Rattle.block.proofs.EntryToExit.{start, Run}
use Rattle.table.proofs.Admitting.{Admission}
use Rattle.restore.specs.declared.Fault.{Fault}
use Rattle.restore.specs.Faults.{refused, code, line_told}
use Rattle.restore.proofs.Building.{Builds}

-- the call makes nodes of nothing that stood
none_named : (b : List ℕ) → AllNamed (heap b) []
unfolding AllNamed
none_named b = tt

pub begins : {b : List ℕ} → SoundBlock b → Holding b []
begins {b} B = start B [] (none_named b)

module _ {b : List ℕ} {v : ℕ} (A : Admission b (v ∷ [])) (t : List ℕ) where
  module _ (f : Faultless t) where
    -- more lines than any block has nodes
    pub no_room : 69632 < length t → Restore b b v t NO_ROOM 0
    no_room h =
        let s = too_many t b A.sound.shaped (omega (arith, faultless_count t f)) in
        passes A.sound.shaped (passes A.sound (passes A.versions (passes f (fails (λ e. true≢false (sym s ∙ e)) (refl, refl, refl)))))

    -- the tree was built
    pub ran : {c : List ℕ} {low : ℕ} {made : Option ℕ} → (1 ≤ low) × FullBelow (heap b) low → Builds b c (entries_of t) made → Run b c low made (restored t)
    ran L B = record {
      sound = A.sound;
      low_is = L;
      pieces = [];
      named = none_named b;
      out = B (length (entries_of t)) (omega arith);
      ordered = built_ordered (length (entries_of t)) (entries_of t) (supply (heap b)) (omega arith) (faultless_sorted t f);
    }

    -- what is left is the end of the edit
    pub ended : {after : List ℕ} {n : ℕ} → Ending b after v (restored t) n → Restore b after v t n 0
    ended E = passes A.sound.shaped (passes A.sound (passes A.versions (passes f (check_map E (λ r. (r.0, refl, r.1)) (λ r. (r.0, refl, r.1))))))

    pub refused_ended : {after : List ℕ} {A : Type 0} (r : Result A Fault) (x : Refusal) → IsErrAnd r (λ e. e ≡ refused x) → Ending b after v (restored t) (refusals.number x) → Restore b after v t (code r) (line_told r)
    refused_ended (Ok y) x p E = absurd p
    refused_ended (Err e) x p E = rw p (ended E)
