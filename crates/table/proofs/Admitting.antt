-- The checks that every call begins with: what they refuse, and what a call may go on with.
use mathlib.Core.Path.{◌≡◌, refl, ap, sym, ◌∙◌, subst}
use mathlib.Core.Logic.{◌≢◌}
use mathlib.Core.Bool.{Bool, true, false, true≢false}
use Prim.Native.Nat.{ℕ, zero, suc, ◌≤◌, ◌<◌}
use mathlib.Core.List.{List, [], ◌∷◌}
use lib.ListN.{length, get_or}
use native.Mathlib.Omega.{arith}
use Rattle.std.specs.Prelude.{Result, Ok, Err, All, IsTrue, ◌↔◌}
use Rattle.model.specs.Block.{SoundBlock}
use Rattle.model.specs.Calls.{fails, passes, Answer, refusal, Versions, Checked, Admitted, Edit, Reads, Edits}
use Rattle.model.specs.Numbers.{VERSION}
use Rattle.answers.specs.declared.Refusal.{Refusal}
use Rattle.answers.specs.Numbers.{number, code}
use Rattle.answers.proofs.NotDone.{some_number}
use Rattle.table.specs.Answers.{Source, Opened}

-- the versions of a list, one by one
pub known_all : (vs : List ℕ) → All (λ v. v < 16) vs → Versions vs
unfolding Versions
known_all [] f = tt
known_all (v ∷ vs) f = (f 0 0 (omega arith), known_all vs (λ k d lt. f (suc k) d (omega (arith, lt))))

pub all_known : (vs : List ℕ) → Versions vs → All (λ v. v < 16) vs
unfolding Versions
all_known [] u k d lt = absurd (omega (arith, lt))
all_known (v ∷ vs) u zero d lt = u.0
all_known (v ∷ vs) u (suc k) d lt = all_known vs u.1 k d (omega (arith, lt))

pub known_first : {v : ℕ} (vs : List ℕ) → Versions (v ∷ vs) → v < 16
unfolding Versions
known_first vs u = u.0

pub known_second : (v : ℕ) {w : ℕ} (vs : List ℕ) → Versions (v ∷ w ∷ vs) → w < 16
unfolding Versions
known_second v vs u = u.1.0

pub known_third : (v w : ℕ) {x : ℕ} (vs : List ℕ) → Versions (v ∷ w ∷ x ∷ vs) → x < 16
unfolding Versions
known_third v w vs u = u.1.1.0

-- the block's check, as the code has it
sound_checked : {b : List ℕ} → Checked b 0 → SoundBlock b
sound_checked (fails p r) = let e : ◌≡◌ {A = ℕ} 0 1 = r in absurd (omega arith)
sound_checked (passes p (fails q r)) = let e : ◌≡◌ {A = ℕ} 0 2 = r in absurd (omega arith)
sound_checked (passes p (passes q r)) = q

pub checked : {A : Type 0} {b : List ℕ} {r : Result A Refusal} {x : A} → r ≡ Ok x → Checked b (code r) → SoundBlock b
checked {b = b} e C = sound_checked (subst (λ q. Checked b (code q)) e C)

-- the versions as they are tested
pub versions_known : {b : List ℕ} (vs : List ℕ) {t : Bool} → SoundBlock b → (IsTrue t ↔ All (λ v. v < 16) vs) → t ≡ true → Admitted b vs 0
versions_known vs B T e = passes B.shaped (passes B (passes (known_all vs (T.0 e)) refl))

pub version_unknown : {b : List ℕ} (vs : List ℕ) {t : Bool} → SoundBlock b → (IsTrue t ↔ All (λ v. v < 16) vs) → t ≡ false → Admitted b vs VERSION
version_unknown vs B T e = passes B.shaped (passes B (fails (λ u. true≢false (sym (T.1 (all_known vs u)) ∙ e)) refl))

-- where they pass, the block is sound and the versions are known
pub record Admission (b vs : List ℕ) : Type 0 where
  pub sound : SoundBlock b
  pub versions : Versions vs

passed : {b vs : List ℕ} → Admitted b vs 0 → Admission b vs
passed (fails p r) = let e : ◌≡◌ {A = ℕ} 0 1 = r in absurd (omega arith)
passed (passes p (fails q r)) = let e : ◌≡◌ {A = ℕ} 0 2 = r in absurd (omega arith)
passed (passes p (passes q (fails u r))) = let e : ◌≡◌ {A = ℕ} 0 3 = r in absurd (omega arith)
passed (passes p (passes q (passes u r))) = record { sound = q; versions = u }

pub admission : {A : Type 0} {b vs : List ℕ} {r : Result A Refusal} {x : A} → r ≡ Ok x → Admitted b vs (code r) → Admission b vs
admission {b = b} {vs = vs} e C = passed (subst (λ q. Admitted b vs (code q)) e C)

-- where they fail, the call answers their number and changes nothing
pub admitted_read : {b : List ℕ} (vs : List ℕ) {answer : Answer} (r : Refusal) → Admitted b vs (number r) → Reads b vs answer (refusal (number r))
admitted_read vs r (fails p e) = fails p (ap refusal e)
admitted_read vs r (passes p (fails q e)) = passes p (fails q (ap refusal e))
admitted_read vs r (passes p (passes q (fails u e))) = passes p (passes q (fails u (ap refusal e)))
admitted_read vs r (passes p (passes q (passes u e))) = absurd (some_number r e)

pub admitted_edit : {b : List ℕ} (e : Edit) (r : Refusal) → Admitted b e.versions (number r) → Edits b b e (refusal (number r))
admitted_edit e r (fails p q) = fails p (ap refusal q, refl)
admitted_edit e r (passes p (fails s q)) = passes p (fails s (ap refusal q, refl))
admitted_edit e r (passes p (passes s (fails u q))) = passes p (passes s (fails u (ap refusal q, refl)))
admitted_edit e r (passes p (passes s (passes u q))) = absurd (some_number r q)

-- a version that was found to be there
pub opened : {b : List ℕ} {v x : ℕ} {r : Result ℕ Refusal} → r ≡ Ok x → Opened b v r → Source b v x
opened {b = b} {v = v} e C = subst (Opened b v) e C

pub source_done : {b : List ℕ} {v r : ℕ} {answer a : Answer} → Source b v r → a ≡ answer → Reads b (v ∷ []) answer a
unfolding Versions
source_done S e = passes S.sound.shaped (passes S.sound (passes (S.known, tt) e))
