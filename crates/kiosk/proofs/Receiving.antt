-- A line past the first checks: one that is refused changes nothing, and one that is new may be marked.
use mathlib.Core.Path.{◌≡◌, refl, ap}
use Prim.Native.Nat.{ℕ}
use mathlib.Core.List.{List}
use Rattle.std.specs.Prelude.{Some, Ok, Err}
use Rattle.model.specs.Frame.{read}
use Rattle.model.specs.Inbox.{SoundInbox}
use Rattle.model.specs.Calls.{passes}
use Rattle.model.specs.Link.{refused_at, repeated}
use Rattle.model.specs.Kiosk.{SoundKiosk, Takes, Receive}
use Rattle.model.proofs.calls.Checks.{check_holds, check_next}
use Rattle.answers.specs.declared.Fault.{Fault}
use Rattle.answers.specs.Numbers.{fault_number, fault_place}
use Rattle.frame.specs.declared.Frame.{Frame}
use Rattle.frame.specs.Fields.{fields_of}
use Rattle.judge.specs.Verdicts.{Verdict, Judgement, said_of, Fit}
use Rattle.judge.proofs.Lines.{as_refused, new_fit}
use Rattle.kiosk.specs.Answers.{step, Ready}

-- what the first checks leave to go on with
pub record Checked (k x : List ℕ) : Type 0 where
  pub kiosk : SoundKiosk k
  pub inbox : SoundInbox x

pub ready_checked : {k x : List ℕ} → Ready k x 0 → Checked k x
ready_checked R = let sound = check_next 0 (check_next 0 R refl) refl in record { kiosk = check_holds 1 sound refl; inbox = check_holds 1 (check_next 1 sound refl) refl }

-- the line's own part of receive
module _ {k x : List ℕ} (C : Checked k x) (line : List ℕ) (v : Verdict) (J : Judgement x v (read line)) where
  pub refused-line : (g : Fault) → v ≡ Err g → Receive (step k x k x (Err g)) line
  refused-line g e =
      let s = step k x k x (Err g) in
      passes C.kiosk.long (passes C.inbox.long (passes C.kiosk (passes C.inbox (as_refused x (refused_at s) (repeated s) (Takes s) v (read line) (fault_number g) (fault_place g) (ap said_of e) J (refl, refl, refl)))))

  pub fit : (f : Frame) → v ≡ Ok (Some f) → Fit x f.count f.index
  fit f e = new_fit x line v (fields_of f) C.inbox (ap said_of e) J
