-- A line past the first checks, which is new, may be marked.
use mathlib.Core.Path.{◌≡◌, refl, ap}
use Prim.Native.Nat.{ℕ, ◌<◌}
use mathlib.Core.List.{List}
use Rattle.std.specs.Prelude.{Some, Ok}
use Rattle.model.specs.Block.{SoundBlock}
use Rattle.model.specs.Frame.{read}
use Rattle.model.specs.Inbox.{SoundInbox}
use Rattle.model.proofs.calls.Checks.{check_holds, check_next}
use Rattle.frame.specs.declared.Frame.{Frame}
use Rattle.frame.specs.Fields.{fields_of}
use Rattle.judge.specs.Verdicts.{Verdict, Judgement, said_of, Fit}
use Rattle.judge.proofs.Lines.{new_fit}
use Rattle.link.specs.Answers.{Ready}

-- what the first checks leave to go on with
pub record Checked (b x : List ℕ) (v : ℕ) : Type 0 where
  pub block : SoundBlock b
  pub inbox : SoundInbox x
  pub known : v < 16

pub ready_checked : {b x : List ℕ} {v : ℕ} → Ready b x v 0 → Checked b x v
ready_checked R =
    let sound = check_next 0 (check_next 0 R refl) refl in
    let inbox = check_next 1 sound refl in
    record { block = check_holds 1 sound refl; inbox = check_holds 1 inbox refl; known = check_holds 2 (check_next 1 inbox refl) refl }

pub fit : {x : List ℕ} → SoundInbox x → (line : List ℕ) (w : Verdict) → Judgement x w (read line) → (f : Frame) → w ≡ Ok (Some f) → Fit x f.count f.index
fit {x} X line w J f e = new_fit x line w (fields_of f) X (ap said_of e) J
