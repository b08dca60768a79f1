-- The code's answers as the documents', and what its parts do.
use Rattle.std.specs.Prelude.{◌≡◌, ◌⊎◌, false, ℕ, ◌≤◌, ◌<◌, List, Option, Some, None, Result, Ok, Err, cond}
use Rattle.model.specs.Frame as lines
use Rattle.model.specs.Frame.{Reading}
use Rattle.model.specs.Inbox.{batch_of, count_of, heard_at, SoundInbox}
use Rattle.model.specs.Numbers.{BATCH, COUNT, ZERO}
use Rattle.model.specs.Calls.{Check}
use Rattle.model.specs.Link as link
use Rattle.model.specs.Link.{Judges, PutsZero}
use Rattle.answers.specs.declared.Fault.{Fault}
use Rattle.answers.specs.Numbers.{fault_number, fault_place}
use Rattle.frame.specs.declared.Frame.{Frame}
use Rattle.frame.specs.Fields.{fields_of}
use Rattle.judge.specs.declared.Heard.{Heard}

-- the call's number, 1 for a repeat, how many frames are missing, and the place of a bad digit; zeros on any other refusal
abbrev pub heard_of : Result Heard Fault → link.Heard
heard_of (Ok a) = record { number = 0; again = cond a.again 1 0; missing = a.missing; place = 0 }
heard_of (Err f) = record { number = fault_number f; again = 0; missing = 0; place = fault_place f }

-- the frame's batch and count are the inbox's, and it puts no zero; n is 0 where that is so
abbrev pub Belongs : List ℕ → Frame → ℕ → Type 0
Belongs x f n = Check (f.batch ≡ batch_of x) (n ≡ BATCH) (Check ((count_of x ≡ 0) ⊎ (count_of x ≡ f.count)) (n ≡ COUNT) (Check (¬ PutsZero (fields_of f)) (n ≡ ZERO) (n ≡ 0)))

-- a verdict: refused with a number and a place, a repeat, or a new frame
pub data Said : Type 0 where
  refused : (number place : ℕ) → Said
  repeat : Said
  new : lines.Frame → Said

-- as the code answers: a fault, or a new frame, if it is one
abbrev pub Verdict : Type 0
Verdict = Result (Option Frame) Fault

abbrev pub said_of : Verdict → Said
said_of (Err f) = refused (fault_number f) (fault_place f)
said_of (Ok None) = repeat
said_of (Ok (Some f)) = new (fields_of f)

-- the verdict is that of the line's reading against the inbox
abbrev pub Judgement : (x : List ℕ) → Verdict → Reading → Type 0
Judgement x v said = Judges x (λ n p. said_of v ≡ refused n p) (said_of v ≡ repeat) (λ f. said_of v ≡ new f) said

-- an inbox that may mark this index
pub record Fit (x : List ℕ) (count index : ℕ) : Type 0 where
  pub inbox : SoundInbox x
  pub counts : (count_of x ≡ 0) ⊎ (count_of x ≡ count)
  pub small : count ≤ 4096
  pub below : index < count
  pub new : heard_at x index ≡ false
