-- A line's checks, and what one step is.
use Rattle.std.specs.Prelude.{◌≡◌, ℕ, List, length, Result}
use Rattle.model.specs.Numbers.{SHAPE, DAMAGED}
use Rattle.model.specs.Inbox.{SoundInbox}
use Rattle.model.specs.Calls.{Check}
use Rattle.model.specs.Link.{Step}
use Rattle.model.specs.Kiosk.{SoundKiosk}
use Rattle.answers.specs.declared.Fault.{Fault}
use Rattle.judge.specs.declared.Heard.{Heard}
use Rattle.judge.specs.Verdicts.{heard_of}

-- kiosk and inbox before and after a line, and the answer
abbrev pub step : (k x k' x' : List ℕ) → Result Heard Fault → Step
step k x k' x' a = record { block = k; inbox = x; block' = k'; inbox' = x'; answer = heard_of a }

-- shape and soundness, kiosk before inbox in each; n is 0 where the checks pass
abbrev pub Ready : (k x : List ℕ) (n : ℕ) → Type 0
Ready k x n =
    Check (length k ≡ 129) (n ≡ SHAPE)
    (Check (length x ≡ 130) (n ≡ SHAPE) (Check (SoundKiosk k) (n ≡ DAMAGED) (Check (SoundInbox x) (n ≡ DAMAGED) (n ≡ 0))))
