-- A sound inbox is answered, and 71,680 bytes are room for its whole request.
use mathlib.Core.Path.{◌≡◌, refl, ap, ◌∙◌}
use mathlib.Core.Logic.{inr, ◌≢◌}
use Prim.Native.Nat.{ℕ, ◌≤◌}
use mathlib.Core.List.{List, map}
use lib.ListN.{length, take, drop, length-append}
use native.Mathlib.Omega.{arith}
use Rattle.std.specs.Prelude.{Result, Ok, Err, IsOk}
use Rattle.answers.specs.declared.Refusal.{Refusal}
use Rattle.answers.specs.declared.Report as answers
use Rattle.answers.specs.Numbers.{number}
use Rattle.answers.specs.Answers.{report_of}
use Rattle.model.specs.Frame.{line}
use Rattle.model.specs.Inbox.{SoundInbox}
use Rattle.model.specs.Calls.{fails, passes}
use Rattle.model.specs.Lists.{laid, part, Report}
use Rattle.model.specs.Request.{request_of, Ask}
use Rattle.model.proofs.requests.Rounds.{ask_text}

pub whole_request : (x out after : List ℕ) (a : Report) → SoundInbox x → length out ≡ 71680 → length after ≡ length out → Ask x out after 0 a
    → (a.written ≤ 71680) × (take a.written after ≡ laid (map line (request_of x)))
whole_request x out after a S long same (fails n r) = absurd (n S.long)
whole_request x out after a S long same (passes h (fails n r)) = absurd (n S)
whole_request x out after a S long same (passes h (passes s w)) = (
  omega (arith, ap (λ (r : Report). r.written) w.0, ap length w.1 ∙ length-append written (drop (length written) out), same, long),
  ask_text x out after a (passes h (passes s w)) (ap (λ (r : Report). r.number) w.0) (inr (omega (arith, long))),
)
  where
    written : List ℕ
    written = part 35 0 (length out) (map line (request_of x))

-- nor is it refused
pub is_answered : {x out after : List ℕ} (r : Result answers.Report Refusal) → SoundInbox x → Ask x out after 0 (report_of r) → IsOk r
is_answered r S (fails n w) = absurd (n S.long)
is_answered r S (passes h (fails n w)) = absurd (n S)
is_answered (Ok a) S (passes h (passes s w)) = refl
is_answered (Err f) S (passes h (passes s w)) = absurd (some_number (ap (λ (r : Report). r.number) w.0))
  where
    some_number : number f ≢ 0
    some_number = grind arith
