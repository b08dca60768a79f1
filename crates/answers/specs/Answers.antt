-- The calls' answers as document 01's.
use Rattle.std.specs.Prelude.{ℕ, Bool, true, false, Option, Some, None, Result, Ok, Err}
use Rattle.std.proofs.Math.Option as maybe
use Rattle.model.specs.Calls.{Answer, refusal, finding, giving}
use Rattle.model.specs.Lists as lists
use Rattle.answers.specs.declared.Refusal.{Refusal}
use Rattle.answers.specs.declared.Report.{Report}
use Rattle.answers.specs.Numbers.{number}

-- the value that was found, if there was one
abbrev pub answer : Option ℕ → maybe.Option ℕ
answer (Some v) = maybe.some v
answer None = maybe.none

-- a refusal, or done with a value or with "absent"
abbrev pub found_of : Result (Option ℕ) Refusal → Answer
found_of (Ok f) = finding (answer f)
found_of (Err r) = refusal (number r)

-- a refusal, or done with a number
abbrev pub value_of : Result ℕ Refusal → Answer
value_of (Ok n) = giving n
value_of (Err r) = refusal (number r)

-- a refusal, or done with 1 or 0
abbrev pub truth_of : Result Bool Refusal → Answer
truth_of (Ok true) = giving 1
truth_of (Ok false) = giving 0
truth_of (Err r) = refusal (number r)

-- a refusal, or done
abbrev pub done_of : {A : Type 0} → Result A Refusal → Answer
done_of (Ok a) = giving 0
done_of (Err r) = refusal (number r)

-- a refusal returns its number and zeros
abbrev pub report_of : Result Report Refusal → lists.Report
report_of (Ok r) = record { number = 0; written = r.written; total = r.total }
report_of (Err r) = record { number = number r; written = 0; total = 0 }
