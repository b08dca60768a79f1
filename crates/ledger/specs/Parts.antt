-- The answers as the ledger's numbers, and what is asked before an operation on a call.
use Rattle.std.specs.Prelude.{◌≡◌, ℕ, List, Option, Result, Ok, Err}
use Rattle.model.specs.Calls.{Answer, finding}
use Rattle.answers.specs.Answers.{answer}
use Rattle.ledger.specs.Ledger as ledger
use Rattle.ledger.specs.Ledger.{Act, Begins}
use Rattle.ledger.specs.declared.Totals.{Totals}
use Rattle.ledger.specs.declared.faults.Fault.{Fault}
use Rattle.ledger.specs.Faults.{number, table_of}

-- 0 for done
abbrev pub code : {A : Type 0} → Result A Fault → ℕ
code (Ok a) = 0
code (Err f) = number f

abbrev pub reply_of : {A : Type 0} → Result A Fault → ledger.Reply
reply_of (Ok a) = record { number = 0; table = 0 }
reply_of (Err f) = record { number = number f; table = table_of f }

-- zeros on refusal
abbrev pub totals_of : Result Totals Fault → ledger.Totals
totals_of (Ok t) = record { number = 0; topped = t.topped; spent = t.spent; free = t.free }
totals_of (Err f) = record { number = number f; topped = 0; spent = 0; free = 0 }

-- ledger and block before and after, and the answer
abbrev pub act : {A : Type 0} → (l b l' b' : List ℕ) → Result A Fault → Act
act l b l' b' r = record { ledger = l; block = b; ledger' = l'; block' = b'; answer = reply_of r }

-- what the table found
abbrev pub Found : Result (Option ℕ) Fault → Answer → Type 0
Found (Ok f) a = a ≡ finding (answer f)
Found (Err f) a = ⊥

-- the refusal and the table's number beside it, or what the table found
abbrev pub Asks : (l b : List ℕ) (v call : ℕ) → Result (Option ℕ) Fault → Type 0
Asks l b v call q = Begins l b v call (λ n t. reply_of q ≡ ledger.replying n t) (Found q)
