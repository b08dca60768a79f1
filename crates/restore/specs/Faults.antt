-- The faults of a text as document 02's numbers.
use Rattle.std.specs.Prelude.{ℕ, Result, Ok, Err}
use Rattle.model.specs.Numbers.{ZERO, LINE, ORDER}
use Rattle.answers.specs.declared.Refusal.{Refusal}
use Rattle.answers.specs.Numbers as refusals
use Rattle.restore.specs.declared.Fault.{Fault}
use Rattle.restore.specs.declared.Fault.TheVariants.{Line, Zero, Order, Refused}

abbrev pub refused : Refusal → Fault
refused r = Refused r

abbrev pub number : Fault → ℕ
number (Line i) = LINE
number (Zero i) = ZERO
number (Order i) = ORDER
number (Refused r) = refusals.number r

-- the number of the faulty line, 0 beside every other answer
abbrev pub line : Fault → ℕ
line (Line i) = i
line (Zero i) = i
line (Order i) = i
line (Refused r) = 0

-- 0 for done
abbrev pub code : {A : Type 0} → Result A Fault → ℕ
code (Ok a) = 0
code (Err f) = number f

abbrev pub line_told : {A : Type 0} → Result A Fault → ℕ
line_told (Ok a) = 0
line_told (Err f) = line f
