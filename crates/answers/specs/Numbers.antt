-- The numbers of refusals and faults, as a host sees them.
use Rattle.std.specs.Prelude.{ℕ, Result, Ok, Err}
use Rattle.model.specs.Numbers.{SHAPE, DAMAGED, VERSION, RULE, NO_ROOM, TOO_DEEP, FRAME, BATCH, COUNT, DIGIT, KIND, RANGE, ZERO, SUM, REQUEST, EDIT}
use Rattle.answers.specs.declared.Refusal.{Refusal}
use Rattle.answers.specs.declared.Refusal.TheVariants.{Shape, Damaged, Version, Rule, NoRoom, TooDeep, Frame, Batch, Count, Kind, Range, Zero, Sum, Request, Edit}
use Rattle.answers.specs.declared.Fault.{Fault}
use Rattle.answers.specs.declared.Fault.TheVariants.{Digit, Refused}

abbrev pub number : Refusal → ℕ
number Shape = SHAPE
number Damaged = DAMAGED
number Version = VERSION
number Rule = RULE
number NoRoom = NO_ROOM
number TooDeep = TOO_DEEP
number Frame = FRAME
number Batch = BATCH
number Count = COUNT
number Kind = KIND
number Range = RANGE
number Zero = ZERO
number Sum = SUM
number Request = REQUEST
number Edit = EDIT

-- 0 for done
abbrev pub code : {A : Type 0} → Result A Refusal → ℕ
code (Ok a) = 0
code (Err r) = number r

abbrev pub refused : Refusal → Fault
refused r = Refused r

abbrev pub fault_number : Fault → ℕ
fault_number (Digit p) = DIGIT
fault_number (Refused r) = number r

-- the place of a bad digit; 0 beside every other number
abbrev pub fault_place : Fault → ℕ
fault_place (Digit p) = p
fault_place (Refused r) = 0
