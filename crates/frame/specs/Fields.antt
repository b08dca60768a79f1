-- The code's frames and answers as the documents'.
use Rattle.std.specs.Prelude.{ℕ, List, Result, Ok, Err}
use Rattle.std.proofs.Math.Option.{none, some}
use Rattle.model.specs.Frame as model
use Rattle.model.specs.Frame.{field, fields, first_bad, Reading, good, fault}
use Rattle.model.specs.Numbers.{DIGIT}
use Rattle.answers.specs.declared.Fault.{Fault}
use Rattle.answers.specs.declared.Fault.TheVariants.{Digit}
use Rattle.answers.specs.Numbers.{fault_number, fault_place}
use Rattle.frame.specs.declared.Frame.{Frame}

abbrev pub fields_of : Frame → model.Frame
fields_of f = record { batch = f.batch; index = f.index; count = f.count; kind = f.kind; key = f.key; value = f.value }

abbrev pub parsed : Result Frame Fault → Reading
parsed (Ok f) = good (fields_of f)
parsed (Err f) = fault (fault_number f) (fault_place f)

-- the number of a field, or the place of the line's first bad digit
unfoldable pub field_read : (cs : List ℕ) (at k : ℕ) → Result ℕ Fault
field_read cs at k = elim (field cs at k) [ some n ↦ Ok n | none ↦ Err (Digit (first_bad cs)) ]

-- the six fields, or that place
unfoldable pub fields_read : List ℕ → Reading
fields_read cs = elim (fields cs) [ some f ↦ good f | none ↦ fault DIGIT (first_bad cs) ]
