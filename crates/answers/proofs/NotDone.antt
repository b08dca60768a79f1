-- A refusal's number is not that of done.
use mathlib.Core.Path.{refl}
use mathlib.Core.Logic.{◌≢◌}
use Rattle.model.proofs.calls.Checks.{not_done}
use Rattle.answers.specs.declared.Refusal.{Refusal}
use Rattle.answers.specs.declared.Refusal.TheVariants.{Shape, Damaged, Version, Rule, NoRoom, TooDeep, Frame, Batch, Count, Kind, Range, Zero, Sum, Request, Edit}
use Rattle.answers.specs.Numbers.{number}

pub some_number : (r : Refusal) → number r ≢ 0
some_number Shape = not_done 0 refl
some_number Damaged = not_done 1 refl
some_number Version = not_done 2 refl
some_number Rule = not_done 3 refl
some_number NoRoom = not_done 4 refl
some_number TooDeep = not_done 5 refl
some_number Frame = not_done 6 refl
some_number Batch = not_done 7 refl
some_number Count = not_done 8 refl
some_number Kind = not_done 10 refl
some_number Range = not_done 11 refl
some_number Zero = not_done 12 refl
some_number Sum = not_done 13 refl
some_number Request = not_done 14 refl
some_number Edit = not_done 15 refl
