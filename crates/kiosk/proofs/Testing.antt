-- What a test's answer says where the code went by it.
use mathlib.Core.Path.{◌≡◌, sym}
use mathlib.Core.Bool.{Bool, true, false, true≢false}
use Rattle.model.specs.Tells.{Tells}

pub says_yes : {P : Type 0} (r : Bool) → Tells r P → r ≡ true → P
says_yes true t e = t
says_yes false t e = absurd (true≢false (sym e))

pub says_no : {P : Type 0} (r : Bool) → Tells r P → r ≡ false → P → ⊥
says_no true t e = absurd (true≢false e)
says_no false t e = t
