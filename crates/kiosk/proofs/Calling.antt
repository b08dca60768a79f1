-- The end of an insert.
use mathlib.Core.Path.{◌≡◌, sym}
use mathlib.Core.Logic.{◌≢◌}
use Prim.Native.Nat.{ℕ}
use mathlib.Core.List.{List}
use native.Mathlib.Omega.{arith}
use Rattle.model.specs.Tree.{find}
use Rattle.model.specs.Calls.{passes, Answer, finding}
use Rattle.model.specs.Kiosk.{pairs, SoundKiosk, Insert}
use Rattle.model.proofs.calls.Checks.{check_map}
use Rattle.kiosk.specs.Places.{Putting}

pub insert_done : {k after : List ℕ} (S : SoundKiosk k) {a : Answer} (key value : ℕ) → value ≢ 0 → Putting k after key value 0 → a ≡ finding (find (pairs k) key) → Insert k after key value a
insert_done S key value pos E q = passes S.long (passes S (passes (omega arith) (check_map E (λ u. let five : ◌≡◌ {A = ℕ} 5 0 = sym u.0 in absurd (omega arith)) (λ u. (q, u.1)))))
