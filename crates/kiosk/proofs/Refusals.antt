-- When the kiosk answers NO_ROOM.
use mathlib.Core.Path.{◌≡◌, refl, ap, sym, ◌∙◌}
use mathlib.Core.Logic.{◌↔◌}
use Prim.Native.Nat.{ℕ, ◌≤◌, ◌<◌}
use mathlib.Core.Option.{Option, none, some}
use mathlib.Core.List.{List}
use lib.ListN.{length}
use native.Mathlib.Omega.{arith}
use native.Mathlib.Decide.{dec_le}
use Rattle.model.specs.Tree.{find}
use Rattle.model.specs.Numbers.{NO_ROOM}
use Rattle.model.specs.Calls.{fails, passes, Answer, refusal, finding}
use Rattle.model.specs.Kiosk.{pairs, SoundKiosk, Full, Insert}

-- a key that stands there, or fewer than 64 entries
full_or-not : (k : List ℕ) (key : ℕ) → Dec (Full (pairs k) key)
full_or-not k key = go (find (pairs k) key) refl (dec_le 64 (length (pairs k)))
  where
    go : (o : Option ℕ) → find (pairs k) key ≡ o → Dec (64 ≤ length (pairs k)) → Dec (Full (pairs k) key)
    go none e (yes h) = yes (e, h)
    go none e (no h) = no (λ F. h F.1)
    go (some v) e d = no (λ F. let z : none ≡ some v = sym F.0 ∙ e in let f : ◌≡◌ {A = ℕ} 0 1 = cc z in absurd (omega arith))

-- insert answers 5 exactly when the kiosk is sound, the value is not 0 and a new key meets 64 entries
pub insert_no_room : {k after : List ℕ} {a : Answer} (key value : ℕ) → Insert k after key value a
    → (a.number ≡ NO_ROOM) ↔ (SoundKiosk k × (0 < value) × Full (pairs k) key)
insert_no_room {k} {after} {a} key value I = (to I, back I)
  where
    number : {n m : ℕ} → a ≡ refusal n → a.number ≡ m → n ≡ m
    number q e = sym (ap (λ (x : Answer). x.number) q) ∙ e

    done : (o : Option ℕ) → a ≡ finding o → a.number ≡ NO_ROOM → ⊥
    done none q e = let z : ◌≡◌ {A = ℕ} 0 5 = sym (ap (λ (x : Answer). x.number) q) ∙ e in omega arith
    done (some v) q e = let z : ◌≡◌ {A = ℕ} 0 5 = sym (ap (λ (x : Answer). x.number) q) ∙ e in omega arith

    to : Insert k after key value a → a.number ≡ NO_ROOM → SoundKiosk k × (0 < value) × Full (pairs k) key
    to (fails p u) e = let z : ◌≡◌ {A = ℕ} 1 5 = number u.0 e in absurd (omega arith)
    to (passes p (fails q u)) e = let z : ◌≡◌ {A = ℕ} 2 5 = number u.0 e in absurd (omega arith)
    to (passes p (passes S (fails q u))) e = let z : ◌≡◌ {A = ℕ} 13 5 = number u.0 e in absurd (omega arith)
    to (passes p (passes S (passes h (fails q u)))) e = (S, h, is (full_or-not k key))
      where
        is : Dec (Full (pairs k) key) → Full (pairs k) key
        is (yes F) = F
        is (no F) = absurd (q F)
    to (passes p (passes S (passes h (passes q u)))) e = absurd (done (find (pairs k) key) u.0 e)

    back : Insert k after key value a → SoundKiosk k × (0 < value) × Full (pairs k) key → a.number ≡ NO_ROOM
    back (fails p u) F = absurd (p F.0.long)
    back (passes p (fails q u)) F = absurd (q F.0)
    back (passes p (passes S (fails q u))) F = absurd (q F.1)
    back (passes p (passes S (passes h (fails q u)))) F = ap (λ (x : Answer). x.number) u.0
    back (passes p (passes S (passes h (passes q u)))) F = absurd (q F.2)
