-- An account's call numbers are a range, so what its open calls hold is what the table holds between the two ends.
use mathlib.Core.Path.{◌≡◌, refl, ap, sym, ◌∙◌}
use Prim.Native.Nat.{ℕ, ◌+◌, ◌*◌, ◌^◌}
use mathlib.Core.Bool.{Bool, true, false}
use mathlib.Core.List.{List, [], ◌∷◌}
use lib.Dec.{leb}
use borrow.Author.Tests.{leb-true, leb-false}
use native.Mathlib.Omega.{arith}
use Rattle.model.specs.Tree.{Entry, entries}
use Rattle.model.specs.Heap.{version}
use Rattle.model.specs.Block.{heap}
use Rattle.model.specs.Sums.{minutes, those, within}
use Rattle.model.specs.Calls.{Answer, HeldBetween}
use Rattle.model.proofs.calls.Meanings.{between_sums}
use Rattle.ledger.specs.Ledger.{account_of, if_own, reserved}
use Rattle.ledger.proofs.Columns.{own_same, own_other}

-- the first and the last call number of account a
abbrev pub first_call : ℕ → ℕ
first_call a = 2 ^ 24 * a

abbrev pub last_call : ℕ → ℕ
last_call a = 2 ^ 24 * a + 16777215

-- one entry more, whose key passes or not
passed : (p : ℕ → Bool) (e : Entry) (es : List Entry) → p e.0 ≡ true → minutes (those p (e ∷ es)) ≡ e.1 + minutes (those p es)
unfolding minutes those
passed p e es h = rw (h, those) refl

left_out : (p : ℕ → Bool) (e : Entry) (es : List Entry) → p e.0 ≡ false → minutes (those p (e ∷ es)) ≡ minutes (those p es)
unfolding minutes those
left_out p e es h = rw (h, those) refl

-- a call is the account's exactly where it is within the range
own_within : (a : ℕ) (e : Entry) (es : List Entry) (t u : Bool) → leb (first_call a) e.0 ≡ t → leb e.0 (last_call a) ≡ u
    → minutes (those (within (first_call a) (last_call a)) (e ∷ es)) ≡ if_own (account_of e.0) a e.1 + minutes (those (within (first_call a) (last_call a)) es)
own_within a e es true true p q =
    omega (arith, passed (within (first_call a) (last_call a)) e es (rw (p, q) refl), own_same (account_of e.0) a e.1 (omega (arith, leb-true (first_call a) e.0 p, leb-true e.0 (last_call a) q)))
own_within a e es true false p q =
    omega (arith, left_out (within (first_call a) (last_call a)) e es (rw (p, q) refl), own_other (account_of e.0) a e.1 (λ x. omega (arith, leb-false e.0 (last_call a) q)))
own_within a e es false u p q =
    omega (arith, left_out (within (first_call a) (last_call a)) e es (rw p refl), own_other (account_of e.0) a e.1 (λ x. omega (arith, leb-false (first_call a) e.0 p)))

pub reserved_between : (a : ℕ) (es : List Entry) → reserved a es ≡ minutes (those (within (first_call a) (last_call a)) es)
unfolding reserved minutes those
reserved_between a [] = refl
reserved_between a (e ∷ es) = ap (λ m. if_own (account_of e.0) a e.1 + m) (reserved_between a es) ∙ sym (own_within a e es (leb (first_call a) e.0) (leb e.0 (last_call a)) refl refl)

-- held between them is what the account has reserved
pub held_is_reserved : {b : List ℕ} {x : Answer} (v a : ℕ) → HeldBetween b v (first_call a) (last_call a) x → x.number ≡ 0
    → x.value ≡ reserved a (entries (version (heap b) v))
held_is_reserved {b} v a H z = between_sums v (first_call a) (last_call a) H z ∙ sym (reserved_between a (entries (version (heap b) v)))
