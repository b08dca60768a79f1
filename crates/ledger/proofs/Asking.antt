-- The table's lookup and its edits, whose refusals an operation hands on with a number of its own.
use mathlib.Core.Path.{◌≡◌, refl, ap, sym, subst, ◌∙◌}
use Prim.Native.Nat.{ℕ, ◌<◌}
use mathlib.Core.Option as maybe
use mathlib.Core.List.{List}
use native.Mathlib.Omega.{arith}
use Rattle.std.specs.Prelude.{Option, Result, Ok, Err, IsErrAnd, MatchResult}
use Rattle.model.specs.Calls.{fails, passes, Answer, refusal, finding, Edit, Edits, Lookup}
use Rattle.model.proofs.calls.Meanings.{refused_edit_changes_nothing}
use Rattle.answers.specs.declared.Refusal.{Refusal}
use Rattle.answers.specs.Numbers.{number}
use Rattle.answers.specs.Answers.{answer, found_of}
use Rattle.answers.proofs.NotDone.{some_number}
use Rattle.ledger.specs.Ledger.{accounts, Formed, account_of, Reply, Act, turned_away, Known, Begins, Ends}
use Rattle.ledger.specs.Parts.{act, Asks}
use Rattle.ledger.specs.declared.faults.Fault.{Fault}
use Rattle.ledger.specs.declared.faults.Fault.TheVariants.{Lookup as Looked, Edit as Edited}

-- an account that is known
known : {l : List ℕ} {a : ℕ} → Known l a (λ n. 0 ≡ n) (◌≡◌ {A = ℕ} 0 0) → Formed l × (a < accounts l)
known (fails p e) = let f : ◌≡◌ {A = ℕ} 0 21 = e in absurd (omega arith)
known (passes p (fails k e)) = let f : ◌≡◌ {A = ℕ} 0 22 = e in absurd (omega arith)
known (passes p (passes k e)) = (p, k)

-- the table's edit is done with what it found
pub finding-number : (o : maybe.Option ℕ) → (finding o).number ≡ 0
finding-number maybe.none = refl
finding-number (maybe.some v) = refl

-- what the lookup says of a call of such an account is the answer
pub looked : (l b : List ℕ) (v call : ℕ) (q : Result (Option ℕ) Refusal) (r : Result (Option ℕ) Fault) → Known l (account_of call) (λ n. 0 ≡ n) (◌≡◌ {A = ℕ} 0 0)
    → Lookup b v call (found_of q) → MatchResult q (λ o. r ≡ Ok o) (λ f. IsErrAnd r (λ g. g ≡ Looked f)) → Asks l b v call r
looked l b v call (Ok o) r K L e = let k = known K in rw e (passes k.0 (passes k.1 (finding (answer o), L, passes (finding-number (answer o)) refl)))
looked l b v call (Err f) (Err g) K L e = let k = known K in rw e (passes k.0 (passes k.1 (refusal (number f), L, fails (some_number f) refl)))
looked l b v call (Err f) (Ok o) K L e = absurd e

-- where it is answered, the checks after it decide
pub begins : (s : Act) (v call : ℕ) (next : Answer → Type 0) {o p : Option ℕ} → Asks s.ledger s.block v call (Ok p) → p ≡ o → next (finding (answer o)) → Begins s.ledger s.block v call (turned_away s) next
begins s v call next {o = o} K i m = go (subst (λ p. Asks s.ledger s.block v call (Ok p)) i K)
  where
    go : Asks s.ledger s.block v call (Ok o) → Begins s.ledger s.block v call (turned_away s) next
    go (fails p e) = let f : ◌≡◌ {A = ℕ} 0 21 = ap (λ (r : Reply). r.number) e in absurd (omega arith)
    go (passes p (fails k e)) = let f : ◌≡◌ {A = ℕ} 0 22 = ap (λ (r : Reply). r.number) e in absurd (omega arith)
    go (passes p (passes k (a, L, fails u e))) = let f : ◌≡◌ {A = ℕ} 0 23 = ap (λ (r : Reply). r.number) e in absurd (omega arith)
    go (passes p (passes k (a, L, passes u e))) = passes p (passes k (a, L, passes u (subst next (sym e) m)))

-- an edit that the table refuses is refused with its number, and changes nothing
pub ends_refused : {A : Type 0} (l b c : List ℕ) (e : Edit) (q : Result (Option ℕ) Refusal) (m : Result (Option ℕ) Fault) (r : Result A Fault) {f : Fault} (after : List ℕ) (o : maybe.Option ℕ) → e.answer ≡ finding o
    → Edits b c e (found_of q) → MatchResult q (λ o. m ≡ Ok o) (λ x. IsErrAnd m (λ g. g ≡ Edited x)) → m ≡ Err f → IsErrAnd r (λ g. g ≡ f) → Ends (act l b l c r) e after
ends_refused l b c e (Err x) (Err y) (Err z) after o w E M i p =
    let is : z ≡ Edited x = cc in
    (refusal (number x), E, fails (some_number x) (rw is refl, refl, refused_edit_changes_nothing e (ap (λ (a : Answer). a.number) w ∙ finding-number o) E (some_number x)))
ends_refused l b c e (Err x) (Err y) (Ok z) after o w E M i p = absurd p
ends_refused l b c e (Err x) (Ok y) r after o w E M i p = absurd M
ends_refused l b c e (Ok x) m r after o w E M i p = let no : Ok x ≡ Err _ = sym M ∙ i in absurd (ok_err no)
  where
    ok_err : {o : Option ℕ} {f : Fault} → Ok o ≡ Err f → ⊥
    ok_err e = let z : ◌≡◌ {A = ℕ} 0 1 = cc in absurd (omega arith)
