-- When some refusals are given: a call is open exactly when the version holds it, and of a ledger that only its operations have changed no total is ever too large for a call to end.
use mathlib.Core.Path.{◌≡◌, refl, ap, sym, subst, ◌∙◌}
use mathlib.Core.Logic.{◌≢◌}
use Prim.Native.Nat.{ℕ, ◌<◌}
use mathlib.Core.Option.{none, some}
use mathlib.Core.List.{List, [], ◌∷◌}
use native.Mathlib.Omega.{arith}
use native.Mathlib.Decide.{ℕ_discrete}
use Rattle.model.specs.Tree.{Entry, entries, lookup, find}
use Rattle.model.specs.Heap.{version}
use Rattle.model.specs.Block.{heap, SoundBlock}
use Rattle.model.specs.Numbers.{ZERO}
use Rattle.model.specs.Calls.{fails, passes, Answer, finding, Versions, Edit, Edits, Lookup}
use Rattle.model.proofs.calls.Meanings.{edit_done, refused_edit_changes_nothing, others_keep_their_entries, lookup_finds}
use Rattle.model.proofs.calls.Refusals.{zero_exactly}
use Rattle.ledger.specs.Numbers.{OPEN, TOTAL, EDIT_REFUSED}
use Rattle.ledger.specs.Ledger.{fresh_ledger, accounts, Formed, account_of, Reply, replying, Act, turned_away, Reserve, Settle}
use Rattle.ledger.specs.Steps.{Steps, beside}
use Rattle.ledger.proofs.Sums.{reserved-without}
use Rattle.ledger.proofs.Columns.{own_same}
use Rattle.ledger.proofs.Meanings.{found_some, settle_takes_out}
use Rattle.ledger.proofs.Minutes.{within_64}
use Rattle.ledger.proofs.Asking.{finding-number}

-- a refusal has one number
other : {s : Act} {n m k : ℕ} → turned_away s n m → n ≢ k → s.answer.number ≢ k
other r ne e = ne (sym (ap (λ (x : Reply). x.number) r.0) ∙ e)

-- the versions that a lookup and an edit of one version name
one_known : {v : ℕ} → v < 16 → Versions (v ∷ [])
unfolding Versions
one_known lt = (lt, tt)

two_known : {v : ℕ} → v < 16 → Versions (v ∷ v ∷ [])
unfolding Versions
two_known lt = (lt, (lt, tt))

-- the table looks up in every version of a sound block
looked_up : {b : List ℕ} {v : ℕ} (call : ℕ) {a : Answer} → SoundBlock b → v < 16 → Lookup b v call a → a.number ≡ 0
looked_up call B lt (fails p r) = absurd (p B.shaped)
looked_up call B lt (passes p (fails q r)) = absurd (q B)
looked_up call B lt (passes p (passes q (fails u r))) = absurd (u (one_known lt))
looked_up {b} {v} call B lt (passes p (passes q (passes u r))) = ap (λ (x : Answer). x.number) r ∙ finding-number (lookup (version (heap b) v) call)

-- a call that the version does not hold is not open already
pub not_open_yet : (s : Act) (v call minutes : ℕ) → find (entries (version (heap s.block) v)) call ≡ none → Reserve s v call minutes
    → s.answer.number ≢ OPEN
not_open_yet s v call minutes n (fails p r) = other r (omega arith)
not_open_yet s v call minutes n (passes p (fails k r)) = other r (omega arith)
not_open_yet s v call minutes n (passes p (passes k (a, L, fails u r))) = other r (omega arith)
not_open_yet s v call minutes n (passes p (passes k (a, L, passes u (fails f r)))) = λ e. f (ap (λ (x : Answer). x.found) (lookup_finds v call L u ∙ ap finding n))
not_open_yet s v call minutes n (passes p (passes k (a, L, passes u (passes f (fails q r))))) = other r (omega arith)
not_open_yet s v call minutes n (passes p (passes k (a, L, passes u (passes f (passes q (d, E, fails w r)))))) = other r (omega arith)
not_open_yet s v call minutes n (passes p (passes k (a, L, passes u (passes f (passes q (d, E, passes w r)))))) = λ e. let z : ◌≡◌ {A = ℕ} 0 24 = sym (ap (λ (x : Reply). x.number) r.0) ∙ e in omega arith

-- so a settled or released call number may be used again
pub may_be_used_again : (s t : Act) (v call used minutes : ℕ) → Settle s v call used → s.answer.number ≡ 0 → t.block ≡ s.block'
    → Reserve t v call minutes → t.answer.number ≢ OPEN
may_be_used_again s t v call used minutes D z e R = not_open_yet t v call minutes (ap (λ b. find (entries (version (heap b) v)) call) e ∙ (settle_takes_out s v call used D z).gone) R

-- OPEN and NOT_OPEN say what the version holds
pub open_means : (s : Act) (v call minutes : ℕ) → Reserve s v call minutes → s.answer.number ≡ OPEN → find (entries (version (heap s.block) v)) call ≢ none
open_means s v call minutes R e n = not_open_yet s v call minutes n R e

-- 0 minutes are not reserved: where nothing before it is wrong, the answer is EDIT_REFUSED and the table's ZERO beside it
pub reserve_zero : (s : Act) (v call : ℕ) → Formed s.ledger → account_of call < accounts s.ledger → SoundBlock s.block → v < 16
    → find (entries (version (heap s.block) v)) call ≡ none → Reserve s v call 0
    → s.answer ≡ replying EDIT_REFUSED ZERO
reserve_zero s v call F K B lt n (fails p r) = absurd (p F)
reserve_zero s v call F K B lt n (passes p (fails k r)) = absurd (k K)
reserve_zero s v call F K B lt n (passes p (passes k (a, L, fails u r))) = absurd (u (looked_up call B lt L))
reserve_zero s v call F K B lt n (passes p (passes k (a, L, passes u (fails f r)))) = absurd (f (ap (λ (x : Answer). x.found) (lookup_finds v call L u ∙ ap finding n)))
reserve_zero s v call F K B lt n (passes p (passes k (a, L, passes u (passes f (fails q r))))) = absurd (q (omega arith))
reserve_zero s v call F K B lt n (passes p (passes k (a, L, passes u (passes f (passes q (d, E, fails w r)))))) = r.0 ∙ ap (replying EDIT_REFUSED) ((zero_exactly v v call 0 E).1 (B, two_known lt, refl))
reserve_zero s v call F K B lt n (passes p (passes k (a, L, passes u (passes f (passes q (d, E, passes w r)))))) = let z : ◌≡◌ {A = ℕ} 13 0 = sym ((zero_exactly v v call 0 E).1 (B, two_known lt, refl)) ∙ w in absurd (omega arith)

-- Steps of the history.

-- an edit of another version by the table's own calls is a step beside
pub edit_beside : {v : ℕ} {l b c l' b' : List ℕ} {a : Answer} (e : Edit) → e.answer.number ≡ 0 → Edits b c e a → v < 16 → v ≢ e.dst
    → SoundBlock b → Steps v l c l' b' → Steps v l b l' b'
edit_beside {v} {l} {b} {c} {a = a} e w E lt ne S later = beside (go (ℕ_discrete a.number 0)) (others_keep_their_entries e w E v lt ne) later
  where
    go : Dec (a.number ≡ 0) → SoundBlock c
    go (yes z) = (edit_done e E z).edited.sound
    go (no z) = subst SoundBlock (sym (refused_edit_changes_nothing e w E z)) S

-- no total is too large: what a call gives back was topped up once
pub settle_fits : (v n : ℕ) {b : List ℕ} (s : Act) (call used : ℕ) → entries (version (heap b) v) ≡ [] → account_of call < n
    → Steps v (fresh_ledger n) b s.ledger s.block
    → Settle s v call used → s.answer.number ≢ TOTAL
settle_fits v n s call used e lt run D = go D
  where
    es : List Entry
    es = entries (version (heap s.block) v)

    x : ℕ
    x = account_of call

    go : Settle s v call used → s.answer.number ≢ TOTAL
    go (fails p r) = other r (omega arith)
    go (passes p (fails k r)) = other r (omega arith)
    go (passes p (passes k (a, L, fails u r))) = other r (omega arith)
    go (passes p (passes k (a, L, passes u (fails f r)))) = other r (omega arith)
    go (passes p (passes k (a, L, passes u (passes f (fails q r))))) = other r (omega arith)
    go (passes p (passes k (a, L, passes u (passes f (passes q (fails t r)))))) =
        let is = lookup_finds v call L u in
        let was : find es call ≡ some a.value = found_some (find es call) (subst (λ (y : Answer). y.found ≢ 0) is f) ∙ ap (λ (y : Answer). some y.value) (sym is) in
        let part = reserved-without x es call a.value was in
        let own = own_same x x a.value refl in
        let all = within_64 v n x e lt run in
        absurd (t (omega arith, omega arith))
    go (passes p (passes k (a, L, passes u (passes f (passes q (passes t (d, E, fails w r))))))) = other r (omega arith)
    go (passes p (passes k (a, L, passes u (passes f (passes q (passes t (d, E, passes w r))))))) = λ e. let z : ◌≡◌ {A = ℕ} 0 28 = sym (ap (λ (y : Reply). y.number) r.0) ∙ e in omega arith
