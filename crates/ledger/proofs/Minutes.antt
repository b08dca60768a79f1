-- Document 02's promise: whatever is done, and in whatever order, all that an account was topped up by is free, reserved or spent.
use mathlib.Core.Path.{◌≡◌, refl, sym, subst, ◌∙◌}
use mathlib.Core.Logic.{◌≢◌}
use Prim.Native.Nat.{ℕ, ◌+◌, ◌*◌, ◌<◌, ◌^◌}
use mathlib.Core.List.{List, []}
use lib.ListN.{get_or, replicate, get_or-replicate}
use borrow.Author.Tests.{eq-eqb, ne_eqb}
use native.Mathlib.Omega.{arith}
use native.Mathlib.Decide.{ℕ_discrete}
use Rattle.model.specs.Tree.{Entry, entries}
use Rattle.model.specs.Heap.{version}
use Rattle.model.specs.Block.{heap}
use Rattle.ledger.specs.Ledger.{topped, spent, free, fresh_ledger, account_of, if_own, reserved, Reply, Act}
use Rattle.ledger.specs.Steps.{Operation, top_up, reserve, settle, release, Does, Steps, still, then, beside, credit, credited, MinutesKept}
use Rattle.ledger.proofs.Sums.{reserved-put, reserved-without}
use Rattle.ledger.proofs.Columns.{own_same, own_other, Words, topped_up_words, less-free-words, settled_words}
use Rattle.ledger.proofs.Meanings.{top_up_done, reserve_puts, settle_takes_out, Settled, refused_changes_nothing}

-- the account's balance, before and after
abbrev Balanced : (l : List ℕ) → List Entry → ℕ → Type 0
Balanced l es a = free l a + reserved a es + spent l a ≡ topped l a

-- one operation: the balance is kept, and topped-up grows by what was accepted
record Goes (l m : List ℕ) (es fs : List Entry) (a more : ℕ) : Type 0 where
  pub kept : Balanced l es a → Balanced m fs a
  pub grows : topped m a ≡ topped l a + more
  pub fits : topped l a < 2 ^ 64 → topped m a < 2 ^ 64

moved : {l m n : List ℕ} {es fs : List Entry} {a credit used given taken : ℕ} → n ≡ m → Words l m a credit used given taken
    → reserved a es + taken + credit ≡ reserved a fs + used + given → (topped l a < 2 ^ 64 → topped l a + credit < 2 ^ 64) → Goes l n es fs a credit
moved {l} {m} {n} {es} {fs} {a} {credit} {used} {given} {taken} e W r f =
    rw e (record { kept = λ B. omega (arith, W.topped_is, W.spent_is, W.free_is); grows = W.topped_is; fits = λ s. let h = f s in omega (arith, W.topped_is) })

-- a top-up fits its own account, and changes no other
fits_own : (l : List ℕ) (x a m : ℕ) → topped l x + m < 2 ^ 64 → topped l a < 2 ^ 64 → topped l a + if_own x a m < 2 ^ 64
fits_own l x a m f s = go (ℕ_discrete x a)
  where
    go : Dec (x ≡ a) → topped l a + if_own x a m < 2 ^ 64
    go (yes e) = rw (own_same x a m e) (rw (← e) f)
    go (no e) = rw (own_other x a m e) (omega arith)

refused-credit : (o : Operation) (answer : Reply) (a : ℕ) → answer.number ≢ 0 → credit o answer a ≡ 0
unfolding credit
refused-credit (top_up x m) answer a z = rw (ne_eqb answer.number 0 z, credit)
refused-credit (reserve call m) answer a z = refl
refused-credit (settle call used) answer a z = refl
refused-credit (release call) answer a z = refl

done-credit : (x m : ℕ) (answer : Reply) (a : ℕ) → answer.number ≡ 0 → credit (top_up x m) answer a ≡ if_own x a m
unfolding credit
done-credit x m answer a z = rw (eq-eqb answer.number 0 z, credit)

-- one operation, done or refused
module _ (s : Act) (v a : ℕ) where
  abbrev Entries : List Entry
  Entries = entries (version (heap s.block) v)

  abbrev Entries' : List Entry
  Entries' = entries (version (heap s.block') v)

  settled_goes : (call used : ℕ) → Settled s v call used → Goes s.ledger s.ledger' Entries Entries' a 0
  settled_goes call used S =
      moved S.words (settled_words s.ledger (account_of call) a S.known S.held used S.below)
      (rw S.takes_out (omega (arith, reserved-without a Entries call S.held S.was)))
      (λ f. omega arith)

  goes : (o : Operation) → Does s v o → Goes s.ledger s.ledger' Entries Entries' a (credit o s.answer a)
  unfolding credit
  goes o D = go (ℕ_discrete s.answer.number 0) o D
    where
      go : Dec (s.answer.number ≡ 0) → (o : Operation) → Does s v o → Goes s.ledger s.ledger' Entries Entries' a (credit o s.answer a)
      go (no z) o D =
          let U = refused_changes_nothing s z v o D in
          rw (refused-credit o s.answer a z, U.0, U.1) (record { kept = λ B. B; grows = omega arith; fits = λ f. f })
      go (yes z) (top_up x m) D =
          let T = top_up_done s v x m D z in
          rw (done-credit x m s.answer a z, T.block) (moved T.words (topped_up_words s.ledger x a T.known m) (omega arith) (fits_own s.ledger x a m T.fits.0))
      go (yes z) (reserve call m) D =
          let R = reserve_puts s v call m D z in
          moved R.words (less-free-words s.ledger (account_of call) a R.known m R.enough)
          (rw R.puts (omega (arith, reserved-put a Entries call m R.new)))
          (λ f. omega arith)
      go (yes z) (settle call used) D = settled_goes call used (settle_takes_out s v call used D z)
      go (yes z) (release call) D = settled_goes call 0 (settle_takes_out s v call 0 D z)

-- any number of them, from any ledger whose account is balanced
steps_go : (v a : ℕ) {l b l' b' : List ℕ} (run : Steps v l b l' b')
    → Goes l l' (entries (version (heap b) v)) (entries (version (heap b') v)) a (credited run a)
unfolding credited
steps_go v a still = record { kept = λ B. B; grows = omega arith; fits = λ f. f }
steps_go v a (then {l} {b} {m} {c} o answer d later) =
    let G = goes (record { ledger = l; block = b; ledger' = m; block' = c; answer = answer }) v a o d in
    let H = steps_go v a later in
    record { kept = λ B. H.kept (G.kept B); grows = omega (arith, G.grows, H.grows); fits = λ f. H.fits (G.fits f) }
steps_go v a (beside {l} {b} s e later) = let H = steps_go v a later in record { kept = λ B. H.kept (subst (λ es. Balanced l es a) (sym e) B); grows = H.grows; fits = H.fits }

-- from a fresh ledger over an empty version
module _ (v n a : ℕ) {b l' b' : List ℕ} (none : entries (version (heap b) v) ≡ []) (lt : a < n) (run : Steps v (fresh_ledger n) b l' b') where
  zeros : (i : ℕ) → i < 3 * n → ◌≡◌ {A = ℕ} (get_or (replicate (3 * n) 0) i 0) 0
  zeros i p = get_or-replicate (3 * n) i 0 0 p

  balanced : Balanced l' (entries (version (heap b') v)) a
  unfolding reserved
  balanced = (steps_go v a run).kept (rw none (omega (arith, zeros (3 * a) (omega arith), zeros (3 * a + 1) (omega arith), zeros (3 * a + 2) (omega arith))))

  pub minutes-kept : MinutesKept v run a
  minutes-kept = let h : topped l' a ≡ credited run a = omega (arith, (steps_go v a run).grows, zeros (3 * a) (omega arith)) in record { all = balanced ∙ h; history = h }

  -- so what an account was ever topped up by fits 64 bits, and of that no more than all is ever free and reserved, or spent and reserved
  pub within_64 : free l' a + reserved a (entries (version (heap b') v)) + spent l' a < 2 ^ 64
  within_64 = let f = (steps_go v a run).fits (omega (arith, zeros (3 * a) (omega arith))) in let e = balanced in omega arith
