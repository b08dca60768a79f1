-- The operations in a user's words: what a done one did to the version's map and to the account's words, and that a refused one changes nothing.
use mathlib.Core.Path.{◌≡◌, refl, ap, sym, subst, ◌∙◌}
use mathlib.Core.Logic.{◌≢◌}
use Prim.Native.Nat.{ℕ, suc, ◌+◌, ◌-◌, ◌≤◌, ◌<◌}
use mathlib.Core.Option.{Option, none, some}
use mathlib.Core.List.{List, [], ◌∷◌}
use native.Mathlib.Omega.{arith}
use native.Mathlib.Decide.{ℕ_discrete}
use Rattle.model.specs.Tree.{Tree, entries, find, put, without, Ordered}
use Rattle.model.specs.Heap.{version}
use Rattle.model.specs.Block.{heap, SoundBlock}
use Rattle.model.specs.Calls.{Check, fails, passes, Answer, finding, Versions, Edit, Edits, inserting, removing}
use Rattle.model.proofs.maps.Sorts.{ordered_sorted}
use Rattle.model.proofs.maps.Maps.{updated_at, without_is}
use Rattle.model.proofs.block.Versions.{version_ordered}
use Rattle.model.proofs.calls.Meanings.{edit_done, insert-puts, remove_takes_out, lookup_finds}
use Rattle.ledger.specs.Ledger.{topped, spent, free, accounts, Formed, account_of, topped_up, less_free, settled_for, Fit, Reply, Act, turned_away, Begins, Ends, Reserve, Settle}
use Rattle.ledger.specs.Numbers.{OPEN, NOT_OPEN, FREE, ABOVE, TOTAL}
use Rattle.ledger.specs.Steps.{Operation, top_up, reserve, settle, release, Does}

-- a refusal's number is not 0
away_number : {s : Act} {n m : ℕ} → turned_away s (suc n) m → s.answer.number ≡ 0 → ⊥
away_number {n = n} r z = let p : suc n ≡ 0 = sym (ap (λ (x : Reply). x.number) r.0) ∙ z in omega arith

-- what a lookup that was answered says
pub found_none : (o : Option ℕ) → (finding o).found ≡ 0 → o ≡ none
found_none none e = refl
found_none (some v) e = absurd (omega arith)

pub found_some : (o : Option ℕ) → (finding o).found ≢ 0 → o ≡ some (finding o).value
found_some none e = absurd (e refl)
found_some (some v) e = refl

-- nothing is found where a key was taken out
without_none : (t : Tree) (k : ℕ) → Ordered t → find (without (entries t) k) k ≡ none
without_none t k o = (without_is (entries t) k (ordered_sorted t o)).finds k ∙ updated_at (record { key = k; now = none }) (find (entries t)) k refl

known_version : (v w : ℕ) → Versions (v ∷ w ∷ []) → v < 16
unfolding Versions
known_version v w vs = vs.0

-- a done top-up
pub record ToppedUp (s : Act) (a minutes : ℕ) : Type 0 where
  pub formed : Formed s.ledger
  pub known : a < accounts s.ledger
  pub fits : Fit (topped s.ledger a + minutes) (free s.ledger a + minutes)
  pub words : s.ledger' ≡ topped_up s.ledger a minutes
  pub block : s.block' ≡ s.block

-- a done reservation: the call was not open, and is now, with its minutes
pub record Reserved (s : Act) (v call minutes : ℕ) : Type 0 where
  pub formed : Formed s.ledger
  pub known : account_of call < accounts s.ledger
  pub new : find (entries (version (heap s.block) v)) call ≡ none
  pub enough : minutes ≤ free s.ledger (account_of call)
  pub puts : entries (version (heap s.block') v) ≡ put (entries (version (heap s.block) v)) call minutes
  pub words : s.ledger' ≡ less_free s.ledger (account_of call) minutes
  pub sound : SoundBlock s.block'
  pub others : (w : ℕ) → w < 16 → w ≢ v → version (heap s.block') w ≡ version (heap s.block) w

-- a done settlement: the call was open with `held` minutes, and is so no more
pub record Settled (s : Act) (v call used : ℕ) : Type 0 where
  pub held : ℕ
  pub formed : Formed s.ledger
  pub known : account_of call < accounts s.ledger
  pub was : find (entries (version (heap s.block) v)) call ≡ some held
  pub below : used ≤ held
  pub takes_out : entries (version (heap s.block') v) ≡ without (entries (version (heap s.block) v)) call
  pub gone : find (entries (version (heap s.block') v)) call ≡ none
  pub words : s.ledger' ≡ settled_for s.ledger (account_of call) held used
  pub sound : SoundBlock s.block'
  pub others : (w : ℕ) → w < 16 → w ≢ v → version (heap s.block') w ≡ version (heap s.block) w

pub top_up_done : (s : Act) (v a minutes : ℕ) → Does s v (top_up a minutes) → s.answer.number ≡ 0 → ToppedUp s a minutes
top_up_done s v a minutes (fails p r, t, e) z = let q : ◌≡◌ {A = ℕ} 21 0 = sym r.0 ∙ z in absurd (omega arith)
top_up_done s v a minutes (passes p (fails q r), t, e) z = let q : ◌≡◌ {A = ℕ} 22 0 = sym r.0 ∙ z in absurd (omega arith)
top_up_done s v a minutes (passes p (passes q (fails f r)), t, e) z = let q : ◌≡◌ {A = ℕ} 28 0 = sym r.0 ∙ z in absurd (omega arith)
top_up_done s v a minutes (passes p (passes q (passes f r)), t, e) z = record { formed = p; known = q; fits = f; words = r.1; block = e }

-- what is left of the first and of the last checks where the operation is done
record Begun (s : Act) (v call : ℕ) (next : Answer → Type 0) : Type 0 where
  pub formed : Formed s.ledger
  pub known : account_of call < accounts s.ledger
  pub answer : Answer
  pub is : answer ≡ finding (find (entries (version (heap s.block) v)) call)
  pub goes_on : next answer

begun : (s : Act) (v call : ℕ) {next : Answer → Type 0} → Begins s.ledger s.block v call (turned_away s) next → s.answer.number ≡ 0 → Begun s v call next
begun s v call (fails p r) z = absurd (away_number r z)
begun s v call (passes p (fails q r)) z = absurd (away_number r z)
begun s v call (passes p (passes q (a, L, fails u r))) z = absurd (away_number r z)
begun s v call (passes p (passes q (a, L, passes u m))) z = record { formed = p; known = q; answer = a; is = lookup_finds v call L u; goes_on = m }

record Ended (s : Act) (e : Edit) (after : List ℕ) : Type 0 where
  pub answer : Answer
  pub edits : Edits s.block s.block' e answer
  pub done : answer.number ≡ 0
  pub words : s.ledger' ≡ after

ended : (s : Act) (e : Edit) (after : List ℕ) → Ends s e after → s.answer.number ≡ 0 → Ended s e after
ended s e after (a, E, fails p r) z = absurd (away_number r z)
ended s e after (a, E, passes p r) z = record { answer = a; edits = E; done = p; words = r.1 }

-- reserve puts the call into the version's map
pub reserve_puts : (s : Act) (v call minutes : ℕ) → Reserve s v call minutes → s.answer.number ≡ 0 → Reserved s v call minutes
reserve_puts s v call minutes R z = let B = begun s v call R z in go B.formed B.known B.answer B.is B.goes_on
  where
    go : Formed s.ledger → account_of call < accounts s.ledger → (a : Answer) → a ≡ finding (find (entries (version (heap s.block) v)) call)
        → Check (a.found ≡ 0) (turned_away s OPEN 0) (Check (minutes ≤ free s.ledger (account_of call)) (turned_away s FREE 0) (Ends s (inserting s.block v v call minutes) (less_free s.ledger (account_of call) minutes)))
        → Reserved s v call minutes
    go F K a is (fails p r) = absurd (away_number r z)
    go F K a is (passes p (fails q r)) = absurd (away_number r z)
    go F K a is (passes p (passes q m)) =
        let E = ended s (inserting s.block v v call minutes) (less_free s.ledger (account_of call) minutes) m z in
        let D = edit_done (inserting s.block v v call minutes) E.edits E.done in
        record {
          formed = F;
          known = K;
          new = found_none (find (entries (version (heap s.block) v)) call) (ap (λ (x : Answer). x.found) (sym is) ∙ p);
          enough = q;
          puts = (insert-puts v v call minutes E.edits E.done).0;
          words = E.words;
          sound = D.edited.sound;
          others = D.edited.others;
        }

-- settle takes it out again
pub settle_takes_out : (s : Act) (v call used : ℕ) → Settle s v call used → s.answer.number ≡ 0 → Settled s v call used
settle_takes_out s v call used R z = let B = begun s v call R z in go B.formed B.known B.answer B.is B.goes_on
  where
    go : Formed s.ledger → account_of call < accounts s.ledger → (a : Answer) → a ≡ finding (find (entries (version (heap s.block) v)) call)
        → Check (a.found ≢ 0) (turned_away s NOT_OPEN 0) (Check (used ≤ a.value) (turned_away s ABOVE 0)
        (Check (Fit (spent s.ledger (account_of call) + used) (free s.ledger (account_of call) + (a.value - used))) (turned_away s TOTAL 0)
        (Ends s (removing s.block v v call) (settled_for s.ledger (account_of call) a.value used))))
        → Settled s v call used
    go F K a is (fails p r) = absurd (away_number r z)
    go F K a is (passes p (fails q r)) = absurd (away_number r z)
    go F K a is (passes p (passes q (fails f r))) = absurd (away_number r z)
    go F K a is (passes p (passes q (passes f m))) =
        let E = ended s (removing s.block v v call) (settled_for s.ledger (account_of call) a.value used) m z in
        let D = edit_done (removing s.block v v call) E.edits E.done in
        let T = (remove_takes_out v v call E.edits E.done).0 in
        let o = find (entries (version (heap s.block) v)) call in
        record {
          held = a.value;
          formed = F;
          known = K;
          was = found_some o (subst (λ (x : Answer). x.found ≢ 0) is p) ∙ ap (λ (x : Answer). some x.value) (sym is);
          below = q;
          takes_out = T;
          words = E.words;
          gone = ap (λ es. find es call) T ∙ without_none (version (heap s.block) v) call (version_ordered D.sound.sound v (known_version v v D.versions));
          sound = D.edited.sound;
          others = D.edited.others;
        }

-- a refused operation changes no word of ledger and block
abbrev pub Same : Act → Type 0
Same s = (s.ledger' ≡ s.ledger) × (s.block' ≡ s.block)

module _ (s : Act) (refused : s.answer.number ≢ 0) where
  check_same : {P M : Type 0} {n m : ℕ} → Check P (turned_away s n m) M → (M → Same s) → Same s
  check_same (fails p r) f = (r.1, r.2)
  check_same (passes p m) f = f m

  begins_same : (v call : ℕ) {next : Answer → Type 0} → Begins s.ledger s.block v call (turned_away s) next → ((a : Answer) → next a → Same s) → Same s
  begins_same v call B f = check_same B (λ B. check_same B (λ B. check_same B.2 (f B.0)))

  ends_same : (e : Edit) (after : List ℕ) → Ends s e after → Same s
  ends_same e after E = check_same E.2 (λ m. absurd (refused (ap (λ (x : Reply). x.number) m.0)))

  settle_same : (v call used : ℕ) → Settle s v call used → Same s
  settle_same v call used D = begins_same v call D (λ a D. check_same D (λ D. check_same D (λ D. check_same D (ends_same (removing s.block v v call) (settled_for s.ledger (account_of call) a.value used)))))

  pub refused_changes_nothing : (v : ℕ) (o : Operation) → Does s v o → Same s
  refused_changes_nothing v (top_up a m) (fails p r, t, e) = (r.1, e)
  refused_changes_nothing v (top_up a m) (passes p (fails q r), t, e) = (r.1, e)
  refused_changes_nothing v (top_up a m) (passes p (passes q (fails f r)), t, e) = (r.1, e)
  refused_changes_nothing v (top_up a m) (passes p (passes q (passes f r)), t, e) = absurd (refused r.0)
  refused_changes_nothing v (reserve call m) D = begins_same v call D (λ a D. check_same D (λ D. check_same D (ends_same (inserting s.block v v call m) (less_free s.ledger (account_of call) m))))
  refused_changes_nothing v (settle call used) D = settle_same v call used D
  refused_changes_nothing v (release call) D = settle_same v call 0 D

-- no other version changes, whatever the answer
pub others_stay : (s : Act) (v : ℕ) (o : Operation) → Does s v o → (w : ℕ) → w < 16 → w ≢ v → version (heap s.block') w ≡ version (heap s.block) w
others_stay s v o D w lt ne = go (ℕ_discrete s.answer.number 0) o D
  where
    go : Dec (s.answer.number ≡ 0) → (o : Operation) → Does s v o → version (heap s.block') w ≡ version (heap s.block) w
    go (no z) o D = ap (λ b. version (heap b) w) (refused_changes_nothing s z v o D).1
    go (yes z) (top_up a m) D = ap (λ b. version (heap b) w) D.2
    go (yes z) (reserve call m) D = (reserve_puts s v call m D z).others w lt ne
    go (yes z) (settle call used) D = (settle_takes_out s v call used D z).others w lt ne
    go (yes z) (release call) D = (settle_takes_out s v call 0 D z).others w lt ne

-- a block stays sound
pub sound_stays : (s : Act) (v : ℕ) (o : Operation) → Does s v o → SoundBlock s.block → SoundBlock s.block'
sound_stays s v o D S = go (ℕ_discrete s.answer.number 0) o D
  where
    go : Dec (s.answer.number ≡ 0) → (o : Operation) → Does s v o → SoundBlock s.block'
    go (no z) o D = subst SoundBlock (sym (refused_changes_nothing s z v o D).1) S
    go (yes z) (top_up a m) D = subst SoundBlock (sym D.2) S
    go (yes z) (reserve call m) D = (reserve_puts s v call m D z).sound
    go (yes z) (settle call used) D = (settle_takes_out s v call used D z).sound
    go (yes z) (release call) D = (settle_takes_out s v call 0 D z).sound
