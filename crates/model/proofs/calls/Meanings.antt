-- The calls in a user's words: what a done edit holds afterwards, that a refused one changes nothing, and when there is no room.
use mathlib.Core.Path.{◌≡◌, ap, sym, ◌∙◌}
use mathlib.Core.Logic.{◌≢◌}
use Prim.Native.Nat.{ℕ, suc, ◌+◌, ◌<◌}
use mathlib.Core.Bool.{Bool, true, false, not, ◌&&◌, true≢false}
use mathlib.Core.List.{List, [], ◌∷◌}
use lib.ListN.{length}
use lib.Dec.{eqb, leb}
use borrow.Author.Tests.{eq-eqb}
use native.Mathlib.Omega.{arith}
use native.Mathlib.Decide.{ℕ_discrete}
use Rattle.model.specs.Tree.{leaf, entries, AllBelow, find, put, without, both, less, Is}
use Rattle.model.specs.Sums.{minutes, those, within}
use Rattle.model.specs.Listing.{Row, listing, left_entries}
use Rattle.model.specs.Supply.{short}
use Rattle.model.specs.Rules.{difference, merge_by, diff_by}
use Rattle.model.specs.Heap.{version, supply}
use Rattle.model.specs.Block.{heap, SoundBlock}
use Rattle.model.specs.Calls.{fails, passes, Answer, refusal, finding, Versions, Edited, Edit, Reads, Edits, Lookup, Size, Held, HeldBetween, inserting, removing, copying, clearing, uniting, lessening}
use Rattle.model.proofs.rules.Entries.{lookup-entries, insert-entries}
use Rattle.model.proofs.rules.Splits.{size-length, remove-entries}
use Rattle.model.proofs.block.Sums.{turned_none, whole_all}
use Rattle.model.proofs.listing.Listings.{listing_alone}
use Rattle.model.proofs.block.Totals.{union_sums}
use Rattle.model.proofs.block.Versions.{version_ordered, union-entries, difference-entries, cancelling_changes_nothing}

-- a refusal's number is not 0
pub refused-number : (a : Answer) (n : ℕ) → a ≡ refusal (suc n) → a.number ≡ 0 → ⊥
refused-number a n e z = let p : suc n ≡ 0 = sym (ap (λ (x : Answer). x.number) e) ∙ z in omega arith

-- an edit that answered 0
pub record Done (b after : List ℕ) (e : Edit) (a : Answer) : Type 0 where
  pub sound : SoundBlock b
  pub versions : Versions e.versions
  pub legal : e.legal ≡ true
  pub positive : e.positive ≡ true
  pub fits : e.fits ≡ true
  pub enough : short (e.rule (supply (heap b))).1 ≡ false
  pub is : a ≡ e.answer
  pub edited : Edited b after e.dst (e.rule (supply (heap b))).0

pub edit_done : {b after : List ℕ} {a : Answer} (e : Edit) → Edits b after e a → a.number ≡ 0 → Done b after e a
edit_done {a = a} e (fails p r) z = absurd (refused-number a 0 r.0 z)
edit_done {a = a} e (passes p (fails q r)) z = absurd (refused-number a 1 r.0 z)
edit_done {a = a} e (passes p (passes q (fails u r))) z = absurd (refused-number a 2 r.0 z)
edit_done {a = a} e (passes p (passes q (passes u (fails l r)))) z = absurd (refused-number a 3 r.0 z)
edit_done {a = a} e (passes p (passes q (passes u (passes l (fails o r))))) z = absurd (refused-number a 12 r.0 z)
edit_done {a = a} e (passes p (passes q (passes u (passes l (passes o (fails f r)))))) z = absurd (refused-number a 13 r.0 z)
edit_done {a = a} e (passes p (passes q (passes u (passes l (passes o (passes f (fails m r))))))) z = absurd (refused-number a 4 r.0 z)
edit_done e (passes p (passes q (passes u (passes l (passes o (passes f (passes m r))))))) z = record { sound = q; versions = u; legal = l; positive = o; fits = f; enough = m; is = r.0; edited = r.1 }

-- a refused edit changes nothing
pub refused_edit_changes_nothing : {b after : List ℕ} {a : Answer} (e : Edit) → e.answer.number ≡ 0 → Edits b after e a → a.number ≢ 0 → after ≡ b
refused_edit_changes_nothing e w (fails p r) z = r.1
refused_edit_changes_nothing e w (passes p (fails q r)) z = r.1
refused_edit_changes_nothing e w (passes p (passes q (fails u r))) z = r.1
refused_edit_changes_nothing e w (passes p (passes q (passes u (fails l r)))) z = r.1
refused_edit_changes_nothing e w (passes p (passes q (passes u (passes l (fails o r))))) z = r.1
refused_edit_changes_nothing e w (passes p (passes q (passes u (passes l (passes o (fails f r)))))) z = r.1
refused_edit_changes_nothing e w (passes p (passes q (passes u (passes l (passes o (passes f (fails m r))))))) z = r.1
refused_edit_changes_nothing e w (passes p (passes q (passes u (passes l (passes o (passes f (passes m r))))))) z = absurd (z (ap (λ (x : Answer). x.number) r.0 ∙ w))

-- no other version's entries change, whatever the answer
pub others_keep_their_entries : {b after : List ℕ} {a : Answer} (e : Edit) → e.answer.number ≡ 0 → Edits b after e a → (v : ℕ) → v < 16
    → v ≢ e.dst → entries (version (heap after) v) ≡ entries (version (heap b) v)
others_keep_their_entries {b} {after} {a} e w E v lt ne = go (ℕ_discrete a.number 0)
  where
    go : Dec (a.number ≡ 0) → entries (version (heap after) v) ≡ entries (version (heap b) v)
    go (yes z) = ap entries ((edit_done e E z).edited.others v lt ne)
    go (no z) = ap (λ x. entries (version (heap x) v)) (refused_edit_changes_nothing e w E z)

-- Call by call.

-- after insert the destination's entries are the source's with the key put; the answer is what stood there
pub insert-puts : {b after : List ℕ} {a : Answer} (dst src key value : ℕ) → Edits b after (inserting b dst src key value) a → a.number ≡ 0
    → (entries (version (heap after) dst) ≡ put (entries (version (heap b) src)) key value) × (a ≡ finding (find (entries (version (heap b) src)) key))
unfolding Versions
insert-puts {b} dst src key value E z =
    let D = edit_done (inserting b dst src key value) E z in
    let o = version_ordered D.sound.sound src D.versions.1.0 in
    (ap entries D.edited.here ∙ insert-entries (version (heap b) src) key value (supply (heap b)) o, D.is ∙ ap finding (lookup-entries (version (heap b) src) key o))

-- after remove they are the source's without the key
pub remove_takes_out : {b after : List ℕ} {a : Answer} (dst src key : ℕ) → Edits b after (removing b dst src key) a → a.number ≡ 0
    → (entries (version (heap after) dst) ≡ without (entries (version (heap b) src)) key) × (a ≡ finding (find (entries (version (heap b) src)) key))
unfolding Versions
remove_takes_out {b} dst src key E z =
    let D = edit_done (removing b dst src key) E z in
    let o = version_ordered D.sound.sound src D.versions.1.0 in
    (ap entries D.edited.here ∙ remove-entries (version (heap b) src) key (supply (heap b)) o, D.is ∙ ap finding (lookup-entries (version (heap b) src) key o))

-- after copy they are the source's
pub copy_copies : {b after : List ℕ} {a : Answer} (dst src : ℕ) → Edits b after (copying b dst src) a → a.number ≡ 0
    → entries (version (heap after) dst) ≡ entries (version (heap b) src)
copy_copies {b} dst src E z = ap entries (edit_done (copying b dst src) E z).edited.here

-- after clear there are none
pub clear_empties : {b after : List ℕ} {a : Answer} (v : ℕ) → Edits b after (clearing v) a → a.number ≡ 0 → entries (version (heap after) v) ≡ []
unfolding entries
clear_empties v E z = ap entries (edit_done (clearing v) E z).edited.here

-- after union each key has the value of the one side that has it, or both values merged by the rule
pub union_merges : {b after : List ℕ} {a : Answer} (dst left right rule : ℕ) → Edits b after (uniting b dst left right rule) a → a.number ≡ 0
    → Is (entries (version (heap after) dst)) (λ k. both (merge_by rule) (find (entries (version (heap b) left)) k) (find (entries (version (heap b) right)) k))
unfolding Versions
union_merges {b} dst left right rule E z =
    let D = edit_done (uniting b dst left right rule) E z in
    rw D.edited.here (union-entries (heap b) D.sound.sound rule left right D.versions.1.0 D.versions.1.1.0 (supply (heap b)))

-- a union by sums loses no minutes: the destination holds those of both sides
pub union_keeps_minutes : {b after : List ℕ} {a : Answer} (dst left right : ℕ) → Edits b after (uniting b dst left right 4) a → a.number ≡ 0
    → minutes (entries (version (heap after) dst)) ≡ minutes (entries (version (heap b) left)) + minutes (entries (version (heap b) right))
unfolding Versions
union_keeps_minutes {b} dst left right E z =
    let D = edit_done (uniting b dst left right 4) E z in
    ap (λ t. minutes (entries t)) D.edited.here ∙ union_sums (version (heap b) left) (version (heap b) right) (supply (heap b)) (version_ordered D.sound.sound left D.versions.1.0) (version_ordered D.sound.sound right D.versions.1.1.0)

-- after difference each key has the left value, by the rule where the right side has the key too; cancelling changes nothing of that
pub difference_lessens : {b after : List ℕ} {a : Answer} (dst left right rule : ℕ) (cancel : Bool)
    → Edits b after (lessening b dst left right rule cancel) a → a.number ≡ 0
    → Is (entries (version (heap after) dst)) (λ k. less (diff_by rule) (find (entries (version (heap b) left)) k) (find (entries (version (heap b) right)) k))
unfolding Versions
difference_lessens {b} dst left right rule cancel E z =
    let D = edit_done (lessening b dst left right rule cancel) E z in
    rw D.edited.here (go cancel D.legal D.sound D.versions.1.0 D.versions.1.1.0)
  where
    go : (c : Bool) → (leb rule 3 && not (c && eqb rule 2)) ≡ true → SoundBlock b → left < 16 → right < 16
        → Is (entries (difference (diff_by rule) c (version (heap b) left) (version (heap b) right) (supply (heap b))).0) (λ k. less (diff_by rule) (find (entries (version (heap b) left)) k) (find (entries (version (heap b) right)) k))
    go false l S p q = difference-entries (heap b) S.sound rule left right p q (supply (heap b))
    go true l S p q = rw (cancelling_changes_nothing (heap b) S.sound rule left right (λ e. not_two (leb rule 3) (rw (eq-eqb rule 2 e) at l)) p q) (difference-entries (heap b) S.sound rule left right p q (supply (heap b)))
      where
        not_two : (t : Bool) → (t && false) ≡ true → ⊥
        not_two true x = true≢false (sym x)
        not_two false x = true≢false (sym x)

-- A call that only reads.
reads_done : {b : List ℕ} {answer a : Answer} (versions : List ℕ) → Reads b versions answer a → a.number ≡ 0 → SoundBlock b × Versions versions × (a ≡ answer)
reads_done {a = a} vs (fails p r) z = absurd (refused-number a 0 r z)
reads_done {a = a} vs (passes p (fails q r)) z = absurd (refused-number a 1 r z)
reads_done {a = a} vs (passes p (passes q (fails u r))) z = absurd (refused-number a 2 r z)
reads_done vs (passes p (passes q (passes u r))) z = (q, u, r)

-- lookup finds exactly what the entries hold
pub lookup_finds : {b : List ℕ} {a : Answer} (v key : ℕ) → Lookup b v key a → a.number ≡ 0 → a ≡ finding (find (entries (version (heap b) v)) key)
unfolding Versions
lookup_finds {b} v key L z = let D = reads_done (v ∷ []) L z in D.2 ∙ ap finding (lookup-entries (version (heap b) v) key (version_ordered D.0.sound v D.1.0))

-- size is the number of entries
pub size_counts : {b : List ℕ} {a : Answer} (v : ℕ) → Size b v a → a.number ≡ 0 → a.value ≡ length (entries (version (heap b) v))
size_counts {b} v L z = ap (λ (x : Answer). x.value) (reads_done (v ∷ []) L z).2 ∙ size-length (version (heap b) v)

-- held is the sum of the entries' values
pub held_sums : {b : List ℕ} {a : Answer} (v : ℕ) → Held b v a → a.number ≡ 0 → a.value ≡ minutes (entries (version (heap b) v))
held_sums v H z = ap (λ (x : Answer). x.value) (reads_done (v ∷ []) H z).2

-- held between is the sum over the entries from first to last
pub between_sums : {b : List ℕ} {a : Answer} (v first last : ℕ) → HeldBetween b v first last a → a.number ≡ 0
    → a.value ≡ minutes (those (within first last) (entries (version (heap b) v)))
between_sums v first last H z = ap (λ (x : Answer). x.value) (reads_done (v ∷ []) H z).2

-- both are the sum over the full listing, against a version that is empty
module _ (b : List ℕ) (v w : ℕ) (empty : version (heap b) w ≡ leaf) (whole : (listing (version (heap b) v) (version (heap b) w)).deep ≡ false) where
  abbrev Rows : List Row
  Rows = (listing (version (heap b) v) (version (heap b) w)).rows

  listed : left_entries Rows ≡ entries (version (heap b) v)
  listed = ap (λ t. left_entries (listing (version (heap b) v) t).rows) empty ∙ listing_alone (version (heap b) v) (ap (λ t. (listing (version (heap b) v) t).deep) (sym empty) ∙ whole)

  pub held-listed : {a : Answer} → Held b v a → a.number ≡ 0 → a.value ≡ minutes (left_entries Rows)
  held-listed H z = held_sums v H z ∙ ap minutes (sym listed)

  pub between_listed : {a : Answer} (first last : ℕ) → HeldBetween b v first last a → a.number ≡ 0
      → a.value ≡ minutes (those (within first last) (left_entries Rows))
  between_listed first last H z = between_sums v first last H z ∙ ap (λ es. minutes (those (within first last) es)) (sym listed)

-- a first key above the last sums to 0
pub between_turned : {b : List ℕ} {a : Answer} (v first last : ℕ) → last < first → HeldBetween b v first last a → a.number ≡ 0 → a.value ≡ 0
between_turned {b} v first last lt H z = between_sums v first last H z ∙ turned_none first last lt (entries (version (heap b) v))

-- all keys are from 0 to any bound that they do not pass: the whole is held
pub between_all : {b : List ℕ} {a : Answer} (v last : ℕ) → AllBelow (suc last) (entries (version (heap b) v)) → HeldBetween b v 0 last a
    → a.number ≡ 0 → a.value ≡ minutes (entries (version (heap b) v))
between_all {b} v last below H z = between_sums v 0 last H z ∙ whole_all last (entries (version (heap b) v)) below
