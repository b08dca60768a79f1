-- No call brings a zero in: where no version of a block holds one, none does after any edit, any batch, any restore and any line. So a table that began fresh sends none, as demand 3 asks.
use mathlib.Core.Path.{◌≡◌, refl, ap, sym, ◌∙◌}
use mathlib.Core.Logic.{◌≢◌}
use Prim.Native.Nat.{ℕ, zero, suc, ◌+◌, ◌-◌, ◌/◌, ◌<◌, compare, Ordering}
use mathlib.Core.Bool.{Bool, true, false}
use mathlib.Core.Option.{Option, none, some}
use mathlib.Core.List.{List, [], ◌∷◌}
use lib.ListN.{length}
use lib.Dec.{eqb, ltb}
use borrow.Author.Tests.{ltb-true}
use native.Mathlib.Omega.{arith}
use native.Mathlib.Decide.{ℕ_discrete}
use Rattle.model.specs.Tree.{Entry, entries, cut, find, put, without, set_by, both, less, Sorted, Is}
use Rattle.model.specs.Rules.{merge_by, diff_by}
use Rattle.model.specs.Delta.{Change}
use Rattle.model.specs.Heap.{version, supply}
use Rattle.model.specs.Block.{heap, SoundBlock}
use Rattle.model.specs.Frame.{parse}
use Rattle.model.specs.Calls.{Answer, Versions, Edit, Edits, inserting, removing, copying, uniting, lessening}
use Rattle.model.specs.Batch.{Record, NoZero, set_all, Batched}
use Rattle.model.specs.Text.{entry_at, entries_from}
use Rattle.model.specs.Restore.{Restore}
use Rattle.model.specs.Link.{Step, Receive}
use Rattle.model.specs.Replica.{NoZeroSent}
use Rattle.model.proofs.maps.Sorts.{ordered_sorted}
use Rattle.model.proofs.maps.Maps.{updated, updated_at, updated_other, put_is, without_is}
use Rattle.model.proofs.block.Versions.{version_ordered}
use Rattle.model.proofs.link.Replicas.{edited, frame_entries}
use Rattle.model.proofs.link.Receiving.{Outcome, away, again, new, receive_outcome}
use Rattle.model.proofs.calls.Meanings.{edit_done, refused_edit_changes_nothing, insert-puts, remove_takes_out, copy_copies, clear_empties, union_merges, difference_lessens}
use Rattle.model.proofs.calls.Batches.{batch_done, refused_batch_changes_nothing, batch_leaves_others, batch_sets}
use Rattle.model.proofs.calls.Restores.{faultless_good, restore_done, refused_restore_changes_nothing, restore_leaves_others, restore_holds}
use Rattle.model.proofs.calls.Refusals.{Called, inserts, removes, copies, clears, unites, lessens, done-number}

-- no value of a map, and of a version, is 0
abbrev pub Zeroless : List Entry → Type 0
Zeroless es = (k : ℕ) → find es k ≢ some 0

abbrev pub ZerolessBlock : List ℕ → Type 0
ZerolessBlock b = (v : ℕ) → v < 16 → Zeroless (entries (version (heap b) v))

-- one key set to something else than 0, by a put or by a remove
module _ (es : List Entry) (sorted : Sorted es) (Z : Zeroless es) (key : ℕ) where
  set_zeroless : (o : Option ℕ) (ys : List Entry) → o ≢ some 0 → Is ys (updated (record { key = key; now = o }) (find es)) → Zeroless ys
  set_zeroless o ys n I k e = go (ℕ_discrete k key)
    where
      c : Change
      c = record { key = key; now = o }

      go : Dec (k ≡ key) → ⊥
      go (yes d) = n (sym (updated_at c (find es) k d) ∙ sym (I.finds k) ∙ e)
      go (no d) = Z k (sym (updated_other c (find es) k d) ∙ sym (I.finds k) ∙ e)

  put_zeroless : (value : ℕ) → value ≢ 0 → Zeroless (put es key value)
  put_zeroless value n = set_zeroless (some value) (put es key value) (λ e. n (cc e)) (put_is es key value sorted)

  without_zeroless : Zeroless (without es key)
  without_zeroless = set_zeroless none (without es key) (λ e. let u : ◌≡◌ {A = ℕ} 0 1 = cc e in omega arith) (without_is es key sorted)

-- an edit by its kind that puts no zero
by_kind : (kind k v : ℕ) (es : List Entry) → Sorted es → Zeroless es → (kind ≡ 1 → v ≢ 0) → Sorted (set_by kind k v es) × Zeroless (set_by kind k v es)
unfolding set_by
by_kind zero k v es s Z n = (s, Z)
by_kind (suc zero) k v es s Z n = ((put_is es k v s).sorted, put_zeroless es s Z k v (n refl))
by_kind (suc (suc m)) k v es s Z n = ((without_is es k s).sorted, without_zeroless es s Z k)

-- and many of them
all_zeroless : (rs : List Record) (es : List Entry) → Sorted es → Zeroless es → NoZero rs → Zeroless (set_all rs es)
unfolding set_all
all_zeroless [] es s Z n = Z
all_zeroless (r ∷ rs) es s Z n =
    let one = by_kind r.kind r.key r.value es s Z (n 0 (omega arith)) in
    all_zeroless rs _ one.0 one.1 (λ i lt. n (suc i) (omega arith))

-- the merged value of two that are not 0
merge_positive : (rule x y : ℕ) → x ≢ 0 → y ≢ 0 → merge_by rule x y ≢ 0
unfolding merge_by
merge_positive zero x y p q = p
merge_positive (suc zero) x y p q = q
merge_positive (suc (suc zero)) x y p q = λ e. omega arith
merge_positive (suc (suc (suc zero))) x y p q = λ e. omega arith
merge_positive (suc (suc (suc (suc n)))) x y p q = λ e. omega arith

both_positive : (rule : ℕ) (o p : Option ℕ) → o ≢ some 0 → p ≢ some 0 → both (merge_by rule) o p ≢ some 0
unfolding both
both_positive rule none p n m = m
both_positive rule (some x) none n m = n
both_positive rule (some x) (some y) n m = λ e. merge_positive rule x y (λ z. n (ap some z)) (λ z. m (ap some z)) (cc e)

-- what a difference leaves of one that is not 0
diff_positive : (rule x y : ℕ) → x ≢ 0 → diff_by rule x y ≢ some 0
unfolding diff_by
diff_positive zero x y p e = let z : ◌≡◌ {A = ℕ} 0 1 = cc e in omega arith
diff_positive (suc zero) x y p e = go (eqb x y) refl
  where
    go : (t : Bool) → eqb x y ≡ t → ⊥
    go true q = let z : ◌≡◌ {A = ℕ} 0 1 = cc (rw (q, diff_by) at e) in omega arith
    go false q = p (cc (rw (q, diff_by) at e))
diff_positive (suc (suc zero)) x y p e = p (cc e)
diff_positive (suc (suc (suc n))) x y p e = go (ltb y x) refl
  where
    go : (t : Bool) → ltb y x ≡ t → ⊥
    go true q = let z : x - y ≡ 0 = cc (rw (q, diff_by) at e) in omega (arith, ltb-true y x q)
    go false q = let z : ◌≡◌ {A = ℕ} 0 1 = cc (rw (q, diff_by) at e) in omega arith

less_positive : (rule : ℕ) (o p : Option ℕ) → o ≢ some 0 → less (diff_by rule) o p ≢ some 0
unfolding less
less_positive rule none p n = λ e. let z : ◌≡◌ {A = ℕ} 0 1 = cc e in omega arith
less_positive rule (some x) none n = n
less_positive rule (some x) (some y) n = diff_positive rule x y (λ z. n (ap some z))

-- the destination of a done edit
module _ {b after : List ℕ} {a : Answer} (Z : ZerolessBlock b) (z : a.number ≡ 0) where
  done_zeroless : {e : Edit} → Called b e → Edits b after e a → Zeroless (entries (version (heap after) e.dst))
  unfolding Versions cut
  done_zeroless (inserts dst src key value) E =
      let D = edit_done (inserting b dst src key value) E z in
      let s = ordered_sorted _ (version_ordered D.sound.sound src D.versions.1.0) in
      rw (insert-puts dst src key value E z).0 (put_zeroless _ s (Z src D.versions.1.0) key value (λ e. omega (arith, ltb-true 0 value D.positive)))
  done_zeroless (removes dst src key) E =
      let D = edit_done (removing b dst src key) E z in
      rw (remove_takes_out dst src key E z).0 (without_zeroless _ (ordered_sorted _ (version_ordered D.sound.sound src D.versions.1.0)) (Z src D.versions.1.0) key)
  done_zeroless (copies dst src) E = rw (copy_copies dst src E z) (Z src (edit_done (copying b dst src) E z).versions.1.0)
  done_zeroless (clears v) E = rw (clear_empties v E z) (λ k e. let u : ◌≡◌ {A = ℕ} 0 1 = cc e in omega arith)
  done_zeroless (unites dst left right rule) E =
      let D = edit_done (uniting b dst left right rule) E z in
      λ k e. both_positive rule _ _ (Z left D.versions.1.0 k) (Z right D.versions.1.1.0 k) (sym ((union_merges dst left right rule E z).finds k) ∙ e)
  done_zeroless (lessens dst left right rule cancel) E =
      let D = edit_done (lessening b dst left right rule cancel) E z in
      λ k e. less_positive rule _ _ (Z left D.versions.1.0 k) (sym ((difference_lessens dst left right rule cancel E z).finds k) ∙ e)

-- any edit, whatever its answer
pub no_zero_comes_in : {b after : List ℕ} {a : Answer} {e : Edit} → Called b e → Edits b after e a → ZerolessBlock b → ZerolessBlock after
no_zero_comes_in {b} {after} {a} {e} C E Z v lt = go (ℕ_discrete a.number 0)
  where
    go : Dec (a.number ≡ 0) → Zeroless (entries (version (heap after) v))
    go (no n) = rw (refused_edit_changes_nothing e (done-number C) E n) (Z v lt)
    go (yes z) = at (ℕ_discrete v e.dst)
      where
        at : Dec (v ≡ e.dst) → Zeroless (entries (version (heap after) v))
        at (yes d) = rw d (done_zeroless Z z C E)
        at (no d) = rw ((edit_done e E z).edited.others v lt d) (Z v lt)

-- any batch
pub no_zero_batched : {b after : List ℕ} {n : ℕ} (dst src : ℕ) {legal : Type 0} (rs : List Record) → Batched b after dst src legal rs n
    → ZerolessBlock b → ZerolessBlock after
unfolding Versions
no_zero_batched {b} {after} {n} dst src rs B Z v lt = at (ℕ_discrete v dst) (ℕ_discrete n 0)
  where
    at : Dec (v ≡ dst) → Dec (n ≡ 0) → Zeroless (entries (version (heap after) v))
    at (no d) t = rw (batch_leaves_others dst src rs B v lt d) (Z v lt)
    at (yes d) (no p) = rw (refused_batch_changes_nothing dst src rs B p) (Z v lt)
    at (yes d) (yes z) =
        let D = batch_done dst src rs B z in
        let src_known = D.versions.1.0 in
        rw (d, batch_sets dst src rs B z) (all_zeroless rs _ (ordered_sorted _ (version_ordered D.sound.sound src src_known)) (Z src src_known) D.no_zero)

-- the entries of lines without a zero
lines_zeroless : (t : List ℕ) (i n : ℕ) → ((j : ℕ) → j < i + n → (entry_at t j).1 ≢ 0) → Zeroless (entries_from t i n)
unfolding entries_from cut
lines_zeroless t i zero f k e = let u : ◌≡◌ {A = ℕ} 0 1 = cc e in omega arith
lines_zeroless t i (suc n) f k e = go (compare k (entry_at t i).0) refl (lines_zeroless t (suc i) n (λ j h. f j (omega arith)) k)
  where
    go : (o : Ordering) → compare k (entry_at t i).0 ≡ o → (find (entries_from t (suc i) n) k ≡ some 0 → ⊥) → ⊥
    go Ordering.lt p ih = let u : ◌≡◌ {A = ℕ} 0 1 = cc (rw (p, find) at e) in omega arith
    go Ordering.eq p ih = f i (omega arith) (cc (rw (p, find) at e))
    go Ordering.gt p ih = ih (rw (p, find) at e)

-- any restore
pub no_zero-restored : {b after : List ℕ} {n line : ℕ} (v : ℕ) (t : List ℕ) → Restore b after v t n line → ZerolessBlock b → ZerolessBlock after
no_zero-restored {b} {after} {n} v t R Z w lt = at (ℕ_discrete w v) (ℕ_discrete n 0)
  where
    at : Dec (w ≡ v) → Dec (n ≡ 0) → Zeroless (entries (version (heap after) w))
    at (no d) y = rw (restore_leaves_others v t R w lt d) (Z w lt)
    at (yes d) (no p) = rw (refused_restore_changes_nothing v t R p) (Z w lt)
    at (yes d) (yes z) =
        let F = (restore_done v t R z).faultless in
        rw (d, restore_holds v t R z) (lines_zeroless t 0 (length t / 17) (λ j h. (faultless_good t j (F j (omega arith))).value))

-- any line
pub no_zero_received : (s : Step) (v : ℕ) (line : List ℕ) → SoundBlock s.block → v < 16 → Receive s v line → ZerolessBlock s.block
    → ZerolessBlock s.block'
unfolding edited
no_zero_received s v line B lt R Z w l = go (receive_outcome s v line R)
  where
    go : Outcome s v (parse line) → Zeroless (entries (version (heap s.block') w))
    go (away n b x) = rw b (Z w l)
    go (again f e W h a b x) = rw b (Z w l)
    go (new f e W h a (r, E) x) = at (ℕ_discrete w v)
      where
        o : Sorted (entries (version (heap s.block) v))
        o = ordered_sorted _ (version_ordered B.sound v lt)

        at : Dec (w ≡ v) → Zeroless (entries (version (heap s.block') w))
        at (yes d) = rw (d, E.here, frame_entries f (version (heap s.block) v) (supply (heap s.block)) (version_ordered B.sound v lt)) (by_kind f.kind f.key f.value _ o (Z v lt) (λ e q. W.worth (e, q))).1
        at (no d) = rw (E.others w l d) (Z w l)

-- such a block sends no zero
pub zeroless_sends_none : (b : List ℕ) → ZerolessBlock b → (A B : ℕ) → B < 16 → NoZeroSent (version (heap b) A) (version (heap b) B)
zeroless_sends_none b Z A B lt k e = absurd (Z B lt k e)
