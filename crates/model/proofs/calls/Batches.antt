-- A batch in a user's words: all of it or nothing, the entries of its single calls, each number exactly when documents 01 and 02 say, and one answer.
use mathlib.Core.Path.{◌≡◌, refl, ap, sym, ◌∙◌}
use mathlib.Core.Logic.{◌≢◌, ◌↔◌}
use Prim.Native.Nat.{ℕ, ◌<◌}
use mathlib.Core.Bool.{true, false, true≢false}
use mathlib.Core.List.{List, [], ◌∷◌}
use native.Mathlib.Omega.{arith}
use native.Mathlib.Decide.{ℕ_discrete}
use Rattle.model.specs.Tree.{Tree, entries, set_by, Ordered}
use Rattle.model.specs.Supply.{Supply, short}
use Rattle.model.specs.Heap.{version, supply}
use Rattle.model.specs.Block.{heap, Words, Shaped, SoundBlock}
use Rattle.model.specs.Numbers.{SHAPE, DAMAGED, VERSION, NO_ROOM, ZERO, EDIT}
use Rattle.model.specs.Calls.{fails, passes, Answer, refusal, Versions, Edited, Edits, inserting, removing, copying}
use Rattle.model.specs.Batch.{Record, NoZero, batch_rule, set_all, Batched, Batch}
use Rattle.model.proofs.rules.Splits.{edit_by-entries}
use Rattle.model.proofs.rules.Orders.{edit_by_ordered}
use Rattle.model.proofs.rules.Steady.{Onward, edit_by_onward}
use Rattle.model.proofs.block.Versions.{version_ordered}
use Rattle.model.proofs.block.Pinned.{edited_once}
use Rattle.model.proofs.maps.Tests.{not_false}
use Rattle.model.proofs.calls.Checks.{not_done, given, other}
use Rattle.model.proofs.calls.Once.{check_once}
use Rattle.model.proofs.calls.Meanings.{insert-puts, remove_takes_out}

-- The rule.

pub batch_onward : (es : List Record) (t : Tree) → Onward (batch_rule es t)
unfolding batch_rule
batch_onward [] t s e = e
batch_onward (r ∷ es) t s e = batch_onward es _ _ (edit_by_onward r.kind r.key r.value t s e)

pub batch_ordered : (es : List Record) (t : Tree) (s : Supply) → Ordered t → Ordered (batch_rule es t s).0
unfolding batch_rule
batch_ordered [] t s o = o
batch_ordered (r ∷ es) t s o = batch_ordered es _ _ (edit_by_ordered r.kind r.key r.value t s o)

-- on entries it is the edits of plain maps, in order
pub batch_entries : (es : List Record) (t : Tree) (s : Supply) → Ordered t → entries (batch_rule es t s).0 ≡ set_all es (entries t)
unfolding batch_rule set_all
batch_entries [] t s o = refl
batch_entries (r ∷ es) t s o = batch_entries es _ _ (edit_by_ordered r.kind r.key r.value t s o) ∙ ap (set_all es) (edit_by-entries r.kind r.key r.value t s o)

-- The call. `legal` is what it asks of the records, or of the words that they are read from.

-- a batch that answered 0
pub record Done (b after : List ℕ) (dst src : ℕ) (legal : Type 0) (es : List Record) : Type 0 where
  pub sound : SoundBlock b
  pub versions : Versions (dst ∷ src ∷ [])
  pub lawful : legal
  pub no_zero : NoZero es
  pub enough : short (batch_rule es (version (heap b) src) (supply (heap b))).1 ≡ false
  pub edited : Edited b after dst (batch_rule es (version (heap b) src) (supply (heap b))).0

module _ {b after : List ℕ} (dst src : ℕ) {legal : Type 0} (es : List Record) {n : ℕ} where
  pub batch_done : Batched b after dst src legal es n → n ≡ 0 → Done b after dst src legal es
  batch_done (fails p r) z = absurd (not_done 0 r.0 z)
  batch_done (passes p (fails q r)) z = absurd (not_done 1 r.0 z)
  batch_done (passes p (passes q (fails u r))) z = absurd (not_done 2 r.0 z)
  batch_done (passes p (passes q (passes u (fails l r)))) z = absurd (not_done 15 r.0 z)
  batch_done (passes p (passes q (passes u (passes l (fails f r))))) z = absurd (not_done 12 r.0 z)
  batch_done (passes p (passes q (passes u (passes l (passes f (fails m r)))))) z = absurd (not_done 4 r.0 z)
  batch_done (passes p (passes q (passes u (passes l (passes f (passes m r)))))) z = record { sound = q; versions = u; lawful = l; no_zero = f; enough = m; edited = r.1 }

  -- or none: a refused batch changes nothing
  pub refused_batch_changes_nothing : Batched b after dst src legal es n → n ≢ 0 → after ≡ b
  refused_batch_changes_nothing (fails p r) z = r.1
  refused_batch_changes_nothing (passes p (fails q r)) z = r.1
  refused_batch_changes_nothing (passes p (passes q (fails u r))) z = r.1
  refused_batch_changes_nothing (passes p (passes q (passes u (fails l r)))) z = r.1
  refused_batch_changes_nothing (passes p (passes q (passes u (passes l (fails f r))))) z = r.1
  refused_batch_changes_nothing (passes p (passes q (passes u (passes l (passes f (fails m r)))))) z = r.1
  refused_batch_changes_nothing (passes p (passes q (passes u (passes l (passes f (passes m r)))))) z = absurd (z r.0)

  -- no other version changes, whatever the answer
  pub batch_leaves_others : Batched b after dst src legal es n → (v : ℕ) → v < 16 → v ≢ dst → version (heap after) v ≡ version (heap b) v
  batch_leaves_others B v lt ne = go (ℕ_discrete n 0)
    where
      go : Dec (n ≡ 0) → version (heap after) v ≡ version (heap b) v
      go (yes z) = (batch_done B z).edited.others v lt ne
      go (no z) = ap (λ x. version (heap x) v) (refused_batch_changes_nothing B z)

  -- all take effect, in order
  pub batch_sets : Batched b after dst src legal es n → n ≡ 0 → entries (version (heap after) dst) ≡ set_all es (entries (version (heap b) src))
  unfolding Versions
  batch_sets B z =
      let D = batch_done B z in
      ap entries D.edited.here ∙ batch_entries es (version (heap b) src) (supply (heap b)) (version_ordered D.sound.sound src D.versions.1.0)

-- for every input there is one possible answer and one possible block afterwards
pub batch_once : (b x y : List ℕ) (dst src : ℕ) (legal : Type 0) (es : List Record) (n m : ℕ) → Words x → Words y
    → Batched b x dst src legal es n → Batched b y dst src legal es m → (n ≡ m) × (x ≡ y)
batch_once b x y dst src legal es n m wx wy A C = check_once A C kept (λ A C. check_once A C kept (λ A C. check_once A C kept (λ A C. check_once A C kept (λ A C. check_once A C kept (λ A C. check_once A C kept
    (λ A C. (A.0 ∙ sym C.0, edited_once b x y dst _ A.1 C.1 wx wy)))))))
  where
    kept : {z : ℕ} → (n ≡ z) × (x ≡ b) → (m ≡ z) × (y ≡ b) → (n ≡ m) × (x ≡ y)
    kept p q = (p.0 ∙ sym q.0, p.1 ∙ sym q.1)

-- The numbers.

-- the number n, exactly
pub record Exactly (b : List ℕ) (dst src : ℕ) (legal : Type 0) (es : List Record) (n : ℕ) : Type 0 where
  pub shape : (n ≡ SHAPE) ↔ (Shaped b → ⊥)
  pub damaged : (n ≡ DAMAGED) ↔ (Shaped b × (SoundBlock b → ⊥))
  pub versions : (n ≡ VERSION) ↔ (SoundBlock b × (Versions (dst ∷ src ∷ []) → ⊥))
  pub edit : (n ≡ EDIT) ↔ (SoundBlock b × Versions (dst ∷ src ∷ []) × (legal → ⊥))
  pub zero : (n ≡ ZERO) ↔ (SoundBlock b × Versions (dst ∷ src ∷ []) × legal × (NoZero es → ⊥))
  -- a make of the batch finds no free node
  pub no_room : (n ≡ NO_ROOM) ↔ (SoundBlock b × Versions (dst ∷ src ∷ []) × legal × NoZero es × (short (batch_rule es (version (heap b) src) (supply (heap b))).1 ≡ true))

module _ {b after : List ℕ} (dst src : ℕ) {legal : Type 0} (es : List Record) {n : ℕ} where
  pub batch_numbers : Batched b after dst src legal es n → Exactly b dst src legal es n
  batch_numbers (fails p r) = record {
    shape = given r.0 refl p;
    damaged = other r.0 (omega arith) (λ x. p x.0);
    versions = other r.0 (omega arith) (λ x. p x.0.shaped);
    edit = other r.0 (omega arith) (λ x. p x.0.shaped);
    zero = other r.0 (omega arith) (λ x. p x.0.shaped);
    no_room = other r.0 (omega arith) (λ x. p x.0.shaped);
  }
  batch_numbers (passes p (fails q r)) = record {
    shape = other r.0 (omega arith) (λ x. x p);
    damaged = given r.0 refl (p, q);
    versions = other r.0 (omega arith) (λ x. q x.0);
    edit = other r.0 (omega arith) (λ x. q x.0);
    zero = other r.0 (omega arith) (λ x. q x.0);
    no_room = other r.0 (omega arith) (λ x. q x.0);
  }
  batch_numbers (passes p (passes q (fails u r))) = record {
    shape = other r.0 (omega arith) (λ x. x p);
    damaged = other r.0 (omega arith) (λ x. x.1 q);
    versions = given r.0 refl (q, u);
    edit = other r.0 (omega arith) (λ x. u x.1);
    zero = other r.0 (omega arith) (λ x. u x.1);
    no_room = other r.0 (omega arith) (λ x. u x.1);
  }
  batch_numbers (passes p (passes q (passes u (fails l r)))) = record {
    shape = other r.0 (omega arith) (λ x. x p);
    damaged = other r.0 (omega arith) (λ x. x.1 q);
    versions = other r.0 (omega arith) (λ x. x.1 u);
    edit = given r.0 refl (q, u, l);
    zero = other r.0 (omega arith) (λ x. l x.2);
    no_room = other r.0 (omega arith) (λ x. l x.2);
  }
  batch_numbers (passes p (passes q (passes u (passes l (fails f r))))) = record {
    shape = other r.0 (omega arith) (λ x. x p);
    damaged = other r.0 (omega arith) (λ x. x.1 q);
    versions = other r.0 (omega arith) (λ x. x.1 u);
    edit = other r.0 (omega arith) (λ x. x.2 l);
    zero = given r.0 refl (q, u, l, f);
    no_room = other r.0 (omega arith) (λ x. f x.3);
  }
  batch_numbers (passes p (passes q (passes u (passes l (passes f (fails m r)))))) = record {
    shape = other r.0 (omega arith) (λ x. x p);
    damaged = other r.0 (omega arith) (λ x. x.1 q);
    versions = other r.0 (omega arith) (λ x. x.1 u);
    edit = other r.0 (omega arith) (λ x. x.2 l);
    zero = other r.0 (omega arith) (λ x. x.3 f);
    no_room = given r.0 refl (q, u, l, f, not_false (short (batch_rule es (version (heap b) src) (supply (heap b))).1) m);
  }
  batch_numbers (passes p (passes q (passes u (passes l (passes f (passes m r)))))) = record {
    shape = other r.0 (omega arith) (λ x. x p);
    damaged = other r.0 (omega arith) (λ x. x.1 q);
    versions = other r.0 (omega arith) (λ x. x.1 u);
    edit = other r.0 (omega arith) (λ x. x.2 l);
    zero = other r.0 (omega arith) (λ x. x.3 f);
    no_room = other r.0 (omega arith) (λ x. true≢false (sym x.4 ∙ m));
  }

-- The single calls.

-- the call of one record, done, in version v
pub data Single (b after : List ℕ) (v : ℕ) : Record → Type 0 where
  inserted : {a : Answer} (key value : ℕ) → Edits b after (inserting b v v key value) a → a.number ≡ 0
      → Single b after v (record { kind = 1; key = key; value = value })
  removed : {a : Answer} (key value : ℕ) → Edits b after (removing b v v key) a → a.number ≡ 0
      → Single b after v (record { kind = 2; key = key; value = value })

-- one call after another
pub data Singles (v : ℕ) : (b after : List ℕ) → List Record → Type 0 where
  all : {b : List ℕ} → Singles v b b []
  then : {b c after : List ℕ} {e : Record} {es : List Record} → Single b c v e → Singles v c after es → Singles v b after (e ∷ es)

single_sets : {b after : List ℕ} {v : ℕ} {e : Record} → Single b after v e
    → entries (version (heap after) v) ≡ set_by e.kind e.key e.value (entries (version (heap b) v))
unfolding set_by
single_sets {v = v} (inserted key value E z) = (insert-puts v v key value E z).0
single_sets {v = v} (removed key value E z) = (remove_takes_out v v key E z).0

singles_set : {v : ℕ} {b after : List ℕ} {es : List Record} → Singles v b after es → entries (version (heap after) v) ≡ set_all es (entries (version (heap b) v))
unfolding set_all
singles_set all = refl
singles_set (then {es = es} S rest) = singles_set rest ∙ ap (set_all es) (single_sets S)

-- the entries are those of the single calls in order: in any block with the same entries in a version, and with room enough that each is done
pub batch_is_its_singles : {b after c d : List ℕ} (dst src v : ℕ) {legal : Type 0} (es : List Record) → Batched b after dst src legal es 0
    → entries (version (heap c) v) ≡ entries (version (heap b) src) → Singles v c d es → entries (version (heap after) dst) ≡ entries (version (heap d) v)
batch_is_its_singles dst src v es B same S = batch_sets dst src es B refl ∙ ap (set_all es) (sym same) ∙ sym (singles_set S)

-- an empty batch is copy
pub empty_batch_copies : {b after : List ℕ} {n : ℕ} (dst src : ℕ) → Batch b after dst src [] n → Edits b after (copying b dst src) (refusal n)
unfolding batch_rule
empty_batch_copies dst src (fails p r) = fails p (ap refusal r.0, r.1)
empty_batch_copies dst src (passes p (fails q r)) = passes p (fails q (ap refusal r.0, r.1))
empty_batch_copies dst src (passes p (passes q (fails u r))) = passes p (passes q (fails u (ap refusal r.0, r.1)))
empty_batch_copies dst src (passes p (passes q (passes u (fails l r)))) = absurd (l (record { few = omega arith; known = λ i lt. absurd (omega arith) }))
empty_batch_copies dst src (passes p (passes q (passes u (passes l (fails f r))))) = absurd (f (λ i lt. absurd (omega arith)))
empty_batch_copies dst src (passes p (passes q (passes u (passes l (passes f (fails m r)))))) = passes p (passes q (passes u (passes refl (passes refl (passes refl (fails m (ap refusal r.0, r.1)))))))
empty_batch_copies dst src (passes p (passes q (passes u (passes l (passes f (passes m r)))))) = passes p (passes q (passes u (passes refl (passes refl (passes refl (passes m (ap refusal r.0, r.1)))))))
