-- A batch from its checks to its end.
use mathlib.Core.Path.{refl, subst}
use mathlib.Core.Logic.{◌≢◌}
use Prim.Native.Nat.{ℕ, ◌*◌, ◌≤◌}
use mathlib.Core.List.{List, [], ◌∷◌}
use lib.ListN.{length, take}
use native.Mathlib.Omega.{arith}
use native.Mathlib.Decide.{dec_le}
use Rattle.model.specs.Heap.{version}
use Rattle.model.specs.Block.{heap}
use Rattle.model.specs.Numbers.{ZERO, EDIT}
use Rattle.model.specs.Calls.{fails, passes, Admitted, Ending}
use Rattle.model.specs.Batch.{Record, Legal, NoZero, batch_rule, Batched, Batch, records_from, BatchWords}
use Rattle.model.proofs.calls.Checks.{check_map}
use Rattle.table.proofs.Admitting.{Admission}
use Rattle.batch.specs.declared.records.Edit.{Edit}
use Rattle.batch.specs.Words.{records_of, flat, no_words}
use Rattle.batch.proofs.Words.{words-cut, flat-read, many_records, many_edits}

-- the first checks refuse
pub not_admitted : {b : List ℕ} {n : ℕ} (dst src : ℕ) {legal : Type 0} (es : List Record) → Admitted b (dst ∷ src ∷ []) n → n ≢ 0
    → Batched b b dst src legal es n
not_admitted dst src es A ne = check_map A (λ e. (e, refl)) (λ A. check_map A (λ e. (e, refl)) (λ A. check_map A (λ e. (e, refl)) (λ e. absurd (ne e))))

module _ {b : List ℕ} {dst src : ℕ} (A : Admission b (dst ∷ src ∷ [])) {legal : Type 0} (es : List Record) where
  pub not_legal : (legal → ⊥) → Batched b b dst src legal es EDIT
  not_legal f = passes A.sound.shaped (passes A.sound (passes A.versions (fails f (refl, refl))))

  module _ (l : legal) where
    pub puts_zero : (NoZero es → ⊥) → Batched b b dst src legal es ZERO
    puts_zero f = passes A.sound.shaped (passes A.sound (passes A.versions (passes l (fails f (refl, refl)))))

    -- what is left is the end of the edit
    pub ended : {after : List ℕ} {n : ℕ} → NoZero es → Ending b after dst (batch_rule es (version (heap b) src)) n → Batched b after dst src legal es n
    ended z E = passes A.sound.shaped (passes A.sound (passes A.versions (passes l (passes z E))))

-- records that are asked for in other words
legal_as : {b after : List ℕ} {n : ℕ} (dst src : ℕ) {P Q : Type 0} (es : List Record) → (P → Q) → (Q → P) → Batched b after dst src P es n
    → Batched b after dst src Q es n
legal_as dst src es f g (fails p r) = fails p r
legal_as dst src es f g (passes p (fails q r)) = passes p (fails q r)
legal_as dst src es f g (passes p (passes q (fails u r))) = passes p (passes q (fails u r))
legal_as dst src es f g (passes p (passes q (passes u (fails l r)))) = passes p (passes q (passes u (fails (λ x. l (g x)) r)))
legal_as dst src es f g (passes p (passes q (passes u (passes l r)))) = passes p (passes q (passes u (passes (f l) r)))

-- the batch of words that hold n records is the batch of these
pub of_words : {b after : List ℕ} {r : ℕ} (dst src : ℕ) (ws : List ℕ) (n : ℕ) → 3 * n ≤ length ws
    → BatchWords b after dst src (take (3 * n) ws) r → Batch b after dst src (records_from ws 0 n) r
of_words {b} {after} {r} dst src ws n h B =
    let cut = words-cut ws n h in
    subst (λ (es : List Record). Batch b after dst src es r) cut.1 (legal_as dst src _ (λ l. l.1) (λ l. (omega (arith, cut.0), l)) B)

-- records that are no batch are as good as others that are none
none_as : {b after : List ℕ} {n : ℕ} (dst src : ℕ) (es fs : List Record) → (Legal es → ⊥) → (Legal fs → ⊥) → Batch b after dst src es n
    → Batch b after dst src fs n
none_as dst src es fs f g (fails p r) = fails p r
none_as dst src es fs f g (passes p (fails q r)) = passes p (fails q r)
none_as dst src es fs f g (passes p (passes q (fails u r))) = passes p (passes q (fails u r))
none_as dst src es fs f g (passes p (passes q (passes u (fails l r)))) = passes p (passes q (passes u (fails g r)))
none_as dst src es fs f g (passes p (passes q (passes u (passes l r)))) = absurd (f l)

-- the batch of what a slice of records was laid out as is the batch of the slice
pub of_edits : {b after : List ℕ} {r : ℕ} (dst src : ℕ) (es : List Edit)
    → Batch b after dst src (records_from (flat es 0 no_words) 0 (length es)) r → Batch b after dst src (records_of es) r
of_edits {b} {after} {r} dst src es B = go (dec_le (length es) 512)
  where
    go : Dec (length es ≤ 512) → Batch b after dst src (records_of es) r
    go (yes h) = subst (λ (fs : List Record). Batch b after dst src fs r) (flat-read es h) B
    go (no h) = none_as dst src _ _ (many_records (flat es 0 no_words) (length es) (omega arith)) (many_edits es (omega arith)) B
