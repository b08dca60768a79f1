-- How many puts the walk met before it was left, and two sizes, answer the call same.
use mathlib.Core.Path.{◌≡◌, refl, ap, sym, ◌∙◌}
use mathlib.Core.Logic.{◌≢◌}
use Prim.Native.Nat.{ℕ}
use mathlib.Core.Bool.{Bool, true, false, true≢false}
use mathlib.Core.List.{List, [], ◌∷◌}
use lib.ListN.{length}
use lib.Dec.{eqb}
use native.Mathlib.Omega.{arith}
use Rattle.model.specs.Tree.{Tree}
use Rattle.model.specs.Delta.{Change, puts}
use Rattle.model.specs.Heap.{size_at, tree, version}
use Rattle.model.specs.Block.{heap}
use Rattle.model.specs.Numbers.{TOO_DEEP}
use Rattle.model.specs.Calls.{Check, fails, passes, Answer, refusal, giving, Admitted}
use Rattle.model.specs.Lists.{drift, alike, Same}
use Rattle.model.proofs.calls.Drifts.{by_put, by_sizes}
use Rattle.walk.specs.declared.Wanted.TheVariants.{Puts}
use Rattle.std.specs.Prelude.{Result, Ok, Err}
use Rattle.answers.specs.declared.Refusal.{Refusal}
use Rattle.answers.specs.Numbers.{number}
use Rattle.answers.specs.Answers.{truth_of}
use Rattle.answers.proofs.NotDone.{some_number}
use Rattle.walk.specs.Rows.{answer}
use Rattle.walk.proofs.Changes.{puts_changes}
use Rattle.table.specs.Answers.{Source}
use Rattle.table.proofs.Admitting.{Admission, known_first, known_second}
use Rattle.table.proofs.Settling.{source_size}
use Rattle.lists.proofs.Listing.{answer_err, answer-total}

-- a check of the block or of the versions fails
pub same_refused : {b : List ℕ} (from to : ℕ) (r : Refusal) → Admitted b (from ∷ to ∷ []) (number r) → Same b from to (truth_of (Err r))
same_refused from to r (fails p e) = fails p (ap refusal e)
same_refused from to r (passes p (fails q e)) = passes p (fails q (ap refusal e))
same_refused from to r (passes p (passes q (fails u e))) = passes p (passes q (fails u (ap refusal e)))
same_refused from to r (passes p (passes q (passes u e))) = absurd (some_number r e)

-- the walk of version to against version from, up to its first put
pub record Compared (b : List ℕ) (from to x y : ℕ) (q : Result ℕ Refusal) : Type 0 where
  pub admitted : Admission b (from ∷ to ∷ [])
  pub old : x ≡ (heap b).root from
  pub new : y ≡ (heap b).root to
  pub answered : q ≡ answer Puts (drift (tree (heap b) x) (tree (heap b) y))

pub first_source : {b : List ℕ} {v w x : ℕ} → Admission b (v ∷ w ∷ []) → x ≡ (heap b).root v → Source b v x
first_source A e = record { sound = A.sound; known = known_first _ A.versions; is = e }

pub second_source : {b : List ℕ} {v w y : ℕ} → Admission b (v ∷ w ∷ []) → y ≡ (heap b).root w → Source b w y
second_source A e = record { sound = A.sound; known = known_second _ _ A.versions; is = e }

module _ {b : List ℕ} {from to x y : ℕ} {q : Result ℕ Refusal} (C : Compared b from to x y q) where
  abbrev A : Tree
  A = version (heap b) from

  abbrev B : Tree
  B = version (heap b) to

  answered : q ≡ answer Puts (drift A B)
  answered = rw (C.old, C.new) at C.answered

  behind : {a : Answer} → Check ((drift A B).deep ≡ false) (a ≡ refusal TOO_DEEP) (a ≡ giving (alike A B)) → Same b from to a
  behind c = let S = C.admitted in passes S.sound.shaped (passes S.sound (passes S.versions c))

  pub same_deep : {r : Refusal} → q ≡ Err r → Same b from to (truth_of (Err r))
  same_deep e =
      let d = answer_err Puts (drift A B) (sym e ∙ answered) in
      behind (fails (λ f. true≢false (sym d.1 ∙ f)) (ap (λ (r : Refusal). truth_of (Err r)) d.0))

  module _ {n : ℕ} (e : q ≡ Ok n) where
    counted : ((drift A B).deep ≡ false) × (n ≡ length (puts (drift A B).rows))
    counted = let d = answer-total Puts (drift A B) (sym e ∙ answered) in (d.0, d.1 ∙ (puts_changes (drift A B).rows).count)

    done : {a : Answer} → a ≡ giving (alike A B) → Same b from to a
    done f = behind (passes counted.0 f)

    pub same_put : n ≢ 0 → Same b from to (truth_of (Ok false))
    same_put ne = go (puts (drift A B).rows) refl
      where
        go : (ps : List Change) → puts (drift A B).rows ≡ ps → Same b from to (truth_of (Ok false))
        go [] p = absurd (ne (counted.1 ∙ ap length p))
        go (c ∷ cs) p = done (ap giving (sym (by_put A B c cs p)))

    -- no put: the sizes at the two roots
    module _ {s t : ℕ} (none : n ≡ 0) (left : s ≡ size_at (heap b) x) (right : t ≡ size_at (heap b) y) where
      by : alike A B ≡ elim (eqb s t) [ true ↦ 1 | false ↦ 0 ]
      by =
          by_sizes A B (go (puts (drift A B).rows) (sym counted.1 ∙ none))
          ∙ rw (left, right, source_size (first_source C.admitted C.old), source_size (second_source C.admitted C.new))
        where
          go : (ps : List Change) → length ps ≡ 0 → ps ≡ []
          go [] p = refl
          go (c ∷ cs) p = absurd (omega arith)

      pub same_sizes : Same b from to (truth_of (Ok (eqb s t)))
      same_sizes = done (told (eqb s t) ∙ ap giving (sym by))
        where
          told : (t : Bool) → truth_of (Ok t) ≡ giving (elim t [ true ↦ 1 | false ↦ 0 ])
          told true = refl
          told false = refl
