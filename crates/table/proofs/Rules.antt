-- Each rule's outcome from the roots that the code holds: they are the versions', and the fuel of union is enough.
use mathlib.Core.Path.{◌≡◌, refl, sym, subst, ◌∙◌}
use Prim.Native.Nat.{ℕ, suc, ◌+◌, ◌≤◌, ◌<◌}
use mathlib.Core.Bool.{Bool, true, false, ◌&&◌, not, true≢false}
use mathlib.Core.List.{List, [], ◌∷◌}
use lib.Dec.{eqb, leb}
use borrow.Author.Tests.{eq-eqb}
use native.Mathlib.Omega.{arith}
use Rattle.std.specs.Prelude.{Option, Some, is_some}
use Rattle.model.specs.Tree.{leaf, size, entries, lookup, Ordered}
use Rattle.model.specs.Supply.{done}
use Rattle.model.specs.Rules.{insert_by, insert, remove, union, difference, merge_by, fits, diff_by}
use Rattle.model.specs.Heap.{Heap, load, tree, version, supply}
use Rattle.model.specs.Block.{heap, SoundBlock}
use Rattle.model.specs.Moves.{held}
use Rattle.model.proofs.block.Counts.{hit_no}
use Rattle.model.proofs.running.Pieces.{AllNamed}
use Rattle.model.proofs.rules.Orders.{difference_ordered}
use Rattle.model.proofs.block.Loads.{tree-size}
use Rattle.model.proofs.block.Versions.{sound_running, version_ordered, cancelling_changes_nothing}
use Rattle.block.specs.Outcome.{Outcome, answer}
use Rattle.block.proofs.Outcomes.{out_done}
use Rattle.tree.specs.Remade.{remade}
use Rattle.tree.proofs.Told.{inserted_told}
use Rattle.sets.specs.United.{United}
use Rattle.sets.specs.Words.{word_by}
use Rattle.sets.specs.Numbers.{union_number, difference_number}
use Rattle.sets.specs.declared.values.UnionRule.{UnionRule}
use Rattle.sets.specs.declared.values.DifferenceRule.{DifferenceRule}
use Rattle.sets.proofs.ByRule.{union_exact, union_legal, difference_legal}
use Rattle.table.specs.Answers.{Source}
use Rattle.table.proofs.Settling.{source_named}

module _ {b : List ℕ} {v r : ℕ} (S : Source b v r) where
  pub inserted : {c ps : List ℕ} {q : Option ℕ} (f : Option ℕ) (fresh : Bool) (key value : ℕ) → is_some f ≡ not fresh
      → answer f ≡ lookup (tree (heap b) r) key → Outcome b c ps q (insert_by (remade fresh) (tree (heap b) r) key value)
      → Outcome b c ps q (insert (version (heap b) v) key value)
  inserted f fresh key value i e O = rw (← S.is) (inserted_told f fresh r key value i e O)

  pub removed : {c ps : List ℕ} {q : Option ℕ} (key : ℕ) → Outcome b c ps q (remove (tree (heap b) r) key) → Outcome b c ps q (remove (version (heap b) v) key)
  removed key O = rw (← S.is) O

  pub copied : Outcome b b (r ∷ []) (Some r) (done (version (heap b) v))
  unfolding held
  copied = rw (← S.is) (out_done b r (λ x i. omega arith) (sound_running S.sound) (source_named S))

pub cleared : {b : List ℕ} → SoundBlock b → Outcome b b [] (Some 0) (done leaf)
unfolding tree load held
cleared {b} B = out_done b 0 (λ x i. omega (arith, hit_no 0 x (omega arith))) (sound_running B) tt

pub no_pieces : (h : Heap) → AllNamed h []
unfolding AllNamed
no_pieces h = tt

-- the words that were merged are the rule's values, as every sum fits
pub united : {b c : List ℕ} {q : Option ℕ} {v w l r : ℕ} (x : UnionRule) {rule : ℕ} → union_number x ≡ rule → Source b v l → Source b w r
    → fits rule (entries (version (heap b) v)) (entries (version (heap b) w)) ≡ true
    → United b c q (word_by (union_number x)) l r → Outcome b c (l ∷ r ∷ []) q (union (merge_by rule) (version (heap b) v) (version (heap b) w))
unfolding union
united {b} {c} {q} {v} {w} {l} {r} x {rule} n S T f U =
    subst (Outcome b c (l ∷ r ∷ []) q) (union_exact rule _ _ (union_legal x n) (version_ordered S.sound.sound v S.known) (version_ordered T.sound.sound w T.known) f) whole
  where
    whole : Outcome b c (l ∷ r ∷ []) q (union (word_by rule) (version (heap b) v) (version (heap b) w))
    whole =
        let L = S.sound.sound.kept.linked in
        rw (← n, ← S.is, ← T.is) (U.any (suc (size (tree (heap b) l) + size (tree (heap b) r))) (omega (arith, tree-size (heap b) L l (source_named S), tree-size (heap b) L r (source_named T))))

-- what the test says of the roots is so of the versions
pub fits_told : {b : List ℕ} {v w l r : ℕ} {t s : Bool} (x : UnionRule) {rule : ℕ} → union_number x ≡ rule → Source b v l → Source b w r
    → t ≡ fits (union_number x) (entries (tree (heap b) l)) (entries (tree (heap b) r)) → t ≡ s
    → fits rule (entries (version (heap b) v)) (entries (version (heap b) w)) ≡ s
fits_told x n S T e p = rw (← n, ← S.is, ← T.is) (sym e ∙ p)

-- a rule of differences by its number, which may cancel
pub may_cancel : (x : DifferenceRule) {rule : ℕ} → difference_number x ≡ rule → (cancel : Bool) → (cancel && eqb (difference_number x) 2) ≡ false
    → (leb rule 3 && not (cancel && eqb rule 2)) ≡ true
may_cancel x e cancel f = rw (difference_legal x e, ← e, f) refl

pub lessened : {b c ps : List ℕ} {q : Option ℕ} {v w l r : ℕ} (x : DifferenceRule) {rule : ℕ} → difference_number x ≡ rule → (cancel : Bool) → Source b v l → Source b w r
    → Outcome b c ps q (difference (diff_by (difference_number x)) cancel (tree (heap b) l) (tree (heap b) r))
    → Outcome b c ps q (difference (diff_by rule) cancel (version (heap b) v) (version (heap b) w))
lessened x n cancel S T O = rw (← n, ← S.is, ← T.is) O

-- cancelling is legal only where it changes nothing, so it keeps the order too
pub lessened_ordered : {b : List ℕ} → SoundBlock b → (v w rule : ℕ) (cancel : Bool) → (leb rule 3 && not (cancel && eqb rule 2)) ≡ true → v < 16 → w < 16
    → Ordered (difference (diff_by rule) cancel (version (heap b) v) (version (heap b) w) (supply (heap b))).0
lessened_ordered {b} B v w rule cancel l p q = go cancel l
  where
    plain : Ordered (difference (diff_by rule) false (version (heap b) v) (version (heap b) w) (supply (heap b))).0
    plain = difference_ordered (diff_by rule) _ _ _ (version_ordered B.sound v p) (version_ordered B.sound w q)

    not_two : (t : Bool) → (t && false) ≡ true → ⊥
    not_two true x = true≢false (sym x)
    not_two false x = true≢false (sym x)

    go : (c : Bool) → (leb rule 3 && not (c && eqb rule 2)) ≡ true
        → Ordered (difference (diff_by rule) c (version (heap b) v) (version (heap b) w) (supply (heap b))).0
    go false l = plain
    go true l = rw (cancelling_changes_nothing (heap b) B.sound rule v w (λ e. not_two (leb rule 3) (rw (eq-eqb rule 2 e) at l)) p q) plain
