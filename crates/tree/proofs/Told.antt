-- Insert and remove are told by the lookup whether the key is there, and an edit by its kind which of them it is.
use mathlib.Core.Path.{◌≡◌, refl, sym, subst}
use mathlib.Core.Logic.{◌≢◌}
use Prim.Native.Nat.{ℕ, zero, suc}
use mathlib.Core.Bool.{Bool, true, false, true≢false}
use mathlib.Core.List.{List, [], ◌∷◌}
use native.Mathlib.Omega.{arith}
use Rattle.model.specs.Tree.{Tree, lookup}
use Rattle.model.specs.Supply.{done}
use Rattle.model.specs.Rules.{insert_by, insert, remove_present, remove, edit_by}
use Rattle.model.specs.Heap.{Named, tree}
use Rattle.model.specs.Block.{heap}
use Rattle.model.specs.Moves.{Running, held}
use Rattle.std.specs.Prelude.{Option, Some, None, is_some, not}
use Rattle.block.specs.Outcome.{Outcome, answer}
use Rattle.block.proofs.Outcomes.{out_done}
use Rattle.tree.specs.Remade.{remade}

-- a new key uses balanced makes, an equal key plain ones
insert_told : (f : Option ℕ) (fresh : Bool) (t : Tree) (k v : ℕ) → is_some f ≡ not fresh → answer f ≡ lookup t k → insert_by (remade fresh) t k v ≡ insert t k v
unfolding insert
insert_told (Some w) true t k v i e = absurd (true≢false i)
insert_told (Some w) false t k v i e = rw (← e, insert)
insert_told None true t k v i e = rw (← e, insert)
insert_told None false t k v i e = absurd (true≢false (sym i))

pub inserted_told : {b c ps : List ℕ} {q : Option ℕ} (f : Option ℕ) (fresh : Bool) (n key value : ℕ) → is_some f ≡ not fresh
    → answer f ≡ lookup (tree (heap b) n) key → Outcome b c ps q (insert_by (remade fresh) (tree (heap b) n) key value)
    → Outcome b c ps q (insert (tree (heap b) n) key value)
inserted_told {b} {c} {ps} {q} f fresh n key value i e O =
    subst (Outcome b c ps q) (insert_told f fresh (tree (heap b) n) key value i e) O

-- an absent key makes nothing
remove_absent : (f : Option ℕ) (t : Tree) (k : ℕ) → answer f ≡ lookup t k → is_some f ≡ false → done t ≡ remove t k
unfolding remove
remove_absent (Some w) t k e a = absurd (true≢false a)
remove_absent None t k e a = rw (← e, remove)

remove_present_lem : (f : Option ℕ) (t : Tree) (k : ℕ) → answer f ≡ lookup t k → is_some f ≡ true → remove_present t k ≡ remove t k
unfolding remove
remove_present_lem (Some w) t k e a = rw (← e, remove)
remove_present_lem None t k e a = absurd (true≢false (sym a))

pub removed_absent : {b : List ℕ} {n : ℕ} (f : Option ℕ) (key : ℕ) → Running b → Named (heap b) n → answer f ≡ lookup (tree (heap b) n) key
    → is_some f ≡ false → Outcome b b (n ∷ []) (Some n) (remove (tree (heap b) n) key)
unfolding held
removed_absent {b} {n} f key R o e a = subst (Outcome b b (n ∷ []) (Some n)) (remove_absent f (tree (heap b) n) key e a) (out_done b n (λ x i. omega arith) R o)

pub removed_present : {b c ps : List ℕ} {q : Option ℕ} (f : Option ℕ) (n key : ℕ) → answer f ≡ lookup (tree (heap b) n) key → is_some f ≡ true
    → Outcome b c ps q (remove_present (tree (heap b) n) key) → Outcome b c ps q (remove (tree (heap b) n) key)
removed_present {b} {c} {ps} {q} f n key e a O = subst (Outcome b c ps q) (remove_present_lem f (tree (heap b) n) key e a) O

-- the kind picks the rule
edit_none : (kind k v : ℕ) (t : Tree) → kind ≡ 0 → done t ≡ edit_by kind k v t
unfolding edit_by
edit_none zero k v t e = refl
edit_none (suc n) k v t e = absurd (omega arith)

edit_put : (kind k v : ℕ) (t : Tree) → kind ≡ 1 → insert t k v ≡ edit_by kind k v t
unfolding edit_by
edit_put zero k v t e = absurd (omega arith)
edit_put (suc zero) k v t e = refl
edit_put (suc (suc n)) k v t e = absurd (omega arith)

edit_remove : (kind k v : ℕ) (t : Tree) → kind ≢ 0 → kind ≢ 1 → remove t k ≡ edit_by kind k v t
unfolding edit_by
edit_remove zero k v t p q = absurd (p refl)
edit_remove (suc zero) k v t p q = absurd (q refl)
edit_remove (suc (suc n)) k v t p q = refl

module _ (b : List ℕ) (n kind key value : ℕ) where
  abbrev t : Tree
  t = tree (heap b) n

  pub kind_none : kind ≡ 0 → Running b → Named (heap b) n → Outcome b b (n ∷ []) (Some n) (edit_by kind key value t)
  unfolding held
  kind_none e R o = subst (Outcome b b (n ∷ []) (Some n)) (edit_none kind key value t e) (out_done b n (λ x i. omega arith) R o)

  pub kind_put : {c : List ℕ} {q : Option ℕ} (f : Option ℕ) (fresh : Bool) → kind ≡ 1 → is_some f ≡ not fresh → answer f ≡ lookup t key
      → Outcome b c (n ∷ []) q (insert_by (remade fresh) t key value) → Outcome b c (n ∷ []) q (edit_by kind key value t)
  kind_put {c} {q} f fresh e i a O = subst (Outcome b c (n ∷ []) q) (edit_put kind key value t e) (inserted_told f fresh n key value i a O)

  pub kind_remove : {c : List ℕ} {q : Option ℕ} → kind ≢ 0 → kind ≢ 1 → Outcome b c (n ∷ []) q (remove t key) → Outcome b c (n ∷ []) q (edit_by kind key value t)
  kind_remove {c} {q} p r O = subst (Outcome b c (n ∷ []) q) (edit_remove kind key value t p r) O
