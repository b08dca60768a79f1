-- A put and a remove change what is found at one key.
use mathlib.Core.Path.{◌≡◌, refl, sym, ◌∙◌}
use Prim.Native.Nat.{ℕ, compare, Ordering}
use mathlib.Core.Logic.{◌≢◌}
use mathlib.Core.Bool.{true, false}
use mathlib.Core.Option.{Option, none, some}
use mathlib.Core.List.{List}
use lib.Dec.{eqb}
use borrow.Author.Tests.{eq-eqb, ne_eqb}
use native.Mathlib.Omega.{arith}
use Rattle.model.specs.Tree.{Tree, Entry, cut, find, put, without, entries, Sorted, Ordered, Is}
use Rattle.model.specs.Supply.{Supply}
use Rattle.model.specs.Rules.{insert, remove}
use Rattle.model.specs.Delta.{Change}
use Rattle.model.proofs.maps.Compare.{cmp_lt, cmp_eq, cmp_gt}
use Rattle.model.proofs.maps.Sorts.{sorted_join, ordered_sorted}
use Rattle.model.proofs.maps.Finds.{CutFacts, cut_facts, find_around, append_is, below_none, above_none}
use Rattle.model.proofs.rules.Entries.{insert-entries}
use Rattle.model.proofs.rules.Splits.{remove-entries}

-- the map with one key set to what the change says
unfoldable pub updated : Change → (ℕ → Option ℕ) → ℕ → Option ℕ
updated c m k = elim (eqb k c.key) [ true ↦ c.now | false ↦ m k ]

-- at its key
pub updated_at : (c : Change) (m : ℕ → Option ℕ) (k : ℕ) → k ≡ c.key → updated c m k ≡ c.now
unfolding updated
updated_at c m k e = rw (eq-eqb k c.key e, updated)

-- at any other key
pub updated_other : (c : Change) (m : ℕ → Option ℕ) (k : ℕ) → k ≢ c.key → updated c m k ≡ m k
unfolding updated
updated_other c m k e = rw (ne_eqb k c.key e, updated)

-- put sets its key to the value and no other
pub put_is : (es : List Entry) (k v : ℕ) → Sorted es → Is (put es k v) (updated (record { key = k; now = some v }) (find es))
put_is es k v s = record { sorted = whole; finds = λ j. find_around (cut es k).before (cut es k).after k v j whole ∙ go j (compare j k) refl }
  where
    C : CutFacts es k
    C = cut_facts es k s

    c : Change
    c = record { key = k; now = some v }

    whole : Sorted (put es k v)
    whole = sorted_join (cut es k).before k v (cut es k).after C.sorted_before C.below C.above C.sorted_after

    go : (j : ℕ) (o : Ordering) → compare j k ≡ o
        → elim o [ Ordering.lt ↦ find (cut es k).before j | Ordering.eq ↦ some v | Ordering.gt ↦ find (cut es k).after j ]
        ≡ updated (record { key = k; now = some v }) (find es) j
    go j Ordering.lt e = let l = cmp_lt j k e in C.less j l ∙ sym (updated_other c (find es) j (omega arith))
    go j Ordering.eq e = sym (updated_at c (find es) j (cmp_eq j k e))
    go j Ordering.gt e = let l = cmp_gt j k e in C.more j l ∙ sym (updated_other c (find es) j (omega arith))

-- without takes its key away and no other
pub without_is : (es : List Entry) (k : ℕ) → Sorted es → Is (without es k) (updated (record { key = k; now = none }) (find es))
without_is es k s =
    append_is k (cut es k).before (cut es k).after (find (cut es k).before) (find (cut es k).after) (updated c (find es))
    (record { sorted = C.sorted_before; finds = λ j. refl })
    (record { sorted = C.sorted_after; finds = λ j. refl })
    (λ j p. below_none (cut es k).before k j C.below p)
    (λ j p. above_none (cut es k).after k j C.above p)
    (λ j p. C.less j p ∙ sym (updated_other c (find es) j (omega arith)))
    (sym (updated_at c (find es) k refl))
    (λ j p. C.more j p ∙ sym (updated_other c (find es) j (omega arith)))
  where
    C : CutFacts es k
    C = cut_facts es k s

    c : Change
    c = record { key = k; now = none }

-- the insert of a tree is a put
pub insert_is : (t : Tree) (k v : ℕ) (s : Supply) → Ordered t
    → Is (entries (insert t k v s).0) (updated (record { key = k; now = some v }) (find (entries t)))
insert_is t k v s o = rw (insert-entries t k v s o) (put_is (entries t) k v (ordered_sorted t o))

-- the remove of a tree takes the key away
pub remove_is : (t : Tree) (k : ℕ) (s : Supply) → Ordered t
    → Is (entries (remove t k s).0) (updated (record { key = k; now = none }) (find (entries t)))
remove_is t k s o = rw (remove-entries t k s o) (without_is (entries t) k (ordered_sorted t o))
