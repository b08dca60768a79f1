-- Definitions by cases on a number or an enum, where the code tests instead.
use mathlib.Core.Path.{◌≡◌, refl}
use mathlib.Core.Logic.{◌≢◌}
use Prim.Native.Nat.{ℕ, ◌-◌, ◌≤◌, ◌<◌}
use mathlib.Core.Bool.{Bool, true, false, not}
use mathlib.Core.List.{List}
use native.Mathlib.Omega.{arith}
use lib.Dec.{ltb, eqb}
use Rattle.std.specs.Prelude.{Option, Some, None}
use Rattle.std.specs.Option.{option_eq}
use borrow.Author.Tests.{lt-ltb, le-ltb, eq-eqb, ne_eqb, le-leb, lt-leb}
use Rattle.model.specs.Heap.{Heap, size_at}
use Rattle.model.specs.Listing.{Row}
use Rattle.model.proofs.maps.Compare.{lt_cmp, eq_cmp, gt_cmp}
use Rattle.walk.specs.declared.Act.TheVariants.{Left, Right, Drop, Give}
use Rattle.model.specs.Delta.{changed}
use Rattle.walk.specs.declared.Yield.{Yield}
use Rattle.walk.specs.declared.Wanted.{Wanted}
use Rattle.walk.specs.Rows.{row, wants, width, words, put_at, shown}
use Rattle.walk.specs.Cursors.{only, common, trees, entries}

module _ (h : Heap) (x y : ℕ) where
  pub trees_same : x ≡ y → Drop 1 ≡ trees h x y
  unfolding trees
  trees_same e = rw (eq-eqb x y e, trees)

  pub trees_left : (s t : ℕ) → x ≢ y → s ≡ size_at h x → t ≡ size_at h y → t ≤ s → Left x ≡ trees h x y
  unfolding trees
  trees_left s t e p q f = rw (ne_eqb x y e, trees) (rw (le-leb (size_at h y) (size_at h x) (omega arith)))

  pub trees_right : (s t : ℕ) → x ≢ y → s ≡ size_at h x → t ≡ size_at h y → s < t → Right y ≡ trees h x y
  unfolding trees
  trees_right s t e p q f = rw (ne_eqb x y e, trees) (rw (lt-leb (size_at h y) (size_at h x) (omega arith)))

module _ (k v j u : ℕ) where
  pub entries_less : k < j → Give (only k v) ≡ entries k v j u
  unfolding entries
  entries_less e = rw (lt_cmp k j e, entries)

  pub entries_same : k ≡ j → Give (common k v u) ≡ entries k v j u
  unfolding entries
  entries_same e = rw (eq_cmp k j e, entries)

  pub entries_more : j ≤ k → k ≢ j → Drop 0 ≡ entries k v j u
  unfolding entries
  entries_more d e = rw (gt_cmp k j (omega arith), entries)

module _ (w : Wanted) (start n : ℕ) (r : Row) (out : List ℕ) where
  pub shown_no : wants w r ≡ false → out ≡ shown w start n r out
  unfolding shown
  shown_no e = rw (e, shown)

  pub shown_early : n < start → out ≡ shown w start n r out
  unfolding shown
  shown_early f = go (wants w r)
    where
      go : (t : Bool) → out ≡ elim t [
        | true ↦ elim (ltb n start) [ true ↦ out | false ↦ put_at (width w) (n - start) (words w r) out ]
        | false ↦ out
      ]
      go true = rw (lt-ltb n start f)
      go false = refl

  pub shown_put : wants w r ≡ true → start ≤ n → put_at (width w) (n - start) (words w r) out ≡ shown w start n r out
  unfolding shown
  shown_put e f = rw (e, shown) (rw (le-ltb n start f))

pub changed_row : (y : Yield) → not (option_eq eqb (Some y.left) y.right) ≡ changed (row y)
unfolding changed
changed_row y = go y.key y.left y.right
  where
    go : (k v : ℕ) (r : Option ℕ) → not (option_eq eqb (Some v) r) ≡ changed (row (record { key = k; left = v; right = r }))
    go k v None = refl
    go k v (Some u) = refl
