-- A walk for puts or removes yields the delta's changes: the same rows are wanted, in the same order.
use mathlib.Core.Path.{◌≡◌, refl, ap}
use mathlib.Core.Bool.{Bool, true, false}
use mathlib.Core.Option.{Option, none, some}
use mathlib.Core.List.{List, [], ◌∷◌, map}
use Prim.Native.Nat.{ℕ, zero, suc, ◌/◌}
use lib.ListN.{take, drop, length-map}
use Rattle.model.specs.Listing.{Row}
use Rattle.model.specs.Delta.{Change, changed, puts, removes}
use Rattle.walk.specs.declared.Wanted.{Wanted}
use Rattle.walk.specs.declared.Wanted.TheVariants.{Puts, Removes}
use Rattle.walk.specs.Rows.{chosen, width, words, words_of, part, value_of, change_words, Changes}

take-map : (f : Row → Change) (n : ℕ) (rs : List Row) → take n (map f rs) ≡ map f (take n rs)
take-map f zero rs = refl
take-map f (suc n) [] = refl
take-map f (suc n) (r ∷ rs) = ap (λ (cs : List Change). f r ∷ cs) (take-map f n rs)

drop-map : (f : Row → Change) (n : ℕ) (rs : List Row) → drop n (map f rs) ≡ map f (drop n rs)
drop-map f zero rs = refl
drop-map f (suc n) [] = refl
drop-map f (suc n) (r ∷ rs) = drop-map f n rs

-- one change for each wanted row
module _ (w : Wanted) (f : Row → Change) (two : width w ≡ 2) (same : (r : Row) → words w r ≡ (f r).key ∷ value_of (f r).now ∷ []) where
  words_map : (rs : List Row) → words_of w rs ≡ change_words (map f rs)
  unfolding words_of change_words
  words_map [] = refl
  words_map (r ∷ rs) = rw (same r, words_map rs)

  changes_map : (rs : List Row) (cs : List Change) → cs ≡ map f (chosen w rs) → Changes w rs cs
  unfolding part
  changes_map rs cs e = record {
    count = rw (e, length-map (chosen w rs) f);
    words = λ start room. rw (e, two, drop-map f start (chosen w rs), take-map f (room / 2) (drop start (chosen w rs))) (words_map (take (room / 2) (drop start (chosen w rs))));
  }

put : Row → Change
put r = record { key = r.key; now = some r.left }

remove : Row → Change
remove r = record { key = r.key; now = none }

puts-chosen : (rs : List Row) → puts rs ≡ map put (chosen Puts rs)
unfolding puts chosen put
puts-chosen [] = refl
puts-chosen (r ∷ rs) = go (changed r) (puts-chosen rs)
  where
    go : (t : Bool) → puts rs ≡ map put (chosen Puts rs)
        → elim t [ true ↦ put r ∷ puts rs | false ↦ puts rs ] ≡ map put (elim t [ true ↦ r ∷ chosen Puts rs | false ↦ chosen Puts rs ])
    go true ih = ap (λ (cs : List Change). put r ∷ cs) ih
    go false ih = ih

removes-chosen : (rs : List Row) → removes rs ≡ map remove (chosen Removes rs)
unfolding removes chosen remove
removes-chosen [] = refl
removes-chosen (r ∷ rs) = go r.right (removes-chosen rs)
  where
    absent : Option ℕ → Bool
    absent o = elim o [ none ↦ true | some v ↦ false ]

    go : (o : Option ℕ) → removes rs ≡ map remove (chosen Removes rs)
        → elim o [ none ↦ remove r ∷ removes rs | some v ↦ removes rs ] ≡ map remove (elim (absent o) [ true ↦ r ∷ chosen Removes rs | false ↦ chosen Removes rs ])
    go none ih = ap (λ (cs : List Change). remove r ∷ cs) ih
    go (some v) ih = ih

pub puts_changes : (rs : List Row) → Changes Puts rs (puts rs)
unfolding put
puts_changes rs = changes_map Puts put refl (λ r. refl) rs (puts rs) (puts-chosen rs)

pub removes_changes : (rs : List Row) → Changes Removes rs (removes rs)
unfolding remove
removes_changes rs = changes_map Removes remove refl (λ r. refl) rs (removes rs) (removes-chosen rs)
