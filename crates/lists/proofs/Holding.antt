-- Puts and then removes, two words each, are read back by their index.
use mathlib.Core.Path.{◌≡◌, refl, ap, sym, ◌∙◌}
use Prim.Native.Nat.{ℕ, zero, suc, ◌+◌, ◌-◌, ◌*◌, ◌≤◌, ◌<◌}
use mathlib.Core.Bool.{Bool, true, false}
use mathlib.Core.Option.{Option, none, some}
use mathlib.Core.List.{List, [], ◌∷◌, ◌++◌}
use native.Mathlib.Omega.{arith}
use native.Mathlib.Decide.{dec_le}
use lib.ListN.{length, get_or, length-append, get_or-append}
use lib.Seq.{ext_get_or, get_or-append-add}
use borrow.Author.Tests.{lt-ltb, le-ltb}
use Rattle.model.specs.Listing.{Row}
use Rattle.model.specs.Delta.{Change, changed, puts, removes, change_at}
use Rattle.walk.specs.Rows.{value_of, change_words}
use Rattle.lists.specs.Changes.{change_in, changes_in}

-- words of changes
pub change_words_long : (cs : List Change) → length (change_words cs) ≡ 2 * length cs
unfolding change_words
change_words_long [] = refl
change_words_long (c ∷ cs) = omega (arith, change_words_long cs)

pub change_words-append : (cs ds : List Change) → change_words (cs ++ ds) ≡ change_words cs ++ change_words ds
unfolding change_words
change_words-append [] ds = refl
change_words-append (c ∷ cs) ds = ap (λ (xs : List ℕ). c.key ∷ value_of c.now ∷ xs) (change_words-append cs ds)

key_word : (cs : List Change) (rest : List ℕ) (i : ℕ) → i < length cs → get_or (change_words cs ++ rest) (2 * i) 0 ≡ (change_at cs i).key
unfolding change_words
key_word [] rest i h = absurd (omega arith)
key_word (c ∷ cs) rest zero h = refl
key_word (c ∷ cs) rest (suc i) h = let e : 2 * suc i ≡ suc (suc (2 * i)) = omega arith in rw e (key_word cs rest i (omega arith))

value-word : (cs : List Change) (rest : List ℕ) (i : ℕ) → i < length cs → get_or (change_words cs ++ rest) (2 * i + 1) 0 ≡ value_of (change_at cs i).now
unfolding change_words
value-word [] rest i h = absurd (omega arith)
value-word (c ∷ cs) rest zero h = refl
value-word (c ∷ cs) rest (suc i) h = let e : 2 * suc i + 1 ≡ suc (suc (2 * i + 1)) = omega arith in rw e (value-word cs rest i (omega arith))

-- what a put is, and a remove
abbrev Put : Change → Type 0
Put c = c.now ≡ some (value_of c.now)

abbrev Remove : Change → Type 0
Remove c = c.now ≡ none

pub puts-put : (rs : List Row) (i : ℕ) → i < length (puts rs) → Put (change_at (puts rs) i)
unfolding puts
puts-put [] i h = absurd (omega arith)
puts-put (r ∷ rs) i h = go (changed r) i h (puts-put rs)
  where
    go : (t : Bool) (i : ℕ)
        → i < length {A = Change} (elim t [ true ↦ record { key = r.key; now = some r.left } ∷ puts rs | false ↦ puts rs ])
        → ((i : ℕ) → i < length (puts rs) → Put (change_at (puts rs) i))
        → Put (change_at (elim t [ true ↦ record { key = r.key; now = some r.left } ∷ puts rs | false ↦ puts rs ]) i)
    go true zero h ih = refl
    go true (suc i) h ih = ih i (omega arith)
    go false i h ih = ih i h

pub removes-remove : (rs : List Row) (i : ℕ) → i < length (removes rs) → Remove (change_at (removes rs) i)
unfolding removes
removes-remove [] i h = absurd (omega arith)
removes-remove (r ∷ rs) i h = go r.right i h (removes-remove rs)
  where
    go : (o : Option ℕ) (i : ℕ)
        → i < length {A = Change} (elim o [ none ↦ record { key = r.key; now = none } ∷ removes rs | some w ↦ removes rs ])
        → ((i : ℕ) → i < length (removes rs) → Remove (change_at (removes rs) i))
        → Remove (change_at (elim o [ none ↦ record { key = r.key; now = none } ∷ removes rs | some w ↦ removes rs ]) i)
    go none zero h ih = refl
    go none (suc i) h ih = ih i (omega arith)
    go (some w) i h ih = ih i h

pub puts_few : (rs : List Row) → length (puts rs) ≤ length rs
unfolding puts
puts_few [] = omega arith
puts_few (r ∷ rs) = go (changed r) (puts_few rs)
  where
    go : (t : Bool) → length (puts rs) ≤ length rs
        → length {A = Change} (elim t [ true ↦ record { key = r.key; now = some r.left } ∷ puts rs | false ↦ puts rs ]) ≤ suc (length rs)
    go true ih = omega arith
    go false ih = omega arith

-- the list that the words stand for
pub changes_length : (puts : ℕ) (ws : List ℕ) (n i : ℕ) → length (changes_in puts ws n i) ≡ n
unfolding changes_in
changes_length puts ws zero i = refl
changes_length puts ws (suc n) i = ap suc (changes_length puts ws n (suc i))

pub changes_at : (puts : ℕ) (ws : List ℕ) (n i j : ℕ) → j < n → change_at (changes_in puts ws n i) j ≡ change_in puts ws (i + j)
unfolding changes_in
changes_at puts ws zero i j h = absurd (omega arith)
changes_at puts ws (suc n) i zero h = let e : i ≡ i + 0 = omega arith in ap (change_in puts ws) e
changes_at puts ws (suc n) i (suc j) h = let e : suc i + j ≡ i + suc j = omega arith in changes_at puts ws n (suc i) j (omega arith) ∙ ap (change_in puts ws) e

-- words that begin with p puts and then removes
pub record Held (ps rs : List Change) (p : ℕ) (rest ws : List ℕ) : Type 0 where
  pub first : p ≡ length ps
  pub put : (i : ℕ) → i < length ps → Put (change_at ps i)
  pub remove : (i : ℕ) → i < length rs → Remove (change_at rs i)
  pub words : ws ≡ change_words (ps ++ rs) ++ rest

same_change : (c : Change) (k : ℕ) (o : Option ℕ) → k ≡ c.key → o ≡ c.now → record { key = k; now = o } ≡ c
same_change c k o e f = rw (e, f)

module _ {ps rs : List Change} {p : ℕ} {rest ws : List ℕ} (H : Held ps rs p rest ws) where
  held_at : (i : ℕ) → i < length (ps ++ rs) → change_in p ws i ≡ change_at (ps ++ rs) i
  unfolding change_in
  held_at i h = go (dec_le (length ps) i)
    where
      key : get_or ws (2 * i) 0 ≡ (change_at (ps ++ rs) i).key
      key = rw H.words (key_word (ps ++ rs) rest i h)

      value : get_or ws (2 * i + 1) 0 ≡ value_of (change_at (ps ++ rs) i).now
      value = rw H.words (value-word (ps ++ rs) rest i h)

      go : Dec (length ps ≤ i) → change_in p ws i ≡ change_at (ps ++ rs) i
      go (yes q) =
          let e : length ps + (i - length ps) ≡ i = omega arith in
          let at : change_at (ps ++ rs) i ≡ change_at rs (i - length ps) = ap (λ j. change_at (ps ++ rs) j) (sym e) ∙ get_or-append-add ps rs (i - length ps) _ in
          let gone : none ≡ (change_at (ps ++ rs) i).now = rw at (sym (H.remove (i - length ps) (omega (arith, length-append ps rs)))) in
          rw (le-ltb i p (omega (arith, H.first)), change_in) (same_change (change_at (ps ++ rs) i) _ _ key gone)
      go (no q) =
          let at : change_at (ps ++ rs) i ≡ change_at ps i = get_or-append ps rs _ i (omega arith) in
          let is : some (value_of (change_at (ps ++ rs) i).now) ≡ (change_at (ps ++ rs) i).now = rw at (sym (H.put i (omega arith))) in
          rw (lt-ltb i p (omega (arith, H.first)), change_in) (same_change (change_at (ps ++ rs) i) _ _ key (ap some value ∙ is))

  pub held_all : (n : ℕ) → n ≡ length (ps ++ rs) → changes_in p ws n 0 ≡ ps ++ rs
  held_all n e =
      let l = changes_length p ws n 0 in
      ext_get_or (record { key = 0; now = none }) (changes_in p ws n 0) (ps ++ rs) (l ∙ e)
      (λ i h. changes_at p ws n 0 i (omega arith) ∙ (let z : 0 + i ≡ i = omega arith in ap (change_in p ws) z) ∙ held_at i (omega arith))
