-- Which rows of a listing are wanted, and their words in the output.
use Rattle.std.specs.Prelude.{◌≡◌, ℕ, ◌-◌, ◌*◌, ◌/◌, Bool, true, false, List, [], ◌∷◌, ◌++◌, length, take, drop, ltb, leb, Result, Ok, Err}
use Rattle.std.proofs.Math.Option.{Option, none, some}
use Rattle.std.proofs.lemmas.List.Edits.{sets}
use Rattle.model.specs.Listing.{Row, Walk, until}
use Rattle.model.specs.Delta.{Change, changed}
use Rattle.answers.specs.Answers as answers
use Rattle.answers.specs.declared.Refusal.{Refusal}
use Rattle.answers.specs.declared.Refusal.TheVariants.{TooDeep}
use Rattle.walk.specs.declared.Yield.{Yield}
use Rattle.walk.specs.declared.Wanted.{Wanted}
use Rattle.walk.specs.declared.Wanted.TheVariants.{Rows, Puts, Removes}

-- the right side lacks the key
abbrev pub lacking : Row → Bool
lacking r = elim r.right [ none ↦ true | some w ↦ false ]

-- all rows; rows that are new or changed; rows that the right side lacks
abbrev pub wants : Wanted → Row → Bool
wants Rows r = true
wants Puts r = changed r
wants Removes r = lacking r

-- the wanted rows
unfoldable pub chosen : Wanted → List Row → List Row
chosen w [] = []
chosen w (r ∷ rs) = elim (wants w r) [ true ↦ r ∷ chosen w rs | false ↦ chosen w rs ]

-- words a row
abbrev pub width : Wanted → ℕ
width Rows = 4
width Puts = 2
width Removes = 2

-- 1 if common else 0
abbrev pub common_of : Option ℕ → ℕ
common_of none = 0
common_of (some v) = 1

-- right value or 0
abbrev pub value_of : Option ℕ → ℕ
value_of none = 0
value_of (some v) = v

-- the words of a row
abbrev pub words : Wanted → Row → List ℕ
words Rows r = r.key ∷ r.left ∷ common_of r.right ∷ value_of r.right ∷ []
words Puts r = r.key ∷ r.left ∷ []
words Removes r = r.key ∷ 0 ∷ []

-- one row after another
unfoldable pub words_of : Wanted → List Row → List ℕ
words_of w [] = []
words_of w (r ∷ rs) = words w r ++ words_of w rs

-- the wanted rows from index `start` on, while `room` words have room for one more
unfoldable pub part : Wanted → ℕ → ℕ → List Row → List ℕ
part w start room rows = words_of w (take (room / width w) (drop start (chosen w rows)))

-- the output afterwards: the part, and what stood after it
unfoldable pub written : Wanted → ℕ → List Row → List ℕ → List ℕ
written w start rows out = part w start (length out) rows ++ drop (length (part w start (length out) rows)) out

-- too deep, or how many rows are wanted
unfoldable pub answer : Wanted → Walk → Result ℕ Refusal
answer w k = elim k.deep [ true ↦ Err TooDeep | false ↦ Ok (length (chosen w k.rows)) ]

-- the whole walk, or up to its first wanted row
abbrev pub upto : Bool → Wanted → Walk → Walk
upto false w k = k
upto true w k = until (wants w) k.rows k.deep

-- a change of the delta as two words: its key, and its value or 0
unfoldable pub change_words : List Change → List ℕ
change_words [] = []
change_words (c ∷ cs) = c.key ∷ value_of c.now ∷ change_words cs

-- what a walk for w yields are the changes cs
pub record Changes (w : Wanted) (rows : List Row) (cs : List Change) : Type 0 where
  pub count : length (chosen w rows) ≡ length cs
  pub words : (start room : ℕ) → part w start room rows ≡ change_words (take (room / 2) (drop start cs))

-- The same one row at a time, as the walk goes.

abbrev pub row : Yield → Row
row y = record { key = y.key; left = y.left; right = answers.answer y.right }

-- row i of an output of rows of k words, if there is room for it
unfoldable pub put_at : ℕ → ℕ → List ℕ → List ℕ → List ℕ
put_at k i ws out = elim (leb (length out / k) i) [ true ↦ out | false ↦ sets out (i * k) ws ]

-- 1 for a wanted row
unfoldable pub counted : Wanted → Row → ℕ
counted w r = elim (wants w r) [ true ↦ 1 | false ↦ 0 ]

-- a row that was yielded after n wanted ones
unfoldable pub shown : Wanted → ℕ → ℕ → Row → List ℕ → List ℕ
shown w start n r out = elim (wants w r) [
  | true ↦ elim (ltb n start) [ true ↦ out | false ↦ put_at (width w) (n - start) (words w r) out ]
  | false ↦ out
]
