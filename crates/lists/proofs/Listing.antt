-- The walk's rows are the listing's pieces, four words each, and what is copied of them is the part that fits.
use mathlib.Core.Path.{◌≡◌, refl, ap, sym, ◌∙◌}
use Prim.Native.Nat.{ℕ, zero, suc, ◌-◌, ◌*◌, ◌/◌, ◌≤◌, min}
use mathlib.Core.Bool.{Bool, true, false}
use mathlib.Core.Option.{Option, none, some}
use mathlib.Core.List.{List, [], ◌∷◌, ◌++◌, map}
use native.Mathlib.Omega.{arith}
use lib.ListN.{length, take, drop, length-map, length-drop}
use lib.Seq.{take_all, length-take-le}
use Rattle.model.specs.Heap.{tree, version}
use Rattle.model.specs.Block.{heap}
use Rattle.model.specs.Listing.{Row, Walk, listing}
use Rattle.model.specs.Lists.{Lists, listed, row_words, laid, over}
use Rattle.model.specs.Lists as model
use Rattle.model.proofs.listing.DeltaRoom.{listing-room}
use Rattle.walk.specs.declared.Wanted.{Wanted}
use Rattle.walk.specs.declared.Wanted.TheVariants.{Rows}
use Rattle.std.specs.Prelude.{Result, Ok, Err}
use Rattle.answers.specs.declared.Refusal.{Refusal}
use Rattle.answers.specs.declared.Refusal.TheVariants.{TooDeep}
use Rattle.answers.specs.Answers.{report_of}
use Rattle.walk.specs.Rows.{chosen, common_of, value_of, words, words_of, part, written, answer}
use Rattle.walk.proofs.Outputs.{part_long}
use Rattle.table.proofs.Admitting.{Admission, known_first, known_second}
use Rattle.lists.proofs.Reporting.{lists_deep, lists_done}
use Rattle.model.proofs.listing.Cutting.{take_min}
use Rattle.lists.proofs.Laying.{take-map, drop-map}

-- what a walk's answer says
module _ (w : Wanted) (k : Walk) where
  pub answer_err : {r : Refusal} → Err r ≡ answer w k → (r ≡ TooDeep) × (k.deep ≡ true)
  unfolding answer
  answer_err {r} e = go k.deep e
    where
      go : (d : Bool) → ◌≡◌ {A = Result ℕ Refusal} (Err r) (elim d [ true ↦ Err TooDeep | false ↦ Ok (length (chosen w k.rows)) ]) → (r ≡ TooDeep) × (d ≡ true)
      go true e = (cc, refl)
      go false e = absurd (cc)

  pub answer-total : {n : ℕ} → Ok n ≡ answer w k → (k.deep ≡ false) × (n ≡ length (chosen w k.rows))
  unfolding answer
  answer-total {n} e = go k.deep e
    where
      go : (d : Bool) → ◌≡◌ {A = Result ℕ Refusal} (Ok n) (elim d [ true ↦ Err TooDeep | false ↦ Ok (length (chosen w k.rows)) ]) → (d ≡ false) × (n ≡ length (chosen w k.rows))
      go true e = absurd (cc)
      go false e = (refl, cc)

-- the words of all rows
all-chosen : (rs : List Row) → chosen Rows rs ≡ rs
unfolding chosen
all-chosen [] = refl
all-chosen (r ∷ rs) = ap (λ (xs : List Row). r ∷ xs) (all-chosen rs)

row_words_lem : (r : Row) → words Rows r ≡ row_words r
unfolding row_words
row_words_lem r = go r.right
  where
    go : (o : Option ℕ)
        → r.key ∷ r.left ∷ common_of o ∷ value_of o ∷ [] ≡ elim o [ none ↦ r.key ∷ r.left ∷ 0 ∷ 0 ∷ [] | some v ↦ r.key ∷ r.left ∷ 1 ∷ v ∷ [] ]
    go none = refl
    go (some v) = refl

words-laid : (rs : List Row) → words_of Rows rs ≡ laid (map row_words rs)
unfolding words_of laid
words-laid [] = refl
words-laid (r ∷ rs) = ap (λ (xs : List ℕ). xs ++ words_of Rows rs) (row_words_lem r) ∙ ap (λ (xs : List ℕ). row_words r ++ xs) (words-laid rs)

part_rows : (start room : ℕ) (rs : List Row) → part Rows start room rs ≡ model.part 4 start room (map row_words rs)
unfolding part
part_rows start room rs = rw (all-chosen rs, drop-map row_words start rs, take-map row_words (room / 4) (drop start rs)) (words-laid (take (room / 4) (drop start rs)))

words_of_long : (rs : List Row) → length (words_of Rows rs) ≡ 4 * length rs
unfolding words_of
words_of_long [] = refl
words_of_long (r ∷ rs) = omega (arith, words_of_long rs)

-- the words that a copy takes of all that were written
words_take : (m : ℕ) (rs : List Row) (xs : List ℕ) → m ≤ length rs → take (4 * m) (words_of Rows rs ++ xs) ≡ words_of Rows (take m rs)
unfolding words_of
words_take zero rs xs h = refl
words_take (suc m) [] xs h = absurd (omega arith)
words_take (suc m) (r ∷ rs) xs h =
    let n : 4 * suc m ≡ suc (suc (suc (suc (4 * m)))) = omega arith in
    rw n (ap (λ (ys : List ℕ). words Rows r ++ ys) (words_take m rs xs (omega arith)))

-- rows that all found room in ws, copied to out as far as it has room
pub copied : (start m : ℕ) (rs : List Row) (ws out : List ℕ) → length rs ≤ length ws / 4 → m ≡ min (length out / 4) (length rs - start)
    → take (4 * m) (written Rows start rs ws) ++ drop (4 * m) out ≡ written Rows start rs out
unfolding written part
copied start m rs ws out h e =
    let q = drop start rs in
    let long = length-drop start rs in
    let all : take (length ws / 4) q ≡ q = take_all (length ws / 4) q (omega arith) in
    let fits : take (length out / 4) q ≡ take m q = sym (take_min (length out / 4) q) ∙ (let f : min (length out / 4) (length q) ≡ m = omega arith in ap (λ i. take i q) f) in
    let n : 4 * m ≡ length (words_of Rows (take m q)) = omega (arith, words_of_long (take m q), length-take-le m q (omega arith)) in
    rw (all-chosen rs, all, fits, words_take m q (drop (length (words_of Rows q)) ws) (omega arith), n)

-- what the walk from the two roots gave
pub record Walks (b : List ℕ) (left right start : ℕ) (ws after : List ℕ) (q : Result ℕ Refusal) : Type 0 where
  pub admitted : Admission b (left ∷ right ∷ [])
  pub long : length ws ≡ 16384
  pub answered : q ≡ answer Rows (listing (version (heap b) left) (version (heap b) right))
  pub wrote : after ≡ written Rows start (listing (version (heap b) left) (version (heap b) right)).rows ws

-- from the roots l and r
pub from_roots : {b : List ℕ} {left right l r start : ℕ} {ws after : List ℕ} {q : Result ℕ Refusal} → Admission b (left ∷ right ∷ []) → length ws ≡ 16384
    → l ≡ (heap b).root left → r ≡ (heap b).root right
    → q ≡ answer Rows (listing (tree (heap b) l) (tree (heap b) r))
    → after ≡ written Rows start (listing (tree (heap b) l) (tree (heap b) r)).rows ws → Walks b left right start ws after q
from_roots A long el er e f = record { admitted = A; long = long; answered = rw (el, er) at e; wrote = rw (el, er) at f }

module _ {b ws words : List ℕ} {left right start : ℕ} {q : Result ℕ Refusal} (W : Walks b left right start ws words q) where
  abbrev k : Walk
  k = listing (version (heap b) left) (version (heap b) right)

  pub walked_deep : {out : List ℕ} {r : Refusal} → q ≡ Err r → Lists b out out start (listed b left right) (report_of (Err r))
  walked_deep e = let d = answer_err Rows k (sym e ∙ W.answered) in lists_deep start (listed b left right) W.admitted d.1 d.0 refl

  -- at most N, so that four times as many is a u32
  pub walked_few : (n : ℕ) → q ≡ Ok n → (n ≡ length k.rows) × (n ≤ 4096)
  walked_few n e =
      let d = answer-total Rows k (sym e ∙ W.answered) in
      let A = W.admitted in
      let same : n ≡ length k.rows = d.1 ∙ ap length (all-chosen k.rows) in
      (same, omega (arith, listing-room (heap b) A.sound.sound left right (known_first _ A.versions) (known_second _ _ A.versions) d.0, A.sound.shaped.most))

  wrote : (out : List ℕ) → written Rows start k.rows out ≡ over (model.part 4 start (length out) (map row_words k.rows)) out
  unfolding written
  wrote out = rw (part_rows start (length out) k.rows)

  -- m rows are copied
  pub walked_done : {out after : List ℕ} (n m : ℕ) → q ≡ Ok n → m ≡ min (length out / 4) (n - start) → after ≡ take (4 * m) words ++ drop (4 * m) out
      → Lists b out after start (listed b left right) (report_of (Ok (record { written = 4 * m; total = n })))
  walked_done {out} {after} n m e g c =
      let d = answer-total Rows k (sym e ∙ W.answered) in
      let s = walked_few n e in
      let P = part_rows start (length out) k.rows in
      let total : n ≡ length (map row_words k.rows) = s.0 ∙ sym (length-map k.rows row_words) in
      let long : 4 * m ≡ length (model.part 4 start (length out) (map row_words k.rows)) = rw (← P) (omega (arith, part_long Rows start k.rows (length out), d.1)) in
      let same : after ≡ written Rows start k.rows out = c ∙ rw W.wrote (copied start m k.rows ws out (omega (arith, W.long)) (omega (arith, s.0))) in
      lists_done start (listed b left right) W.admitted d.0 long total (same ∙ wrote out)
