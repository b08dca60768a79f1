-- Two walks into one row of words give the delta: it is at most N long, so that the first leaves room for the second.
use mathlib.Core.Path.{◌≡◌, sym, ◌∙◌}
use Prim.Native.Nat.{ℕ, ◌+◌, ◌-◌, ◌*◌, ◌/◌, ◌≤◌, ◌<◌}
use mathlib.Core.Bool.{true, false}
use mathlib.Core.List.{List, ◌++◌, append_assoc}
use native.Mathlib.Omega.{arith}
use lib.ListN.{length, take, drop, length-append, length-drop}
use lib.Seq.{take_at, take_all}
use Rattle.model.specs.Tree.{Tree}
use Rattle.model.specs.Heap.{tree, version}
use Rattle.model.specs.Block.{heap, SoundBlock}
use Rattle.model.specs.Listing.{Row, listing}
use Rattle.model.specs.Delta.{Change, puts, removes, delta, delta_deep}
use Rattle.model.proofs.listing.DeltaRoom.{listing-room, delta-room}
use Rattle.walk.specs.declared.Wanted.{Wanted}
use Rattle.walk.specs.declared.Wanted.TheVariants.{Puts, Removes}
use Rattle.std.specs.Prelude.{Result, Ok, Err}
use Rattle.answers.specs.declared.Refusal.{Refusal}
use Rattle.answers.specs.declared.Refusal.TheVariants.{TooDeep}
use Rattle.walk.specs.Rows.{written, answer, change_words, Changes}
use Rattle.walk.proofs.Changes.{puts_changes, removes_changes}
use Rattle.lists.specs.Changes.{changes_in}
use Rattle.lists.proofs.Listing.{answer_err, answer-total}
use Rattle.lists.proofs.Holding.{change_words_long, change_words-append, puts-put, removes-remove, puts_few, Held, held_all}

-- changes that all find room
written_changes : (w : Wanted) (rows : List Row) (cs : List Change) (out : List ℕ) → Changes w rows cs → length cs ≤ length out / 2
    → written w 0 rows out ≡ change_words cs ++ drop (2 * length cs) out
unfolding written
written_changes w rows cs out C h = rw (C.words 0 (length out), take_all (length out / 2) cs h, change_words_long cs)

-- the walk of version c against version a, before the other
pub record First (b : List ℕ) (a c : ℕ) (ws ws1 : List ℕ) (q : Result ℕ Refusal) : Type 0 where
  pub sound : SoundBlock b
  pub from : a < 16
  pub to : c < 16
  pub long : length ws ≡ 8192
  pub answered : q ≡ answer Puts (listing (version (heap b) c) (version (heap b) a))
  pub wrote : ws1 ≡ written Puts 0 (listing (version (heap b) c) (version (heap b) a)).rows ws

-- the walk of version a against version c, into the words from `at` on
pub record Second (b : List ℕ) (a c : ℕ) (at : ℕ) (ws1 ys : List ℕ) (q : Result ℕ Refusal) : Type 0 where
  pub answered : q ≡ answer Removes (listing (version (heap b) a) (version (heap b) c))
  pub wrote : ys ≡ written Removes 0 (listing (version (heap b) a) (version (heap b) c)).rows (take (length ws1 - at) (drop at ws1))

-- both from the roots x and y
module _ {b : List ℕ} {a c x y : ℕ} {q : Result ℕ Refusal} (from : x ≡ (heap b).root a) (to : y ≡ (heap b).root c) where
  pub first_walk : {ws ws1 : List ℕ} → SoundBlock b × (a < 16) × (c < 16) × (length ws ≡ 8192) → q ≡ answer Puts (listing (tree (heap b) y) (tree (heap b) x))
      → ws1 ≡ written Puts 0 (listing (tree (heap b) y) (tree (heap b) x)).rows ws → First b a c ws ws1 q
  first_walk p e f = record { sound = p.0; from = p.1; to = p.2; long = p.3; answered = rw (from, to) at e; wrote = rw (from, to) at f }

  pub second_walk : {ws1 ys : List ℕ} {at : ℕ} → q ≡ answer Removes (listing (tree (heap b) x) (tree (heap b) y))
      → ys ≡ written Removes 0 (listing (tree (heap b) x) (tree (heap b) y)).rows (take (length ws1 - at) (drop at ws1)) → Second b a c at ws1 ys q
  second_walk e f = record { answered = rw (from, to) at e; wrote = rw (from, to) at f }

module _ {b : List ℕ} {a c : ℕ} {ws ws1 : List ℕ} {q : Result ℕ Refusal} (F : First b a c ws ws1 q) where
  abbrev A : Tree
  A = version (heap b) a

  abbrev C : Tree
  C = version (heap b) c

  pub first_deep : {r : Refusal} → q ≡ Err r → (r ≡ TooDeep) × (delta_deep A C ≡ true)
  unfolding delta_deep
  first_deep e = let d = answer_err Puts (listing C A) (sym e ∙ F.answered) in (d.0, rw d.1)

  module _ {n : ℕ} (e : q ≡ Ok n) where
    abbrev ps : List Change
    ps = puts (listing C A).rows

    abbrev rs : List Change
    rs = removes (listing A C).rows

    shallow : (listing C A).deep ≡ false
    shallow = (answer-total Puts (listing C A) (sym e ∙ F.answered)).0

    first_count : n ≡ length ps
    first_count = (answer-total Puts (listing C A) (sym e ∙ F.answered)).1 ∙ (puts_changes (listing C A).rows).count

    pub first_few : n ≤ 4096
    first_few = omega (arith, first_count, puts_few (listing C A).rows, listing-room (heap b) F.sound.sound c a F.to F.from shallow, F.sound.shaped.most)

    first_words : ws1 ≡ change_words ps ++ drop (2 * length ps) ws
    first_words = F.wrote ∙ written_changes Puts (listing C A).rows ps ws (puts_changes (listing C A).rows) (omega (arith, first_few, first_count, F.long))

    pub first_long : length ws1 ≡ 8192
    first_long = rw first_words (omega (arith, length-append (change_words ps) (drop (2 * length ps) ws), length-drop (2 * length ps) ws, change_words_long ps, first_few, first_count, F.long))

    module _ {at : ℕ} {ys : List ℕ} {r : Result ℕ Refusal} (S : Second b a c at ws1 ys r) where
      pub second_deep : {s : Refusal} → r ≡ Err s → (s ≡ TooDeep) × (delta_deep A C ≡ true)
      unfolding delta_deep
      second_deep f = let d = answer_err Removes (listing A C) (sym f ∙ S.answered) in (d.0, rw (shallow, d.1))

      pub collected : (m : ℕ) → r ≡ Ok m → at ≡ 2 * n
          → (delta_deep A C ≡ false) × (changes_in n (take at ws1 ++ (ys ++ drop (length ws1 - at) (drop at ws1))) (n + m) 0 ≡ delta A C) × (n + m ≤ 4096)
      unfolding delta delta_deep
      collected m f i =
          let d = answer-total Removes (listing A C) (sym f ∙ S.answered) in
          let k : m ≡ length rs = d.1 ∙ (removes_changes (listing A C).rows).count in
          let none : delta_deep A C ≡ false = rw (shallow, d.0) in
          let long : length (ps ++ rs) ≡ length ps + length rs = length-append ps rs in
          let few : length (ps ++ rs) ≤ (heap b).room = delta-room (heap b) F.sound.sound a c F.from F.to none in
          let most : n + m ≤ 4096 = omega (arith, first_count, F.sound.shaped.most) in
          let X = drop at ws1 in
          let room : length X ≡ 8192 - at = rw first_long at (length-drop at ws1) in
          let whole : take (length ws1 - at) X ≡ X = take_all (length ws1 - at) X (omega (arith, first_long)) in
          let second : ys ≡ change_words rs ++ drop (2 * length rs) X = S.wrote ∙ rw whole (written_changes Removes (listing A C).rows rs X (removes_changes (listing A C).rows) (omega (arith, first_count))) in
          let front : take at ws1 ≡ change_words ps = rw first_words (take_at (change_words ps) (drop (2 * length ps) ws) at (omega (arith, change_words_long ps, first_count))) in
          let rest = drop (2 * length rs) X ++ drop (length ws1 - at) X in
          let H : Held ps rs n rest (take at ws1 ++ (ys ++ drop (length ws1 - at) X)) = record {
            first = first_count;
            put = puts-put (listing C A).rows;
            remove = removes-remove (listing A C).rows;
            words = rw (front, second, change_words-append ps rs) (simp append_assoc);
          } in
          (none, held_all H (n + m) (omega (arith, first_count)), most)
