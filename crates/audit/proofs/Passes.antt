-- The passes make up soundness, and none of them asks more.
use mathlib.Core.Path.{◌≡◌, refl, ap, sym, ◌∙◌}
use Prim.Native.Nat.{ℕ, zero, suc, ◌+◌, ◌*◌, ◌≤◌, ◌<◌}
use mathlib.Core.Bool.{Bool, true, false}
use mathlib.Core.List.{List}
use lib.ListN.{get_or}
use native.Mathlib.Omega.{arith}
use native.Mathlib.Decide.{dec_le}
use Rattle.model.specs.Heap.{Heap, Occupied, Named, size_at, hits, refs, Blank, Linked, Kept, Sound}
use Rattle.model.specs.Block.{word, width, node_word, occupied_at, heap}
use Rattle.model.specs.Tells.{Tells, Each}
use Rattle.model.proofs.block.Counts.{hits_same, hits_some}
use Rattle.model.proofs.running.Steps.{refs_unoccupied}
use Rattle.model.proofs.block.Loads.{size_at_occupied}
use Rattle.model.proofs.block.Bound.{size_room}
use Rattle.model.proofs.maps.Tells.{tells_map}
use Rattle.area.specs.Area.{area_word, area, AreaOk}
use Rattle.area.specs.Notes.{Zeros, Fair, note, Upto, Noted}
use Rattle.area.specs.Turns.{Goes, links, Ready, Backed, Trees}
use Rattle.area.proofs.Area.{get_d_past, live, dead, within-area, occupied_named}
use Rattle.area.proofs.Taking.{hits_most}
use Rattle.audit.specs.Whole.{up_to, Cut, MarksOk, RootsOk, RootsTaken, Begun}
use Rattle.audit.proofs.Words.{eight}
use Rattle.audit.proofs.Parts.{Parts, parts_sound, sound_parts}

-- the words of a free node
module _ (a : List ℕ) (i : ℕ) where
  zero_blank : ((j : ℕ) → j < width → area_word a j i ≡ 0) → Blank (area a) i
  zero_blank Z = record {
    key = Z 0 (omega arith);
    value = Z 1 (omega arith);
    left = Z 2 (omega arith);
    right = Z 3 (omega arith);
    size = Z 4 (omega arith);
    count = Z 5 (omega arith);
    sum = omega (arith, Z 6 (omega arith), Z 7 (omega arith));
  }

  blank_zero : Blank (area a) i → (j : ℕ) → j < width → area_word a j i ≡ 0
  blank_zero B = eight (λ j. area_word a j i ≡ 0) B.key B.value B.left B.right B.size B.count (omega (arith, B.sum)) (omega (arith, B.sum))

-- an occupied node of a good area is fair, if its count is not too large
fair_node : (a : List ℕ) (i : ℕ) → AreaOk (area a) → Occupied (area a) i → 1 ≤ area_word a 5 i → area_word a 5 i < 65536 → Fair (area a) i
fair_node a i A o held few = record {
  sized = omega (arith, L.sizes i o);
  small = omega (arith, size_room (area a) L i (occupied_named a i o) (A.ordered i o), size_at_occupied (area a) L i o);
  held = held;
  few = few;
  enough = omega (arith, L.sums i o);
  leaf = λ e.
      let l : area_word a 2 i ≡ 0 = none (area_word a 2 i) (L.lefts i o) (omega (arith, L.sizes i o)) in
      let r : area_word a 3 i ≡ 0 = none (area_word a 3 i) (L.rights i o) (omega (arith, L.sizes i o)) in
      (l, r, rw (l, r) at (L.sums i o) ∙ omega arith);
}
  where
    L : Linked (area a)
    L = A.linked

    -- a link of size 0 is none
    none : (y : ℕ) → Named (area a) y → size_at (area a) y ≡ 0 → y ≡ 0
    none zero m e = refl
    none (suc y) m e = absurd (omega (arith, L.sizes (suc y) m))

module _ (b a : List ℕ) (n : ℕ) (C : Cut b a n) where
  abbrev h : Heap
  h = up_to (heap b) n

  abbrev root : ℕ → ℕ
  root = λ v. word b (1 + v)

  -- roots and links are all references
  refs_are : (y : ℕ) → refs h y ≡ hits root y 16 + links a n y
  unfolding refs links
  refs_are y = omega (
    arith,
    hits_same (λ i. area_word a 2 (suc i)) (λ i. node_word b 2 (suc i)) y n (λ i lt. C.words 2 (suc i)),
    hits_same (λ i. area_word a 3 (suc i)) (λ i. node_word b 3 (suc i)) y n (λ i lt. C.words 3 (suc i)),
  )

  -- beyond the last node there is no count
  past : (y : ℕ) → n < y → area_word a 5 y ≡ 0
  past zero lt = absurd (omega arith)
  past (suc y) lt = get_d_past a (width * y + 5) (omega (arith, C.long))

  count_noted : (t : List ℕ) → Upto t (area_word a 5) n → (y : ℕ) → get_or t y 0 ≡ area_word a 5 y
  count_noted t U y = go (dec_le y n)
    where
      go : Dec (y ≤ n) → get_or t y 0 ≡ area_word a 5 y
      go (yes p) = U.done y p
      go (no p) = U.rest y (omega arith) ∙ sym (past y (omega arith))

  module _ (S : Sound h) where
    K : Kept h
    K = S.kept

    all_counts : (y : ℕ) → 1 ≤ y → area_word a 5 y ≡ refs h y
    all_counts y p = go (occupied_at b y) refl (dec_le y n)
      where
        go : (o : Bool) → occupied_at b y ≡ o → Dec (y ≤ n) → area_word a 5 y ≡ refs h y
        go true o d = sym (C.words 5 y) ∙ K.counts y o
        go false o (yes q) = omega (arith, C.words 5 y, (K.linked.blank y p q o).count, refs_unoccupied h y K.linked p o)
        go false o (no q) = omega (arith, past y (omega arith), refs_unoccupied h y K.linked p o)

    few : (y : ℕ) → 1 ≤ y → area_word a 5 y < 65536
    unfolding links
    few y p = omega (arith, all_counts y p, refs_are y, hits_most root y 16, hits_most (λ i. area_word a 2 (suc i)) y n, hits_most (λ i. area_word a 3 (suc i)) y n, C.within, C.shaped.most)

    pub sound_marks : MarksOk b a 0 n
    sound_marks i p q =
        let P = sound_parts b a n C S in
        record {
          fair = λ o. fair_node a i P.area_ok (sym (P.marks i p q) ∙ o) (omega (arith, C.words 5 i, K.held i o)) (few i p);
          zeros = λ o. blank_zero a i (P.area_ok.linked.blank i p (omega (arith, C.long)) (sym (P.marks i p q) ∙ o));
        }

    sound_roots : (t : List ℕ) → Upto t (area_word a 5) n → RootsOk b n t 16
    sound_roots t U = record {
      within = λ v lt. named_within (root v) (K.linked.roots v lt);
      fits = λ y p. omega (arith, count_noted t U y, all_counts y p, refs_are y);
    }
      where
        named_within : (x : ℕ) → Named h x → x ≤ n
        named_within zero m = omega arith
        named_within (suc x) m = (K.linked.within (suc x) m).1

    -- u has what the links need
    module _ (u : List ℕ) (left : (y : ℕ) → 1 ≤ y → get_or u y 0 + hits root y 16 ≡ area_word a 5 y) where
      links_left : (y : ℕ) → 1 ≤ y → links a n y ≡ get_or u y 0
      links_left y p = omega (arith, left y p, all_counts y p, refs_are y)

      pub sound_trees : Trees a n u
      sound_trees = record { area_ok = (sound_parts b a n C S).area_ok; fits = λ y p. omega (arith, links_left y p) }

      sound_zeros : (v : List ℕ) → ((y : ℕ) → 1 ≤ y → get_or v y 0 + links a n y ≡ get_or u y 0) → Zeros v 1 n
      sound_zeros v W i lt = omega (arith, links_left (1 + i) (omega arith), W (1 + i) (omega arith))

  begun : {lo sn hd t u : List ℕ} → MarksOk b a 0 n → Noted a lo sn hd t n → RootsTaken b t u 16 → Begun b a n lo sn hd u
  begun {t = t} M N T = record { marks = M; keys = N.keys; notes = N.notes; heads = N.heads; left = λ y p. T y p ∙ count_noted t N.counts y }

  -- the roots decide whether the passes go on
  pub begun_goes : {lo sn hd t : List ℕ} (u : List ℕ) → MarksOk b a 0 n → Noted a lo sn hd t n → (r : Bool) → Tells r (RootsOk b n t 16)
      → (r ≡ true → RootsTaken b t u 16) → Goes r (Sound h) (Begun b a n lo sn hd u)
  begun_goes u M N true R T = begun M N (T refl)
  begun_goes {t = t} u M N false R T = λ S. R (sound_roots S t N.counts)

  module _ (M : MarksOk b a 0 n) where
    marks_agree : Each 0 n (λ i. occupied_at b i ≡ (area a).occupied i)
    marks_agree i p q = go (occupied_at b i) refl
      where
        go : (o : Bool) → occupied_at b i ≡ o → occupied_at b i ≡ (area a).occupied i
        go true o = o ∙ sym (live a i (area_word a 5 i) refl (λ z. absurd (omega (arith, ((M i p q).fair o).held))))
        go false o = o ∙ sym (dead a i (area_word a 5 i) refl ((M i p q).zeros o 5 (omega arith)))

    pub ready : (sn : List ℕ) → Upto sn (note (area_word a 4)) n → Ready a sn n
    ready sn U = record {
      long = C.long;
      most = omega (arith, C.within, C.shaped.most);
      fair = λ j o. let w = within-area a n j C.long o in (M j w.0 w.1).fair (marks_agree j w.0 w.1 ∙ o);
      blank = λ j p q o. zero_blank a j ((M j p q).zeros (marks_agree j p q ∙ o));
      notes = U;
    }

    module _ (u : List ℕ) (left : (y : ℕ) → 1 ≤ y → get_or u y 0 + hits root y 16 ≡ area_word a 5 y) where
      pub backed : Backed a u
      backed y p f = live a y (area_word a 5 y) refl (λ z. absurd (omega (arith, left y p)))

      -- the last pass decides
      pub last_tells : (v : List ℕ) → AreaOk (area a) → ((y : ℕ) → 1 ≤ y → get_or v y 0 + links a n y ≡ get_or u y 0) → (r : Bool)
          → Tells r (Zeros v 1 n) → Tells r (Sound h)
      last_tells v A W r = tells_map r (λ Z. parts_sound b a n C (parts Z)) (λ S. sound_zeros S u left v W)
        where
          counts : Zeros v 1 n → Each 0 n (λ i. area_word a 5 i ≡ refs h i)
          counts Z zero p q = absurd (omega arith)
          counts Z (suc i) p q =
              let e : 1 + i ≡ suc i = omega arith in
              omega (arith, left (suc i) p, refs_are (suc i), W (suc i) p, ap (λ y. get_or v y 0) (sym e) ∙ Z i (omega arith))

          named : (x : ℕ) → 1 ≤ hits root x 16 → Named (area a) x
          named zero k = tt
          named (suc x) k = live a (suc x) (area_word a 5 (suc x)) refl (λ z. absurd (omega (arith, left (suc x) (omega arith))))

          parts : Zeros v 1 n → Parts b a n
          parts Z = record { area_ok = A; marks = marks_agree; roots = λ v lt. named (root v) (hits_some root (root v) 16 v lt refl); counts = counts Z }
