-- The call same: two versions hold the same entries exactly when a walk up to its first put meets none and the sizes are equal.
use mathlib.Core.Path.{◌≡◌, refl, ap, sym, ◌∙◌}
use mathlib.Core.Logic.{◌≢◌, ◌⊎◌, inl, inr, ⊎_elim, ◌↔◌}
use Prim.Native.Nat.{ℕ, ◌≤◌, ◌<◌, compare, Ordering}
use mathlib.Core.Bool.{Bool, true, false, true≢false}
use mathlib.Core.Option.{Option, none, some}
use mathlib.Core.List.{List, [], ◌∷◌}
use lib.ListN.{length}
use lib.Dec.{eqb}
use borrow.Author.Tests.{eqb-true, eq-eqb, not-false}
use native.Mathlib.Omega.{arith}
use Rattle.model.specs.Tree.{Tree, leaf, Entry, size, entries, cut, find, AllAbove, Sorted}
use Rattle.model.specs.Listing.{Row, listing, until, ◌∈◌, Overflows}
use Rattle.model.specs.Delta.{Change, changed, puts, delta, delta_deep}
use Rattle.model.specs.Heap.{version}
use Rattle.model.specs.Block.{heap, SoundBlock}
use Rattle.model.specs.Frame.{Frame, line, frame_of, nothing, numbered, frames_of, frames}
use Rattle.model.specs.Numbers.{TOO_DEEP}
use Rattle.model.specs.Calls.{Check, fails, passes, Answer, refusal, giving, Versions}
use Rattle.model.specs.Lists.{Report, Lists, framed, drift, alike, Same}
use Rattle.model.proofs.maps.Compare.{cmp_eq, cmp_gt}
use Rattle.model.proofs.maps.Finds.{past, found_first}
use Rattle.model.proofs.maps.Sorts.{all_above_trans, ordered_sorted}
use Rattle.model.proofs.rules.Splits.{size-length}
use Rattle.model.proofs.listing.Rows.{found_above}
use Rattle.model.proofs.listing.Turns.{neither, until_deep, too_deep_first, empty_left_lists_nothing}
use Rattle.model.proofs.listing.Listings.{OneHeap, turned, versions_one-heap, listing-listed, row_right}
use Rattle.model.proofs.listing.Picks.{changed_exactly}
use Rattle.model.proofs.listing.Deltas.{delta_empty}
use Rattle.model.proofs.listing.Cutting.{wide_map, lists_done}
use Rattle.model.proofs.link.Lines.{line-length}
use Rattle.model.proofs.calls.Meanings.{refused-number}

-- One map within another

-- the second has what the first has
abbrev Within : (xs ys : List Entry) → Type 0
Within xs ys = (k v : ℕ) → find xs k ≡ some v → find ys k ≡ some v

-- a map within another is that map, or smaller
within_smaller : (xs ys : List Entry) → Sorted xs → Sorted ys → Within xs ys → (xs ≡ ys) ⊎ (length xs < length ys)
unfolding Sorted AllAbove cut
within_smaller [] [] s t w = inl refl
within_smaller [] (y ∷ ys) s t w = inr (omega arith)
within_smaller (x ∷ xs) [] s t w = let z : ◌≡◌ {A = ℕ} 0 1 = cc (w x.0 x.1 (found_first x xs)) in absurd (omega arith)
within_smaller (x ∷ xs) (y ∷ ys) s t w = go (compare x.0 y.0) refl (within_smaller xs ys s.1 t.1) (within_smaller (x ∷ xs) ys s t.1)
  where
    there : find (y ∷ ys) x.0 ≡ some x.1
    there = w x.0 x.1 (found_first x xs)

    both : x.0 ≡ y.0 → Within xs ys
    both p k v f = let a = found_above xs x.0 k v s.0 f in past y ys k (omega arith) ∙ w k v (sym (past x xs k a) ∙ f)

    later : y.0 < x.0 → Within (x ∷ xs) ys
    later p k v f = past y ys k (found_above (x ∷ xs) y.0 k v (p, all_above_trans y.0 x.0 xs p s.0) f) ∙ w k v f

    go : (o : Ordering) → compare x.0 y.0 ≡ o → (Within xs ys → (xs ≡ ys) ⊎ (length xs < length ys))
        → (Within (x ∷ xs) ys → (x ∷ xs ≡ ys) ⊎ (length (x ∷ xs) < length ys))
        → (x ∷ xs ≡ y ∷ ys) ⊎ (length (x ∷ xs) < length (y ∷ ys))
    go Ordering.lt e f g = let z : ◌≡◌ {A = ℕ} 0 1 = cc (rw (e, find) at there) in absurd (omega arith)
    go Ordering.eq e f g =
        let p = cmp_eq x.0 y.0 e in
        let q : some y.1 ≡ some x.1 = sym (found_first y ys) ∙ (ap (find (y ∷ ys)) (sym p) ∙ there) in
        ⊎_elim (λ same. inl (ap (λ (k : ℕ). (k, x.1) ∷ xs) p ∙ (ap (λ (v : ℕ). (y.0, v) ∷ xs) (cc q) ∙ ap (λ (es : List Entry). y ∷ es) same))) (λ less. inr (omega arith)) (f (both p))
    go Ordering.gt e f g = ⊎_elim (λ same. inr (omega (arith, ap length same))) (λ less. inr (omega arith)) (g (later (cmp_gt x.0 y.0 e)))

-- A walk up to its first put

-- no row is a put, or one of them is the first
data Seen (rs : List Row) (ps : List Change) : Type 0 where
  no_put : ((r : Row) → r ∈ rs → changed r ≡ false) → ps ≡ [] → Seen rs ps
  a_put : (r : Row) (c : Change) → r ∈ rs → changed r ≡ true → ps ≡ c ∷ [] → Seen rs ps

seen : (rs : List Row) (d : Bool) → Seen rs (puts (until changed rs d).rows)
unfolding until puts ◌∈◌
seen [] d = no_put (λ r m. absurd m) refl
seen (r ∷ rs) d = go (changed r) refl (seen rs d)
  where
    first : Change
    first = record { key = r.key; now = some r.left }

    put : changed r ≡ true → puts (r ∷ []) ≡ first ∷ []
    put e = rw (e, puts)

    pass : (qs : List Row) → changed r ≡ false → puts (r ∷ qs) ≡ puts qs
    pass qs e = rw (e, puts)

    go : (t : Bool) → changed r ≡ t → Seen rs (puts (until changed rs d).rows) → Seen (r ∷ rs) (puts (until changed (r ∷ rs) d).rows)
    go true e ih = a_put r first (inl refl) e (rw (e, until) (put e))
    go false e (no_put f p) = no_put (λ q. ⊎_elim (λ g. ap changed g ∙ e) (f q)) (rw (e, until) (pass (until changed rs d).rows e ∙ p))
    go false e (a_put q c m h p) = a_put q c (inr m) h (rw (e, until) (pass (until changed rs d).rows e ∙ p))

-- a row that is no put has the same value on both sides
unchanged : (r : Row) → changed r ≡ false → r.right ≡ some r.left
unfolding changed
unchanged r e = go r.right refl
  where
    go : (o : Option ℕ) → r.right ≡ o → r.right ≡ some r.left
    go none f = absurd (true≢false (rw (f, changed) at e))
    go (some w) f = f ∙ ap some (sym (eqb-true r.left w (not-false (eqb r.left w) (rw (f, changed) at e))))

-- a put says no, and where there is none the sizes say it
module _ (a c : Tree) where
  pub by_put : (p : Change) (ps : List Change) → puts (drift a c).rows ≡ p ∷ ps → alike a c ≡ 0
  unfolding alike
  by_put p ps e = rw (e, alike)

  pub by_sizes : puts (drift a c).rows ≡ [] → alike a c ≡ elim (eqb (size a) (size c)) [ true ↦ 1 | false ↦ 0 ]
  unfolding alike
  by_sizes e = rw (e, alike)

module _ (a c : Tree) (O : OneHeap a c) (shallow : (drift a c).deep ≡ false) where
  abbrev rows : List Row
  rows = (listing c a).rows

  whole : ((r : Row) → r ∈ rows → changed r ≡ false) → (listing c a).deep ≡ false
  whole f = go (listing c a).deep refl
    where
      go : (d : Bool) → (listing c a).deep ≡ d → (listing c a).deep ≡ false
      go true e = absurd (true≢false (sym ((until_deep changed rows (listing c a).deep).1 (e, f)) ∙ shallow))
      go false e = e

  inside : ((r : Row) → r ∈ rows → changed r ≡ false) → Within (entries c) (entries a)
  inside f k v p =
      let I = listing-listed c a (turned a c O) (whole f) in
      ⊎_elim (λ q. q) (λ w. let q = I.right w.0 w.1 in ap (find (entries a)) (sym w.2) ∙ (q.1 ∙ (unchanged w.0 (f w.0 w.1) ∙ (sym q.0 ∙ (ap (find (entries c)) w.2 ∙ p))))) (I.whole k v p)

  alike_exactly : (alike a c ≡ 1) ↔ (entries a ≡ entries c)
  alike_exactly = go (seen rows (listing c a).deep)
    where
      go : Seen rows (puts (drift a c).rows) → (alike a c ≡ 1) ↔ (entries a ≡ entries c)
      go (no_put f e) = (equal (eqb (size a) (size c)) refl, λ g. by_sizes a c e ∙ rw (eq-eqb (size a) (size c) (size-length a ∙ (ap length g ∙ sym (size-length c)))))
        where
          equal : (t : Bool) → eqb (size a) (size c) ≡ t → alike a c ≡ 1 → entries a ≡ entries c
          equal false t h = let z : ◌≡◌ {A = ℕ} 0 1 = sym (by_sizes a c e ∙ rw t) ∙ h in absurd (omega arith)
          equal true t h =
              let n = eqb-true (size a) (size c) t in
              ⊎_elim (λ p. sym p) (λ p. absurd (omega (arith, size-length a, size-length c))) (within_smaller (entries c) (entries a) (ordered_sorted c O.ordered_right) (ordered_sorted a O.ordered_left) (inside f))
      go (a_put r p m h e) = (
        λ q. let z : ◌≡◌ {A = ℕ} 0 1 = sym (by_put a c p [] e) ∙ q in absurd (omega arith),
        λ q. let w = row_right c a (turned a c O) r m in absurd ((changed_exactly r).0 h (sym w.1 ∙ (ap (λ es. find es r.key) q ∙ w.0))),
      )

  alike_most : alike a c ≤ 1
  alike_most = go (seen rows (listing c a).deep)
    where
      go : Seen rows (puts (drift a c).rows) → alike a c ≤ 1
      go (no_put f e) = rw (by_sizes a c e) (by (eqb (size a) (size c)))
        where
          by : (t : Bool) → elim t [ true ↦ 1 | false ↦ 0 ] ≤ 1
          by true = omega arith
          by false = omega arith
      go (a_put r p m h e) = rw (by_put a c p [] e) (omega arith)

-- The delta's frames

frames-nothing : (batch : ℕ) (cs : List Change) → (frames_of batch cs ≡ nothing batch ∷ []) ↔ (cs ≡ [])
unfolding frames_of numbered frame_of
frames-nothing batch [] = (λ e. refl, λ e. refl)
frames-nothing batch (c ∷ cs) = (λ e. absurd (kinds (length (c ∷ cs)) (cc e)), λ e. let z : ◌≡◌ {A = ℕ} 0 1 = cc e in absurd (omega arith))
  where
    kinds : (n : ℕ) → frame_of batch n 0 c ≡ nothing batch → ⊥
    kinds n e = go c.now refl
      where
        go : (o : Option ℕ) → c.now ≡ o → ⊥
        go none f = let z : ◌≡◌ {A = ℕ} 2 0 = ap (λ (x : Frame). x.kind) (rw (f, frame_of) at e) in omega arith
        go (some v) f = let z : ◌≡◌ {A = ℕ} 1 0 = ap (λ (x : Frame). x.kind) (rw (f, frame_of) at e) in omega arith

-- The theorems

module _ {b : List ℕ} {r : Answer} (from to : ℕ) (S : Same b from to r) where
  abbrev A : Tree
  A = version (heap b) from

  abbrev C : Tree
  C = version (heap b) to

  answered : Same b from to r → r.number ≡ 0 → SoundBlock b × Versions (from ∷ to ∷ []) × ((drift A C).deep ≡ false) × (r.value ≡ alike A C)
  answered (fails p e) z = absurd (refused-number r 0 e z)
  answered (passes p (fails q e)) z = absurd (refused-number r 1 e z)
  answered (passes p (passes q (fails u e))) z = absurd (refused-number r 2 e z)
  answered (passes p (passes q (passes u (fails d e)))) z = absurd (refused-number r 5 e z)
  answered (passes p (passes q (passes u (passes d e)))) z = (q, u, d, ap (λ (x : Answer). x.value) e)

  heaps : SoundBlock b → Versions (from ∷ to ∷ []) → OneHeap A C
  unfolding Versions
  heaps B vs = versions_one-heap (heap b) B.sound from to vs.0 vs.1.0

  -- 1 exactly when the entries are equal, and else 0
  pub same_exactly : r.number ≡ 0 → ((r.value ≡ 1) ↔ (entries A ≡ entries C)) × (r.value ≤ 1)
  same_exactly z =
      let D = answered S z in
      let H = heaps D.0 D.1 in
      let X = alike_exactly A C H D.2 in
      ((λ e. X.0 (sym D.3 ∙ e), λ e. D.3 ∙ X.1 e), rw D.3 (alike_most A C H D.2))

  -- behind the checks of block and versions
  behind : Same b from to r → SoundBlock b → Versions (from ∷ to ∷ []) → Check ((drift A C).deep ≡ false) (r ≡ refusal TOO_DEEP) (r ≡ giving (alike A C))
  behind (fails p e) B vs = absurd (p B.shaped)
  behind (passes p (fails q e)) B vs = absurd (q B)
  behind (passes p (passes q (fails u e))) B vs = absurd (u vs)
  behind (passes p (passes q (passes u c))) B vs = c

  -- 6 exactly when block and versions are in order and the walk overflows before its first entry that differs
  pub same_too_deep : (r.number ≡ TOO_DEEP) ↔ (SoundBlock b × Versions (from ∷ to ∷ []) × Overflows changed C A)
  same_too_deep = (given S, λ w. six ((too_deep_first changed C A).1 w.2) (behind S w.0 w.1))
    where
      number : {x : Answer} → r ≡ x → r.number ≡ TOO_DEEP → x.number ≡ TOO_DEEP
      number e z = sym (ap (λ (y : Answer). y.number) e) ∙ z

      given : Same b from to r → r.number ≡ TOO_DEEP → SoundBlock b × Versions (from ∷ to ∷ []) × Overflows changed C A
      given (fails p e) z = absurd (omega (arith, number e z))
      given (passes p (fails q e)) z = absurd (omega (arith, number e z))
      given (passes p (passes q (fails u e))) z = absurd (omega (arith, number e z))
      given (passes p (passes q (passes u (fails d e)))) z = (q, u, (too_deep_first changed C A).0 (deep (drift A C).deep refl))
        where
          deep : (t : Bool) → (drift A C).deep ≡ t → (drift A C).deep ≡ true
          deep true f = f
          deep false f = absurd (d f)
      given (passes p (passes q (passes u (passes d e)))) z = absurd (omega (arith, number e z))

      six : (drift A C).deep ≡ true → Check ((drift A C).deep ≡ false) (r ≡ refusal TOO_DEEP) (r ≡ giving (alike A C)) → r.number ≡ TOO_DEEP
      six D (fails d e) = ap (λ (x : Answer). x.number) e
      six D (passes d e) = absurd (true≢false (sym D ∙ d))

  -- wherever the delta is given there is an answer, and it is 1 exactly when the delta is the single "nothing" frame
  pub same_as_delta : {out after : List ℕ} {q : Report} (batch start : ℕ) → Lists b out after start (framed b from to batch) q → q.number ≡ 0
      → (r.number ≡ 0) × ((r.value ≡ 1) ↔ (frames batch A C ≡ nothing batch ∷ []))
  unfolding delta_deep
  same_as_delta {out} {after} {q} batch start L z =
      let D = (lists_done b out after start (framed b from to batch) q (wide_map 35 line line-length (frames batch A C)) L z).0 in
      let n = (neither (listing C A).deep (listing A C).deep D.shallow).0 in
      let given = done (shallow n (drift A C).deep refl) (behind S D.sound D.versions) in
      let X = (same_exactly given).0 in
      let Y = delta_empty A C (heaps D.sound D.versions) D.shallow in
      let Z = frames-nothing batch (delta A C) in
      (given, (λ e. Z.1 (Y.1 (X.0 e)), λ e. X.1 (Y.0 (Z.0 e))))
    where
      shallow : (listing C A).deep ≡ false → (t : Bool) → (drift A C).deep ≡ t → (drift A C).deep ≡ false
      shallow n true e = absurd (true≢false (sym ((until_deep changed (listing C A).rows (listing C A).deep).0 e).0 ∙ n))
      shallow n false e = e

      done : (drift A C).deep ≡ false → Check ((drift A C).deep ≡ false) (r ≡ refusal TOO_DEEP) (r ≡ giving (alike A C)) → r.number ≡ 0
      done D (fails d e) = absurd (d D)
      done D (passes d e) = ap (λ (x : Answer). x.number) e

  -- an empty version has no walk: sizes answer
  pub same_of_empty : C ≡ leaf → r.number ≢ TOO_DEEP
  unfolding until
  same_of_empty e z =
      let o = (too_deep_first changed C A).1 (same_too_deep.0 z).2 in
      let none : listing C A ≡ record { rows = []; deep = false } = ap (λ t. listing t A) e ∙ empty_left_lists_nothing A in
      true≢false (sym o ∙ ap (λ w. (until changed w.rows w.deep).deep) none)
