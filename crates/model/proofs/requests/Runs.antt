-- Runs of indexes: those of the indexes that are not heard cover exactly these, and no shorter list does.
use mathlib.Core.Path.{◌≡◌, refl, ap, sym, ◌∙◌}
use mathlib.Core.Logic.{◌⊎◌, inl, inr, ⊎_elim, ◌↔◌}
use Prim.Native.Nat.{ℕ, zero, suc, ◌+◌, ◌*◌, ◌≤◌, ◌<◌}
use mathlib.Core.Bool.{Bool, true, false, true≢false}
use mathlib.Core.List.{List, [], ◌∷◌}
use lib.ListN.{length}
use lib.Dec.{eqb, ltb}
use borrow.Author.Tests.{eqb-true, eqb-false, ltb-true, ltb-false, eq-eqb, ne_eqb}
use native.Mathlib.Omega.{arith}
use native.Mathlib.Numerals.{one-add}
use native.Mathlib.Decide.{ℕ_discrete}
use Rattle.model.specs.Request.{Run, in_front, unheard}

-- index i stands in one of the runs
unfoldable pub Covers : List Run → ℕ → Type 0
Covers [] i = ⊥
Covers (r ∷ rs) i = ((r.first ≤ i) × (i ≤ r.last)) ⊎ Covers rs i

-- runs from `least` on, each at least `gap` behind the last index of the one before: 1 where they ascend, 2 where no two are neighbours
unfoldable pub Spaced : (gap least : ℕ) → List Run → Type 0
Spaced gap least [] = Unit {0}
Spaced gap least (r ∷ rs) = (least ≤ r.first) × (r.first ≤ r.last) × Spaced gap (gap + r.last) rs

pub spaced_above : (gap least : ℕ) (rs : List Run) → Spaced gap least rs → (i : ℕ) → Covers rs i → least ≤ i
unfolding Covers Spaced
spaced_above gap least [] S i c = absurd c
spaced_above gap least (r ∷ rs) S i (inl c) = omega (arith, S.0, c.0)
spaced_above gap least (r ∷ rs) S i (inr c) = omega (arith, S.0, S.1, spaced_above gap (gap + r.last) rs S.2 i c)

pub spaced_less : (gap least less : ℕ) (rs : List Run) → less ≤ least → Spaced gap least rs → Spaced gap less rs
unfolding Spaced
spaced_less gap least less [] h S = tt
spaced_less gap least less (r ∷ rs) h S = (omega (arith, S.0), S.1, S.2)

-- one index more, before all runs

front_spaced : (i : ℕ) (rs : List Run) → Spaced 2 (suc i) rs → Spaced 2 i (in_front i rs)
unfolding Spaced in_front
front_spaced i [] S = (omega arith, omega arith, tt)
front_spaced i (r ∷ rs) S = go (eqb (suc i) r.first) refl
  where
    go : (b : Bool) → eqb (suc i) r.first ≡ b → Spaced 2 i (in_front i (r ∷ rs))
    go true e = rw (e, in_front) (omega arith, omega (arith, S.0, S.1), S.2)
    go false e = rw (e, in_front) (omega arith, omega arith, (omega (arith, S.0, eqb-false (suc i) r.first e), S.1, S.2))

front_covers : (i : ℕ) (rs : List Run) → Spaced 2 (suc i) rs → (j : ℕ) → Covers (in_front i rs) j ↔ ((j ≡ i) ⊎ Covers rs j)
unfolding Spaced Covers in_front
front_covers i [] S j = ((λ c. ⊎_elim (λ p. inl (omega (arith, p.0, p.1))) (λ p. inr p) c), (λ c. ⊎_elim (λ e. inl (omega arith, omega arith)) (λ p. inr p) c))
front_covers i (r ∷ rs) S j = go (eqb (suc i) r.first) refl
  where
    go : (b : Bool) → eqb (suc i) r.first ≡ b → Covers (in_front i (r ∷ rs)) j ↔ ((j ≡ i) ⊎ Covers (r ∷ rs) j)
    go false e = rw (e, in_front) (
      (λ c. ⊎_elim (λ p. inl (omega (arith, p.0, p.1))) (λ p. inr p) c),
      (λ c. ⊎_elim (λ q. inl (omega arith, omega arith)) (λ p. inr p) c),
    )
    go true e = rw (e, in_front) (
      (λ c. ⊎_elim (λ p. split (ℕ_discrete j i) p) (λ p. inr (inr p)) c),
      (λ c. ⊎_elim (λ q. inl (omega arith, omega (arith, S.1, s))) (λ p. ⊎_elim (λ q. inl (omega (arith, q.0, s), q.1)) (λ q. inr q) p) c),
    )
      where
        s : suc i ≡ r.first
        s = eqb-true (suc i) r.first e

        split : Dec (j ≡ i) → (i ≤ j) × (j ≤ r.last) → (j ≡ i) ⊎ Covers (r ∷ rs) j
        split (yes q) p = inl q
        split (no q) p = inr (inl (omega (arith, p.0, s), p.1))

-- the runs of what is not heard leave an index out between any two
pub unheard_spaced : (heard : ℕ → Bool) (i n : ℕ) → Spaced 2 i (unheard heard i n)
unfolding unheard Spaced
unheard_spaced heard i zero = tt
unheard_spaced heard i (suc n) = go (heard i) refl (unheard_spaced heard (suc i) n)
  where
    go : (b : Bool) → heard i ≡ b → Spaced 2 (suc i) (unheard heard (suc i) n) → Spaced 2 i (unheard heard i (suc n))
    go true e S = rw (e, unheard) (spaced_less 2 (suc i) i (unheard heard (suc i) n) (omega arith) S)
    go false e S = rw (e, unheard) (front_spaced i (unheard heard (suc i) n) S)

-- and cover exactly what is not heard
pub unheard_covers : (heard : ℕ → Bool) (i n j : ℕ) → Covers (unheard heard i n) j ↔ ((i ≤ j) × (j < i + n) × (heard j ≡ false))
unfolding unheard Covers
unheard_covers heard i zero j = ((λ c. absurd c), (λ p. absurd (omega (arith, p.0, p.1))))
unheard_covers heard i (suc n) j = go (heard i) refl (unheard_covers heard (suc i) n j)
  where
    Not : ℕ → ℕ → Type 0
    Not a m = (a ≤ j) × (j < a + m) × (heard j ≡ false)

    go : (b : Bool) → heard i ≡ b → Covers (unheard heard (suc i) n) j ↔ Not (suc i) n → Covers (unheard heard i (suc n)) j ↔ Not i (suc n)
    go true e IH = rw (e, unheard) ((λ c. let p = IH.0 c in (omega (arith, p.0), omega (arith, p.1), p.2)), (λ p. IH.1 (later (ℕ_discrete j i) p)))
      where
        later : Dec (j ≡ i) → Not i (suc n) → Not (suc i) n
        later (yes q) p = absurd (true≢false (sym e ∙ ap heard (sym q) ∙ p.2))
        later (no q) p = (omega (arith, p.0), omega (arith, p.1), p.2)
    go false e IH = rw (e, unheard) ((λ c. to (B.0 c)), (λ p. B.1 (back (ℕ_discrete j i) p)))
      where
        B : Covers (in_front i (unheard heard (suc i) n)) j ↔ ((j ≡ i) ⊎ Covers (unheard heard (suc i) n) j)
        B = front_covers i (unheard heard (suc i) n) (unheard_spaced heard (suc i) n) j

        to : (j ≡ i) ⊎ Covers (unheard heard (suc i) n) j → Not i (suc n)
        to (inl q) = (omega arith, omega arith, ap heard q ∙ e)
        to (inr c) = let p = IH.0 c in (omega (arith, p.0), omega (arith, p.1), p.2)

        back : Dec (j ≡ i) → Not i (suc n) → (j ≡ i) ⊎ Covers (unheard heard (suc i) n) j
        back (yes q) p = inl q
        back (no q) p = inr (IH.1 (omega (arith, p.0), omega (arith, p.1), p.2))

-- an index that does not neighbour the runs behind it stands alone
front_alone : (i : ℕ) (rs : List Run) → Spaced 2 (2 + i) rs → in_front i rs ≡ record { first = i; last = i } ∷ rs
unfolding Spaced in_front
front_alone i [] S = refl
front_alone i (r ∷ rs) S = rw (ne_eqb (suc i) r.first (λ e. omega (arith, S.0)), in_front) refl

-- Neighbours that are not heard, up to one that is or to the end, are one run: an isolated index too.
pub unheard_run : (heard : ℕ → Bool) (k i n : ℕ) → ((j : ℕ) → j ≤ k → heard (i + j) ≡ false) → (n ≡ 0) ⊎ (heard (i + suc k) ≡ true)
    → unheard heard i (suc k + n) ≡ record { first = i; last = i + k } ∷ unheard heard (i + suc k) n
unfolding unheard in_front
unheard_run heard zero i n f e = rw (one-add n, here, unheard) (front_alone i (unheard heard (suc i) n) (apart n (next e)) ∙ rw (last, more) refl)
  where
    here : heard i ≡ false
    here = ap heard (omega arith) ∙ f 0 (omega arith)

    last : i + 0 ≡ i
    last = omega arith

    more : i + 1 ≡ suc i
    more = omega arith

    next : (n ≡ 0) ⊎ (heard (i + 1) ≡ true) → (n ≡ 0) ⊎ (heard (suc i) ≡ true)
    next (inl z) = inl z
    next (inr h) = inr (ap heard (sym more) ∙ h)

    apart : (n : ℕ) → (n ≡ 0) ⊎ (heard (suc i) ≡ true) → Spaced 2 (2 + i) (unheard heard (suc i) n)
    apart zero d = unfold Spaced in tt
    apart (suc n) (inl z) = absurd (omega arith)
    apart (suc n) (inr h) = rw (h, unheard) (spaced_less 2 (suc (suc i)) (2 + i) (unheard heard (suc (suc i)) n) (omega arith) (unheard_spaced heard (suc (suc i)) n))
unheard_run heard (suc k) i n f e = go (unheard_run heard k (suc i) n (λ j h. ap heard (omega arith) ∙ f (suc j) (omega arith)) (⊎_elim (λ z. inl z) (λ h. inr (ap heard (omega arith) ∙ h)) e))
  where
    here : heard i ≡ false
    here = ap heard (omega arith) ∙ f 0 (omega arith)

    go : unheard heard (suc i) (suc k + n) ≡ record { first = suc i; last = suc i + k } ∷ unheard heard (suc i + suc k) n
        → unheard heard i (suc (suc k) + n) ≡ record { first = i; last = i + suc k } ∷ unheard heard (i + suc (suc k)) n
    go IH =
        let count : suc (suc k) + n ≡ suc (suc k + n) = omega arith in
        let last : suc i + k ≡ i + suc k = omega arith in
        let from : suc i + suc k ≡ i + suc (suc k) = omega arith in
        rw (count, here, unheard) (rw (IH, in_front) (rw (eq-eqb (suc i) (suc i) refl) (rw (last, from) refl)))

-- runs that leave an index out between any two are few
pub spaced_few : (top least : ℕ) (rs : List Run) → Spaced 2 least rs → ((i : ℕ) → Covers rs i → i ≤ top) → (length rs ≡ 0) ⊎ (least + 2 * length rs ≤ 2 + top)
unfolding Spaced Covers
spaced_few top least [] S m = inl refl
spaced_few top least (r ∷ rs) S m =
    let h : r.last ≤ top = m r.last (inl (S.1, omega arith)) in
    inr (⊎_elim (λ z. omega (arith, S.0, S.1)) (λ q. omega (arith, S.0, S.1)) (spaced_few top (2 + r.last) rs S.2 (λ i c. m i (inr c))))

-- Runs with an index left out between any two are the shortest: ascending runs that cover the same are as many or more.
pub spaced_shortest : (rs gs : List Run) (a b : ℕ) → Spaced 2 a gs → Spaced 1 b rs → ((i : ℕ) → Covers gs i ↔ Covers rs i) → length gs ≤ length rs
unfolding Spaced Covers
spaced_shortest [] [] a b G R same = omega arith
spaced_shortest [] (g ∷ gs) a b G R same = absurd ((same g.first).0 (inl (omega arith, G.1)))
spaced_shortest (r ∷ rs) [] a b G R same = omega arith
spaced_shortest (r ∷ rs) (g ∷ gs) a b G R same = go (ℕ_discrete r.last g.last) (λ hs c. spaced_shortest rs hs c (1 + r.last))
  where
    behind : (i : ℕ) → Covers gs i → 2 + g.last ≤ i
    behind = spaced_above 2 (2 + g.last) gs G.2

    after : (i : ℕ) → Covers rs i → 1 + r.last ≤ i
    after = spaced_above 1 (1 + r.last) rs R.2

    -- both begin with the least index
    begin : r.first ≡ g.first
    begin =
        let low : g.first ≤ r.first = ⊎_elim (λ p. p.0) (λ p. omega (arith, G.1, behind r.first p)) ((same r.first).1 (inl (omega arith, R.1))) in
        let high : r.first ≤ g.first = ⊎_elim (λ p. p.0) (λ p. omega (arith, R.1, after g.first p)) ((same g.first).0 (inl (omega arith, G.1))) in
        omega arith

    -- and the other does not go past the gap
    most : r.last ≤ g.last
    most = past (ltb g.last r.last) refl
      where
        past : (t : Bool) → ltb g.last r.last ≡ t → r.last ≤ g.last
        past false e = ltb-false g.last r.last e
        past true e =
            let h = ltb-true g.last r.last e in
            absurd (⊎_elim (λ p. omega (arith, p.1)) (λ p. omega (arith, behind (suc g.last) p)) ((same (suc g.last)).1 (inl (omega (arith, begin, G.1), omega arith))))

    go : Dec (r.last ≡ g.last)
        → ((hs : List Run) (c : ℕ) → Spaced 2 c hs → Spaced 1 (1 + r.last) rs → ((i : ℕ) → Covers hs i ↔ Covers rs i) → length hs ≤ length rs)
        → length (g ∷ gs) ≤ length (r ∷ rs)
    go (yes e) IH = omega (arith, IH gs (2 + g.last) G.2 R.2 (λ i. (to i, back i)))
      where
        to : (i : ℕ) → Covers gs i → Covers rs i
        to i c = ⊎_elim (λ p. absurd (omega (arith, p.1, behind i c))) (λ p. p) ((same i).0 (inr c))

        back : (i : ℕ) → Covers rs i → Covers gs i
        back i c = ⊎_elim (λ p. absurd (omega (arith, p.1, after i c))) (λ p. p) ((same i).1 (inr c))
    go (no e) IH = omega (arith, IH (g' ∷ gs) (suc r.last) (omega arith, omega (arith, most), G.2) R.2 (λ i. (to i, back i)))
      where
        -- what is left of the first run
        g' : Run
        g' = record { first = suc r.last; last = g.last }

        to : (i : ℕ) → Covers (g' ∷ gs) i → Covers rs i
        to i (inl p) = ⊎_elim (λ q. absurd (omega (arith, p.0, q.1))) (λ q. q) ((same i).0 (inl (omega (arith, p.0, begin, R.1), p.1)))
        to i (inr c) = ⊎_elim (λ q. absurd (omega (arith, most, q.1, behind i c))) (λ q. q) ((same i).0 (inr c))

        back : (i : ℕ) → Covers rs i → Covers (g' ∷ gs) i
        back i c = ⊎_elim (λ p. inl (omega (arith, after i c), p.1)) (λ p. inr p) ((same i).1 (inr c))
