-- 15 exactly when document 02 says, clause by clause; and the data calls refuse a request's lines with 11.
use mathlib.Core.Path.{◌≡◌, refl, ap, sym, ◌∙◌}
use mathlib.Core.Logic.{◌≢◌, ◌⊎◌, inl, inr, ⊎_elim, ◌↔◌}
use Prim.Native.Nat.{ℕ, zero, suc, ◌+◌, ◌≤◌, ◌<◌}
use mathlib.Core.Bool.{true, ◌&&◌, false≢true}
use mathlib.Core.Option.{Option, none, some}
use mathlib.Core.List.{List, [], ◌∷◌, map}
use lib.ListN.{length}
use lib.Dec.{eqb, ltb}
use borrow.Author.Tests.{eqb-true, ltb-true, eq-eqb, lt-ltb, le-leb}
use native.Mathlib.Omega.{arith}
use native.Mathlib.Decide.{ℕ_discrete}
use Rattle.model.specs.Frame.{Frame, line, fault, read, frame_at}
use Rattle.model.specs.Numbers.{KIND}
use Rattle.model.specs.Lists.{laid}
use Rattle.model.specs.Request.{last_of, asks, in_place, right_kind, ascend, says_complete, well_formed, read_request}
use Rattle.model.proofs.maps.Tests.{both, either}
use Rattle.model.proofs.link.Lines.{Fits, line-fields, read_kind}
use Rattle.model.proofs.requests.Requests.{or_either, asks_between, Kinded, right_kinded, Ascends, ascend_says}
use Rattle.model.proofs.requests.RequestLines.{AllFit, read_exactly}

-- what document 02 asks of the lines of a request
pub record Proper (fs : List Frame) : Type 0 where
  pub some : 0 < length fs
  -- index and count are the line's place and the number of lines
  pub places : (i : ℕ) → i < length fs → ((frame_at fs i).index ≡ i) × ((frame_at fs i).count ≡ length fs)
  -- there is no other kind
  pub kinds : (i : ℕ) → i < length fs → ((frame_at fs i).kind ≡ 16) ⊎ (((frame_at fs i).kind ≡ 17) ⊎ ((frame_at fs i).kind ≡ 18))
  pub one : (i : ℕ) → i < length fs → (frame_at fs i).kind ≡ 16 → (frame_at fs i).value ≡ 0
  pub run : (i : ℕ) → i < length fs → (frame_at fs i).kind ≡ 17 → (frame_at fs i).key < (frame_at fs i).value
  -- no asked index is above 4,095, and each is above those of the line before
  pub most : (i j : ℕ) → i < length fs → asks (frame_at fs i) j ≡ true → j ≤ 4095
  pub above : (i j k : ℕ) → suc i < length fs → asks (frame_at fs i) j ≡ true → asks (frame_at fs (suc i)) k ≡ true → j < k
  pub complete : (i : ℕ) → i < length fs → (frame_at fs i).kind ≡ 18 → ((frame_at fs i).key ≡ 0) × ((frame_at fs i).value ≡ 0) × (length fs ≡ 1)

-- lines that ask, by their places
record Places (count place least : ℕ) (fs : List Frame) : Type 0 where
  stands : (i : ℕ) → i < length fs → in_place count (place + i) (frame_at fs i) ≡ true
  kind : (i : ℕ) → i < length fs → right_kind (frame_at fs i) ≡ true
  low : 0 < length fs → least ≤ (frame_at fs 0).key
  high : (i : ℕ) → i < length fs → last_of (frame_at fs i) ≤ 4095
  next : (i : ℕ) → suc i < length fs → last_of (frame_at fs i) < (frame_at fs (suc i)).key

ascend_places : (count place least : ℕ) (fs : List Frame) → ascend count place least fs ≡ true → Places count place least fs
ascend_places count place least [] e = record { stands = λ i l. absurd (omega arith); kind = λ i l. absurd (omega arith); low = λ l. absurd (omega arith); high = λ i l. absurd (omega arith); next = λ i l. absurd (omega arith) }
ascend_places count place least (f ∷ fs) e = go (ascend_says count place least f fs e) (λ q. ascend_places count (suc place) (suc (last_of f)) fs q)
  where
    go : Ascends count place least f fs
        → (ascend count (suc place) (suc (last_of f)) fs ≡ true → Places count (suc place) (suc (last_of f)) fs)
        → Places count place least (f ∷ fs)
    go A IH = record { stands = stands; kind = kind; low = λ l. A.low; high = high; next = next }
      where
        R : Places count (suc place) (suc (last_of f)) fs
        R = IH A.rest

        stands : (i : ℕ) → i < length (f ∷ fs) → in_place count (place + i) (frame_at (f ∷ fs) i) ≡ true
        stands zero l = ap (λ n. in_place count n f) (omega arith) ∙ A.stands
        stands (suc i) l = ap (λ n. in_place count n (frame_at fs i)) (omega arith) ∙ R.stands i (omega arith)

        kind : (i : ℕ) → i < length (f ∷ fs) → right_kind (frame_at (f ∷ fs) i) ≡ true
        kind zero l = A.kind
        kind (suc i) l = R.kind i (omega arith)

        high : (i : ℕ) → i < length (f ∷ fs) → last_of (frame_at (f ∷ fs) i) ≤ 4095
        high zero l = A.high
        high (suc i) l = R.high i (omega arith)

        next : (i : ℕ) → suc i < length (f ∷ fs) → last_of (frame_at (f ∷ fs) i) < (frame_at (f ∷ fs) (suc i)).key
        next zero l = R.low (omega arith)
        next (suc i) l = R.next i (omega arith)

places_ascend : (count place least : ℕ) (fs : List Frame) → Places count place least fs → ascend count place least fs ≡ true
unfolding ascend
places_ascend count place least [] P = refl
places_ascend count place least (f ∷ fs) P =
    let here : in_place count place f ≡ true = ap (λ n. in_place count n f) (omega arith) ∙ P.stands 0 (omega arith) in
    let rest = places_ascend count (suc place) (suc (last_of f)) fs (record {
      stands = λ i l. ap (λ n. in_place count n (frame_at fs i)) (omega arith) ∙ P.stands (suc i) (omega arith);
      kind = λ i l. P.kind (suc i) (omega arith);
      low = λ l. P.next 0 (omega arith);
      high = λ i l. P.high (suc i) (omega arith);
      next = λ i l. P.next (suc i) (omega arith);
    }) in
    rw (here, P.kind 0 (omega arith), le-leb least f.key (P.low (omega arith)), le-leb (last_of f) 4095 (P.high 0 (omega arith))) rest

-- the tests of one line in words
place_says : (count place : ℕ) (f : Frame) → (in_place count place f ≡ true) ↔ ((f.index ≡ place) × (f.count ≡ count))
unfolding in_place
place_says count place f = (
  (λ e. let p = both (eqb f.index place) (eqb f.count count) e in (eqb-true f.index place p.0, eqb-true f.count count p.1)),
  (λ p. rw (eq-eqb f.index place p.0, eq-eqb f.count count p.1)),
)

kind_says : (f : Frame) → (right_kind f ≡ true) ↔ (((f.kind ≡ 16) × (f.value ≡ 0)) ⊎ ((f.kind ≡ 17) × (f.key < f.value)))
unfolding right_kind
kind_says f = (to, back)
  where
    to : right_kind f ≡ true → ((f.kind ≡ 16) × (f.value ≡ 0)) ⊎ ((f.kind ≡ 17) × (f.key < f.value))
    to e = ⊎_elim
        (λ c. let p = both (eqb f.kind 16) (eqb f.value 0) c in inl (eqb-true f.kind 16 p.0, eqb-true f.value 0 p.1))
        (λ c. let p = both (eqb f.kind 17) (ltb f.key f.value) c in inr (eqb-true f.kind 17 p.0, ltb-true f.key f.value p.1))
        (either (eqb f.kind 16 && eqb f.value 0) (eqb f.kind 17 && ltb f.key f.value) e)

    back : ((f.kind ≡ 16) × (f.value ≡ 0)) ⊎ ((f.kind ≡ 17) × (f.key < f.value)) → right_kind f ≡ true
    back (inl p) = rw (p.0, p.1) refl
    back (inr p) = rw p.0 (lt-ltb f.key f.value p.1)

complete_says : (f : Frame) → says_complete (f ∷ []) ≡ true → (in_place 1 0 f ≡ true) × (f.kind ≡ 18) × (f.key ≡ 0) × (f.value ≡ 0)
unfolding says_complete
complete_says f e =
    let a = both (in_place 1 0 f && eqb f.kind 18 && eqb f.key 0) (eqb f.value 0) e in
    let b = both (in_place 1 0 f && eqb f.kind 18) (eqb f.key 0) a.0 in
    let c = both (in_place 1 0 f) (eqb f.kind 18) b.0 in
    (c.0, eqb-true f.kind 18 c.1, eqb-true f.key 0 b.1, eqb-true f.value 0 a.1)

complete_proper : (fs : List Frame) → says_complete fs ≡ true → Proper fs
unfolding says_complete asks
complete_proper [] e = absurd (false≢true e)
complete_proper (f ∷ g ∷ fs) e = absurd (false≢true e)
complete_proper (f ∷ []) e = record { some = omega arith; places = places; kinds = kinds; one = one; run = run; most = λ i j l a. absurd (silent i j l a); above = λ i j k l a b. absurd (omega arith); complete = whole }
  where
    C : (in_place 1 0 f ≡ true) × (f.kind ≡ 18) × (f.key ≡ 0) × (f.value ≡ 0)
    C = complete_says f e

    places : (i : ℕ) → i < 1 → ((frame_at (f ∷ []) i).index ≡ i) × ((frame_at (f ∷ []) i).count ≡ 1)
    places zero l = (place_says 1 0 f).0 C.0
    places (suc i) l = absurd (omega arith)

    kinds : (i : ℕ) → i < 1 → ((frame_at (f ∷ []) i).kind ≡ 16) ⊎ (((frame_at (f ∷ []) i).kind ≡ 17) ⊎ ((frame_at (f ∷ []) i).kind ≡ 18))
    kinds zero l = inr (inr C.1)
    kinds (suc i) l = absurd (omega arith)

    one : (i : ℕ) → i < 1 → (frame_at (f ∷ []) i).kind ≡ 16 → (frame_at (f ∷ []) i).value ≡ 0
    one zero l k = absurd (omega (arith, C.1, k))
    one (suc i) l k = absurd (omega arith)

    run : (i : ℕ) → i < 1 → (frame_at (f ∷ []) i).kind ≡ 17 → (frame_at (f ∷ []) i).key < (frame_at (f ∷ []) i).value
    run zero l k = absurd (omega (arith, C.1, k))
    run (suc i) l k = absurd (omega arith)

    silent : (i j : ℕ) → i < 1 → asks (frame_at (f ∷ []) i) j ≡ true → ⊥
    silent zero j l a = false≢true (rw C.1 at a)
    silent (suc i) j l a = absurd (omega arith)

    whole : (i : ℕ) → i < 1 → (frame_at (f ∷ []) i).kind ≡ 18 → ((frame_at (f ∷ []) i).key ≡ 0) × ((frame_at (f ∷ []) i).value ≡ 0) × (◌≡◌ {A = ℕ} 1 1)
    whole zero l k = (C.2, C.3, refl)
    whole (suc i) l k = absurd (omega arith)

ascend_proper : (fs : List Frame) → 0 < length fs → ascend (length fs) 0 0 fs ≡ true → Proper fs
ascend_proper fs h e = record {
  some = h;
  places = λ i l. let p = (place_says (length fs) (0 + i) (frame_at fs i)).0 (P.stands i l) in (p.0 ∙ omega arith, p.1);
  kinds = λ i l. ⊎_elim (λ p. inl p.0) (λ p. inr (inl p.0)) (K i l);
  one = λ i l k. ⊎_elim (λ p. p.1) (λ p. absurd (omega (arith, k, p.0))) (K i l);
  run = λ i l k. ⊎_elim (λ p. absurd (omega (arith, k, p.0))) (λ p. p.1) (K i l);
  most = λ i j l a. omega (arith, (between i j l a).1, P.high i l);
  above = λ i j k l a b. omega (arith, (between i j (omega arith) a).1, P.next i l, (between (suc i) k l b).0);
  complete = λ i l k. absurd (⊎_elim (λ p. omega (arith, k, p.0)) (λ p. omega (arith, k, p.0)) (K i l));
}
  where
    P : Places (length fs) 0 0 fs
    P = ascend_places (length fs) 0 0 fs e

    K : (i : ℕ) → i < length fs
        → (((frame_at fs i).kind ≡ 16) × ((frame_at fs i).value ≡ 0)) ⊎ (((frame_at fs i).kind ≡ 17) × ((frame_at fs i).key < (frame_at fs i).value))
    K i l = (kind_says (frame_at fs i)).0 (P.kind i l)

    between : (i j : ℕ) → i < length fs → asks (frame_at fs i) j ≡ true → ((frame_at fs i).key ≤ j) × (j ≤ last_of (frame_at fs i))
    between i j l a = (asks_between (frame_at fs i) (right_kinded (frame_at fs i) (P.kind i l)).asks j).0 a

-- where no line says complete all ask
proper_ascend : (fs : List Frame) → Proper fs → (frame_at fs 0).kind ≢ 18 → ascend (length fs) 0 0 fs ≡ true
proper_ascend fs P ne = places_ascend (length fs) 0 0 fs (record {
  stands = λ i l. (place_says (length fs) (0 + i) (frame_at fs i)).1 ((P.places i l).0 ∙ omega arith, (P.places i l).1);
  kind = right;
  low = λ l. omega arith;
  high = λ i l. P.most i (last_of (frame_at fs i)) l (last i l);
  next = λ i l. P.above i (last_of (frame_at fs i)) (frame_at fs (suc i)).key l (last i (omega arith)) (first (suc i) l);
})
  where
    asking : (i : ℕ) → i < length fs → (frame_at fs i).kind ≢ 18
    asking zero l = ne
    asking (suc i) l = λ k. omega (arith, (P.complete (suc i) l k).2)

    right : (i : ℕ) → i < length fs → right_kind (frame_at fs i) ≡ true
    right i l = (kind_says (frame_at fs i)).1 (⊎_elim (λ k. inl (k, P.one i l k)) (λ r. ⊎_elim (λ k. inr (k, P.run i l k)) (λ k. absurd (asking i l k)) r) (P.kinds i l))

    K : (i : ℕ) → i < length fs → Kinded (frame_at fs i)
    K i l = right_kinded (frame_at fs i) (right i l)

    last : (i : ℕ) → i < length fs → asks (frame_at fs i) (last_of (frame_at fs i)) ≡ true
    last i l = (asks_between (frame_at fs i) (K i l).asks (last_of (frame_at fs i))).1 ((K i l).key, omega arith)

    first : (i : ℕ) → i < length fs → asks (frame_at fs i) (frame_at fs i).key ≡ true
    first i l = (asks_between (frame_at fs i) (K i l).asks (frame_at fs i).key).1 (omega arith, (K i l).key)

-- A request is well formed exactly when document 02's sentence holds of it.
pub well_exactly : (fs : List Frame) → (well_formed fs ≡ true) ↔ Proper fs
well_exactly fs = (to fs, back fs)
  where
    to : (fs : List Frame) → well_formed fs ≡ true → Proper fs
    to [] e = unfold well_formed in absurd (false≢true e)
    to (f ∷ fs) e = unfold well_formed in ⊎_elim (complete_proper (f ∷ fs)) (ascend_proper (f ∷ fs) (omega arith)) (either (says_complete (f ∷ fs)) (ascend (length (f ∷ fs)) 0 0 (f ∷ fs)) e)

    alone : (f : Frame) (fs : List Frame) → Proper (f ∷ fs) → f.kind ≡ 18 → says_complete (f ∷ fs) ≡ true
    alone f [] P k =
        let c = P.complete 0 (omega arith) k in
        let p = (place_says 1 0 f).1 (P.places 0 (omega arith)) in
        unfold says_complete in rw (p, k, c.0, c.1) refl
    alone f (g ∷ fs) P k = absurd (omega (arith, (P.complete 0 (omega arith) k).2))

    back : (fs : List Frame) → Proper fs → well_formed fs ≡ true
    back [] P = absurd (omega (arith, P.some))
    back (f ∷ fs) P = go (ℕ_discrete f.kind 18)
      where
        go : Dec (f.kind ≡ 18) → well_formed (f ∷ fs) ≡ true
        go (yes k) = unfold well_formed in (or_either (says_complete (f ∷ fs)) (ascend (length (f ∷ fs)) 0 0 (f ∷ fs))).1 (inl (alone f fs P k))
        go (no k) = unfold well_formed in (or_either (says_complete (f ∷ fs)) (ascend (length (f ∷ fs)) 0 0 (f ∷ fs))).1 (inr (proper_ascend (f ∷ fs) P k))

-- the text is the lines of such a request
pub record Spells (cs : List ℕ) (fs : List Frame) : Type 0 where
  pub lines : cs ≡ laid (map line fs)
  pub fit : AllFit fs
  pub proper : Proper fs

pub read_spells : (cs : List ℕ) (fs : List Frame) → (read_request cs ≡ some fs) ↔ Spells cs fs
read_spells cs fs = (
  (λ e. let r = (read_exactly cs fs).0 e in record { lines = r.0; fit = r.1; proper = (well_exactly fs).0 r.2 }),
  (λ s. (read_exactly cs fs).1 (s.lines, s.fit, (well_exactly fs).1 s.proper)),
)

-- and it is refused exactly when it is the lines of none
pub read_none : (cs : List ℕ) → (read_request cs ≡ none) ↔ ((fs : List Frame) → Spells cs fs → ⊥)
read_none cs = ((λ e fs s. clash e ((read_spells cs fs).1 s)), (λ n. go n (read_request cs) refl))
  where
    clash : {fs : List Frame} → read_request cs ≡ none → read_request cs ≡ some fs → ⊥
    clash e q = let z : ◌≡◌ {A = ℕ} 0 1 = cc (sym e ∙ q) in absurd (omega arith)

    go : ((fs : List Frame) → Spells cs fs → ⊥) → (o : Option (List Frame)) → read_request cs ≡ o → read_request cs ≡ none
    go n none e = e
    go n (some fs) e = absurd (n fs ((read_spells cs fs).0 e))

fit_at : (fs : List Frame) → AllFit fs → (i : ℕ) → i < length fs → Fits (frame_at fs i)
unfolding AllFit
fit_at [] F i l = absurd (omega arith)
fit_at (f ∷ fs) F zero l = F.0
fit_at (f ∷ fs) F (suc i) l = fit_at fs F.1 i (omega arith)

-- Parse and receive refuse each of its lines with 11.
pub data_refused : (cs : List ℕ) (fs : List Frame) → Spells cs fs → (i : ℕ) → i < length fs → read (line (frame_at fs i)) ≡ fault KIND 0
data_refused cs fs s i l =
    let r = line-fields (frame_at fs i) (fit_at fs s.fit i l) in
    read_kind (line (frame_at fs i)) r.0 r.1 (⊎_elim (λ k. omega arith) (λ t. ⊎_elim (λ k. omega arith) (λ k. omega arith) t) (s.proper.kinds i l))
