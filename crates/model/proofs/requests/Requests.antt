-- What a request asks for: exactly what is missing, in well-formed lines, and no well-formed request that asks for the same has fewer.
use mathlib.Core.Path.{◌≡◌, refl, ap, sym, ◌∙◌}
use mathlib.Core.Logic.{◌⊎◌, inl, inr, ⊎_elim, ◌↔◌}
use Prim.Native.Nat.{ℕ, suc, ◌+◌, ◌*◌, ◌≤◌, ◌<◌}
use mathlib.Core.Bool.{Bool, true, false, ◌&&◌, ◌||◌, true≢false, false≢true}
use mathlib.Core.List.{List, [], ◌∷◌, map}
use lib.ListN.{length, length-map}
use lib.Dec.{eqb, ltb, leb}
use borrow.Author.Tests.{eqb-true, eqb-false, ltb-true, leb-true, eq-eqb, ne_eqb, lt-ltb, le-leb}
use native.Mathlib.Omega.{arith}
use Rattle.model.specs.Frame.{Frame}
use Rattle.model.specs.Block.{Words}
use Rattle.model.specs.Inbox.{batch_of, count_of, heard_at, SoundInbox, Complete}
use Rattle.model.specs.Request.{Run, run_line, placed, complete_line, request_lines, missing_runs, request_of, last_of, asks, asked, in_place, right_kind, ascend, says_complete, well_formed}
use Rattle.model.proofs.maps.Tests.{both, either, not_true, not_false}
use Rattle.model.proofs.link.Missing.{missing-zero}
use Rattle.model.proofs.requests.Runs.{Covers, Spaced, spaced_above, spaced_less, unheard_spaced, unheard_covers, spaced_few, spaced_shortest}

-- The lines of runs.

-- the line of a run that is not empty asks for it
record Lined (count place : ℕ) (r : Run) (f : Frame) : Type 0 where
  stands : in_place count place f ≡ true
  kind : right_kind f ≡ true
  key : f.key ≡ r.first
  last : last_of f ≡ r.last
  asks : (eqb f.kind 16 || eqb f.kind 17) ≡ true

run_lined : (batch count place : ℕ) (r : Run) → r.first ≤ r.last → Lined count place r (run_line batch count place r)
unfolding run_line in_place right_kind last_of
run_lined batch count place r h = go (eqb r.first r.last) refl
  where
    here : (eqb place place && eqb count count) ≡ true
    here = rw (eq-eqb place place refl, eq-eqb count count refl)

    go : (b : Bool) → eqb r.first r.last ≡ b → Lined count place r (run_line batch count place r)
    go true e = rw (e, run_line) (record { stands = here; kind = refl; key = refl; last = eqb-true r.first r.last e; asks = refl })
    go false e = rw (e, run_line) (record { stands = here; kind = lt-ltb r.first r.last (omega (arith, eqb-false r.first r.last e)); key = refl; last = refl; asks = refl })

-- what a line asks for, by its first and its last index
pub asks_between : (f : Frame) → (eqb f.kind 16 || eqb f.kind 17) ≡ true → (i : ℕ) → (asks f i ≡ true) ↔ ((f.key ≤ i) × (i ≤ last_of f))
unfolding asks
asks_between f k i = (to, back)
  where
    to : asks f i ≡ true → (f.key ≤ i) × (i ≤ last_of f)
    to e =
        let a = both ((eqb f.kind 16 || eqb f.kind 17) && leb f.key i) (leb i (last_of f)) e in
        let b = both (eqb f.kind 16 || eqb f.kind 17) (leb f.key i) a.0 in
        (leb-true f.key i b.1, leb-true i (last_of f) a.1)

    back : (f.key ≤ i) × (i ≤ last_of f) → asks f i ≡ true
    back p = rw (k, le-leb f.key i p.0, le-leb i (last_of f) p.1)

-- one of two tests
pub or_either : (t u : Bool) → ((t || u) ≡ true) ↔ ((t ≡ true) ⊎ (u ≡ true))
or_either t u = (either t u, back t)
  where
    back : (t : Bool) → (t ≡ true) ⊎ (u ≡ true) → (t || u) ≡ true
    back true c = refl
    back false (inl e) = absurd (false≢true e)
    back false (inr e) = e

-- lines of runs ask for what the runs cover
placed-asked : (batch count place gap least : ℕ) (rs : List Run) → Spaced gap least rs → (i : ℕ) → (asked (placed batch count place rs) i ≡ true) ↔ Covers rs i
unfolding placed asked Covers Spaced
placed-asked batch count place gap least [] S i = ((λ e. absurd (false≢true e)), (λ c. absurd c))
placed-asked batch count place gap least (r ∷ rs) S i =
    let f = run_line batch count place r in
    let L = run_lined batch count place r S.1 in
    let A = asks_between f L.asks i in
    let IH = placed-asked batch count (suc place) gap (gap + r.last) rs S.2 i in
    let O = or_either (asks f i) (asked (placed batch count (suc place) rs) i) in (
      (λ e. ⊎_elim (λ a. let p = A.0 a in inl (omega (arith, p.0, L.key), omega (arith, p.1, L.last))) (λ a. inr (IH.0 a)) (O.0 e)),
      (λ c. O.1 (⊎_elim (λ p. inl (A.1 (omega (arith, p.0, L.key), omega (arith, p.1, L.last)))) (λ p. inr (IH.1 p)) c)),
    )

lines_asked : (batch gap least : ℕ) (rs : List Run) → Spaced gap least rs → (i : ℕ) → (asked (request_lines batch rs) i ≡ true) ↔ Covers rs i
unfolding request_lines asked asks Covers
lines_asked batch gap least [] S i = ((λ e. absurd (false≢true e)), (λ c. absurd c))
lines_asked batch gap least (r ∷ rs) S i = placed-asked batch (length (r ∷ rs)) 0 gap least (r ∷ rs) S i

pub placed-length : (batch count place : ℕ) (rs : List Run) → length (placed batch count place rs) ≡ length rs
unfolding placed
placed-length batch count place [] = refl
placed-length batch count place (r ∷ rs) = ap suc (placed-length batch count (suc place) rs)

-- lines of runs ascend
placed-ascend : (batch count place least : ℕ) (rs : List Run) → Spaced 2 least rs → ((i : ℕ) → Covers rs i → i ≤ 4095)
    → ascend count place least (placed batch count place rs) ≡ true
unfolding placed ascend Covers Spaced
placed-ascend batch count place least [] S m = refl
placed-ascend batch count place least (r ∷ rs) S m =
    let f = run_line batch count place r in
    let L = run_lined batch count place r S.1 in
    let low : leb least f.key ≡ true = le-leb least f.key (omega (arith, S.0, L.key)) in
    let high : leb (last_of f) 4095 ≡ true = le-leb (last_of f) 4095 (omega (arith, L.last, m r.last (inl (S.1, omega arith)))) in
    let rest = placed-ascend batch count (suc place) (suc (last_of f)) rs (spaced_less 2 (2 + r.last) (suc (last_of f)) rs (omega (arith, L.last)) S.2) (λ i c. m i (inr c)) in
    rw (L.stands, L.kind, low, high) rest

lines_well : (batch : ℕ) (rs : List Run) → Spaced 2 0 rs → ((i : ℕ) → Covers rs i → i ≤ 4095) → well_formed (request_lines batch rs) ≡ true
unfolding request_lines well_formed says_complete in_place placed
lines_well batch [] S m = refl
lines_well batch (r ∷ rs) S m =
    let n : length (placed batch (length (r ∷ rs)) 0 (r ∷ rs)) ≡ length (r ∷ rs) = placed-length batch (length (r ∷ rs)) 0 (r ∷ rs) in
    let a : ascend (length (placed batch (length (r ∷ rs)) 0 (r ∷ rs))) 0 0 (placed batch (length (r ∷ rs)) 0 (r ∷ rs)) ≡ true = rw n (placed-ascend batch (length (r ∷ rs)) 0 0 (r ∷ rs) S m) in
    (or_either (says_complete (placed batch (length (r ∷ rs)) 0 (r ∷ rs))) _).1 (inr a)

-- Well-formed requests.

-- the run that a line asks for
abbrev run_of : Frame → Run
run_of f = record { first = f.key; last = last_of f }

-- a line of a right kind asks, and not for nothing; its value is no index past its last
pub record Kinded (f : Frame) : Type 0 where
  pub asks : (eqb f.kind 16 || eqb f.kind 17) ≡ true
  pub kind : f.kind ≤ 17
  pub key : f.key ≤ last_of f
  pub value : f.value ≤ last_of f

pub right_kinded : (f : Frame) → right_kind f ≡ true → Kinded f
unfolding right_kind last_of
right_kinded f e = go (either (eqb f.kind 16 && eqb f.value 0) (eqb f.kind 17 && ltb f.key f.value) e)
  where
    go : ((eqb f.kind 16 && eqb f.value 0) ≡ true) ⊎ ((eqb f.kind 17 && ltb f.key f.value) ≡ true) → Kinded f
    go (inl c) =
        let p = both (eqb f.kind 16) (eqb f.value 0) c in
        let v = eqb-true f.value 0 p.1 in
        record { asks = rw p.0 refl; kind = omega (arith, eqb-true f.kind 16 p.0); key = rw (p.0, last_of) (omega arith); value = rw (p.0, last_of) (omega arith) }
    go (inr c) =
        let p = both (eqb f.kind 17) (ltb f.key f.value) c in
        let k = eqb-true f.kind 17 p.0 in
        let n = ne_eqb f.kind 16 (λ q. omega arith) in
        let h = ltb-true f.key f.value p.1 in
        record { asks = rw (n, p.0) refl; kind = omega arith; key = rw (n, last_of) (omega arith); value = rw (n, last_of) (omega arith) }

-- what holds of one line and of those behind it
pub record Ascends (count place least : ℕ) (f : Frame) (fs : List Frame) : Type 0 where
  pub stands : in_place count place f ≡ true
  pub kind : right_kind f ≡ true
  pub low : least ≤ f.key
  pub high : last_of f ≤ 4095
  pub rest : ascend count (suc place) (suc (last_of f)) fs ≡ true

pub ascend_says : (count place least : ℕ) (f : Frame) (fs : List Frame) → ascend count place least (f ∷ fs) ≡ true → Ascends count place least f fs
unfolding ascend
ascend_says count place least f fs e =
    let a = both (in_place count place f && right_kind f && leb least f.key && leb (last_of f) 4095) (ascend count (suc place) (suc (last_of f)) fs) e in
    let b = both (in_place count place f && right_kind f && leb least f.key) (leb (last_of f) 4095) a.0 in
    let c = both (in_place count place f && right_kind f) (leb least f.key) b.0 in
    let d = both (in_place count place f) (right_kind f) c.0 in
    record { stands = d.0; kind = d.1; low = leb-true least f.key c.1; high = leb-true (last_of f) 4095 b.1; rest = a.1 }

ascend_runs : (count place least : ℕ) (fs : List Frame) → ascend count place least fs ≡ true
    → Spaced 1 least (map run_of fs) × ((i : ℕ) → (asked fs i ≡ true) ↔ Covers (map run_of fs) i)
unfolding asked Covers Spaced
ascend_runs count place least [] e = (tt, λ i. ((λ q. absurd (false≢true q)), (λ c. absurd c)))
ascend_runs count place least (f ∷ fs) e =
    let A = ascend_says count place least f fs e in
    let K = right_kinded f A.kind in
    let IH = ascend_runs count (suc place) (suc (last_of f)) fs A.rest in
    let S : Spaced 1 (1 + last_of f) (map run_of fs) = spaced_less 1 (suc (last_of f)) (1 + last_of f) (map run_of fs) (omega arith) IH.0 in (
      (A.low, K.key, S),
      λ i. (
        (λ q. ⊎_elim (λ a. inl ((asks_between f K.asks i).0 a)) (λ a. inr ((IH.1 i).0 a)) ((or_either (asks f i) (asked fs i)).0 q)),
        (λ c. (or_either (asks f i) (asked fs i)).1 (⊎_elim (λ p. inl ((asks_between f K.asks i).1 p)) (λ p. inr ((IH.1 i).1 p)) c)),
      ),
    )

-- Up to the last index of a line that line alone decides, and past it those behind it.
pub asked_here : (count place least : ℕ) (f : Frame) (fs : List Frame) → ascend count place least (f ∷ fs) ≡ true → (i : ℕ) → i ≤ last_of f
    → asked (f ∷ fs) i ≡ asks f i
unfolding asked
asked_here count place least f fs e i h = rw (not_true (asked fs i) behind) (alone (asks f i))
  where
    behind : asked fs i ≡ true → ⊥
    behind q =
        let R = ascend_runs count (suc place) (suc (last_of f)) fs (ascend_says count place least f fs e).rest in
        omega (arith, spaced_above 1 (suc (last_of f)) (map run_of fs) R.0 i ((R.1 i).0 q))

    alone : (b : Bool) → (b || false) ≡ b
    alone true = refl
    alone false = refl

pub asked_later : (f : Frame) (fs : List Frame) (i : ℕ) → last_of f < i → asked (f ∷ fs) i ≡ asked fs i
unfolding asked
asked_later f fs i h = rw (not_true (asks f i) (λ e. past e)) refl
  where
    past : asks f i ≡ true → ⊥
    past e = unfold asks in omega (arith, leb-true i (last_of f) (both ((eqb f.kind 16 || eqb f.kind 17) && leb f.key i) (leb i (last_of f)) e).1)

-- a well-formed request asks for the indexes of runs that ascend, no more of them than it has lines
record Asking (fs : List Frame) : Type 0 where
  runs : List Run
  few : length runs ≤ length fs
  some : 0 < length fs
  spaced : Spaced 1 0 runs
  asks : (i : ℕ) → (asked fs i ≡ true) ↔ Covers runs i

-- a line that says complete asks for nothing
pub complete_asks : (fs : List Frame) → says_complete fs ≡ true → (i : ℕ) → asked fs i ≡ false
unfolding says_complete asked asks
complete_asks [] e i = absurd (false≢true e)
complete_asks (f ∷ []) e i =
    let a = both (in_place 1 0 f && eqb f.kind 18 && eqb f.key 0) (eqb f.value 0) e in
    let b = both (in_place 1 0 f && eqb f.kind 18) (eqb f.key 0) a.0 in
    let k = eqb-true f.kind 18 (both (in_place 1 0 f) (eqb f.kind 18) b.0).1 in
    rw k refl
complete_asks (f ∷ g ∷ fs) e i = absurd (false≢true e)

well_asking : (fs : List Frame) → well_formed fs ≡ true → Asking fs
unfolding well_formed
well_asking [] e = absurd (false≢true e)
well_asking (f ∷ fs) e = go (either (says_complete (f ∷ fs)) (ascend (length (f ∷ fs)) 0 0 (f ∷ fs)) e)
  where
    go : (says_complete (f ∷ fs) ≡ true) ⊎ (ascend (length (f ∷ fs)) 0 0 (f ∷ fs) ≡ true) → Asking (f ∷ fs)
    go (inl c) = unfold Spaced Covers in record { runs = []; few = omega arith; some = omega arith; spaced = tt; asks = λ i. ((λ q. false≢true (sym (complete_asks (f ∷ fs) c i) ∙ q)), (λ p. absurd p)) }
    go (inr a) = let R = ascend_runs (length (f ∷ fs)) 0 0 (f ∷ fs) a in record { runs = map run_of (f ∷ fs); few = omega (arith, length-map (f ∷ fs) run_of); some = omega arith; spaced = R.0; asks = R.1 }

-- The request of an inbox.

missing_spaced : (x : List ℕ) → Spaced 2 0 (missing_runs x)
unfolding missing_runs Spaced
missing_spaced x = go (eqb (count_of x) 0) refl
  where
    go : (b : Bool) → eqb (count_of x) 0 ≡ b → Spaced 2 0 (missing_runs x)
    go true e = rw (e, missing_runs) (omega arith, omega arith, tt)
    go false e = rw (e, missing_runs) (unheard_spaced (heard_at x) 0 (count_of x))

missing_known : (x : List ℕ) → 0 < count_of x → (i : ℕ) → Covers (missing_runs x) i ↔ ((i < count_of x) × (heard_at x i ≡ false))
unfolding missing_runs
missing_known x h i =
    let C = unheard_covers (heard_at x) 0 (count_of x) i in
    rw (ne_eqb (count_of x) 0 (λ z. omega arith), missing_runs) ((λ c. let p = C.0 c in (omega (arith, p.1), p.2)), (λ p. C.1 (omega arith, omega (arith, p.0), p.1)))

missing_unknown : (x : List ℕ) → count_of x ≡ 0 → (i : ℕ) → Covers (missing_runs x) i ↔ (i < 4096)
unfolding missing_runs Covers
missing_unknown x z i = rw (eq-eqb (count_of x) 0 z, missing_runs) ((λ c. ⊎_elim (λ p. omega (arith, p.1)) (λ p. absurd p) c), (λ p. inl (omega arith, omega arith)))

module _ (x : List ℕ) where
  request_asked : (i : ℕ) → (asked (request_of x) i ≡ true) ↔ Covers (missing_runs x) i
  unfolding request_of
  request_asked i = lines_asked (batch_of x) 2 0 (missing_runs x) (missing_spaced x) i

  -- the request covers exactly the missing indexes
  pub request_covers : 0 < count_of x → (i : ℕ) → (asked (request_of x) i ≡ true) ↔ ((i < count_of x) × (heard_at x i ≡ false))
  request_covers h i = ((λ e. (missing_known x h i).0 ((request_asked i).0 e)), (λ p. (request_asked i).1 ((missing_known x h i).1 p)))

  -- and the whole batch, however long, while the count is unknown
  pub request_unknown : count_of x ≡ 0 → (i : ℕ) → (asked (request_of x) i ≡ true) ↔ (i < 4096)
  request_unknown z i = ((λ e. (missing_unknown x z i).0 ((request_asked i).0 e)), (λ p. (request_asked i).1 ((missing_unknown x z i).1 p)))

  missing_most : SoundInbox x → (i : ℕ) → Covers (missing_runs x) i → i ≤ 4095
  missing_most S i c = go (eqb (count_of x) 0) refl
    where
      go : (b : Bool) → eqb (count_of x) 0 ≡ b → i ≤ 4095
      go true e = omega (arith, (missing_unknown x (eqb-true (count_of x) 0 e) i).0 c)
      go false e = let p = (missing_known x (omega (arith, eqb-false (count_of x) 0 e)) i).0 c in omega (arith, p.0, S.small)

  -- it is well formed: its lines ascend
  pub request_well : SoundInbox x → well_formed (request_of x) ≡ true
  unfolding request_of
  request_well S = lines_well (batch_of x) (missing_runs x) (missing_spaced x) (missing_most S)

  -- it has 2,048 lines at most
  pub request_most : SoundInbox x → length (request_of x) ≤ 2048
  unfolding request_of request_lines
  request_most S = go (missing_runs x) refl (spaced_few 4095 0 (missing_runs x) (missing_spaced x) (missing_most S))
    where
      go : (rs : List Run) → missing_runs x ≡ rs → (length (missing_runs x) ≡ 0) ⊎ (0 + 2 * length (missing_runs x) ≤ 2 + 4095) → length (request_of x) ≤ 2048
      go [] e h = rw (e, request_lines) (omega arith)
      go (r ∷ rs) e h =
          let n : length (missing_runs x) ≡ length (r ∷ rs) = ap length e in
          rw (e, request_lines) (⊎_elim (λ z. omega (arith, n, z)) (λ z. omega (arith, n, z, placed-length (batch_of x) (length (r ∷ rs)) 0 (r ∷ rs))) h)

  -- No well-formed request that asks for the same has fewer lines.
  pub request_shortest : (fs : List Frame) → well_formed fs ≡ true → ((i : ℕ) → (asked fs i ≡ true) ↔ (asked (request_of x) i ≡ true))
      → length (request_of x) ≤ length fs
  unfolding request_of request_lines
  request_shortest fs w same = go (missing_runs x) refl
    where
      A : Asking fs
      A = well_asking fs w

      fewest : length (missing_runs x) ≤ length A.runs
      fewest = spaced_shortest A.runs (missing_runs x) 0 0 (missing_spaced x) A.spaced
          (λ i. ((λ c. (A.asks i).0 ((same i).1 ((request_asked i).1 c))), (λ c. (request_asked i).0 ((same i).0 ((A.asks i).1 c)))))

      go : (rs : List Run) → missing_runs x ≡ rs → length (request_of x) ≤ length fs
      go [] e = rw (e, request_lines) (omega (arith, A.some))
      go (r ∷ rs) e = rw (e, request_lines) (omega (arith, placed-length (batch_of x) (length (r ∷ rs)) 0 (r ∷ rs), ap length e, fewest, A.few))

-- no run where nothing is covered
none_covered : (rs : List Run) → Spaced 2 0 rs → ((i : ℕ) → Covers rs i → ⊥) → rs ≡ []
unfolding Spaced Covers
none_covered [] S n = refl
none_covered (r ∷ rs) S n = absurd (n r.first (inl (omega arith, S.1)))

-- The standby says complete exactly when it is.
pub request_complete : (x : List ℕ) → SoundInbox x → Words x → (request_of x ≡ complete_line (batch_of x) ∷ []) ↔ Complete x
unfolding request_of request_lines
request_complete x S W = (to, back)
  where
    to : request_of x ≡ complete_line (batch_of x) ∷ [] → Complete x
    to e = record { counted = counted; none = (missing-zero x S W).1 all }
      where
        nothing : (i : ℕ) → asked (request_of x) i ≡ true → ⊥
        nothing i a = unfold asked asks in false≢true (sym (ap (λ (fs : List Frame). asked fs i) e) ∙ a)

        counted : 0 < count_of x
        counted = go (eqb (count_of x) 0) refl
          where
            go : (b : Bool) → eqb (count_of x) 0 ≡ b → 0 < count_of x
            go true q = absurd (nothing 0 ((request_unknown x (eqb-true (count_of x) 0 q) 0).1 (omega arith)))
            go false q = omega (arith, eqb-false (count_of x) 0 q)

        all : (i : ℕ) → i < count_of x → heard_at x i ≡ true
        all i h = not_false (heard_at x i) (λ f. nothing i ((request_covers x counted i).1 (h, f)))

    back : Complete x → request_of x ≡ complete_line (batch_of x) ∷ []
    back C = rw (none_covered (missing_runs x) (missing_spaced x) (λ i c. let p = (missing_known x C.counted i).0 c in true≢false (sym ((missing-zero x S W).0 C.none i p.0) ∙ p.1)), request_lines)
