-- The lines of a request that ask writes are those of the inbox's request.
use mathlib.Core.Path.{◌≡◌, refl, ap, sym, subst, ◌∙◌}
use mathlib.Core.Logic.{◌≢◌}
use Prim.Native.Nat.{ℕ, zero, suc, ◌+◌, ◌-◌, ◌*◌, ◌/◌, ◌≤◌, ◌<◌, min}
use mathlib.Core.Bool.{Bool, true, false}
use mathlib.Core.List.{List, [], ◌∷◌, ◌++◌, map}
use native.Mathlib.Omega.{arith}
use lib.ListN.{length, get_or, take, drop, length-drop, length-map}
use lib.Seq.{drop-drop}
use lib.Dec.{eqb}
use borrow.Author.Tests.{ne_eqb}
use Rattle.model.specs.Frame.{Frame, line}
use Rattle.model.specs.Inbox.{batch_of, count_of, heard_at, SoundInbox}
use Rattle.model.specs.Calls.{fails, passes}
use Rattle.model.specs.Link.{CheckedInbox}
use Rattle.model.specs.Request.{Run, run_line, placed, request_lines, missing_runs, unheard, request_of, Ask}
use Rattle.model.proofs.link.Lines.{line-length}
use Rattle.model.proofs.listing.Cutting.{wide_map}
use Rattle.model.proofs.requests.Requests.{placed-length, request_most}
use Rattle.std.specs.Prelude.{Option, Some, None, Result, Ok, Err}
use Rattle.answers.specs.declared.Refusal.{Refusal}
use Rattle.answers.specs.Numbers.{number, code}
use Rattle.answers.specs.Answers.{report_of}
use Rattle.answers.proofs.NotDone.{some_number}
use Rattle.requests.specs.declared.runs.Run as code
use Rattle.requests.specs.Runs.{runs_from, run_of, Finds, alone_of}
use Rattle.lists.specs.Reports.{refused, Wrote}
use Rattle.lists.proofs.Laying.{Laid, laid_none, laid_next, laid-all}

-- The request of an inbox, by its runs.
module _ (x : List ℕ) where
  all_runs : runs_from x 0 ≡ unheard (heard_at x) 0 (count_of x)
  all_runs = let n : count_of x - 0 ≡ count_of x = omega arith in ap (unheard (heard_at x) 0) n

  pub none_request : length (runs_from x 0) ≡ 0 → request_of x ≡ alone_of (batch_of x) (count_of x) ∷ []
  unfolding request_of missing_runs request_lines placed alone_of
  none_request z = go (eqb (count_of x) 0) refl
    where
      empty : (rs : List Run) → length rs ≡ 0 → rs ≡ []
      empty [] e = refl
      empty (r ∷ rs) e = absurd (omega (arith, e))

      go : (b : Bool) → eqb (count_of x) 0 ≡ b → request_of x ≡ alone_of (batch_of x) (count_of x) ∷ []
      go true e = rw (e, missing_runs, alone_of) refl
      go false e = rw (e, missing_runs, alone_of) (ap (request_lines (batch_of x)) (sym all_runs ∙ empty (runs_from x 0) z))

  pub runs_request : length (runs_from x 0) ≢ 0 → request_of x ≡ placed (batch_of x) (length (runs_from x 0)) 0 (runs_from x 0)
  unfolding request_of missing_runs request_lines unheard
  runs_request n = rw (ne_eqb (count_of x) 0 known, missing_runs) (ap (request_lines (batch_of x)) (sym all_runs) ∙ go (runs_from x 0) n)
    where
      known : count_of x ≢ 0
      known z = n (ap (λ m. length (unheard (heard_at x) 0 (m - 0))) z)

      go : (rs : List Run) → length rs ≢ 0 → request_lines (batch_of x) rs ≡ placed (batch_of x) (length rs) 0 rs
      go [] ne = absurd (ne refl)
      go (r ∷ rs) ne = refl

  pub runs_few : SoundInbox x → length (runs_from x 0) ≤ 2048
  runs_few S = go (length (runs_from x 0)) refl
    where
      go : (n : ℕ) → length (runs_from x 0) ≡ n → length (runs_from x 0) ≤ 2048
      go zero e = omega (arith, e)
      go (suc n) e =
          let same = runs_request (λ z. omega (arith, e, z)) in
          omega (arith, request_most x S, ap length same, placed-length (batch_of x) (length (runs_from x 0)) 0 (runs_from x 0))

-- the line of the run that stands behind n others
placed_at : (batch count place n : ℕ) (rs : List Run) {r : Run} {qs : List Run} → drop n rs ≡ r ∷ qs
    → line (run_line batch count (place + n) r) ≡ get_or (map line (placed batch count place rs)) n []
unfolding placed
placed_at batch count place zero [] e = let z : ◌≡◌ {A = ℕ} 0 1 = cc e in absurd (omega arith)
placed_at batch count place zero (q ∷ rs) {r} e =
    let same : r ≡ q = cc e in
    let here : place + 0 ≡ place = omega arith in
    rw (same, here) refl
placed_at batch count place (suc n) [] e = let z : ◌≡◌ {A = ℕ} 0 1 = cc e in absurd (omega arith)
placed_at batch count place (suc n) (q ∷ rs) e =
    let next : place + suc n ≡ suc place + n = omega arith in
    rw next (placed_at batch count (suc place) n rs e)

-- the lines of all runs
abbrev pub run_lines : (x : List ℕ) (count : ℕ) → List (List ℕ)
run_lines x count = map line (placed (batch_of x) count 0 (runs_from x 0))

-- k of them are to be written to o
pub record Ready (x : List ℕ) (count start k : ℕ) (o : List ℕ) : Type 0 where
  pub sound : SoundInbox x
  pub is : count ≡ length (runs_from x 0)
  pub room : k ≡ min (length o / 35) (count - start)

-- i are written, and the runs from index `at` on are those whose lines are not
pub record Asking (x : List ℕ) (count start k : ℕ) (o out : List ℕ) (at i : ℕ) : Type 0 where
  pub ready : Ready x count start k o
  pub laid : Laid (run_lines x count) start k o out i
  pub rest : runs_from x at ≡ drop (start + i) (runs_from x 0)
  pub within : at ≤ count_of x

module _ {x : List ℕ} {count start k : ℕ} {o : List ℕ} (R : Ready x count start k o) where
  pub ready_few : (count ≤ 2048) × (k ≤ count - start)
  ready_few = (omega (arith, R.is, runs_few x R.sound), omega (arith, R.room))

  none_laid : Laid (run_lines x count) start k o o 0
  none_laid =
      let fs = placed (batch_of x) count 0 (runs_from x 0) in
      let many : length (run_lines x count) ≡ count = length-map fs line ∙ placed-length (batch_of x) count 0 (runs_from x 0) ∙ sym R.is in
      laid_none (wide_map 35 line line-length fs) (rw many R.room)

  pub asking_none : k ≡ 0 → Wrote (run_lines x count) start o 0 o
  asking_none z = let d = laid-all none_laid (sym z) in (omega (arith, z, d.0), d.1)

  pub asking_begun : {at : ℕ} → (runs_from x at ≡ drop start (runs_from x 0)) × (at ≤ count_of x) → Asking x count start k o o at 0
  asking_begun p = let e : start + 0 ≡ start = omega arith in record { ready = R; laid = none_laid; rest = rw e p.0; within = p.1 }

module _ {x : List ℕ} {count start k : ℕ} {o out : List ℕ} {at i : ℕ} (A : Asking x count start k o out at i) {q : Option code.Run} (F : Finds x at q) (h : i < k) where
  -- there is a run left
  pub asking_some : q ≡ None → ⊥
  asking_some e =
      let none : runs_from x at ≡ [] = subst (λ r. Finds x at r) e F in
      omega (arith, h, A.ready.room, A.ready.is, length-drop (start + i) (runs_from x 0), ap length (sym A.rest ∙ none))

  module _ {r : code.Run} (e : q ≡ Some r) where
    first : Finds x at (Some r)
    first = subst (λ r. Finds x at r) e F

    pub asking_last : r.last < count_of x
    asking_last = first.2

    pub asking_next : {after : List ℕ} {f : Frame} (from : ℕ) → from ≡ 35 * i → f ≡ run_line (batch_of x) count (start + i) (run_of r)
        → after ≡ take from out ++ (line f ++ drop (from + 35) out) → Asking x count start k o after (r.last + 1) (i + 1)
    asking_next {after} {f} from s g w =
        let R = runs_from x 0 in
        let here : drop (start + i) R ≡ run_of r ∷ runs_from x (suc r.last) = sym A.rest ∙ first.0 in
        let z : 0 + (start + i) ≡ start + i = omega arith in
        let is = ap line g ∙ (rw z at (placed_at (batch_of x) count 0 (start + i) R here)) in
        let m : start + (i + 1) ≡ start + i + 1 = omega arith in
        let n : r.last + 1 ≡ suc r.last = omega arith in
        record {
          ready = A.ready;
          laid = laid_next A.laid from (line f) s h is w;
          rest = rw (n, m) (sym (sym (drop-drop 1 (start + i) R) ∙ ap (drop 1) here));
          within = omega (arith, first.2);
        }

-- What ask answers behind each check of the inbox.

pub ask_refused : {x out : List ℕ} (start : ℕ) (r : Refusal) → CheckedInbox x (number r) → Ask x out out start (report_of (Err r))
ask_refused start r (fails p e) = fails p (ap refused e, refl)
ask_refused start r (passes p (fails q e)) = passes p (fails q (ap refused e, refl))
ask_refused start r (passes p (passes q e)) = absurd (some_number r e)

sound_inbox : {x : List ℕ} → CheckedInbox x 0 → SoundInbox x
sound_inbox (fails p r) = let e : ◌≡◌ {A = ℕ} 0 1 = r in absurd (omega arith)
sound_inbox (passes p (fails q r)) = let e : ◌≡◌ {A = ℕ} 0 2 = r in absurd (omega arith)
sound_inbox (passes p (passes q r)) = q

pub inbox_sound : {A : Type 0} {x : List ℕ} {r : Result A Refusal} {y : A} → r ≡ Ok y → CheckedInbox x (code r) → SoundInbox x
inbox_sound {x = x} e C = sound_inbox (subst (λ q. CheckedInbox x (code q)) e C)

module _ {x out after : List ℕ} (S : SoundInbox x) (start : ℕ) where
  asked : {fs : List Frame} {w t : ℕ} → request_of x ≡ fs → Wrote (map line fs) start out w after → t ≡ length fs
      → Ask x out after start (report_of (Ok (record { written = w; total = t })))
  asked e d g = passes S.long (passes S (rw e (rw (d.0, g) refl, d.1)))

  pub ask_one : {n w : ℕ} {f : Frame} → n ≡ length (runs_from x 0) → n ≡ 0 → f ≡ alone_of (batch_of x) (count_of x)
      → Wrote (line f ∷ []) start out w after → Ask x out after start (report_of (Ok (record { written = w; total = 1 })))
  ask_one e z g d = asked (none_request x (sym e ∙ z) ∙ ap (λ (h : Frame). h ∷ []) (sym g)) d refl

  pub ask_runs : {n w : ℕ} → n ≡ length (runs_from x 0) → n ≢ 0 → Wrote (run_lines x n) start out w after
      → Ask x out after start (report_of (Ok (record { written = w; total = n })))
  ask_runs {n} e ne d =
      let same = runs_request x (λ z. ne (e ∙ z)) ∙ ap (λ m. placed (batch_of x) m 0 (runs_from x 0)) (sym e) in
      asked same d (e ∙ sym (placed-length (batch_of x) n 0 (runs_from x 0)))
