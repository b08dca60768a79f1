-- What is wrong with a line: each number exactly when document 02 says, of parse and of receive, and the place of a bad digit.
use mathlib.Core.Path.{◌≡◌, refl, ap, sym, subst, ◌∙◌}
use mathlib.Core.Logic.{◌≢◌, ◌↔◌}
use Prim.Native.Nat.{ℕ, ◌+◌, ◌≤◌, ◌<◌}
use mathlib.Core.Bool.{Bool, true, false, ◌&&◌, ◌||◌, true≢false}
use mathlib.Core.Option.{Option, none, some}
use mathlib.Core.List.{List, ◌++◌}
use native.Mathlib.Omega.{arith}
use lib.Dec.{eqb, leb}
use lib.ListN.{length, get_or, take, drop, length-drop, take-append-drop}
use lib.Seq.{length-take-le}
use borrow.Author.Tests.{leb-true, leb-false}
use Rattle.model.specs.Block.{SoundBlock}
use Rattle.model.specs.Frame.{Frame, value, legal, field, fields, Reading, good, fault, first_bad, read}
use Rattle.model.specs.Inbox.{SoundInbox, heard_at}
use Rattle.model.specs.Numbers.{FRAME, DIGIT, KIND, RANGE}
use Rattle.model.specs.Calls.{fails, passes}
use Rattle.model.specs.Link.{Parse, Heard, Step, Takes, Says, Receive}
use Rattle.model.proofs.maps.Tests.{not_true}
use Rattle.model.proofs.link.Digits.{first_before, first_is, first_drop, number_good, number_bad}
use Rattle.model.proofs.link.Lines.{Legal, legal_exactly, read-fields, fields_read, Closed, read_open, read_digit, read_kind, read_range, Way, opened, unread, unknown, unruly, whole, way}

-- Digits.

-- behind digits a field that is read is digits too, and one that is not holds the first bad one
module _ (cs : List ℕ) (at k : ℕ) (before : at ≤ first_bad cs) (inside : at + k ≤ length cs) where
  cut : drop at cs ≡ take k (drop at cs) ++ drop k (drop at cs)
  cut = sym (take-append-drop k (drop at cs))

  long : length (take k (drop at cs)) ≡ k
  long = length-take-le k (drop at cs) (omega (arith, length-drop at cs))

  pub field_good : {n : ℕ} → field cs at k ≡ some n → at + k ≤ first_bad cs
  field_good {n} e =
      let h = number_good (take k (drop at cs)) (drop k (drop at cs)) 0 n e in
      omega (arith, first_drop cs at before, long, subst (λ (xs : List ℕ). length (take k (drop at cs)) ≤ first_bad xs) (sym cut) h)

  field_bad : field cs at k ≡ none → first_bad cs < at + k
  field_bad e =
      let h = number_bad (take k (drop at cs)) (drop k (drop at cs)) 0 e in
      omega (arith, first_drop cs at before, long, subst (λ (xs : List ℕ). first_bad xs < length (take k (drop at cs))) (sym cut) h)

  -- so a field before the first bad one is read
  field_read : at + k ≤ first_bad cs → (n : ℕ) × (field cs at k ≡ some n)
  field_read h = go (field cs at k) refl
    where
      go : (o : Option ℕ) → field cs at k ≡ o → (n : ℕ) × (field cs at k ≡ some n)
      go none e = absurd (omega (arith, field_bad e))
      go (some n) e = (n, e)

module _ (cs : List ℕ) (C : Closed cs) where
  -- the fields are read exactly when all 34 are digits
  all_digits : {f : Frame} → fields cs ≡ some f → 34 ≤ first_bad cs
  all_digits {f} e =
      let r = fields_read cs f e in
      let l = C.long in
      let a : 0 ≤ first_bad cs = omega arith in
      let b = field_good cs 0 8 a (omega arith) r.batch in
      let c = field_good cs 8 4 (omega (arith, b)) (omega arith) r.index in
      let d = field_good cs 12 4 (omega (arith, c)) (omega arith) r.count in
      let g = field_good cs 16 2 (omega (arith, d)) (omega arith) r.kind in
      let h = field_good cs 18 8 (omega (arith, g)) (omega arith) r.key in
      omega (arith, field_good cs 26 8 (omega (arith, h)) (omega arith) r.value)

  unlike : {f : Frame} → fields cs ≡ none → fields cs ≡ some f → ⊥
  unlike e q = let z : ◌≡◌ {A = ℕ} 0 1 = cc (sym e ∙ q) in absurd (omega arith)

  some_bad : fields cs ≡ none → first_bad cs < 34
  some_bad e = go (leb 34 (first_bad cs)) refl
    where
      go : (b : Bool) → leb 34 (first_bad cs) ≡ b → first_bad cs < 34
      go false q = leb-false 34 (first_bad cs) q
      go true q =
          let w = leb-true 34 (first_bad cs) q in
          let l = C.long in
          let a = field_read cs 0 8 (omega arith) (omega arith) (omega arith) in
          let b = field_read cs 8 4 (omega arith) (omega arith) (omega arith) in
          let c = field_read cs 12 4 (omega arith) (omega arith) (omega arith) in
          let d = field_read cs 16 2 (omega arith) (omega arith) (omega arith) in
          let g = field_read cs 18 8 (omega arith) (omega arith) (omega arith) in
          let h = field_read cs 26 8 (omega arith) (omega arith) (omega arith) in
          let f : Frame = record { batch = a.0; index = b.0; count = c.0; kind = d.0; key = g.0; value = h.0 } in
          absurd (unlike e (read-fields cs f (record { batch = a.1; index = b.1; count = c.1; kind = d.1; key = g.1; value = h.1 })))

-- the first of the 34 bytes that is no digit
pub record FirstBad (cs : List ℕ) (p : ℕ) : Type 0 where
  pub within : p < 34
  pub bad : value (get_or cs p 0) ≡ none
  pub before : (i : ℕ) → i < p → value (get_or cs i 0) ≢ none

first_bad_lem : (cs : List ℕ) → Closed cs → fields cs ≡ none → FirstBad cs (first_bad cs)
first_bad_lem cs C e = record { within = some_bad cs C e; bad = first_is cs (omega (arith, some_bad cs C e, C.long)); before = first_before cs }

-- a line with a bad digit has no fields
no_fields : (cs : List ℕ) → Closed cs → (i : ℕ) → i < 34 → value (get_or cs i 0) ≡ none → fields cs ≡ none
no_fields cs C i h b = go (fields cs) refl
  where
    go : (o : Option Frame) → fields cs ≡ o → fields cs ≡ none
    go none e = e
    go (some f) e = absurd (first_before cs i (omega (arith, all_digits cs C e)) b)

-- Numbers.

-- 35 bytes with the newline, and one of the 34 is no digit
abbrev pub BadDigit : List ℕ → Type 0
BadDigit cs = Closed cs × ((i : ℕ) × (i < 34) × (value (get_or cs i 0) ≡ none))

-- all are digits, and the kind is above 2
abbrev pub BadKind : List ℕ → Type 0
BadKind cs = Closed cs × ((f : Frame) × (fields cs ≡ some f) × (2 < f.kind))

-- the kind is known, and any other field rule is broken
abbrev pub BadRange : List ℕ → Type 0
BadRange cs = Closed cs × ((f : Frame) × (fields cs ≡ some f) × (f.kind ≤ 2) × (Legal f → ⊥))

-- the number and the place that a call answers to a line; `ready` says that all before the line is in order
pub record Faults (ready : Type 0) (cs : List ℕ) (n place : ℕ) : Type 0 where
  pub frame : (n ≡ FRAME) ↔ (ready × (Closed cs → ⊥))
  pub digit : (n ≡ DIGIT) ↔ (ready × BadDigit cs)
  pub kind : (n ≡ KIND) ↔ (ready × BadKind cs)
  pub range : (n ≡ RANGE) ↔ (ready × BadRange cs)
  -- the place is the first bad one, and 0 in every other answer
  pub first : n ≡ DIGIT → FirstBad cs place
  pub elsewhere : n ≢ DIGIT → place ≡ 0

-- what each of them makes of the reading
module _ (cs : List ℕ) where
  to_digit : BadDigit cs → read cs ≡ fault DIGIT (first_bad cs)
  to_digit (C, (i, h, b)) = read_digit cs C (no_fields cs C i h b)

  to_kind : BadKind cs → read cs ≡ fault KIND 0
  to_kind (C, (f, e, h)) = read_kind cs C e h

  to_range : BadRange cs → read cs ≡ fault RANGE 0
  to_range (C, (f, e, h, l)) = read_range cs C e h (not_true (legal f) (λ t. l ((legal_exactly f).0 t)))

-- whether a number is one of the four
abbrev of_line : ℕ → Bool
of_line n = eqb n 7 || (leb 10 n && leb n 12)

-- an answer with another number: the call was refused before the line, or the line has no fault
clean : {ready : Type 0} {cs : List ℕ} {n place : ℕ} → of_line n ≡ false → place ≡ 0 → (ready → (f : Frame) × (read cs ≡ good f)) → Faults ready cs n place
clean {ready} {cs} {n} {place} o z said = record {
  frame = other refl (λ (r, c). clash r (read_open cs c));
  digit = other refl (λ (r, c). clash r (to_digit cs c));
  kind = other refl (λ (r, c). clash r (to_kind cs c));
  range = other refl (λ (r, c). clash r (to_range cs c));
  first = λ e. absurd (not_this refl e);
  elsewhere = λ _. z;
}
  where
    clash : {k p : ℕ} → ready → read cs ≡ fault k p → ⊥
    clash r e = let y : ◌≡◌ {A = ℕ} 0 1 = cc (sym (said r).1 ∙ e) in omega arith

    not_this : {k : ℕ} → of_line k ≡ true → n ≢ k
    not_this t e = true≢false (sym t ∙ ap of_line (sym e) ∙ o)

    other : {k : ℕ} {X : Type 0} → of_line k ≡ true → (X → ⊥) → (n ≡ k) ↔ X
    other t f = ((λ e. absurd (not_this t e)), (λ x. absurd (f x)))

-- an answer that is the line's fault
faulty : {ready : Type 0} {cs : List ℕ} {n place : ℕ} → ready → read cs ≡ fault n place → Faults ready cs n place
faulty {ready} {cs} {n} {place} r e = record {
  frame = ((λ z. (r, told.0 z)), (λ x. number (read_open cs x.1)));
  digit = ((λ z. (r, (told.1 z).0)), (λ x. number (to_digit cs x.1)));
  kind = ((λ z. (r, told.2 z)), (λ x. number (to_kind cs x.1)));
  range = ((λ z. (r, told.3 z)), (λ x. number (to_range cs x.1)));
  first = λ z. (told.1 z).1;
  elsewhere = told.4;
}
  where
    number : {k p : ℕ} → read cs ≡ fault k p → n ≡ k
    number q = cc (sym e ∙ q)

    same : {k p : ℕ} → fault k p ≡ fault n place → (k ≡ n) × (p ≡ place)
    same q = (cc q, cc q)

    Told : Type 0
    Told = (n ≡ FRAME → Closed cs → ⊥) × (n ≡ DIGIT → BadDigit cs × FirstBad cs place) × (n ≡ KIND → BadKind cs) × (n ≡ RANGE → BadRange cs) × (n ≢ DIGIT → place ≡ 0)

    go : (w : Reading) → Way cs w → w ≡ fault n place → Told
    go w (opened o) q =
        let s = same q in
        ((λ z. o), (λ z. absurd (omega (arith, s.0))), (λ z. absurd (omega (arith, s.0))), (λ z. absurd (omega (arith, s.0))), (λ z. sym s.1))
    go w (unread C u) q =
        let s = same q in
        let F = first_bad_lem cs C u in
        ((λ z. absurd (omega (arith, s.0))), (λ z. ((C, (first_bad cs, F.within, F.bad)), subst (FirstBad cs) s.1 F)), (λ z. absurd (omega (arith, s.0))), (λ z. absurd (omega (arith, s.0))), (λ ne. absurd (ne (sym s.0))))
    go w (unknown C f u h) q =
        let s = same q in
        ((λ z. absurd (omega (arith, s.0))), (λ z. absurd (omega (arith, s.0))), (λ z. (C, (f, u, h))), (λ z. absurd (omega (arith, s.0))), (λ z. sym s.1))
    go w (unruly C f u h l) q =
        let s = same q in
        ((λ z. absurd (omega (arith, s.0))), (λ z. absurd (omega (arith, s.0))), (λ z. absurd (omega (arith, s.0))), (λ z. (C, (f, u, h, l))), (λ z. sym s.1))
    go w (whole C f u l) q = let y : ◌≡◌ {A = ℕ} 0 1 = cc q in absurd (omega arith)

    told : Told
    told = go (read cs) (way cs) e

-- parse on its own
pub parse_numbers : (cs : List ℕ) (n : ℕ) (f : Frame) (place : ℕ) → Parse (read cs) n f place → Faults (Unit {0}) cs n place
parse_numbers cs n f place P = go (read cs) refl P
  where
    go : (r : Reading) → read cs ≡ r → Parse r n f place → Faults (Unit {0}) cs n place
    go (fault k p) e q = faulty tt (e ∙ rw (q.0, q.2) refl)
    go (good g) e q = clean (ap of_line q.0) q.2 (λ _. (g, e))

-- receive, where block, inbox and version are in order
pub record InOrder (s : Step) (v : ℕ) : Type 0 where
  pub block : SoundBlock s.block
  pub inbox : SoundInbox s.inbox
  pub known : v < 16

module _ (s : Step) (v : ℕ) (line : List ℕ) where
  abbrev Given : Type 0
  Given = Faults (InOrder s v) line s.answer.number s.answer.place

  -- an answer with another number
  answered : {a : Heard} → s.answer ≡ a → of_line a.number ≡ false → a.place ≡ 0 → (InOrder s v → (f : Frame) × (read line ≡ good f)) → Given
  answered e o z = clean (ap (λ (h : Heard). of_line h.number) e ∙ o) (ap (λ (h : Heard). h.place) e ∙ z)

  takes_given : (f : Frame) → read line ≡ good f → (heard : Bool) → Takes s v f heard → Given
  takes_given f e true u = answered u.0 refl refl (λ _. (f, e))
  takes_given f e false (fails p u) = answered u.0 refl refl (λ _. (f, e))
  takes_given f e false (passes p u) = answered u.0 refl refl (λ _. (f, e))

  says_given : InOrder s v → (r : Reading) → read line ≡ r → Says s v r → Given
  says_given I (fault n p) e u = faulty I (e ∙ sym (ap (λ (h : Heard). fault h.number h.place) u.0))
  says_given I (good f) e (fails p u) = answered u.0 refl refl (λ _. (f, e))
  says_given I (good f) e (passes p (fails q u)) = answered u.0 refl refl (λ _. (f, e))
  says_given I (good f) e (passes p (passes q (fails w u))) = answered u.0 refl refl (λ _. (f, e))
  says_given I (good f) e (passes p (passes q (passes w T))) = takes_given f e (heard_at s.inbox f.index) T

  pub receive_numbers : Receive s v line → Given
  receive_numbers (fails p u) = answered u.0 refl refl (λ I. absurd (p I.block.shaped))
  receive_numbers (passes a (fails p u)) = answered u.0 refl refl (λ I. absurd (p I.inbox.long))
  receive_numbers (passes a (passes c (fails p u))) = answered u.0 refl refl (λ I. absurd (p I.block))
  receive_numbers (passes a (passes c (passes d (fails p u)))) = answered u.0 refl refl (λ I. absurd (p I.inbox))
  receive_numbers (passes a (passes c (passes d (passes e (fails p u))))) = answered u.0 refl refl (λ I. absurd (p I.known))
  receive_numbers (passes a (passes c (passes d (passes e (passes g T))))) = says_given (record { block = d; inbox = e; known = g }) (read line) refl T
