-- Frame lines: a line that is written is read as it was, and no other line is read.
use mathlib.Core.Path.{◌≡◌, refl, ap, sym, subst, ◌∙◌}
use Prim.Native.Nat.{ℕ, zero, suc, ◌+◌, ◌^◌, ◌≤◌, ◌<◌}
use mathlib.Core.Logic.{◌⊎◌, inl, inr, ◌↔◌}
use mathlib.Core.Bool.{Bool, true, false, ◌&&◌, true≢false}
use mathlib.Core.Option.{Option, none, some}
use mathlib.Core.List.{List, [], ◌∷◌, ◌++◌}
use native.Mathlib.Omega.{arith}
use native.Mathlib.Decide.{ℕ_discrete}
use lib.Dec.{eqb, ltb, leb}
use lib.ListN.{length, get_or, take, drop, length-drop}
use lib.Seq.{take_all, take-add, take-suc, length-take-le}
use borrow.Author.Tests.{eqb-true, ltb-true, leb-true, leb-false, eq-eqb, lt-ltb, le-leb, lt-leb}
use Rattle.model.specs.Frame.{Frame, ◌>>=◌, digits, line, legal, kind_legal, Fitting, field, fields, Reading, good, fault, first_bad, judged, read, parse}
use Rattle.model.specs.Numbers.{FRAME, DIGIT, KIND, RANGE}
use Rattle.model.proofs.maps.Tests.{both, either}
use Rattle.model.proofs.link.Digits.{number_digits, digits_number}

-- kind 01 puts; 02 removes, value 0; 00 says "nothing changed", only with index 0, count 1, key 0, value 0
pub record LegalKind (f : Frame) : Type 0 where
  pub known : f.kind ≤ 2
  pub removes : f.kind ≡ 2 → f.value ≡ 0
  pub nothing : f.kind ≡ 0 → (f.index ≡ 0) × (f.count ≡ 1) × (f.key ≡ 0) × (f.value ≡ 0)

-- count is 1 to 4,096, index below count, and the kind's rule holds
pub record Legal (f : Frame) : Type 0 where
  pub least : 1 ≤ f.count
  pub most : f.count ≤ 4096
  pub below : f.index < f.count
  pub kind : LegalKind f

kind_says : (f : Frame) (k : ℕ) → f.kind ≡ k → kind_legal f ≡ true → LegalKind f
unfolding kind_legal
kind_says f zero e h =
    let c = both (eqb f.index 0 && eqb f.count 1 && eqb f.key 0) (eqb f.value 0) (rw (e, kind_legal) at h) in
    let b = both (eqb f.index 0 && eqb f.count 1) (eqb f.key 0) c.0 in
    let a = both (eqb f.index 0) (eqb f.count 1) b.0 in
    let v = eqb-true f.value 0 c.1 in
    record { known = omega arith; removes = λ q. v; nothing = λ q. (eqb-true f.index 0 a.0, eqb-true f.count 1 a.1, eqb-true f.key 0 b.1, v) }
kind_says f (suc k) e h = go (either (eqb k 0) (eqb k 1 && eqb f.value 0) (rw (e, kind_legal) at h))
  where
    go : (eqb k 0 ≡ true) ⊎ ((eqb k 1 && eqb f.value 0) ≡ true) → LegalKind f
    go (inl p) =
        let z = eqb-true k 0 p in
        record { known = omega arith; removes = λ q. absurd (omega arith); nothing = λ q. absurd (omega arith) }
    go (inr p) =
        let a = both (eqb k 1) (eqb f.value 0) p in
        let z = eqb-true k 1 a.0 in
        record { known = omega arith; removes = λ q. eqb-true f.value 0 a.1; nothing = λ q. absurd (omega arith) }

says_kind : (f : Frame) (k : ℕ) → f.kind ≡ k → LegalKind f → kind_legal f ≡ true
unfolding kind_legal
says_kind f zero e h =
    let z = h.nothing e in
    rw (e, kind_legal) (rw (eq-eqb f.index 0 z.0, eq-eqb f.count 1 z.1, eq-eqb f.key 0 z.2, eq-eqb f.value 0 z.3))
says_kind f (suc zero) e h = rw (e, kind_legal)
says_kind f (suc (suc zero)) e h = rw (e, kind_legal) (rw (eq-eqb f.value 0 (h.removes e)))
says_kind f (suc (suc (suc k))) e h = absurd (omega (arith, h.known))

legal_says : (f : Frame) → legal f ≡ true → Legal f
unfolding legal
legal_says f h =
    let c = both (leb 1 f.count && leb f.count 4096 && ltb f.index f.count) (kind_legal f) h in
    let b = both (leb 1 f.count && leb f.count 4096) (ltb f.index f.count) c.0 in
    let a = both (leb 1 f.count) (leb f.count 4096) b.0 in
    record {
      least = leb-true 1 f.count a.0;
      most = leb-true f.count 4096 a.1;
      below = ltb-true f.index f.count b.1;
      kind = kind_says f f.kind refl c.1;
    }

says_legal : (f : Frame) → Legal f → legal f ≡ true
unfolding legal
says_legal f h = rw (le-leb 1 f.count h.least, le-leb f.count 4096 h.most, lt-ltb f.index f.count h.below) (says_kind f f.kind refl h.kind)

-- a frame is legal exactly when document 01's sentence holds of it
pub legal_exactly : (f : Frame) → (legal f ≡ true) ↔ Legal f
legal_exactly f = (legal_says f, says_legal f)

-- a line has 35 bytes
pub line-length : (f : Frame) → length (line f) ≡ 35
unfolding line digits
line-length f = refl

-- what the six fields say
pub record Read (cs : List ℕ) (f : Frame) : Type 0 where
  pub batch : field cs 0 8 ≡ some f.batch
  pub index : field cs 8 4 ≡ some f.index
  pub count : field cs 12 4 ≡ some f.count
  pub kind : field cs 16 2 ≡ some f.kind
  pub key : field cs 18 8 ≡ some f.key
  pub value : field cs 26 8 ≡ some f.value

pub read-fields : (cs : List ℕ) (f : Frame) → Read cs f → fields cs ≡ some f
unfolding fields
read-fields cs f r = rw (r.batch, fields) (rw r.index (rw r.count (rw r.kind (rw r.key (rw r.value)))))

pub bind_some : {A B : Type 0} (x : Option A) (g : A → Option B) (b : B) → (x >>= g) ≡ some b → (a : A) × (x ≡ some a) × (g a ≡ some b)
bind_some none g b e = let z : ◌≡◌ {A = ℕ} 0 1 = cc e in absurd (omega arith)
bind_some (some a) g b e = (a, refl, e)

pub fields_read : (cs : List ℕ) (f : Frame) → fields cs ≡ some f → Read cs f
unfolding fields
fields_read cs f e =
    let a = bind_some (field cs 0 8) _ f e in
    let b = bind_some (field cs 8 4) _ f a.2 in
    let c = bind_some (field cs 12 4) _ f b.2 in
    let d = bind_some (field cs 16 2) _ f c.2 in
    let g = bind_some (field cs 18 8) _ f d.2 in
    let h = bind_some (field cs 26 8) _ f g.2 in
    let r : record { batch = a.0; index = b.0; count = c.0; kind = d.0; key = g.0; value = h.0 } ≡ f = cc h.2 in
    record {
      batch = a.1 ∙ ap (λ x. some x.batch) r;
      index = b.1 ∙ ap (λ x. some x.index) r;
      count = c.1 ∙ ap (λ x. some x.count) r;
      kind = d.1 ∙ ap (λ x. some x.kind) r;
      key = g.1 ∙ ap (λ x. some x.key) r;
      value = h.1 ∙ ap (λ x. some x.value) r;
    }

-- 35 bytes, the last of them a newline
pub record Closed (cs : List ℕ) : Type 0 where
  pub long : length cs ≡ 35
  pub newline : get_or cs 34 0 ≡ 10

-- what is read, by the first test that fails
module _ (cs : List ℕ) where
  pub read_open : (Closed cs → ⊥) → read cs ≡ fault FRAME 0
  unfolding read
  read_open o = go (eqb (length cs) 35 && eqb (get_or cs 34 0) 10) refl
    where
      go : (b : Bool) → (eqb (length cs) 35 && eqb (get_or cs 34 0) 10) ≡ b → read cs ≡ fault FRAME 0
      go true q = let t = both (eqb (length cs) 35) (eqb (get_or cs 34 0) 10) q in absurd (o (record { long = eqb-true (length cs) 35 t.0; newline = eqb-true (get_or cs 34 0) 10 t.1 }))
      go false q = rw (q, read)

  module _ (C : Closed cs) where
    pub read_digit : fields cs ≡ none → read cs ≡ fault DIGIT (first_bad cs)
    unfolding read
    read_digit e = rw (eq-eqb (length cs) 35 C.long, eq-eqb (get_or cs 34 0) 10 C.newline, read) (rw e)

    module _ {f : Frame} (e : fields cs ≡ some f) where
      read_judged : read cs ≡ judged f
      unfolding read
      read_judged = rw (eq-eqb (length cs) 35 C.long, eq-eqb (get_or cs 34 0) 10 C.newline, read) (rw e)

      pub read_kind : 2 < f.kind → read cs ≡ fault KIND 0
      unfolding judged
      read_kind h = read_judged ∙ rw (lt-leb f.kind 2 h, judged)

      pub read_range : f.kind ≤ 2 → legal f ≡ false → read cs ≡ fault RANGE 0
      unfolding judged
      read_range h l = read_judged ∙ rw (le-leb f.kind 2 h, judged) (rw l)

      pub read_good : legal f ≡ true → read cs ≡ good f
      unfolding judged
      read_good l = read_judged ∙ rw (le-leb f.kind 2 (legal_says f l).kind.known, judged) (rw l)

-- the five ways that a line can go
pub data Way (cs : List ℕ) : Reading → Type 0 where
  opened : (Closed cs → ⊥) → Way cs (fault FRAME 0)
  unread : Closed cs → fields cs ≡ none → Way cs (fault DIGIT (first_bad cs))
  unknown : Closed cs → (f : Frame) → fields cs ≡ some f → 2 < f.kind → Way cs (fault KIND 0)
  unruly : Closed cs → (f : Frame) → fields cs ≡ some f → f.kind ≤ 2 → (Legal f → ⊥) → Way cs (fault RANGE 0)
  whole : Closed cs → (f : Frame) → fields cs ≡ some f → legal f ≡ true → Way cs (good f)

pub way : (cs : List ℕ) → Way cs (read cs)
way cs = first (ℕ_discrete (length cs) 35) (ℕ_discrete (get_or cs 34 0) 10)
  where
    ruled : Closed cs → (f : Frame) → fields cs ≡ some f → (b : Bool) → legal f ≡ b → (k : Bool) → leb f.kind 2 ≡ k → Way cs (read cs)
    ruled C f e true l k q = subst (Way cs) (sym (read_good cs C e l)) (whole C f e l)
    ruled C f e false l true q = subst (Way cs) (sym (read_range cs C e (leb-true f.kind 2 q) l)) (unruly C f e (leb-true f.kind 2 q) (λ L. true≢false (sym (says_legal f L) ∙ l)))
    ruled C f e false l false q = subst (Way cs) (sym (read_kind cs C e (leb-false f.kind 2 q))) (unknown C f e (leb-false f.kind 2 q))

    said : Closed cs → (o : Option Frame) → fields cs ≡ o → Way cs (read cs)
    said C none e = subst (Way cs) (sym (read_digit cs C e)) (unread C e)
    said C (some f) e = ruled C f e (legal f) refl (leb f.kind 2) refl

    no_form : (Closed cs → ⊥) → Way cs (read cs)
    no_form o = subst (Way cs) (sym (read_open cs o)) (opened o)

    first : Dec (length cs ≡ 35) → Dec (get_or cs 34 0 ≡ 10) → Way cs (read cs)
    first (yes l) (yes n) = said (record { long = l; newline = n }) (fields cs) refl
    first (yes l) (no ne) = no_form (λ C. ne C.newline)
    first (no ne) n = no_form (λ C. ne C.long)

-- a fault's number is none below FRAME or above RANGE
pub fault_range : (cs : List ℕ) (n p : ℕ) → read cs ≡ fault n p → (FRAME ≤ n) × (n ≤ RANGE)
fault_range cs n p e = go (read cs) (way cs) e
  where
    same : {m q : ℕ} → fault m q ≡ fault n p → m ≡ n
    same e = cc e

    go : (r : Reading) → Way cs r → r ≡ fault n p → (FRAME ≤ n) × (n ≤ RANGE)
    go r (opened o) e = (omega (arith, same e), omega (arith, same e))
    go r (unread C u) e = (omega (arith, same e), omega (arith, same e))
    go r (unknown C f u h) e = (omega (arith, same e), omega (arith, same e))
    go r (unruly C f u h l) e = (omega (arith, same e), omega (arith, same e))
    go r (whole C f u l) e = let z : ◌≡◌ {A = ℕ} 0 1 = cc e in absurd (omega arith)

-- a reading that is good is the line's frame, and no other
pub good_parse : (cs : List ℕ) (f : Frame) → (parse cs ≡ some f) ↔ (read cs ≡ good f)
unfolding parse
good_parse cs f = (to (read cs) refl, λ e. rw (e, parse))
  where
    to : (r : Reading) → read cs ≡ r → parse cs ≡ some f → read cs ≡ good f
    to (good g) e p = let s : g ≡ f = cc (rw (e, parse) at p) in e ∙ ap good s
    to (fault n p) e q = let z : ◌≡◌ {A = ℕ} 0 1 = cc (rw (e, parse) at q) in absurd (omega arith)

-- every field fits its digits
pub record Fits (f : Frame) : Type 0 where
  pub index : f.index < 65536
  pub count : f.count < 65536
  pub kind : f.kind < 256
  pub wide : Fitting f

-- a frame whose fields fit has a line that gives them back
pub line-fields : (f : Frame) → Fits f → Closed (line f) × (fields (line f) ≡ some f)
unfolding line digits
line-fields f h = (record { long = refl; newline = refl }, read-fields (line f) f r)
  where
    r : Read (line f) f
    r = record {
      batch = number_digits 8 f.batch h.wide.batch;
      index = number_digits 4 f.index h.index;
      count = number_digits 4 f.count h.count;
      kind = number_digits 2 f.kind h.kind;
      key = number_digits 8 f.key h.wide.key;
      value = number_digits 8 f.value h.wide.value;
    }

-- a legal frame that fits is read from its line
pub parse-line : (f : Frame) → legal f ≡ true → Fitting f → parse (line f) ≡ some f
parse-line f l h =
    let k = legal_says f l in
    let r = line-fields f (record { index = omega (arith, k.most, k.below); count = omega (arith, k.most); kind = omega (arith, k.kind.known); wide = h }) in
    (good_parse (line f) f).1 (read_good (line f) r.0 r.1 l)

-- the line is its fields and the newline
cut_line : (cs : List ℕ) → length cs ≡ 35 → get_or cs 34 0 ≡ 10
    → cs ≡ take 8 (drop 0 cs) ++ take 4 (drop 8 cs) ++ take 4 (drop 12 cs) ++ take 2 (drop 16 cs) ++ take 8 (drop 18 cs) ++ take 8 (drop 26 cs) ++ 10 ∷ []
cut_line cs l e = sym (take_all 35 cs (omega arith)) ∙ take-suc cs 34 0 (omega arith) ∙ rw (e, take-add 26 8 cs, take-add 18 8 cs, take-add 16 2 cs, take-add 12 4 cs, take-add 8 4 cs)

-- a field that is read was written so
pub digits-field : (cs : List ℕ) (at k n : ℕ) → at + k ≤ length cs → field cs at k ≡ some n → (take k (drop at cs) ≡ digits k n) × (n < 16 ^ k)
digits-field cs at k n h e =
    let l : length (take k (drop at cs)) ≡ k = length-take-le k (drop at cs) (omega (arith, length-drop at cs)) in
    rw l at (digits_number (take k (drop at cs)) n e)

-- the fields are read from no other line
pub fields-line : (cs : List ℕ) (f : Frame) → Closed cs → fields cs ≡ some f → (cs ≡ line f) × Fits f
unfolding line
fields-line cs f C e =
    let r = fields_read cs f e in
    let l = C.long in
    let batch = digits-field cs 0 8 f.batch (omega arith) r.batch in
    let index = digits-field cs 8 4 f.index (omega arith) r.index in
    let count = digits-field cs 12 4 f.count (omega arith) r.count in
    let kind = digits-field cs 16 2 f.kind (omega arith) r.kind in
    let key = digits-field cs 18 8 f.key (omega arith) r.key in
    let value = digits-field cs 26 8 f.value (omega arith) r.value in (
      cut_line cs l C.newline ∙ rw (batch.0, index.0, count.0, kind.0, key.0, value.0),
      record { index = index.1; count = count.1; kind = kind.1; wide = record { batch = batch.1; key = key.1; value = value.1 } },
    )

-- parse takes nothing but the line of a legal frame that fits
pub parse_only : (cs : List ℕ) (f : Frame) → parse cs ≡ some f → (cs ≡ line f) × (legal f ≡ true) × Fitting f
parse_only cs f e = go (read cs) (way cs) ((good_parse cs f).0 e)
  where
    bad : {n p : ℕ} → fault n p ≡ good f → ⊥
    bad q = let z : ◌≡◌ {A = ℕ} 0 1 = cc q in omega arith

    go : (r : Reading) → Way cs r → r ≡ good f → (cs ≡ line f) × (legal f ≡ true) × Fitting f
    go r (opened o) q = absurd (bad q)
    go r (unread C u) q = absurd (bad q)
    go r (unknown C g u h) q = absurd (bad q)
    go r (unruly C g u h l) q = absurd (bad q)
    go r (whole C g u l) q = let s : g ≡ f = cc q in let w = fields-line cs f C (u ∙ ap some s) in (w.0, ap legal (sym s) ∙ l, w.1.wide)
