-- The text of a request: a well-formed request is read from its lines, and from no other bytes.
use mathlib.Core.Path.{◌≡◌, refl, ap, sym, subst, ◌∙◌}
use mathlib.Core.Logic.{◌⊎◌, inl, inr, ⊎_elim, ◌↔◌}
use Prim.Native.Nat.{ℕ, zero, suc, ◌+◌, ◌*◌, ◌/◌, ◌^◌, ◌≤◌, ◌<◌}
use mathlib.Core.Bool.{Bool, true, false, ◌&&◌, false≢true}
use mathlib.Core.Option.{none, some}
use mathlib.Core.List.{List, [], ◌∷◌, map}
use lib.ListN.{length, get_or, take, drop, length-append, length-drop, take-append-drop}
use lib.Seq.{take_at, drop_at}
use lib.Dec.{eqb}
use borrow.Author.Tests.{eqb-true, eq-eqb}
use native.Mathlib.Omega.{arith}
use Rattle.model.specs.Frame.{Frame, line}
use Rattle.model.specs.Inbox.{batch_of, SoundInbox}
use Rattle.model.specs.Lists.{laid}
use Rattle.model.specs.Request.{Run, run_line, placed, missing_runs, request_lines, request_of, last_of, in_place, ascend, says_complete, well_formed, cutting, six_fields, all_fields, read_request, all_of}
use Rattle.model.proofs.maps.Tests.{both, either}
use Rattle.model.proofs.link.Lines.{Fits, bind_some, line-length, line-fields, fields-line}
use Rattle.model.proofs.requests.Requests.{right_kinded, ascend_says, request_well}

-- The fields of a line.

six_line : (f : Frame) → Fits f → six_fields (line f) ≡ some f
unfolding six_fields
six_line f F =
    let r = line-fields f F in
    rw (eq-eqb (length (line f)) 35 r.0.long, eq-eqb (get_or (line f) 34 0) 10 r.0.newline, six_fields) r.1

six_only : (cs : List ℕ) (f : Frame) → six_fields cs ≡ some f → (cs ≡ line f) × Fits f
unfolding six_fields
six_only cs f e = go (eqb (length cs) 35 && eqb (get_or cs 34 0) 10) refl
  where
    go : (b : Bool) → (eqb (length cs) 35 && eqb (get_or cs 34 0) 10) ≡ b → (cs ≡ line f) × Fits f
    go false q = let z : ◌≡◌ {A = ℕ} 0 1 = cc (rw (q, six_fields) at e) in absurd (omega arith)
    go true q =
        let t = both (eqb (length cs) 35) (eqb (get_or cs 34 0) 10) q in
        fields-line cs f (record { long = eqb-true (length cs) 35 t.0; newline = eqb-true (get_or cs 34 0) 10 t.1 }) (rw (q, six_fields) at e)

-- The pieces of a text.

-- every line fits
unfoldable pub AllFit : List Frame → Type 0
AllFit [] = Unit {0}
AllFit (f ∷ fs) = Fits f × AllFit fs

cutting_lines : (fs : List Frame) → cutting (length fs) (laid (map line fs)) ≡ map line fs
unfolding cutting laid
cutting_lines [] = refl
cutting_lines (f ∷ fs) =
    let l = line-length f in
    rw (take_at (line f) (laid (map line fs)) 35 l, drop_at (line f) (laid (map line fs)) 35 l) (ap (λ ps. line f ∷ ps) (cutting_lines fs))

pub lines_long : (fs : List Frame) → length (laid (map line fs)) ≡ 35 * length fs
unfolding laid
lines_long [] = refl
lines_long (f ∷ fs) = omega (arith, length-append (line f) (laid (map line fs)), line-length f, lines_long fs)

fields_lines : (fs : List Frame) → AllFit fs → all_fields (map line fs) ≡ some fs
unfolding all_fields AllFit
fields_lines [] F = refl
fields_lines (f ∷ fs) F = rw (six_line f F.0) (rw (fields_lines fs F.1))

-- lines that ask ascend to 4,095 at most, so they are few
ascend_few : (count place least : ℕ) (fs : List Frame) → ascend count place least fs ≡ true → (length fs ≡ 0) ⊎ (least + length fs ≤ 4096)
ascend_few count place least [] e = inl refl
ascend_few count place least (f ∷ fs) e =
    let A = ascend_says count place least f fs e in
    let K = right_kinded f A.kind in
    inr (⊎_elim (λ z. omega (arith, A.low, A.high, K.key)) (λ h. omega (arith, A.low, K.key)) (ascend_few count (suc place) (suc (last_of f)) fs A.rest))

-- and all of it fits its digits
ascend_fit : (batch count place least : ℕ) (fs : List Frame) → batch < 2 ^ 32 → count ≤ 4096 → place + length fs ≤ count
    → all_of batch fs ≡ true → ascend count place least fs ≡ true → AllFit fs
unfolding AllFit all_of in_place
ascend_fit batch count place least [] b c p a e = tt
ascend_fit batch count place least (f ∷ fs) b c p a e =
    let A = ascend_says count place least f fs e in
    let K = right_kinded f A.kind in
    let o = both (eqb f.batch batch) (all_of batch fs) a in
    let i = both (eqb f.index place) (eqb f.count count) A.stands in
    let own = eqb-true f.batch batch o.0 in (
      record {
        index = omega (arith, eqb-true f.index place i.0);
        count = omega (arith, eqb-true f.count count i.1);
        kind = omega (arith, K.kind);
        wide = record { batch = rw own b; key = omega (arith, K.key, A.high); value = omega (arith, K.value, A.high) };
      },
      ascend_fit batch count (suc place) (suc (last_of f)) fs b c (omega arith) o.1 A.rest,
    )

complete_fit : (batch : ℕ) (fs : List Frame) → batch < 2 ^ 32 → all_of batch fs ≡ true → says_complete fs ≡ true → AllFit fs
unfolding AllFit all_of says_complete in_place
complete_fit batch [] b a e = tt
complete_fit batch (f ∷ []) b a e =
    let v = both (in_place 1 0 f && eqb f.kind 18 && eqb f.key 0) (eqb f.value 0) e in
    let k = both (in_place 1 0 f && eqb f.kind 18) (eqb f.key 0) v.0 in
    let d = both (in_place 1 0 f) (eqb f.kind 18) k.0 in
    let i = both (eqb f.index 0) (eqb f.count 1) d.0 in
    let own = eqb-true f.batch batch (both (eqb f.batch batch) true a).0 in (
      record {
        index = omega (arith, eqb-true f.index 0 i.0);
        count = omega (arith, eqb-true f.count 1 i.1);
        kind = omega (arith, eqb-true f.kind 18 d.1);
        wide = record { batch = rw own b; key = omega (arith, eqb-true f.key 0 k.1); value = omega (arith, eqb-true f.value 0 v.1) };
      },
      tt,
    )
complete_fit batch (f ∷ g ∷ fs) b a e = absurd (false≢true e)

well_fit : (batch : ℕ) (fs : List Frame) → batch < 2 ^ 32 → all_of batch fs ≡ true → well_formed fs ≡ true → AllFit fs
unfolding well_formed
well_fit batch [] b a e = absurd (false≢true e)
well_fit batch (f ∷ fs) b a e = ⊎_elim (complete_fit batch (f ∷ fs) b a) (λ q. ascend_fit batch (length (f ∷ fs)) 0 0 (f ∷ fs) b (few q) (omega arith) a q) (either (says_complete (f ∷ fs)) (ascend (length (f ∷ fs)) 0 0 (f ∷ fs)) e)
  where
    few : ascend (length (f ∷ fs)) 0 0 (f ∷ fs) ≡ true → length (f ∷ fs) ≤ 4096
    few q = ⊎_elim (λ z. omega (arith, z)) (λ h. omega (arith, h)) (ascend_few (length (f ∷ fs)) 0 0 (f ∷ fs) q)

-- a well-formed request is read from its lines
read_lines : (fs : List Frame) → AllFit fs → well_formed fs ≡ true → read_request (laid (map line fs)) ≡ some fs
unfolding read_request
read_lines fs F w =
    let n : (length (laid (map line fs)) + 34) / 35 ≡ length fs = omega (arith, lines_long fs) in
    rw (n, cutting_lines fs, fields_lines fs F) kept
  where
    kept : elim (well_formed fs) [ true ↦ some fs | false ↦ none ] ≡ some fs
    kept = rw w

-- Reading backwards.

joined : (cs : List ℕ) (f : Frame) (fs : List Frame) → take 35 cs ≡ line f → drop 35 cs ≡ laid (map line fs) → cs ≡ laid (map line (f ∷ fs))
unfolding laid
joined cs f fs p q = sym (take-append-drop 35 cs) ∙ rw (p, q) refl

-- pieces that are read are lines, and no bytes are left
cutting_only : (n : ℕ) (cs : List ℕ) (fs : List Frame) → length cs ≤ 35 * n → all_fields (cutting n cs) ≡ some fs → (cs ≡ laid (map line fs)) × AllFit fs
unfolding cutting all_fields laid AllFit
cutting_only zero [] fs h e = let q : [] ≡ fs = cc e in rw (← q) (refl, tt)
cutting_only zero (c ∷ cs) fs h e = absurd (omega arith)
cutting_only (suc n) cs fs h e =
    let a = bind_some (six_fields (take 35 cs)) _ fs e in
    let b = bind_some (all_fields (cutting n (drop 35 cs))) _ fs a.2 in
    let q : a.0 ∷ b.0 ≡ fs = cc b.2 in
    let first = six_only (take 35 cs) a.0 a.1 in
    let rest = cutting_only n (drop 35 cs) b.0 (omega (arith, length-drop 35 cs)) b.1 in
    (joined cs a.0 b.0 first.0 rest.0 ∙ ap (λ gs. laid (map line gs)) q, subst AllFit q (first.1, rest.1))

-- a text that is read is the lines of a well-formed request
read_only : (cs : List ℕ) (fs : List Frame) → read_request cs ≡ some fs → (cs ≡ laid (map line fs)) × AllFit fs × (well_formed fs ≡ true)
unfolding read_request
read_only cs fs e =
    let a = bind_some (all_fields (cutting ((length cs + 34) / 35) cs)) _ fs e in
    let w = go a.0 (well_formed a.0) refl a.2 in
    let c = cutting_only ((length cs + 34) / 35) cs fs (omega arith) (a.1 ∙ ap some w.0) in
    (c.0, c.1, ap well_formed (sym w.0) ∙ w.1)
  where
    go : (gs : List Frame) (b : Bool) → well_formed gs ≡ b → elim (well_formed gs) [ true ↦ some gs | false ↦ none ] ≡ some fs
        → (gs ≡ fs) × (well_formed gs ≡ true)
    go gs true q r = (cc (rw q at r), q)
    go gs false q r = let z : ◌≡◌ {A = ℕ} 0 1 = cc (rw q at r) in absurd (omega arith)

-- a text is read exactly when it is the lines of a well-formed request
pub read_exactly : (cs : List ℕ) (fs : List Frame) → (read_request cs ≡ some fs) ↔ ((cs ≡ laid (map line fs)) × AllFit fs × (well_formed fs ≡ true))
read_exactly cs fs = (read_only cs fs, λ (e, F, w). ap read_request e ∙ read_lines fs F w)

-- A well-formed request of one batch is read from its lines as it was written.
pub request_read : (batch : ℕ) (fs : List Frame) → batch < 2 ^ 32 → all_of batch fs ≡ true → well_formed fs ≡ true → read_request (laid (map line fs)) ≡ some fs
request_read batch fs b a w = read_lines fs (well_fit batch fs b a w) w

-- the request of an inbox is of its batch
placed_own : (batch count place : ℕ) (rs : List Run) → all_of batch (placed batch count place rs) ≡ true
unfolding all_of placed run_line
placed_own batch count place [] = refl
placed_own batch count place (r ∷ rs) = rw (own (eqb r.first r.last) refl) (placed_own batch count (suc place) rs)
  where
    own : (b : Bool) → eqb r.first r.last ≡ b → eqb (run_line batch count place r).batch batch ≡ true
    own true e = rw (e, run_line) (eq-eqb batch batch refl)
    own false e = rw (e, run_line) (eq-eqb batch batch refl)

lines_own : (batch : ℕ) (rs : List Run) → all_of batch (request_lines batch rs) ≡ true
unfolding all_of request_lines
lines_own batch [] = rw (eq-eqb batch batch refl) refl
lines_own batch (r ∷ rs) = placed_own batch (length (r ∷ rs)) 0 (r ∷ rs)

module _ (x : List ℕ) where
  pub request_own : all_of (batch_of x) (request_of x) ≡ true
  unfolding request_of
  request_own = lines_own (batch_of x) (missing_runs x)

  -- so what the standby writes is what the primary reads
  pub written_read : SoundInbox x → batch_of x < 2 ^ 32 → read_request (laid (map line (request_of x))) ≡ some (request_of x)
  written_read S b = request_read (batch_of x) (request_of x) b request_own (request_well x S)
