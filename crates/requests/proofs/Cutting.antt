-- A request's lines, one after another: what a test of all of them says, told by the line that is read and the lines behind it.
use mathlib.Core.Path.{◌≡◌, refl, ap, sym, ◌∙◌}
use mathlib.Core.Logic.{◌≢◌}
use Prim.Native.Nat.{ℕ, zero, suc, ◌+◌, ◌-◌, ◌*◌, ◌≤◌, ◌<◌}
use mathlib.Core.Bool.{Bool, true, false}
use mathlib.Core.Option.{Option, none, some}
use mathlib.Core.List.{List, [], ◌∷◌}
use native.Mathlib.Omega.{arith}
use lib.ListN.{length, get_or, take, drop, length-take, length-drop}
use lib.Dec.{leb}
use lib.Seq.{length-take-le, get_or-take, get_or-drop, drop-drop}
use borrow.Author.Tests.{eq-eqb, ne_eqb, leb-true, leb-false}
use Rattle.model.specs.Frame as model
use Rattle.model.specs.Frame.{◌>>=◌, fields, Reading, good, fault}
use Rattle.model.specs.Request.{cutting, six_fields, all_fields}
use Rattle.model.proofs.link.Lines.{bind_some}
use Rattle.std.specs.Prelude as code
use Rattle.std.specs.Result.{result_ok}
use Rattle.answers.specs.declared.Fault.{Fault}
use Rattle.frame.specs.declared.Frame.{Frame}
use Rattle.frame.specs.Fields.{parsed, fields_read}
use Rattle.requests.specs.Reading.{six_of, holds}

-- line i of a request
abbrev pub piece : List ℕ → ℕ → List ℕ
piece cs i = take 35 (drop (35 * i) cs)

-- the lines from i on
abbrev pub lines_from : (n : ℕ) (cs : List ℕ) (i : ℕ) → Option (List model.Frame)
lines_from n cs i = all_fields (cutting (n - i) (drop (35 * i) cs))

-- the frame of a reading
abbrev frame_of : Reading → Option model.Frame
frame_of (good f) = some f
frame_of (fault n p) = none

six_frame : (r : code.Result Frame Fault) → six_of (result_ok r) ≡ frame_of (parsed r)
six_frame (code.Ok f) = refl
six_frame (code.Err f) = refl

read_frame : (cs : List ℕ) → frame_of (fields_read cs) ≡ fields cs
unfolding fields_read
read_frame cs = go (fields cs) refl
  where
    go : (o : Option model.Frame) → fields cs ≡ o → frame_of (fields_read cs) ≡ fields cs
    go none e = rw (e, fields_read) refl
    go (some f) e = rw (e, fields_read) refl

six_short : (cs : List ℕ) → length cs ≢ 35 → six_fields cs ≡ none
unfolding six_fields
six_short cs n = rw (ne_eqb (length cs) 35 n, six_fields) refl

module _ (cs : List ℕ) (i : ℕ) (h : 35 * i + 35 ≤ length cs) where
  piece_long : length (piece cs i) ≡ 35
  piece_long = length-take-le 35 (drop (35 * i) cs) (omega (arith, length-drop (35 * i) cs))

  piece_end : get_or (piece cs i) 34 0 ≡ get_or cs (35 * i + 34) 0
  piece_end = get_or-take 35 (drop (35 * i) cs) 34 0 (omega arith) ∙ get_or-drop (35 * i) cs 34 0

  -- without its newline a line has no fields
  pub piece_open : (at : ℕ) → at ≡ 35 * i → get_or cs (at + 34) 0 ≢ 10 → none ≡ six_fields (piece cs i)
  unfolding six_fields
  piece_open at a n = rw (piece_long, piece_end, ne_eqb (get_or cs (35 * i + 34) 0) 10 (λ e. n (ap (λ k. get_or cs (k + 34) 0) a ∙ e)), six_fields) refl

  -- and with it those that frame reads
  pub piece_said : (at : ℕ) → at ≡ 35 * i → get_or cs (at + 34) 0 ≡ 10
      → (r : code.Result Frame Fault) (k : ℕ) → parsed r ≡ fields_read (take k (drop at cs)) → k ≡ 35 → six_of (result_ok r) ≡ six_fields (piece cs i)
  unfolding six_fields
  piece_said at a e r k q w =
      let newline = eq-eqb (get_or cs (35 * i + 34) 0) 10 (ap (λ k. get_or cs (k + 34) 0) (sym a) ∙ e) in
      rw (piece_long, piece_end, newline, six_fields) (six_frame r ∙ ap frame_of q ∙ rw (a, w) (read_frame (piece cs i)))

pieces_next : (n i : ℕ) (cs : List ℕ) → i < n → cutting (n - i) (drop (35 * i) cs) ≡ piece cs i ∷ cutting (n - (i + 1)) (drop (35 * (i + 1)) cs)
unfolding cutting
pieces_next n i cs h =
    let e : n - i ≡ suc (n - (i + 1)) = omega (arith, h) in
    let s : 35 * i + 35 ≡ 35 * (i + 1) = omega arith in
    let d : drop 35 (drop (35 * i) cs) ≡ drop (35 * (i + 1)) cs = drop-drop 35 (35 * i) cs ∙ ap (λ k. drop k cs) s in
    rw e (ap (λ ds. piece cs i ∷ cutting (n - (i + 1)) ds) d)

pub lines_all : (n : ℕ) (cs : List ℕ) → lines_from n cs 0 ≡ all_fields (cutting n cs)
lines_all n cs = let e : n - 0 ≡ n = omega arith in rw e refl

-- the lines from i on: at a piece that is no line, and at the end
module _ (n i : ℕ) (cs : List ℕ) where
  lines_none : i < n → six_fields (piece cs i) ≡ none → lines_from n cs i ≡ none
  unfolding all_fields
  lines_none h e = rw (pieces_next n i cs h, e) refl

  lines_nil : n ≤ i → lines_from n cs i ≡ some []
  unfolding all_fields cutting
  lines_nil h = let e : n - i ≡ 0 = omega (arith, h) in rw e refl

  module _ (T : List model.Frame → Bool) {g : Bool} (is : holds T (lines_from n cs i) ≡ g) where
    pub test_bad : i < n → six_fields (piece cs i) ≡ none → false ≡ g
    test_bad h e = sym (ap (holds T) (lines_none h e)) ∙ is

    pub test_end : n ≤ i → T [] ≡ true → true ≡ g
    test_end h t = sym (ap (holds T) (lines_nil h) ∙ t) ∙ is

  module _ {fs : List model.Frame} (is : lines_from n cs i ≡ some fs) where
    pub lines_bad : i < n → six_fields (piece cs i) ≡ none → ⊥
    lines_bad h e =
        let z : ◌≡◌ {A = ℕ} 0 1 = cc (sym (lines_none h e) ∙ is) in
        omega arith

    pub lines_end : n ≤ i → fs ≡ []
    lines_end h = cc (sym (lines_nil h) ∙ is)

-- line i of n was read
pub record Read (n i : ℕ) (cs : List ℕ) (f : model.Frame) : Type 0 where
  pub more : i < n
  pub line : six_fields (piece cs i) ≡ some f

module _ {n i : ℕ} {cs : List ℕ} {f : model.Frame} (R : Read n i cs f) where
  lines_more : lines_from n cs i ≡ (lines_from n cs (i + 1) >>= (λ fs. some (f ∷ fs)))
  unfolding all_fields
  lines_more = rw (pieces_next n i cs R.more, R.line) refl

  module _ (T : List model.Frame → Bool) {g : Bool} (is : holds T (lines_from n cs i) ≡ g) where
    -- it decides
    pub test_off : ((fs : List model.Frame) → T (f ∷ fs) ≡ false) → false ≡ g
    test_off t = sym (ap (holds T) lines_more ∙ go (lines_from n cs (i + 1))) ∙ is
      where
        go : (m : Option (List model.Frame)) → holds T (m >>= (λ fs. some (f ∷ fs))) ≡ false
        go none = refl
        go (some fs) = t fs

    -- it leaves it to those behind it
    pub test_on : (U : List model.Frame → Bool) → ((fs : List model.Frame) → T (f ∷ fs) ≡ U fs) → holds U (lines_from n cs (i + 1)) ≡ g
    test_on U t = sym (ap (holds T) lines_more ∙ go (lines_from n cs (i + 1))) ∙ is
      where
        go : (m : Option (List model.Frame)) → holds T (m >>= (λ fs. some (f ∷ fs))) ≡ holds U m
        go none = refl
        go (some fs) = t fs

  pub lines_next : {fs : List model.Frame} → lines_from n cs i ≡ some fs → (gs : List model.Frame) × (lines_from n cs (i + 1) ≡ some gs) × (fs ≡ f ∷ gs)
  lines_next {fs} is =
      let b = bind_some (lines_from n cs (i + 1)) (λ gs. some (f ∷ gs)) fs (sym lines_more ∙ is) in
      (b.0, b.1, cc b.2)

-- one line alone
module _ (T : List model.Frame → Bool) (cs : List ℕ) where
  pub only_bad : six_fields (piece cs 0) ≡ none → false ≡ holds T (all_fields (cutting 1 cs))
  unfolding all_fields cutting
  only_bad e = rw e refl

  pub only_good : {f : model.Frame} {b : Bool} → six_fields (piece cs 0) ≡ some f → T (f ∷ []) ≡ b → b ≡ holds T (all_fields (cutting 1 cs))
  unfolding all_fields cutting
  only_good e t = sym t ∙ rw e refl

-- as many lines are read as there are pieces
pub lines_count : (n : ℕ) (cs : List ℕ) (fs : List model.Frame) → all_fields (cutting n cs) ≡ some fs → length fs ≡ n
unfolding all_fields cutting
lines_count zero cs fs e = let q : [] ≡ fs = cc e in rw (← q) refl
lines_count (suc n) cs fs e =
    let a = bind_some (six_fields (take 35 cs)) _ fs e in
    let b = bind_some (all_fields (cutting n (drop 35 cs))) _ fs a.2 in
    let q : a.0 ∷ b.0 ≡ fs = cc b.2 in
    ap length (sym q) ∙ ap suc (lines_count n (drop 35 cs) b.0 b.1)

-- a short last piece is no line
pub lines_short : (n : ℕ) (cs : List ℕ) → length cs < 35 * n → all_fields (cutting n cs) ≡ none
unfolding all_fields cutting
lines_short zero cs h = absurd (omega arith)
lines_short (suc n) cs h = go (leb 35 (length cs)) refl (lines_short n (drop 35 cs))
  where
    go : (b : Bool) → leb 35 (length cs) ≡ b → (length (drop 35 cs) < 35 * n → all_fields (cutting n (drop 35 cs)) ≡ none)
        → all_fields (cutting (suc n) cs) ≡ none
    go false e IH =
        let l : length (take 35 cs) ≢ 35 = λ q. omega (arith, length-take 35 cs, leb-false 35 (length cs) e) in
        rw (six_short (take 35 cs) l) refl
    go true e IH = rw (IH (omega (arith, length-drop 35 cs, leb-true 35 (length cs) e))) (unread (six_fields (take 35 cs)))
      where
        unread : (o : Option model.Frame) → ◌>>=◌ {B = List model.Frame} o (λ f. none) ≡ none
        unread none = refl
        unread (some f) = refl
