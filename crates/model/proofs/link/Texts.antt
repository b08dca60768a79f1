-- Entries as text: a line that is printed is read as it was, no other line is read, and lines that are read are printed back byte for byte.
use mathlib.Core.Path.{◌≡◌, refl, ap, sym, ◌∙◌}
use mathlib.Core.Logic.{◌≢◌, ◌↔◌}
use Prim.Native.Nat.{ℕ, zero, suc, ◌+◌, ◌-◌, ◌*◌, ◌/◌, ◌^◌, ◌≤◌, ◌<◌}
use mathlib.Core.Bool.{Bool, true, false, ◌&&◌}
use mathlib.Core.Option.{Option, none, some}
use mathlib.Core.List.{List, [], ◌∷◌, ◌++◌, append_assoc}
use native.Mathlib.Omega.{arith}
use lib.Dec.{eqb, leb}
use lib.ListN.{length, get_or, take, drop, length-take, length-drop, take-append-drop}
use lib.Seq.{take_all, take-add, take-suc, take-append-le, drop-drop, drop-append-le, length-take-le}
use borrow.Author.Tests.{eqb-true, eq-eqb, leb-true, leb-false}
use Rattle.model.specs.Tree.{Entry}
use Rattle.model.specs.Frame.{digits, field}
use Rattle.model.specs.Text.{entry_line, entry_lines, numbers_of, entry_of, line_at, line_count, entry_at, entries_from, entries_of}
use Rattle.model.proofs.maps.Tests.{both}
use Rattle.model.proofs.link.Digits.{number_digits}
use Rattle.model.proofs.link.Lines.{bind_some, digits-field}

-- key and value are u32
abbrev pub Small : Entry → Type 0
Small e = (e.0 < 2 ^ 32) × (e.1 < 2 ^ 32)

-- a line is 17 bytes
pub entry_length : (e : Entry) → length (entry_line e) ≡ 17
unfolding entry_line digits
entry_length e = refl

-- a line that is printed is read as it was
pub entry_line_lem : (e : Entry) → Small e → entry_of (entry_line e) ≡ some e
unfolding entry_of numbers_of entry_line digits
entry_line_lem e h = rw (number_digits 8 e.0 h.0) (rw (number_digits 8 e.1 h.1))

-- 17 bytes, the last of them a newline
pub record Closed (cs : List ℕ) : Type 0 where
  pub long : length cs ≡ 17
  pub newline : get_or cs 16 0 ≡ 10

-- what is read, by the first test that fails
module _ (cs : List ℕ) where
  pub entry_open : (Closed cs → ⊥) → entry_of cs ≡ none
  unfolding entry_of
  entry_open o = go (eqb (length cs) 17 && eqb (get_or cs 16 0) 10) refl
    where
      go : (b : Bool) → (eqb (length cs) 17 && eqb (get_or cs 16 0) 10) ≡ b → entry_of cs ≡ none
      go true q = let t = both (eqb (length cs) 17) (eqb (get_or cs 16 0) 10) q in absurd (o (record { long = eqb-true (length cs) 17 t.0; newline = eqb-true (get_or cs 16 0) 10 t.1 }))
      go false q = rw (q, entry_of)

  pub entry_closed : Closed cs → entry_of cs ≡ numbers_of cs
  unfolding entry_of
  entry_closed C = rw (eq-eqb (length cs) 17 C.long, eq-eqb (get_or cs 16 0) 10 C.newline, entry_of)

  is_closed : {e : Entry} → entry_of cs ≡ some e → Closed cs
  unfolding entry_of
  is_closed {e} p = go (eqb (length cs) 17 && eqb (get_or cs 16 0) 10) refl
    where
      go : (b : Bool) → (eqb (length cs) 17 && eqb (get_or cs 16 0) 10) ≡ b → Closed cs
      go true q = let t = both (eqb (length cs) 17) (eqb (get_or cs 16 0) 10) q in record { long = eqb-true (length cs) 17 t.0; newline = eqb-true (get_or cs 16 0) 10 t.1 }
      go false q = let z : ◌≡◌ {A = ℕ} 0 1 = cc (rw (q, entry_of) at p) in absurd (omega arith)

-- no other line is read
pub entry_only : (cs : List ℕ) (e : Entry) → entry_of cs ≡ some e → (cs ≡ entry_line e) × Small e
unfolding numbers_of entry_line
entry_only cs e p =
    let C = is_closed cs p in
    let l = C.long in
    let a = bind_some (field cs 0 8) _ e (sym (entry_closed cs C) ∙ p) in
    let b = bind_some (field cs 8 8) _ e a.2 in
    let s : (a.0, b.0) ≡ e = cc b.2 in
    let key = digits-field cs 0 8 e.0 (omega arith) (a.1 ∙ ap (λ (x : Entry). some x.0) s) in
    let value = digits-field cs 8 8 e.1 (omega arith) (b.1 ∙ ap (λ (x : Entry). some x.1) s) in
    (cut l C.newline ∙ rw (key.0, value.0), (key.1, value.1))
  where
    cut : length cs ≡ 17 → get_or cs 16 0 ≡ 10 → cs ≡ take 8 (drop 0 cs) ++ (take 8 (drop 8 cs) ++ 10 ∷ [])
    cut l n = sym (take_all 17 cs (omega arith)) ∙ take-suc cs 16 0 (omega arith) ∙ rw (n, take-add 8 8 cs) (append_assoc (take 8 cs) (take 8 (drop 8 cs)) (10 ∷ []))

-- a line is malformed exactly when it is the line of no entry
pub malformed_exactly : (cs : List ℕ) → (entry_of cs ≡ none) ↔ ((e : Entry) → Small e → cs ≢ entry_line e)
malformed_exactly cs = (to, back (entry_of cs) refl)
  where
    unlike : {e : Entry} → none ≡ some e → ⊥
    unlike q = let z : ◌≡◌ {A = ℕ} 0 1 = cc q in omega arith

    to : entry_of cs ≡ none → (e : Entry) → Small e → cs ≢ entry_line e
    to p e s q = unlike (sym p ∙ ap entry_of q ∙ entry_line_lem e s)

    back : (o : Option Entry) → entry_of cs ≡ o → ((e : Entry) → Small e → cs ≢ entry_line e) → entry_of cs ≡ none
    back none p f = p
    back (some e) p f = let r = entry_only cs e p in absurd (f e r.1 r.0)

-- The entries of a text.

pub entries-length : (t : List ℕ) (i k : ℕ) → length (entries_from t i k) ≡ k
unfolding entries_from
entries-length t i zero = refl
entries-length t i (suc k) = ap suc (entries-length t (suc i) k)

take-from : (t : List ℕ) (i m k : ℕ) → m ≤ k → take m (entries_from t i k) ≡ entries_from t i m
unfolding entries_from
take-from t i zero k h = refl
take-from t i (suc m) zero h = absurd (omega arith)
take-from t i (suc m) (suc k) h = ap (λ (es : List Entry). entry_at t i ∷ es) (take-from t (suc i) m k (omega arith))

drop-from : (t : List ℕ) (i a k : ℕ) → drop a (entries_from t i k) ≡ entries_from t (i + a) (k - a)
unfolding entries_from
drop-from t i zero k = let e : i + 0 ≡ i = omega arith in let e' : k - 0 ≡ k = omega arith in rw (e, e')
drop-from t i (suc a) zero = let e : 0 - suc a ≡ 0 = omega arith in rw e
drop-from t i (suc a) (suc k) = let e : i + suc a ≡ suc i + a = omega arith in let e' : suc k - suc a ≡ k - a = omega arith in rw (e, e') (drop-from t (suc i) a k)

get_d_from : (t : List ℕ) (i m k : ℕ) (d : Entry) → m < k → get_or (entries_from t i k) m d ≡ entry_at t (i + m)
unfolding entries_from
get_d_from t i m zero d h = absurd (omega arith)
get_d_from t i zero (suc k) d h = ap (entry_at t) (omega arith)
get_d_from t i (suc m) (suc k) d h = get_d_from t (suc i) m k d (omega arith) ∙ ap (entry_at t) (omega arith)

-- line i of a text that is cut behind it, and of one that is cut before it
line-take : (t : List ℕ) (n i : ℕ) → 17 * i + 17 ≤ n → n ≤ length t → line_at (take n t) i ≡ line_at t i
line-take t n i h l =
    let whole : t ≡ take n t ++ drop n t = sym (take-append-drop n t) in
    let m : length (take n t) ≡ n = length-take-le n t l in
    let a : drop (17 * i) t ≡ drop (17 * i) (take n t) ++ drop n t = ap (drop (17 * i)) whole ∙ drop-append-le (17 * i) (take n t) (drop n t) (omega arith) in
    let b : 17 ≤ length (drop (17 * i) (take n t)) = omega (arith, length-drop (17 * i) (take n t), m) in
    sym (ap (take 17) a ∙ take-append-le 17 (drop (17 * i) (take n t)) (drop n t) b)

line-drop : (t : List ℕ) (a i : ℕ) → line_at (drop (17 * a) t) i ≡ line_at t (a + i)
line-drop t a i = let e : 17 * a + 17 * i ≡ 17 * (a + i) = omega arith in rw (drop-drop (17 * i) (17 * a) t, e)

-- equal lines have equal entries
same_line : (t u : List ℕ) (i j : ℕ) → line_at t i ≡ line_at u j → entry_at t i ≡ entry_at u j
unfolding entry_at
same_line t u i j p = ap (λ (cs : List ℕ). elim (entry_of cs) as (λ _. Entry) [ none ↦ (0, 0) | some e ↦ e ]) p

from-take : (t : List ℕ) (n i k : ℕ) → 17 * (i + k) ≤ n → n ≤ length t → entries_from (take n t) i k ≡ entries_from t i k
unfolding entries_from
from-take t n i zero h l = refl
from-take t n i (suc k) h l = rw (same_line (take n t) t i i (line-take t n i (omega arith) l), from-take t n (suc i) k (omega arith) l)

from-drop : (t : List ℕ) (a i k : ℕ) → entries_from (drop (17 * a) t) i k ≡ entries_from t (a + i) k
unfolding entries_from
from-drop t a i zero = refl
from-drop t a i (suc k) = let s : a + suc i ≡ suc (a + i) = omega arith in rw (same_line (drop (17 * a) t) t i (a + i) (line-drop t a i), from-drop t a (suc i) k, s)

-- the first m lines
pub entries-take : (t : List ℕ) (m : ℕ) → 17 * m ≤ length t → entries_of (take (17 * m) t) ≡ take m (entries_of t)
entries-take t m h =
    let l : length (take (17 * m) t) / 17 ≡ m = rw (length-take-le (17 * m) t h) (omega arith) in
    rw (l, from-take t (17 * m) 0 m (omega arith) h, take-from t 0 m (length t / 17) (omega arith))

-- the lines from line a on
pub entries-drop : (t : List ℕ) (a n : ℕ) → n ≡ 17 * a → n ≤ length t → entries_of (take (length t - n) (drop n t)) ≡ drop a (entries_of t)
entries-drop t a n e h =
    let k : length (drop (17 * a) t) ≡ length t - 17 * a = length-drop (17 * a) t in
    let l : (length t - 17 * a) / 17 ≡ length t / 17 - a = omega arith in
    let z : a + 0 ≡ 0 + a = omega arith in
    rw (e, take_all (length t - 17 * a) (drop (17 * a) t) (omega arith), k, l, from-drop t a 0 (length t / 17 - a), drop-from t 0 a (length t / 17), z)

-- line m
pub entries_at : (t : List ℕ) (m : ℕ) (d : Entry) → m < length t / 17 → get_or (entries_of t) m d ≡ entry_at t m
entries_at t m d h = get_d_from t 0 m (length t / 17) d h ∙ ap (entry_at t) (omega arith)

-- Whole lines.

-- the entry of a line that is read
pub entry_at_lem : (t : List ℕ) (i : ℕ) (e : Entry) → entry_of (line_at t i) ≡ some e → entry_at t i ≡ e
unfolding entry_at
entry_at_lem t i e p = rw (p, entry_at)

-- every line of the text is the line of its entry
pub record Printed (t : List ℕ) : Type 0 where
  pub line : (i : ℕ) → i < line_count t → line_at t i ≡ entry_line (entry_at t i)

-- so none is short
pub printed_whole : (t : List ℕ) → Printed t → length t ≡ 17 * (length t / 17)
printed_whole t P = go (leb (length t) (17 * (length t / 17))) refl
  where
    go : (b : Bool) → leb (length t) (17 * (length t / 17)) ≡ b → length t ≡ 17 * (length t / 17)
    go true q = omega (arith, leb-true (length t) (17 * (length t / 17)) q)
    go false q =
        let k = length t / 17 in
        let m = leb-false (length t) (17 * k) q in
        let l : length (line_at t k) ≡ 17 = ap length (P.line k (omega arith)) ∙ entry_length (entry_at t k) in
        absurd (omega (arith, length-take 17 (drop (17 * k) t), length-drop (17 * k) t))

lines_from : (t : List ℕ) (i k : ℕ) → ((j : ℕ) → j < i + k → line_at t j ≡ entry_line (entry_at t j))
    → entry_lines (entries_from t i k) ≡ take (17 * k) (drop (17 * i) t)
unfolding entry_lines entries_from
lines_from t i zero f = refl
lines_from t i (suc k) f =
    let e : 17 * suc k ≡ 17 + 17 * k = omega arith in
    let n : 17 * suc i ≡ 17 * i + 17 = omega arith in
    rw (← f i (omega arith), lines_from t (suc i) k (λ j h. f j (omega arith)), e, n, take-add 17 (17 * k) (drop (17 * i) t), drop-drop 17 (17 * i) t)

-- the entries printed are the text, byte for byte
pub printed_back : (t : List ℕ) → Printed t → entry_lines (entries_of t) ≡ t
printed_back t P =
    let w = printed_whole t P in
    lines_from t 0 (length t / 17) (λ j h. P.line j (omega arith)) ∙ take_all (17 * (length t / 17)) t (omega arith)
