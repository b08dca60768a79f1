-- Bytes fed: the lines that end in them are heard, and what follows the last newline is kept.
use mathlib.Core.Path.{◌≡◌, refl, ap, sym, subst, ◌∙◌}
use mathlib.Core.Logic.{◌≢◌}
use Prim.Native.Nat.{ℕ, suc, ◌+◌, ◌<◌, ◌≤◌}
use mathlib.Core.Bool.{Bool, true, false}
use mathlib.Core.List.{List, [], ◌∷◌, ◌++◌}
use lib.ListN.{length, get_or, take, drop, drop_of_length-le}
use lib.Seq.{drop-cons}
use borrow.Author.Tests.{eq-eqb, ne_eqb}
use lib.Dec.{eqb}
use native.Mathlib.Omega.{arith}
use Rattle.model.specs.Frame.{read}
use Rattle.hearing.specs.Lines.{lines_of, rest_of, Keeps, State, Fed, FedSome, HearsSome, Runs, state}
use Rattle.hearing.specs.declared.kept.Progress.{Progress}
use Rattle.hearing.proofs.Keeping.{first_36, keeps_none}
use Rattle.hearing.proofs.Hearing.{runs_none, runs_then, runs_says}

-- lines heard from one state to another
abbrev pub RunsTo : State → List (List ℕ) → State → Type 0
RunsTo s lines t = Runs s.block s.inbox s.started lines t.block t.inbox t.started

-- on the way from s, at t: with the lines of what is still to come, the lines are those of the start
pub record Going (s : State) (lines : List (List ℕ)) (rest : List ℕ) (t : State) (bytes : List ℕ) : Type 0 where
  pub held : List ℕ
  pub keeps : Keeps t.line t.len held
  pub runs : (u : State) → RunsTo t (lines_of held bytes) u → RunsTo s lines u
  pub left : rest_of held bytes ≡ rest

-- a byte that ends no line
going_byte : {s t : State} {lines : List (List ℕ)} {rest line bytes : List ℕ} {len byte : ℕ} → Going s lines rest t (byte ∷ bytes)
    → ((held : List ℕ) → Keeps t.line t.len held → Keeps line len (held ++ byte ∷ []))
    → eqb byte 10 ≡ false → Going s lines rest (record { block = t.block; inbox = t.inbox; started = t.started; line = line; len = len }) bytes
unfolding lines_of rest_of
going_byte {byte = byte} G K e = record {
  held = G.held ++ byte ∷ [];
  keeps = K G.held G.keeps;
  runs = λ u r. G.runs u (rw (e, lines_of) r);
  left = sym (rw (e, rest_of) refl) ∙ G.left;
}

-- a newline: what is kept is heard, and nothing is held
going_line : {s t u : State} {lines : List (List ℕ)} {rest bytes : List ℕ} {len byte : ℕ} → Going s lines rest t (byte ∷ bytes)
    → ((held : List ℕ) → Keeps t.line t.len held → Keeps u.line len (held ++ byte ∷ []))
    → eqb byte 10 ≡ true → u.len ≡ 0 → RunsTo t (take len u.line ∷ []) u → Going s lines rest u bytes
unfolding lines_of rest_of
going_line {u = u} {len = len} {byte = byte} G K e z one =
    let whole = G.held ++ byte ∷ [] in
    let said : read (take len u.line) ≡ read whole = ap read (K G.held G.keeps).bytes ∙ first_36 whole in
    record {
      held = [];
      keeps = rw z (keeps_none whole (K G.held G.keeps));
      runs = λ v r. G.runs v (rw (e, lines_of) (runs_then (runs_says (take len u.line) whole said one) r));
      left = sym (rw (e, rest_of) refl) ∙ G.left;
    }

-- after i bytes, whatever was held
pub record Feeding (s : State) (bytes : List ℕ) (t : State) (i : ℕ) : Type 0 where
  pub going : (held : List ℕ) → Keeps s.line s.len held → Going s (lines_of held bytes) (rest_of held bytes) t (drop i bytes)

pub feeding_none : (s : State) (bytes : List ℕ) → Feeding s bytes s 0
feeding_none s bytes = record { going = λ held k. record { held = held; keeps = k; runs = λ u r. r; left = refl } }

-- what keep does with byte i
abbrev pub Kept : State → (bytes : List ℕ) (i : ℕ) (line : List ℕ) (len : ℕ) → Type 0
Kept t bytes i line len = (held : List ℕ) → Keeps t.line t.len held → Keeps line len (held ++ get_or bytes i 0 ∷ [])

next : (bytes : List ℕ) (i : ℕ) → i < length bytes → drop i bytes ≡ get_or bytes i 0 ∷ drop (i + 1) bytes
next bytes i lt = let e : suc i ≡ i + 1 = omega arith in drop-cons bytes i 0 lt ∙ ap (λ (j : ℕ). get_or bytes i 0 ∷ drop j bytes) e

pub feeding_byte : {s t : State} {bytes line : List ℕ} {len i : ℕ} {g : Bool} → Feeding s bytes t i → i < length bytes → g ≡ t.started → Kept t bytes i line len → get_or bytes i 0 ≢ 10
    → Feeding s bytes (record { block = t.block; inbox = t.inbox; started = g; line = line; len = len }) (i + 1)
feeding_byte {s = s} {t = t} {bytes = bytes} {line = line} {len = len} {i = i} F lt same K ne = subst (λ (g : Bool). Feeding s bytes (record { block = t.block; inbox = t.inbox; started = g; line = line; len = len }) (i + 1)) (sym same) (record {
  going = λ held k. going_byte (subst (Going s (lines_of held bytes) (rest_of held bytes) t) (next bytes i lt) (F.going held k)) K (ne_eqb _ _ ne);
})

-- the kept bytes are heard as a line, and none are kept
pub record Ended (t : State) (g : Bool) (line : List ℕ) (len : ℕ) (u : State) : Type 0 where
  pub none_kept : u.len ≡ 0
  pub same_buffer : u.line ≡ line
  pub heard : Runs t.block t.inbox g (take len line ∷ []) u.block u.inbox u.started

pub feeding_line : {s t u : State} {bytes line : List ℕ} {len i : ℕ} {g : Bool} → Feeding s bytes t i → i < length bytes → g ≡ t.started
    → Kept t bytes i line len → get_or bytes i 0 ≡ 10 → Ended t g line len u → Feeding s bytes u (i + 1)
feeding_line {s = s} {t = t} {u = u} {bytes = bytes} {line = line} {len = len} {i = i} F lt same K e E = record {
  going = λ held k. going_line (subst (Going s (lines_of held bytes) (rest_of held bytes) t) (next bytes i lt) (F.going held k))
      (λ held k. rw E.same_buffer (K held k)) (eq-eqb _ _ e) E.none_kept one;
}
  where
    one : RunsTo t (take len u.line ∷ []) u
    one = rw (E.same_buffer, sym same) E.heard

-- all bytes have come
pub feeding_all : {s t : State} {bytes : List ℕ} {i : ℕ} → Feeding s bytes t i → length bytes ≤ i → Fed s bytes t
unfolding lines_of rest_of
feeding_all {s = s} {t = t} {bytes = bytes} {i = i} F le = record {
  heard = λ held k. (gone held k).runs t (runs_none t.block t.inbox t.started);
  rest = λ held k. subst (Keeps t.line t.len) (gone held k).left (gone held k).keeps;
}
  where
    gone : (held : List ℕ) → Keeps s.line s.len held → Going s (lines_of held bytes) (rest_of held bytes) t []
    gone held k = subst (Going s (lines_of held bytes) (rest_of held bytes) t) (drop_of_length-le bytes le) (F.going held k)

-- Bytes fed in pieces are as those fed at once.

lines_append : (held xs ys : List ℕ) → lines_of held (xs ++ ys) ≡ lines_of held xs ++ lines_of (rest_of held xs) ys
unfolding lines_of rest_of
lines_append held [] ys = refl
lines_append held (c ∷ cs) ys = go (eqb c 10) refl (lines_append [] cs ys) (lines_append (held ++ c ∷ []) cs ys)
  where
    go : (b : Bool) → eqb c 10 ≡ b → lines_of [] (cs ++ ys) ≡ lines_of [] cs ++ lines_of (rest_of [] cs) ys
        → lines_of (held ++ c ∷ []) (cs ++ ys) ≡ lines_of (held ++ c ∷ []) cs ++ lines_of (rest_of (held ++ c ∷ []) cs) ys
        → lines_of held ((c ∷ cs) ++ ys) ≡ lines_of held (c ∷ cs) ++ lines_of (rest_of held (c ∷ cs)) ys
    go true e ended on = rw (e, lines_of, rest_of) (ap (λ ls. (held ++ c ∷ []) ∷ ls) ended)
    go false e ended on = rw (e, lines_of, rest_of) on

rest-append : (held xs ys : List ℕ) → rest_of held (xs ++ ys) ≡ rest_of (rest_of held xs) ys
unfolding rest_of
rest-append held [] ys = refl
rest-append held (c ∷ cs) ys = go (eqb c 10) refl (rest-append [] cs ys) (rest-append (held ++ c ∷ []) cs ys)
  where
    go : (b : Bool) → eqb c 10 ≡ b → rest_of [] (cs ++ ys) ≡ rest_of (rest_of [] cs) ys
        → rest_of (held ++ c ∷ []) (cs ++ ys) ≡ rest_of (rest_of (held ++ c ∷ []) cs) ys
        → rest_of held ((c ∷ cs) ++ ys) ≡ rest_of (rest_of held (c ∷ cs)) ys
    go true e ended on = rw (e, rest_of) ended
    go false e ended on = rw (e, rest_of) on

pub fed_none : (s : State) → FedSome s s
unfolding lines_of rest_of
fed_none s = ([], record { heard = λ held k. runs_none s.block s.inbox s.started; rest = λ held k. k })

pub fed_then : {s t u : State} → FedSome s t → FedSome t u → FedSome s u
fed_then {s = s} {t = t} {u = u} (xs, F) (ys, G) = (
  xs ++ ys,
  record {
    heard = λ held k. subst (λ ls. RunsTo s ls u) (sym (lines_append held xs ys)) (runs_then (F.heard held k) (G.heard (rest_of held xs) (F.rest held k)));
    rest = λ held k. subst (Keeps u.line u.len) (sym (rest-append held xs ys)) (G.rest (rest_of held xs) (F.rest held k));
  },
)

-- at the start nothing is held
pub fed_all : {b x : List ℕ} {t : State} (p : Progress) → length p.line ≡ 36 → p.len ≡ 0 → p.begun ≡ false → FedSome (state b x p) t → HearsSome b x t.block t.inbox
fed_all {b = b} {x = x} {t = t} p room none unbegun (bytes, F) =
    (bytes, t.started, subst (λ (g : Bool). Runs b x g (lines_of [] bytes) t.block t.inbox t.started) unbegun (F.heard [] (record { room = room; size = none; bytes = rw none refl })))
