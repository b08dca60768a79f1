-- Lines heard one after the other.
use mathlib.Core.Path.{◌≡◌, refl, ap, sym, subst, ◌∙◌}
use mathlib.Core.Logic.{◌≢◌}
use Prim.Native.Nat.{ℕ}
use mathlib.Core.Bool.{Bool, true, false}
use mathlib.Core.Option.{Option, none, some}
use mathlib.Core.List.{List, [], ◌∷◌, ◌++◌}
use lib.ListN.{length}
use native.Mathlib.Omega.{arith}
use Rattle.model.specs.Frame.{Frame, Reading, good, fault, read, parse}
use Rattle.model.specs.Link.{Begin, Heard, Receive}
use Rattle.model.specs.Replica.{Nothing, Hearing, still, then}
use Rattle.model.proofs.link.Lines.{read_open, fault_range, good_parse}
use Rattle.model.proofs.calls.Refusals.{begin_begins}
use Rattle.std.specs.Prelude.{Ok, Err}
use Rattle.answers.specs.declared.Fault.{Fault}
use Rattle.answers.specs.Numbers.{fault_number}
use Rattle.frame.specs.declared.Frame as frames
use Rattle.frame.specs.Fields.{fields_of}
use Rattle.link.specs.Answers.{Says}
use Rattle.hearing.specs.Lines.{Runs, idle, waits, begins, hears}

-- no line
pub runs_none : (b x : List ℕ) (g : Bool) → Runs b x g [] b x g
runs_none b x true = hears still
runs_none b x false = idle

hearing_then : {b x c y d z : List ℕ} {ls ms : List (List ℕ)} → Hearing Nothing 0 b x ls c y → Hearing Nothing 0 c y ms d z
    → Hearing Nothing 0 b x (ls ++ ms) d z
hearing_then still later = later
hearing_then (then a n r one) later = then a n r (hearing_then one later)

-- lines, and then others
pub runs_then : {b x c y d z : List ℕ} {g h k : Bool} {ls ms : List (List ℕ)} → Runs b x g ls c y h → Runs c y h ms d z k → Runs b x g (ls ++ ms) d z k
runs_then idle later = later
runs_then (waits e one) later = waits e (runs_then one later)
runs_then (begins f e one) (hears later) = begins f e (hearing_then one later)
runs_then (hears one) (hears later) = hears (hearing_then one later)

-- a line once a batch has begun
pub runs_hears : {b x c y : List ℕ} {g : Bool} (line : List ℕ) (a : Heard) → g ≡ true
    → Receive (record { block = b; inbox = x; block' = c; inbox' = y; answer = a }) 0 line → Runs b x g (line ∷ []) c y true
runs_hears line a e r = rw e (hears (then a refl r still))

-- before that, a malformed line
pub runs_waits : {b x : List ℕ} {g : Bool} (line : List ℕ) (f : Fault) → g ≡ false → Says (read line) (Err f) → Runs b x g (line ∷ []) b x false
runs_waits line f e P = rw e (waits (said (parse line) refl) idle)
  where
    some_number : fault_number f ≢ 0
    some_number = grind arith

    said : (o : Option Frame) → parse line ≡ o → parse line ≡ none
    said none q = q
    said (some h) q = absurd (some_number (subst (λ (r : Reading). Says r (Err f)) ((good_parse line h).0 q) P).0)

-- and a line of another length, of which that is known at once
pub runs_passes : {b x : List ℕ} {g : Bool} (line : List ℕ) → g ≡ false → length line ≢ 35 → Runs b x g (line ∷ []) b x false
unfolding parse
runs_passes line e n = rw e (waits unread idle)
  where
    unread : parse line ≡ none
    unread = rw (read_open line (λ C. n C.long), parse) refl

-- and the first that is well formed
pub runs_begins : {b x z c y : List ℕ} {g : Bool} {m : ℕ} (f : frames.Frame) (line : List ℕ) (a : Heard) → g ≡ false
    → Says (read line) (Ok f) → length x ≡ 130 → Begin x z f.batch m
    → Receive (record { block = b; inbox = z; block' = c; inbox' = y; answer = a }) 0 line → Runs b x g (line ∷ []) c y true
runs_begins {b = b} {x = x} {z = z} {c = c} {y = y} {m = m} f line a e P long B r = rw e (begins (fields_of f) (said (read line) refl P) (then a refl (subst (λ (w : List ℕ). Receive (record { block = b; inbox = w; block' = c; inbox' = y; answer = a }) 0 line) (begin_begins f.batch long B).1 r) still))
  where
    said : (o : Reading) → read line ≡ o → Says o (Ok f) → parse line ≡ some (fields_of f)
    said (fault k q) d P = absurd (omega (arith, (fault_range line k q d).0, P.0))
    said (good h) d P = (good_parse line h).1 d ∙ ap some (sym P.1)

-- what is heard of a line is what it says
hearing_says : {b x c y : List ℕ} (l m : List ℕ) → read l ≡ read m → Hearing Nothing 0 b x (l ∷ []) c y → Hearing Nothing 0 b x (m ∷ []) c y
hearing_says {b = b} {x = x} {c = c} {y = y} l m e (then {a = d} a n r still) = then {b = b} {x = x} {a = d} {b' = c} {x' = y} {line = m} a n (rw (sym e) r) still

says_parse : (l m : List ℕ) → read l ≡ read m → parse m ≡ parse l
unfolding parse
says_parse l m e = rw (sym e, parse)

pub runs_says : {b x c y : List ℕ} {g h : Bool} (l m : List ℕ) → read l ≡ read m → Runs b x g (l ∷ []) c y h → Runs b x g (m ∷ []) c y h
runs_says l m e (hears one) = hears (hearing_says l m e one)
runs_says l m e (waits p idle) = waits (says_parse l m e ∙ p) idle
runs_says l m e (begins f p one) = begins f (says_parse l m e ∙ p) (hearing_says l m e one)
