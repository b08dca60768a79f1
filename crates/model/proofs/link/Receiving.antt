-- One line received: it is turned away, or it is a repeat, or its edit is done and its index marked; and what the answer then reports.
use mathlib.Core.Path.{◌≡◌, refl, ap, sym, subst, ◌∙◌}
use mathlib.Core.Logic.{◌≢◌, ◌⊎◌, inl, inr, ◌↔◌}
use Prim.Native.Nat.{ℕ, suc, ◌<◌}
use mathlib.Core.Bool.{Bool, true, false, false≢true}
use mathlib.Core.Option.{Option, none, some}
use mathlib.Core.List.{List}
use borrow.Author.Tests.{eq-eqb, ne_eqb}
use native.Mathlib.Omega.{arith}
use native.Mathlib.Decide.{ℕ_discrete}
use Rattle.model.specs.Supply.{short}
use Rattle.model.specs.Heap.{version, supply}
use Rattle.model.specs.Block.{heap, SoundBlock}
use Rattle.model.specs.Frame.{Frame, Reading, good, fault, read, parse}
use Rattle.model.specs.Inbox.{batch_of, count_of, heard_at, SoundInbox, marked, missing, question, Complete}
use Rattle.model.specs.Numbers.{NO_ROOM}
use Rattle.model.specs.Calls.{Check, fails, passes, Edited}
use Rattle.model.specs.Link.{Missing, Heard, frame_rule, Step, turned_away, refused_at, repeated, accepted, PutsZero, Heeds, Judges, Says, Receive}
use Rattle.model.proofs.link.Lines.{Legal, legal_exactly, fault_range, good_parse, parse_only}
use Rattle.model.proofs.link.Heard.{Markable, marked-count, marked_sound}

-- the line's frame belongs to the inbox's batch, its count does not differ, and it puts no zero
pub record Belongs (x : List ℕ) (f : Frame) : Type 0 where
  pub batch : f.batch ≡ batch_of x
  pub counts : (count_of x ≡ 0) ⊎ (count_of x ≡ f.count)
  pub worth : ¬ PutsZero f

-- accepted, as a repeat (1) or not (0): the answer has as missing what the inbox then lacks
pub record Accepted (s : Step) (n : ℕ) : Type 0 where
  pub number : s.answer.number ≡ 0
  pub again : s.answer.again ≡ n
  pub missing : s.answer.missing ≡ missing s.inbox'

-- what comes of a line that says o, where the edit of a new one is to do what `done` says
pub data Comes (s : Step) (done : Frame → Type 0) (o : Option Frame) : Type 0 where
  away : s.answer.number ≢ 0 → s.block' ≡ s.block → s.inbox' ≡ s.inbox → Comes s done o
  again : (f : Frame) → o ≡ some f → Belongs s.inbox f → heard_at s.inbox f.index ≡ true → Accepted s 1
      → s.block' ≡ s.block → s.inbox' ≡ s.inbox → Comes s done o
  new : (f : Frame) → o ≡ some f → Belongs s.inbox f → heard_at s.inbox f.index ≡ false → Accepted s 0 → done f
      → s.inbox' ≡ marked s.inbox f.count f.index → Comes s done o

-- at a table
abbrev pub Outcome : (s : Step) (v : ℕ) → Option Frame → Type 0
Outcome s v o = Comes s (λ f. (short (frame_rule f (version (heap s.block) v) (supply (heap s.block))).1 ≡ false)
    × Edited s.block s.block' v (frame_rule f (version (heap s.block) v) (supply (heap s.block))).0) o

-- a refusal's number is not 0
pub turned : (s : Step) {done : Frame → Type 0} {n : ℕ} {o : Option Frame} → turned_away s (suc n) → Comes s done o
turned s {n = n} u = away (λ z. let e : suc n ≡ 0 = sym (ap (λ (a : Heard). a.number) u.0) ∙ z in omega arith) u.1 u.2

pub comes_map : {s : Step} {done more : Frame → Type 0} {o : Option Frame} → ((f : Frame) → done f → more f) → Comes s done o → Comes s more o
comes_map g (away n b x) = away n b x
comes_map g (again f e B h a b x) = again f e B h a b x
comes_map g (new f e B h a d x) = new f e B h a (g f d) x

-- a line is judged, and done where its edit finds room
module _ (s : Step) (room changed : Frame → Type 0) (line : List ℕ) where
  abbrev pub Judged : Reading → Type 0
  Judged r = Judges s.inbox (refused_at s) (repeated s) (λ f. Check (room f) (turned_away s NO_ROOM) (accepted s f (changed f))) r

  abbrev pub Done : Option Frame → Type 0
  Done o = Comes s (λ f. room f × changed f) o

  answered : {n : ℕ} (y : List ℕ) → s.answer ≡ record { number = 0; again = n; missing = missing y; place = 0 } → s.inbox' ≡ y → Accepted s n
  answered y e x = record { number = ap (λ (a : Heard). a.number) e; again = ap (λ (a : Heard). a.again) e; missing = ap (λ (a : Heard). a.missing) e ∙ ap missing (sym x) }

  taken : {o : Option Frame} (f : Frame) → o ≡ some f → Belongs s.inbox f → (heard : Bool) → heard_at s.inbox f.index ≡ heard
      → Heeds (repeated s) (Check (room f) (turned_away s NO_ROOM) (accepted s f (changed f))) heard → Done o
  taken f q B true e u = again f q B e (answered s.inbox u.0 u.2) u.1 u.2
  taken f q B false e (fails p u) = turned s u
  taken f q B false e (passes p u) = new f q B e (answered (marked s.inbox f.count f.index) u.0 u.2) (p, u.1) u.2

  pub judged_comes : (r : Reading) → read line ≡ r → Judged r → Done (parse line)
  judged_comes (fault n p) e u = away (λ z. omega (arith, (fault_range line n p e).0, sym (ap (λ (a : Heard). a.number) u.0) ∙ z)) u.1 u.2
  judged_comes (good f) e (fails p u) = turned s u
  judged_comes (good f) e (passes p (fails q u)) = turned s u
  judged_comes (good f) e (passes p (passes q (fails w u))) = turned s u
  judged_comes (good f) e (passes p (passes q (passes w T))) = taken f ((good_parse line f).1 e) (record { batch = p; counts = q; worth = w }) (heard_at s.inbox f.index) refl T

  -- a frame of the batch is refused only for room
  pub judged_only_room : (f : Frame) → parse line ≡ some f → Belongs s.inbox f → Judged (read line) → (s.answer.number ≡ 0) ⊎ (s.answer.number ≡ NO_ROOM)
  judged_only_room f e W J = says (subst Judged ((good_parse line f).0 e) J)
    where
      number : {a : Heard} → s.answer ≡ a → s.answer.number ≡ a.number
      number q = ap (λ (a : Heard). a.number) q

      takes : (heard : Bool) → Heeds (repeated s) (Check (room f) (turned_away s NO_ROOM) (accepted s f (changed f))) heard
          → (s.answer.number ≡ 0) ⊎ (s.answer.number ≡ NO_ROOM)
      takes true u = inl (number u.0)
      takes false (fails p u) = inr (number u.0)
      takes false (passes p u) = inl (number u.0)

      says : Judged (good f) → (s.answer.number ≡ 0) ⊎ (s.answer.number ≡ NO_ROOM)
      says (fails p u) = absurd (p W.batch)
      says (passes p (fails q u)) = absurd (q W.counts)
      says (passes p (passes q (fails w u))) = absurd (w W.worth)
      says (passes p (passes q (passes w T))) = takes (heard_at s.inbox f.index) T

-- a put of 0 is never accepted, new or repeat
pub comes_zero : {s : Step} {done : Frame → Type 0} (line : List ℕ) (f : Frame) → Comes s done (parse line) → parse line ≡ some f
    → PutsZero f → s.answer.number ≢ 0
comes_zero {s} {done} line f C e Z z = go C
  where
    no : (g : Frame) → parse line ≡ some g → Belongs s.inbox g → ⊥
    no g d B = let p : f ≡ g = cc (sym e ∙ d) in B.worth (subst PutsZero p Z)

    go : Comes s done (parse line) → ⊥
    go (away n b x) = n z
    go (again g d B h a b x) = no g d B
    go (new g d B h a E x) = no g d B

module _ (s : Step) (v : ℕ) where
  pub receive_outcome : (line : List ℕ) → Receive s v line → Outcome s v (parse line)
  receive_outcome line (fails p u) = turned s u
  receive_outcome line (passes a (fails p u)) = turned s u
  receive_outcome line (passes a (passes c (fails p u))) = turned s u
  receive_outcome line (passes a (passes c (passes d (fails p u)))) = turned s u
  receive_outcome line (passes a (passes c (passes d (passes e (fails p u))))) = turned s u
  receive_outcome line (passes a (passes c (passes d (passes e (passes g T))))) = judged_comes s _ _ line (read line) refl T

  -- on a sound block and inbox the line decides
  pub receive_says : (line : List ℕ) → SoundBlock s.block → SoundInbox s.inbox → v < 16 → Receive s v line → Says s v (read line)
  receive_says line B X lt (fails p u) = absurd (p B.shaped)
  receive_says line B X lt (passes a (fails p u)) = absurd (p X.long)
  receive_says line B X lt (passes a (passes c (fails p u))) = absurd (p B)
  receive_says line B X lt (passes a (passes c (passes d (fails p u)))) = absurd (p X)
  receive_says line B X lt (passes a (passes c (passes d (passes g (fails p u))))) = absurd (p lt)
  receive_says line B X lt (passes a (passes c (passes d (passes g (passes h T))))) = T

  -- a frame of the batch, there, is refused only for room
  pub belongs_only_room : (line : List ℕ) (f : Frame) → SoundBlock s.block → SoundInbox s.inbox → v < 16 → Receive s v line
      → parse line ≡ some f → Belongs s.inbox f
      → (s.answer.number ≡ 0) ⊎ (s.answer.number ≡ NO_ROOM)
  belongs_only_room line f B X lt R e W = judged_only_room s _ _ line f e W (receive_says line B X lt R)

  pub zero-refused : (line : List ℕ) (f : Frame) → Receive s v line → parse line ≡ some f → PutsZero f → s.answer.number ≢ 0
  zero-refused line f R e Z = comes_zero line f (receive_outcome line R) e Z

  -- only lines of the inbox's batch change block or inbox
  pub foreign_changes_nothing : (line : List ℕ) → ((f : Frame) → parse line ≡ some f → f.batch ≢ batch_of s.inbox) → Receive s v line
      → (s.block' ≡ s.block) × (s.inbox' ≡ s.inbox)
  foreign_changes_nothing line foreign R = go (receive_outcome line R)
    where
      go : Outcome s v (parse line) → (s.block' ≡ s.block) × (s.inbox' ≡ s.inbox)
      go (away n b x) = (b, x)
      go (again f e B h a b x) = (b, x)
      go (new f e B h a (r, E) x) = absurd (foreign f e B.batch)

  -- no other version changes
  pub receive_others : (line : List ℕ) → Receive s v line → (w : ℕ) → w < 16 → w ≢ v → version (heap s.block') w ≡ version (heap s.block) w
  receive_others line R w lt ne = go (receive_outcome line R)
    where
      go : Outcome s v (parse line) → version (heap s.block') w ≡ version (heap s.block) w
      go (away n b x) = ap (λ z. version (heap z) w) b
      go (again f e B h a b x) = ap (λ z. version (heap z) w) b
      go (new f e B h a (r, E) x) = E.others w lt ne

-- a line that says f is legal, so an index that is not heard may be marked
pub line_markable : {x : List ℕ} (line : List ℕ) (f : Frame) → SoundInbox x → parse line ≡ some f → Belongs x f
    → heard_at x f.index ≡ false → Markable x f.count f.index
line_markable line f X e B h =
    let L = (legal_exactly f).0 (parse_only line f e).1 in
    record { sound = X; small = L.most; below = L.below; counts = B.counts; new = h }

-- What is reported.

question_unknown : (x : List ℕ) → count_of x ≡ 0 → question x ≡ 4294967295
unfolding question
question_unknown x e = rw (eq-eqb (count_of x) 0 e, question)

question_known : (x : List ℕ) → count_of x ≢ 0 → question x ≡ missing x
unfolding question
question_known x ne = rw (ne_eqb (count_of x) 0 ne, question)

-- the missing question answers 0 exactly when the inbox is complete
pub missing_complete : (x : List ℕ) (m : ℕ) → Missing x 0 m → (m ≡ 0) ↔ Complete x
missing_complete x m (fails p u) = let z : ◌≡◌ {A = ℕ} 0 1 = u.0 in absurd (omega arith)
missing_complete x m (passes p (fails q u)) = let z : ◌≡◌ {A = ℕ} 0 2 = u.0 in absurd (omega arith)
missing_complete x m (passes p (passes q u)) = go (ℕ_discrete (count_of x) 0)
  where
    go : Dec (count_of x ≡ 0) → (m ≡ 0) ↔ Complete x
    go (yes e) = ((λ z. absurd (omega (arith, u.1, question_unknown x e))), (λ C. absurd (omega (arith, C.counted))))
    go (no ne) = ((λ z. record { counted = omega arith; none = sym (question_known x ne) ∙ sym u.1 ∙ z }), (λ C. u.1 ∙ question_known x ne ∙ C.none))

-- a sound inbox is not refused the question
pub missing_answers : (x : List ℕ) (n m : ℕ) → SoundInbox x → Missing x n m → n ≡ 0
missing_answers x n m X (fails p u) = absurd (p X.long)
missing_answers x n m X (passes p (fails q u)) = absurd (q X)
missing_answers x n m X (passes p (passes q u)) = u.0

-- what an accepted line has as missing is what the question would answer then
pub comes_reports : {done : Frame → Type 0} (s : Step) (line : List ℕ) → SoundInbox s.inbox → Comes s done (parse line)
    → s.answer.number ≡ 0 → Missing s.inbox' 0 s.answer.missing
comes_reports {done} s line X C z = go C
  where
    asked : {n : ℕ} → Accepted s n → SoundInbox s.inbox' → count_of s.inbox' ≢ 0 → Missing s.inbox' 0 s.answer.missing
    asked A Y ne = passes Y.long (passes Y (refl, A.missing ∙ sym (question_known s.inbox' ne)))

    legal : (f : Frame) → parse line ≡ some f → Legal f
    legal f e = (legal_exactly f).0 (parse_only line f e).1

    go : Comes s done (parse line) → Missing s.inbox' 0 s.answer.missing
    go (away n b x) = absurd (n z)
    go (again f e B h a b x) =
        let L = legal f e in
        asked a (subst SoundInbox (sym x) X) (λ none. false≢true (sym (X.clear f.index (omega (arith, ap count_of x)) (omega (arith, L.most, L.below))) ∙ h))
    go (new f e B h a E x) =
        let M = line_markable line f X e B h in
        asked a (subst SoundInbox (sym x) (marked_sound M)) (λ none. omega (arith, ap count_of x, marked-count M, (legal f e).least))

pub receive_reports : (s : Step) (v : ℕ) (line : List ℕ) → SoundInbox s.inbox → Receive s v line → s.answer.number ≡ 0
    → Missing s.inbox' 0 s.answer.missing
receive_reports s v line X R = comes_reports s line X (receive_outcome s v line R)
