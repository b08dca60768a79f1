-- A line from its reading to the verdict, and from the verdict to the call's contract.
use mathlib.Core.Path.{◌≡◌, refl, ap, sym, subst, ◌∙◌}
use mathlib.Core.Logic.{◌≢◌, ◌⊎◌}
use Prim.Native.Nat.{ℕ, ◌<◌}
use mathlib.Core.Bool.{Bool, true, false}
use mathlib.Core.List.{List}
use native.Mathlib.Omega.{arith}
use Rattle.model.specs.Frame as lines
use Rattle.model.specs.Frame.{Reading, good, fault, read}
use Rattle.model.specs.Inbox.{count_of, heard_at, SoundInbox, marked, missing}
use Rattle.model.specs.Numbers.{NO_ROOM}
use Rattle.model.specs.Calls.{Check, fails, passes}
use Rattle.model.specs.Link as link
use Rattle.model.specs.Link.{Step, turned_away, accepted, PutsZero, Heeds, Judges}
use Rattle.model.proofs.calls.Checks.{check_map}
use Rattle.model.proofs.link.Heard.{Markable}
use Rattle.model.proofs.link.Lines.{legal_exactly, good_parse, parse_only}
use Rattle.frame.specs.declared.Frame.{Frame}
use Rattle.frame.specs.Fields.{fields_of}
use Rattle.judge.specs.Verdicts.{Verdict, refused, repeat, new, said_of, Judgement, Fit}

module _ (x line : List ℕ) (f : Frame) (e : good (fields_of f) ≡ read line) where
  -- it was parsed, so it is legal, and its index has a bit
  pub has_bit : f.index < 4096
  has_bit =
      let legal = (legal_exactly (fields_of f)).0 (parse_only line (fields_of f) ((good_parse line (fields_of f)).1 (sym e))).1 in
      omega (arith, legal.most, legal.below)

-- no two kinds of verdict are one
refused_repeat : (n p : ℕ) → refused n p ≡ repeat → ⊥
refused_repeat n p d = let z : ◌≡◌ {A = ℕ} 0 1 = cc d in omega arith

refused_new : (n p : ℕ) (f : lines.Frame) → refused n p ≡ new f → ⊥
refused_new n p f d = let z : ◌≡◌ {A = ℕ} 0 1 = cc d in omega arith

repeat_new : (f : lines.Frame) → repeat ≡ new f → ⊥
repeat_new f d = let z : ◌≡◌ {A = ℕ} 0 1 = cc d in omega arith

-- from a verdict to what a call says of its line
module _ (x : List ℕ) (R : (number place : ℕ) → Type 0) (A : Type 0) (N : lines.Frame → Type 0) (v : Verdict) where
  judged : (r : Reading) → Judgement x v r → ((n p : ℕ) → said_of v ≡ refused n p → R n p) → (said_of v ≡ repeat → A)
      → ((f : lines.Frame) → said_of v ≡ new f → N f) → Judges x R A N r
  judged (fault n p) u f g h = f n p u
  judged (good l) u f g h = check_map u (f _ _) (λ c. check_map c (f _ _) (λ d. check_map d (f _ _) (heed (heard_at x l.index))))
    where
      heed : (b : Bool) → Heeds (said_of v ≡ repeat) (said_of v ≡ new l) b → Heeds A (N l) b
      heed true q = g q
      heed false q = h l q

  pub as_refused : (r : Reading) (n p : ℕ) → said_of v ≡ refused n p → Judgement x v r → R n p → Judges x R A N r
  as_refused r n p e u given = judged r u (λ m q d. same m q (sym e ∙ d)) (λ d. absurd (refused_repeat n p (sym e ∙ d))) (λ f d. absurd (refused_new n p f (sym e ∙ d)))
    where
      same : (m q : ℕ) → refused n p ≡ refused m q → R m q
      same m q d = let a : n ≡ m = cc d in let b : p ≡ q = cc d in subst (λ z. R z q) a (subst (R n) b given)

  pub as_repeat : (r : Reading) → said_of v ≡ repeat → Judgement x v r → A → Judges x R A N r
  as_repeat r e u given = judged r u (λ n p d. absurd (refused_repeat n p (sym d ∙ e))) (λ d. given) (λ f d. absurd (repeat_new f (sym e ∙ d)))

  pub as_new : (r : Reading) (f : lines.Frame) → said_of v ≡ new f → Judgement x v r → N f → Judges x R A N r
  as_new r f e u given = judged r u (λ n p d. absurd (refused_new n p f (sym d ∙ e))) (λ d. absurd (repeat_new f (sym d ∙ e))) (λ g d. same g (sym e ∙ d))
    where
      same : (g : lines.Frame) → new f ≡ new g → N g
      same g d = let a : f ≡ g = cc d in subst N a given

-- a new line may be marked
pub new_fit : (x line : List ℕ) (v : Verdict) (f : lines.Frame) → SoundInbox x → said_of v ≡ new f → Judgement x v (read line) → Fit x f.count f.index
new_fit x line v f X e J = go (read line) refl J
  where
    heed : (l : lines.Frame) → read line ≡ good l → (count_of x ≡ 0) ⊎ (count_of x ≡ l.count) → (b : Bool) → heard_at x l.index ≡ b
        → Heeds (said_of v ≡ repeat) (said_of v ≡ new l) b → Fit x f.count f.index
    heed l d q true h u = absurd (repeat_new f (sym u ∙ e))
    heed l d q false h u =
        let k = sym u ∙ e in
        let a : l ≡ f = cc k in
        let legal = (legal_exactly l).0 (parse_only line l ((good_parse line l).1 d)).1 in
        subst (λ (g : lines.Frame). Fit x g.count g.index) a (record { inbox = X; counts = q; small = legal.most; below = legal.below; new = h })

    go : (r : Reading) → read line ≡ r → Judgement x v r → Fit x f.count f.index
    go (fault n p) d u = absurd (refused_new n p f (sym u ∙ e))
    go (good l) d (fails p u) = absurd (refused_new _ _ f (sym u ∙ e))
    go (good l) d (passes p (fails q u)) = absurd (refused_new _ _ f (sym u ∙ e))
    go (good l) d (passes p (passes q (fails w u))) = absurd (refused_new _ _ f (sym u ∙ e))
    go (good l) d (passes p (passes q (passes w u))) = heed l d q (heard_at x l.index) refl u

-- an inbox that may mark an index, in the model's words
pub markable : {x : List ℕ} {count index : ℕ} → Fit x count index → Markable x count index
markable F = record { sound = F.inbox; small = F.small; below = F.below; counts = F.counts; new = F.new }

-- what a call says of a new line, from what its edit did: NO_ROOM and nothing changed, or done, and then the line is accepted
module _ (s : Step) (f : lines.Frame) {room changed : Type 0} {m : ℕ} (E : Check room ((m ≡ NO_ROOM) × (s.block' ≡ s.block)) ((m ≡ 0) × changed)) where
  pub no_room : m ≢ 0 → s.answer ≡ record { number = m; again = 0; missing = 0; place = 0 } → s.inbox' ≡ s.inbox
      → Check room (turned_away s NO_ROOM) (accepted s f changed)
  no_room ne a x = check_map E (λ u. (a ∙ ap told u.0, u.1, x)) (λ u. absurd (ne u.0))
    where
      told : ℕ → link.Heard
      told n = record { number = n; again = 0; missing = 0; place = 0 }

  pub was_done : m ≡ 0 → s.answer ≡ record { number = 0; again = 0; missing = missing (marked s.inbox f.count f.index); place = 0 }
      → s.inbox' ≡ marked s.inbox f.count f.index → Check room (turned_away s NO_ROOM) (accepted s f changed)
  was_done z a x = check_map E (λ u. let five : ◌≡◌ {A = ℕ} 5 0 = sym u.0 ∙ z in absurd (omega arith)) (λ u. (a, u.1, x))
