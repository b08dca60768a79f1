-- Which number a call gives: each exactly when document 01 says, call by call.
use mathlib.Core.Path.{◌≡◌, refl, ap, sym, subst, ◌∙◌}
use mathlib.Core.Logic.{◌≢◌, ◌⊎◌, inl, inr, ⊎_elim, ◌↔◌}
use Prim.Native.Nat.{ℕ, ◌+◌, ◌*◌, ◌≤◌, ◌<◌}
use mathlib.Core.Bool.{Bool, true, false, not, ◌&&◌, true≢false}
use mathlib.Core.Option.{Option, none, some}
use mathlib.Core.List.{List, [], ◌∷◌}
use lib.ListN.{length}
use lib.Dec.{eqb, leb}
use borrow.Author.Tests.{ltb-false, le-ltb, leb-false, lt-leb, le-leb, eqb-true, eq-eqb}
use native.Mathlib.Omega.{arith}
use native.Mathlib.Decide.{ℕ_discrete}
use Rattle.model.specs.Tree.{entries, height, lookup}
use Rattle.model.specs.Supply.{short}
use Rattle.model.specs.Rules.{remove}
use Rattle.model.specs.Heap.{version, free, supply}
use Rattle.model.specs.Block.{room, heap, Shaped, SoundBlock}
use Rattle.model.specs.Frame.{Frame, Reading, good, fault, read, parse}
use Rattle.model.specs.Inbox.{batch_of, count_of, heard_at, SoundInbox, begun}
use Rattle.model.specs.Numbers.{SHAPE, DAMAGED, VERSION, RULE, ZERO, SUM, NO_ROOM}
use Rattle.model.specs.Calls.{fails, passes, Answer, finding, Versions, Edit, Edits, Fitting, inserting, removing, copying, clearing, uniting, lessening}
use Rattle.model.specs.Link.{Begin, Heard, frame_rule, Step, Takes, PutsZero, Says, Receive}
use Rattle.model.proofs.maps.Tests.{not_true, not_false}
use Rattle.model.proofs.maps.Sorts.{ordered_sorted}
use Rattle.model.proofs.rules.Fits.{Exceeds, unfit_means, means_unfit}
use Rattle.model.proofs.block.Versions.{version_ordered}
use Rattle.model.proofs.rules.Room.{insert-room, remove-room}
use Rattle.model.proofs.running.Growing.{stocked_supply}
use Rattle.model.proofs.link.Lines.{fault_range, good_parse}
use Rattle.model.proofs.link.Receiving.{Belongs, Outcome, away, again, new, receive_outcome, receive_says, belongs_only_room}

-- the edits that are calls
pub data Called (b : List ℕ) : Edit → Type 0 where
  inserts : (dst src key value : ℕ) → Called b (inserting b dst src key value)
  removes : (dst src key : ℕ) → Called b (removing b dst src key)
  copies : (dst src : ℕ) → Called b (copying b dst src)
  clears : (v : ℕ) → Called b (clearing v)
  unites : (dst left right rule : ℕ) → Called b (uniting b dst left right rule)
  lessens : (dst left right rule : ℕ) (cancel : Bool) → Called b (lessening b dst left right rule cancel)

found_number : (o : Option ℕ) → (finding o).number ≡ 0
found_number none = refl
found_number (some v) = refl

pub done-number : {b : List ℕ} {e : Edit} → Called b e → e.answer.number ≡ 0
done-number {b} (inserts dst src key value) = found_number (lookup (version (heap b) src) key)
done-number {b} (removes dst src key) = found_number (lookup (version (heap b) src) key)
done-number (copies dst src) = refl
done-number (clears v) = refl
done-number (unites dst left right rule) = refl
done-number (lessens dst left right rule cancel) = refl

-- the number n, exactly
pub record Exactly (b : List ℕ) (e : Edit) (n : ℕ) : Type 0 where
  pub shape : (n ≡ SHAPE) ↔ (Shaped b → ⊥)
  pub damaged : (n ≡ DAMAGED) ↔ (Shaped b × (SoundBlock b → ⊥))
  pub version : (n ≡ VERSION) ↔ (SoundBlock b × (Versions e.versions → ⊥))
  pub rule : (n ≡ RULE) ↔ (SoundBlock b × Versions e.versions × (e.legal ≡ false))
  pub zero : (n ≡ ZERO) ↔ (SoundBlock b × Versions e.versions × (e.legal ≡ true) × (e.positive ≡ false))
  pub sum : (n ≡ SUM) ↔ (SoundBlock b × Versions e.versions × (e.legal ≡ true) × (e.positive ≡ true) × (e.fits ≡ false))
  -- a make of the rule finds no free node
  pub no_room : (n ≡ NO_ROOM) ↔ (SoundBlock b × Versions e.versions × (e.legal ≡ true) × (e.positive ≡ true) × (e.fits ≡ true) × (short (e.rule (supply (heap b))).1 ≡ true))

-- a number that is given, and one that is not
module _ {a : Answer} {X : Type 0} {k : ℕ} where
  given : {c : Answer} → a ≡ c → c.number ≡ k → X → (a.number ≡ k) ↔ X
  given e z x = ((λ _. x), (λ _. ap (λ (r : Answer). r.number) e ∙ z))

  other : {c : Answer} → a ≡ c → c.number ≢ k → (X → ⊥) → (a.number ≡ k) ↔ X
  other e ne f = ((λ z. absurd (ne (sym (ap (λ (r : Answer). r.number) e) ∙ z))), (λ x. absurd (f x)))

pub edit_numbers : {b after : List ℕ} {a : Answer} {e : Edit} → Called b e → Edits b after e a → Exactly b e a.number
edit_numbers C (fails p r) = record {
  shape = given r.0 refl p;
  damaged = other r.0 (omega arith) (λ x. p x.0);
  version = other r.0 (omega arith) (λ x. p x.0.shaped);
  rule = other r.0 (omega arith) (λ x. p x.0.shaped);
  zero = other r.0 (omega arith) (λ x. p x.0.shaped);
  sum = other r.0 (omega arith) (λ x. p x.0.shaped);
  no_room = other r.0 (omega arith) (λ x. p x.0.shaped);
}
edit_numbers C (passes p (fails q r)) = record {
  shape = other r.0 (omega arith) (λ x. x p);
  damaged = given r.0 refl (p, q);
  version = other r.0 (omega arith) (λ x. q x.0);
  rule = other r.0 (omega arith) (λ x. q x.0);
  zero = other r.0 (omega arith) (λ x. q x.0);
  sum = other r.0 (omega arith) (λ x. q x.0);
  no_room = other r.0 (omega arith) (λ x. q x.0);
}
edit_numbers C (passes p (passes q (fails u r))) = record {
  shape = other r.0 (omega arith) (λ x. x p);
  damaged = other r.0 (omega arith) (λ x. x.1 q);
  version = given r.0 refl (q, u);
  rule = other r.0 (omega arith) (λ x. u x.1);
  zero = other r.0 (omega arith) (λ x. u x.1);
  sum = other r.0 (omega arith) (λ x. u x.1);
  no_room = other r.0 (omega arith) (λ x. u x.1);
}
edit_numbers {e = e} C (passes p (passes q (passes u (fails l r)))) = record {
  shape = other r.0 (omega arith) (λ x. x p);
  damaged = other r.0 (omega arith) (λ x. x.1 q);
  version = other r.0 (omega arith) (λ x. x.1 u);
  rule = given r.0 refl (q, u, not_true e.legal l);
  zero = other r.0 (omega arith) (λ x. l x.2);
  sum = other r.0 (omega arith) (λ x. l x.2);
  no_room = other r.0 (omega arith) (λ x. l x.2);
}
edit_numbers {e = e} C (passes p (passes q (passes u (passes l (fails o r))))) = record {
  shape = other r.0 (omega arith) (λ x. x p);
  damaged = other r.0 (omega arith) (λ x. x.1 q);
  version = other r.0 (omega arith) (λ x. x.1 u);
  rule = other r.0 (omega arith) (λ x. true≢false (sym l ∙ x.2));
  zero = given r.0 refl (q, u, l, not_true e.positive o);
  sum = other r.0 (omega arith) (λ x. o x.3);
  no_room = other r.0 (omega arith) (λ x. o x.3);
}
edit_numbers {e = e} C (passes p (passes q (passes u (passes l (passes o (fails f r)))))) = record {
  shape = other r.0 (omega arith) (λ x. x p);
  damaged = other r.0 (omega arith) (λ x. x.1 q);
  version = other r.0 (omega arith) (λ x. x.1 u);
  rule = other r.0 (omega arith) (λ x. true≢false (sym l ∙ x.2));
  zero = other r.0 (omega arith) (λ x. true≢false (sym o ∙ x.3));
  sum = given r.0 refl (q, u, l, o, not_true e.fits f);
  no_room = other r.0 (omega arith) (λ x. f x.4);
}
edit_numbers {b} {e = e} C (passes p (passes q (passes u (passes l (passes o (passes f (fails m r))))))) = record {
  shape = other r.0 (omega arith) (λ x. x p);
  damaged = other r.0 (omega arith) (λ x. x.1 q);
  version = other r.0 (omega arith) (λ x. x.1 u);
  rule = other r.0 (omega arith) (λ x. true≢false (sym l ∙ x.2));
  zero = other r.0 (omega arith) (λ x. true≢false (sym o ∙ x.3));
  sum = other r.0 (omega arith) (λ x. true≢false (sym f ∙ x.4));
  no_room = given r.0 refl (q, u, l, o, f, not_false (short (e.rule (supply (heap b))).1) m);
}
edit_numbers {e = e} C (passes p (passes q (passes u (passes l (passes o (passes f (passes m r))))))) = record {
  shape = other r.0 (is_done 1 (omega arith)) (λ x. x p);
  damaged = other r.0 (is_done 2 (omega arith)) (λ x. x.1 q);
  version = other r.0 (is_done 3 (omega arith)) (λ x. x.1 u);
  rule = other r.0 (is_done 4 (omega arith)) (λ x. true≢false (sym l ∙ x.2));
  zero = other r.0 (is_done 13 (omega arith)) (λ x. true≢false (sym o ∙ x.3));
  sum = other r.0 (is_done 14 (omega arith)) (λ x. true≢false (sym f ∙ x.4));
  no_room = other r.0 (is_done 5 (omega arith)) (λ x. true≢false (sym x.5 ∙ m));
}
  where
    is_done : (k : ℕ) → 0 < k → e.answer.number ≢ k
    is_done k h z = omega (arith, done-number C)

-- SUM is given exactly when all else is in order, the rule is 4, and some key of both versions has a sum above 4,294,967,295
pub record Oversum (b : List ℕ) (dst left right rule : ℕ) : Type 0 where
  pub sound : SoundBlock b
  pub versions : Versions (dst ∷ left ∷ right ∷ [])
  pub four : rule ≡ 4
  pub exceeds : Exceeds (entries (version (heap b) left)) (entries (version (heap b) right))

pub sum_exactly : {b after : List ℕ} {a : Answer} (dst left right rule : ℕ) → Edits b after (uniting b dst left right rule) a → (a.number ≡ SUM) ↔ Oversum b dst left right rule
unfolding Versions
sum_exactly {b} {after} {a} dst left right rule E = (
  (λ z. let x = (edit_numbers (unites dst left right rule) E).sum.0 z in
      let (four, exceeds) = unfit_means rule _ _ (ordered_sorted _ (version_ordered x.0.sound left x.1.1.0)) (λ t. true≢false (sym t ∙ x.4)) in
      record { sound = x.0; versions = x.1; four = four; exceeds = exceeds }),
  (λ (O : Oversum b dst left right rule). (edit_numbers (unites dst left right rule) E).sum.1 (O.sound, O.versions, le-leb rule 4 (omega (arith, O.four)), refl, not_true (uniting b dst left right rule).fits (means_unfit rule _ _ O.four O.exceeds))),
)

-- insert answers ZERO exactly when block and versions are in order and the value is 0: whether the key is there or not, and whatever room there is
pub zero_exactly : {b after : List ℕ} {a : Answer} (dst src key value : ℕ) → Edits b after (inserting b dst src key value) a → (a.number ≡ ZERO) ↔ (SoundBlock b × Versions (dst ∷ src ∷ []) × (value ≡ 0))
zero_exactly dst src key value E =
    let X = (edit_numbers (inserts dst src key value) E).zero in
    ((λ z. let x = X.0 z in (x.0, x.1, omega (arith, ltb-false 0 value x.3))), (λ x. X.1 (x.0, x.1, refl, le-ltb 0 value (omega (arith, x.2)))))

-- union has rules 0 to 4
pub union_rules : (b : List ℕ) (dst left right rule : ℕ) → ((uniting b dst left right rule).legal ≡ false) ↔ (4 < rule)
union_rules b dst left right rule = (leb-false rule 4, lt-leb rule 4)

-- difference has rules 0 to 3, and rule 2 not with cancelling
pub difference_rules : (b : List ℕ) (dst left right rule : ℕ) (cancel : Bool) → ((lessening b dst left right rule cancel).legal ≡ false) ↔ ((3 < rule) ⊎ ((cancel ≡ true) × (rule ≡ 2)))
difference_rules b dst left right rule cancel = (to cancel (leb rule 3) refl (eqb rule 2) refl, ⊎_elim (λ h. rw (lt-leb rule 3 h) refl) (λ h. rw (h.0, eq-eqb rule 2 h.1, le-leb rule 3 (omega (arith, h.1))) refl))
  where
    to : (c t : Bool) → leb rule 3 ≡ t → (u : Bool) → eqb rule 2 ≡ u → (t && not (c && u)) ≡ false → (3 < rule) ⊎ ((c ≡ true) × (rule ≡ 2))
    to c false e u d z = inl (leb-false rule 3 e)
    to true true e true d z = inr (refl, eqb-true rule 2 d)
    to true true e false d z = absurd (true≢false z)
    to false true e u d z = absurd (true≢false z)

-- copy and clear make nothing, so they find room always
pub copy_finds_room : {b after : List ℕ} {a : Answer} (dst src : ℕ) → Edits b after (copying b dst src) a → a.number ≢ NO_ROOM
copy_finds_room {b} dst src E z = true≢false (sym ((edit_numbers (copies dst src) E).no_room.0 z).5 ∙ (stocked_supply (heap b)).enough)

pub clear_finds_room : {b after : List ℕ} {a : Answer} (v : ℕ) → Edits b after (clearing v) a → a.number ≢ NO_ROOM
clear_finds_room {b} v E z = true≢false (sym ((edit_numbers (clears v) E).no_room.0 z).5 ∙ (stocked_supply (heap b)).enough)

-- room that is enough: where three nodes are free for each level of the source's tree, and one more, an insert or a remove is not refused for it
module _ {b after : List ℕ} {a : Answer} (dst src key : ℕ) (enough : 3 * height (version (heap b) src) + 1 ≤ length (free (heap b))) where
  pub insert_finds_room : (value : ℕ) → Edits b after (inserting b dst src key value) a → a.number ≢ NO_ROOM
  unfolding supply
  insert_finds_room value E z = true≢false (sym ((edit_numbers (inserts dst src key value) E).no_room.0 z).5 ∙ insert-room (version (heap b) src) key value (supply (heap b)) (stocked_supply (heap b)).enough enough)

  pub remove_finds_room : Edits b after (removing b dst src key) a → a.number ≢ NO_ROOM
  unfolding supply
  remove_finds_room E z = true≢false (sym ((edit_numbers (removes dst src key) E).no_room.0 z).5 ∙ remove-room (version (heap b) src) key (supply (heap b)) (stocked_supply (heap b)).enough (omega (arith, enough)))

-- remove of an absent key acts as copy
pub remove_absent : {b after : List ℕ} {a : Answer} (dst src key : ℕ) → lookup (version (heap b) src) key ≡ none → Edits b after (removing b dst src key) a → Edits b after (copying b dst src) a
remove_absent {b} {after} {a} dst src key e = subst (λ (x : Edit). Edits b after x a) same
  where
    same : removing b dst src key ≡ copying b dst src
    same = unfold remove in rw (e, remove) refl

-- N is a multiple of 32 from 32 to 4,096
pub fitting_ends : Fitting 274 32 × Fitting 32913 4096 × ((words : ℕ) → Fitting words 0 → ⊥) × ((words : ℕ) → Fitting words 4128 → ⊥) × (Fitting 275 32 → ⊥) × ((words : ℕ) → Fitting words 48 → ⊥)
fitting_ends = (
  record { least = omega arith; most = omega arith; whole = refl; long = refl },
  record { least = omega arith; most = omega arith; whole = refl; long = refl },
  (λ words F. omega (arith, F.least)),
  (λ words F. omega (arith, F.most)),
  (λ F. omega (arith, F.long)),
  (λ words F. omega (arith, F.whole)),
)

-- a block has its shape exactly when fresh would take its length and its N
pub shape_fits : (b : List ℕ) → Shaped b ↔ Fitting (length b) (room b)
shape_fits b = (
  (λ S. record { least = S.least; most = S.most; whole = S.whole; long = S.long }),
  (λ F. record { least = F.least; most = F.most; whole = F.whole; long = F.long }),
)

-- begin checks the length only: whatever else the 130 words are
pub begin_begins : {x after : List ℕ} {n : ℕ} (batch : ℕ) → length x ≡ 130 → Begin x after batch n → (n ≡ 0) × (after ≡ begun batch)
begin_begins batch e (fails p r) = absurd (p e)
begin_begins batch e (passes p r) = r

-- Receive: NO_ROOM exactly when all before it is in order, the index is not heard yet, and a make of the frame's edit finds no free node.
pub record Crowded (s : Step) (v : ℕ) (line : List ℕ) : Type 0 where
  pub block : SoundBlock s.block
  pub inbox : SoundInbox s.inbox
  pub known : v < 16
  pub frame : Frame
  pub said : parse line ≡ some frame
  pub belongs : Belongs s.inbox frame
  pub new : heard_at s.inbox frame.index ≡ false
  pub short : short (frame_rule frame (version (heap s.block) v) (supply (heap s.block))).1 ≡ true

-- Receive: ZERO exactly when all before it is in order and the line puts a zero, whether its index is heard or not, and whatever room there is.
pub record Zeroed (s : Step) (v : ℕ) (line : List ℕ) : Type 0 where
  pub block : SoundBlock s.block
  pub inbox : SoundInbox s.inbox
  pub known : v < 16
  pub frame : Frame
  pub said : parse line ≡ some frame
  pub batch : frame.batch ≡ batch_of s.inbox
  pub counts : (count_of s.inbox ≡ 0) ⊎ (count_of s.inbox ≡ frame.count)
  pub zero : PutsZero frame

-- a check of it that fails says that a zero is put
not_worth : (f : Frame) → (¬ PutsZero f → ⊥) → PutsZero f
not_worth f n = go (ℕ_discrete f.kind 1) (ℕ_discrete f.value 0)
  where
    go : Dec (f.kind ≡ 1) → Dec (f.value ≡ 0) → PutsZero f
    go (yes k) (yes e) = (k, e)
    go (no k) e = absurd (n (λ z. k z.0))
    go (yes k) (no e) = absurd (n (λ z. e z.1))

module _ (s : Step) (v : ℕ) (line : List ℕ) where
  -- the answer has another number
  unlike : {a : Heard} {k : ℕ} → s.answer ≡ a → a.number ≢ k → s.answer.number ≡ k → ⊥
  unlike e ne z = ne (sym (ap (λ (a : Heard). a.number) e) ∙ z)

  takes_crowded : (f : Frame) → SoundBlock s.block → SoundInbox s.inbox → v < 16 → parse line ≡ some f → Belongs s.inbox f → (h : Bool) → heard_at s.inbox f.index ≡ h
      → Takes s v f h → s.answer.number ≡ NO_ROOM → Crowded s v line
  takes_crowded f B X lt e W true h u z = absurd (unlike u.0 (omega arith) z)
  takes_crowded f B X lt e W false h (fails p u) z =
      record { block = B; inbox = X; known = lt; frame = f; said = e; belongs = W; new = h; short = not_false (short (frame_rule f (version (heap s.block) v) (supply (heap s.block))).1) p }
  takes_crowded f B X lt e W false h (passes p u) z = absurd (unlike u.0 (omega arith) z)

  says_crowded : SoundBlock s.block → SoundInbox s.inbox → v < 16 → (r : Reading) → read line ≡ r → Says s v r → s.answer.number ≡ NO_ROOM → Crowded s v line
  says_crowded B X lt (fault n p) e u z = absurd (unlike u.0 (λ five. omega (arith, five, (fault_range line n p e).0)) z)
  says_crowded B X lt (good f) e (fails p u) z = absurd (unlike u.0 (omega arith) z)
  says_crowded B X lt (good f) e (passes p (fails q u)) z = absurd (unlike u.0 (omega arith) z)
  says_crowded B X lt (good f) e (passes p (passes q (fails w u))) z = absurd (unlike u.0 (omega arith) z)
  says_crowded B X lt (good f) e (passes p (passes q (passes w T))) z = takes_crowded f B X lt ((good_parse line f).1 e) (record { batch = p; counts = q; worth = w }) (heard_at s.inbox f.index) refl T z

  crowded : Receive s v line → s.answer.number ≡ NO_ROOM → Crowded s v line
  crowded (fails p u) z = absurd (unlike u.0 (omega arith) z)
  crowded (passes a (fails p u)) z = absurd (unlike u.0 (omega arith) z)
  crowded (passes a (passes c (fails p u))) z = absurd (unlike u.0 (omega arith) z)
  crowded (passes a (passes c (passes d (fails p u)))) z = absurd (unlike u.0 (omega arith) z)
  crowded (passes a (passes c (passes d (passes e (fails p u))))) z = absurd (unlike u.0 (omega arith) z)
  crowded (passes a (passes c (passes d (passes e (passes g T))))) z = says_crowded d e g (read line) refl T z

  pub receive_no_room : Receive s v line → (s.answer.number ≡ NO_ROOM) ↔ Crowded s v line
  receive_no_room R = (crowded R, back)
    where
      -- it is answered 0 or NO_ROOM, and not 0: the index is not heard, and the edit is short
      back : Crowded s v line → s.answer.number ≡ NO_ROOM
      back C = ⊎_elim (λ z. absurd (done z (receive_outcome s v line R))) (λ z. z) (belongs_only_room s v line C.frame C.block C.inbox C.known R C.said C.belongs)
        where
          done : s.answer.number ≡ 0 → Outcome s v (parse line) → ⊥
          done z (away n b x) = n z
          done z (again f e W h a b x) = let p : f ≡ C.frame = cc (sym e ∙ C.said) in true≢false (sym h ∙ ap (λ (g : Frame). heard_at s.inbox g.index) p ∙ C.new)
          done z (new f e W h a (r, E) x) = let p : f ≡ C.frame = cc (sym e ∙ C.said) in true≢false (sym C.short ∙ ap (λ (g : Frame). short (frame_rule g (version (heap s.block) v) (supply (heap s.block))).1) (sym p) ∙ r)

  takes_other : (f : Frame) (h : Bool) → Takes s v f h → s.answer.number ≡ ZERO → ⊥
  takes_other f true u z = unlike u.0 (omega arith) z
  takes_other f false (fails p u) z = unlike u.0 (omega arith) z
  takes_other f false (passes p u) z = unlike u.0 (omega arith) z

  says_zeroed : SoundBlock s.block → SoundInbox s.inbox → v < 16 → (r : Reading) → read line ≡ r → Says s v r → s.answer.number ≡ ZERO → Zeroed s v line
  says_zeroed B X lt (fault n p) e u z = absurd (unlike u.0 (λ thirteen. omega (arith, thirteen, (fault_range line n p e).1)) z)
  says_zeroed B X lt (good f) e (fails p u) z = absurd (unlike u.0 (omega arith) z)
  says_zeroed B X lt (good f) e (passes p (fails q u)) z = absurd (unlike u.0 (omega arith) z)
  says_zeroed B X lt (good f) e (passes p (passes q (fails w u))) z = record { block = B; inbox = X; known = lt; frame = f; said = (good_parse line f).1 e; batch = p; counts = q; zero = not_worth f w }
  says_zeroed B X lt (good f) e (passes p (passes q (passes w T))) z = absurd (takes_other f (heard_at s.inbox f.index) T z)

  zeroed : Receive s v line → s.answer.number ≡ ZERO → Zeroed s v line
  zeroed (fails p u) z = absurd (unlike u.0 (omega arith) z)
  zeroed (passes a (fails p u)) z = absurd (unlike u.0 (omega arith) z)
  zeroed (passes a (passes c (fails p u))) z = absurd (unlike u.0 (omega arith) z)
  zeroed (passes a (passes c (passes d (fails p u)))) z = absurd (unlike u.0 (omega arith) z)
  zeroed (passes a (passes c (passes d (passes e (fails p u))))) z = absurd (unlike u.0 (omega arith) z)
  zeroed (passes a (passes c (passes d (passes e (passes g T))))) z = says_zeroed d e g (read line) refl T z

  pub receive_zero : Receive s v line → (s.answer.number ≡ ZERO) ↔ Zeroed s v line
  receive_zero R = (zeroed R, (λ C. back C (subst (Says s v) ((good_parse line C.frame).0 C.said) (receive_says s v line C.block C.inbox C.known R))))
    where
      back : (C : Zeroed s v line) → Says s v (good C.frame) → s.answer.number ≡ ZERO
      back C (fails p u) = absurd (p C.batch)
      back C (passes p (fails q u)) = absurd (q C.counts)
      back C (passes p (passes q (fails w u))) = ap (λ (a : Heard). a.number) u.0
      back C (passes p (passes q (passes w T))) = absurd (w C.zero)
