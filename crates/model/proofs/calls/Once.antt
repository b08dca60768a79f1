-- For every input of every call there is one possible answer and one possible block afterwards.
use mathlib.Core.Path.{◌≡◌, sym, ◌∙◌}
use Prim.Native.Nat.{ℕ}
use mathlib.Core.Bool.{Bool, true, false}
use mathlib.Core.Option.{Option, none, some}
use mathlib.Core.List.{List}
use Rattle.model.specs.Block.{Words}
use Rattle.model.specs.Calls.{Check, fails, passes, Checked, Answer, Edit, Reads, Edits, Fresh}
use Rattle.model.specs.Frame.{Frame, Reading, good, fault, read}
use Rattle.model.specs.Inbox.{heard_at}
use Rattle.model.specs.Lists.{Report, Pieces, Lists}
use Rattle.model.specs.Lists as lists
use Rattle.model.specs.Link.{Parse, CheckedInbox, Begin, Missing, Heard, Step, unchanged, Takes, Says, Receive}
use Rattle.model.specs.Request.{read_request, Ask, Primary, Sends, Resend}
use Rattle.model.proofs.block.Pinned.{edited_once}

-- a check goes one way
pub check_once : {P R S M N G : Type 0} → Check P R M → Check P S N → (R → S → G) → (M → N → G) → G
check_once (fails p r) (fails q s) f g = f r s
check_once (fails p r) (passes q n) f g = absurd (p q)
check_once (passes p m) (fails q s) f g = absurd (q p)
check_once (passes p m) (passes q n) f g = g m n

-- the check of a block, and of an inbox
pub checked_once : (b : List ℕ) (n m : ℕ) → Checked b n → Checked b m → n ≡ m
checked_once b n m A C = check_once A C (λ p q. p ∙ sym q) (λ A C. check_once A C (λ p q. p ∙ sym q) (λ p q. p ∙ sym q))

pub checked_inbox_once : (x : List ℕ) (n m : ℕ) → CheckedInbox x n → CheckedInbox x m → n ≡ m
checked_inbox_once x n m A C = check_once A C (λ p q. p ∙ sym q) (λ A C. check_once A C (λ p q. p ∙ sym q) (λ p q. p ∙ sym q))

-- a call that only reads
pub reads_once : (b versions : List ℕ) (answer a c : Answer) → Reads b versions answer a → Reads b versions answer c → a ≡ c
reads_once b versions answer a c A C = check_once A C same (λ A C. check_once A C same (λ A C. check_once A C same same))
  where
    same : {x : Answer} → a ≡ x → c ≡ x → a ≡ c
    same p q = p ∙ sym q

-- a call that edits
pub edits_once : (b x y : List ℕ) (e : Edit) (a c : Answer) → Words x → Words y → Edits b x e a → Edits b y e c → (a ≡ c) × (x ≡ y)
edits_once b x y e a c wx wy A C = check_once A C kept (λ A C. check_once A C kept (λ A C. check_once A C kept (λ A C. check_once A C kept (λ A C. check_once A C kept (λ A C. check_once A C kept (λ A C. check_once A C kept
    (λ A C. (A.0 ∙ sym C.0, edited_once b x y e.dst _ A.1 C.1 wx wy))))))))
  where
    kept : {z : Answer} → (a ≡ z) × (x ≡ b) → (c ≡ z) × (y ≡ b) → (a ≡ c) × (x ≡ y)
    kept p q = (p.0 ∙ sym q.0, p.1 ∙ sym q.1)

pub fresh_once : (b x y : List ℕ) (n : ℕ) (a c : Answer) → Fresh b x n a → Fresh b y n c → (a ≡ c) × (x ≡ y)
fresh_once b x y n a c A C = check_once A C (λ p q. (p.0 ∙ sym q.0, p.1 ∙ sym q.1)) (λ p q. (p.0 ∙ sym q.0, p.1 ∙ sym q.1))

-- a call that lists
pub lists_once : (b out x y : List ℕ) (start : ℕ) (p : Pieces) (a c : Report) → Lists b out x start p a → Lists b out y start p c → (a ≡ c) × (x ≡ y)
lists_once b out x y start p a c A C = check_once A C same (λ A C. check_once A C same (λ A C. check_once A C same (λ A C. check_once A C same same)))
  where
    same : {r : Report} {z : List ℕ} → (a ≡ r) × (x ≡ z) → (c ≡ r) × (y ≡ z) → (a ≡ c) × (x ≡ y)
    same f g = (f.0 ∙ sym g.0, f.1 ∙ sym g.1)

-- the call that compares two versions
pub same_once : (b : List ℕ) (from to : ℕ) (r s : Answer) → lists.Same b from to r → lists.Same b from to s → r ≡ s
same_once b from to r s A C = check_once A C one (λ A C. check_once A C one (λ A C. check_once A C one (λ A C. check_once A C one one)))
  where
    one : {x : Answer} → r ≡ x → s ≡ x → r ≡ s
    one p q = p ∙ sym q

-- the calls that ask for lost lines, and send them
module _ (out x y : List ℕ) (start : ℕ) (a c : Report) where
  abbrev One : Type 0
  One = (a ≡ c) × (x ≡ y)

  one : {r : Report} {z : List ℕ} → (a ≡ r) × (x ≡ z) → (c ≡ r) × (y ≡ z) → One
  one f g = (f.0 ∙ sym g.0, f.1 ∙ sym g.1)

  pub ask_once : (inbox : List ℕ) → Ask inbox out x start a → Ask inbox out y start c → One
  ask_once inbox A C = check_once A C one (λ A C. check_once A C one one)

  sends_once : (p : Primary) (o : Option (List Frame)) → Sends p o out x start a → Sends p o out y start c → One
  sends_once p none A C = one A C
  sends_once p (some fs) A C = check_once A C one (λ A C. check_once A C one one)

  pub resend_once : (p : Primary) (request : List ℕ) → Resend p request out x start a → Resend p request out y start c → One
  resend_once p request A C = check_once A C one (λ A C. check_once A C one (λ A C. check_once A C one (sends_once p (read_request request))))

-- the calls of the link

pub parse-once : (said : Reading) (n m : ℕ) (f g : Frame) (i j : ℕ) → Parse said n f i → Parse said m g j → (n ≡ m) × (f ≡ g) × (i ≡ j)
parse-once (fault k h) n m f g i j p q = (p.0 ∙ sym q.0, p.1 ∙ sym q.1, p.2 ∙ sym q.2)
parse-once (good h) n m f g i j p q = (p.0 ∙ sym q.0, p.1 ∙ sym q.1, p.2 ∙ sym q.2)

pub begin_once : (x y z : List ℕ) (batch n m : ℕ) → Begin x y batch n → Begin x z batch m → (n ≡ m) × (y ≡ z)
begin_once x y z batch n m A C = check_once A C (λ p q. (p.0 ∙ sym q.0, p.1 ∙ sym q.1)) (λ p q. (p.0 ∙ sym q.0, p.1 ∙ sym q.1))

pub missing-once : (x : List ℕ) (n m i j : ℕ) → Missing x n i → Missing x m j → (n ≡ m) × (i ≡ j)
missing-once x n m i j A C = check_once A C same (λ A C. check_once A C same same)
  where
    same : {u w : ℕ} → (n ≡ u) × (i ≡ w) → (m ≡ u) × (j ≡ w) → (n ≡ m) × (i ≡ j)
    same p q = (p.0 ∙ sym q.0, p.1 ∙ sym q.1)

module _ (b x b1 b2 x1 x2 : List ℕ) (v : ℕ) (a c : Heard) (w1 : Words b1) (w2 : Words b2) where
  abbrev s : Step
  s = record { block = b; inbox = x; block' = b1; inbox' = x1; answer = a }

  abbrev t : Step
  t = record { block = b; inbox = x; block' = b2; inbox' = x2; answer = c }

  abbrev Same : Type 0
  Same = (a ≡ c) × (b1 ≡ b2) × (x1 ≡ x2)

  unchanged_once : {h : Heard} → unchanged s h → unchanged t h → Same
  unchanged_once p q = (p.0 ∙ sym q.0, p.1 ∙ sym q.1, p.2 ∙ sym q.2)

  takes_once : (f : Frame) (heard : Bool) → Takes s v f heard → Takes t v f heard → Same
  takes_once f true A C = unchanged_once A C
  takes_once f false A C = check_once A C unchanged_once (λ p q. (p.0 ∙ sym q.0, edited_once b b1 b2 v _ p.1 q.1 w1 w2, p.2 ∙ sym q.2))

  says_once : (said : Reading) → Says s v said → Says t v said → Same
  says_once (fault n p) A C = unchanged_once A C
  says_once (good f) A C = check_once A C unchanged_once (λ A C. check_once A C unchanged_once (λ A C. check_once A C unchanged_once (takes_once f (heard_at x f.index))))

  pub receive_once : (line : List ℕ) → Receive s v line → Receive t v line → Same
  receive_once line A C = check_once A C unchanged_once (λ A C. check_once A C unchanged_once (λ A C. check_once A C unchanged_once (λ A C. check_once A C unchanged_once (λ A C. check_once A C unchanged_once (says_once (read line))))))
