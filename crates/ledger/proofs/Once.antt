-- For every input of every operation there is one possible answer, one possible ledger and one possible block afterwards.
use mathlib.Core.Path.{◌≡◌, sym, subst, ◌∙◌}
use Prim.Native.Nat.{ℕ}
use mathlib.Core.List.{List, [], ◌∷◌}
use Rattle.model.specs.Tree.{lookup}
use Rattle.model.specs.Heap.{version}
use Rattle.model.specs.Block as blocks
use Rattle.model.specs.Block.{heap}
use Rattle.model.specs.Calls.{Check, Answer, finding, Edit, inserting, removing}
use Rattle.model.proofs.calls.Once.{check_once, reads_once, edits_once}
use Rattle.ledger.specs.Numbers.{LOOKUP, EDIT_REFUSED}
use Rattle.ledger.specs.Ledger.{account_of, less_free, settled_for, Reply, replying, Act, turned_away, Begins, Ends, Fresh, TopUp, Reserve, Settle, Totals, Account}
use Rattle.ledger.specs.Steps.{Operation, top_up, reserve, settle, release, Does}

pub fresh_once : (l x y : List ℕ) (n i j : ℕ) → Fresh l x n i → Fresh l y n j → (i ≡ j) × (x ≡ y)
fresh_once l x y n i j A C = check_once A C (λ p q. (p.0 ∙ sym q.0, p.1 ∙ sym q.1)) (λ p q. (p.0 ∙ sym q.0, p.1 ∙ sym q.1))

pub top_up_once : (l x y : List ℕ) (a minutes i j : ℕ) → TopUp l x a minutes i → TopUp l y a minutes j → (i ≡ j) × (x ≡ y)
top_up_once l x y a minutes i j A C = check_once A C same (λ A C. check_once A C same (λ A C. check_once A C same same))
  where
    same : {n : ℕ} {w : List ℕ} → (i ≡ n) × (x ≡ w) → (j ≡ n) × (y ≡ w) → (i ≡ j) × (x ≡ y)
    same p q = (p.0 ∙ sym q.0, p.1 ∙ sym q.1)

pub account_once : (l : List ℕ) (a : ℕ) (t u : Totals) → Account l a t → Account l a u → t ≡ u
account_once l a t u A C = check_once A C same (λ A C. check_once A C same same)
  where
    same : {w : Totals} → t ≡ w → u ≡ w → t ≡ u
    same p q = p ∙ sym q

pub replies : {n m t u : ℕ} → n ≡ m → t ≡ u → replying n t ≡ replying m u
replies p q = cc

-- the same input, and all that comes out
abbrev act : (l b l' b' : List ℕ) → Reply → Act
act l b l' b' answer = record { ledger = l; block = b; ledger' = l'; block' = b'; answer = answer }

module _ (v : ℕ) (l b x c y d : List ℕ) (i j : Reply) (wc : blocks.Words c) (wd : blocks.Words d) where
  abbrev One : Type 0
  One = (i ≡ j) × (x ≡ y) × (c ≡ d)

  abbrev s : Act
  s = act l b x c i

  abbrev t : Act
  t = act l b y d j

  same : {n m : ℕ} → turned_away s n m → turned_away t n m → One
  same p q = (p.0 ∙ sym q.0, p.1 ∙ sym q.1, p.2 ∙ sym q.2)

  begins_once : (call : ℕ) (M N : Answer → Type 0) → Begins l b v call (turned_away s) M → Begins l b v call (turned_away t) N
      → ((a : Answer) → M a → N a → One) → One
  begins_once call M N A C f = check_once A C same (λ A C. check_once A C same (λ A C. looked A.0 C.0 (reads_once b (v ∷ []) (finding (lookup (version (heap b) v) call)) A.0 C.0 A.1 C.1) A.2 C.2))
    where
      looked : (a k : Answer) → a ≡ k → Check (a.number ≡ 0) (turned_away s LOOKUP a.number) (M a)
          → Check (k.number ≡ 0) (turned_away t LOOKUP k.number) (N k) → One
      looked a k e A C = check_once A (subst (λ (k : Answer). Check (k.number ≡ 0) (turned_away t LOOKUP k.number) (N k)) (sym e) C) same (f a)

  ends_once : (e : Edit) (after : List ℕ) → Ends s e after → Ends t e after → One
  ends_once e after A C = let E = edits_once b c d e A.0 C.0 wc wd A.1 C.1 in edited A.0 C.0 E.0 E.1 A.2 C.2
    where
      edited : (a k : Answer) → a ≡ k → c ≡ d
          → Check (a.number ≡ 0) (turned_away s EDIT_REFUSED a.number) ((i ≡ replying 0 0) × (x ≡ after))
          → Check (k.number ≡ 0) (turned_away t EDIT_REFUSED k.number) ((j ≡ replying 0 0) × (y ≡ after)) → One
      edited a k e u A C =
          check_once A (subst (λ (k : Answer). Check (k.number ≡ 0) (turned_away t EDIT_REFUSED k.number) ((j ≡ replying 0 0) × (y ≡ after))) (sym e) C) same
          (λ p q. (p.0 ∙ sym q.0, p.1 ∙ sym q.1, u))

  pub reserve_once : (call minutes : ℕ) → Reserve s v call minutes → Reserve t v call minutes → One
  reserve_once call minutes A C =
      begins_once call _ _ A C (λ a A C. check_once A C same (λ A C. check_once A C same (ends_once (inserting b v v call minutes) (less_free l (account_of call) minutes))))

  pub settle_once : (call used : ℕ) → Settle s v call used → Settle t v call used → One
  settle_once call used A C =
      begins_once call _ _ A C
      (λ a A C. check_once A C same (λ A C. check_once A C same (λ A C. check_once A C same (ends_once (removing b v v call) (settled_for l (account_of call) a.value used)))))

  pub ledger_once : (o : Operation) → Does s v o → Does t v o → One
  ledger_once (top_up a minutes) A C = let T = top_up_once l x y a minutes i.number j.number A.0 C.0 in (replies T.0 (A.1 ∙ sym C.1), T.1, A.2 ∙ sym C.2)
  ledger_once (reserve call minutes) A C = reserve_once call minutes A C
  ledger_once (settle call used) A C = settle_once call used A C
  ledger_once (release call) A C = settle_once call 0 A C
