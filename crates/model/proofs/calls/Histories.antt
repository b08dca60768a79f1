-- A block that the table's calls reach from a fresh one is sound and its versions are balanced, since every call's rule keeps balance.
use mathlib.Core.Path.{◌≡◌, refl, ap, sym, subst, ◌∙◌}
use Prim.Native.Nat.{ℕ, ◌≤◌, ◌<◌}
use mathlib.Core.Bool.{Bool, true, false}
use mathlib.Core.List.{List, [], ◌∷◌}
use lib.ListN.{length}
use native.Mathlib.Omega.{arith}
use native.Mathlib.Decide.{ℕ_discrete}
use Rattle.model.specs.Tree.{Tree}
use Rattle.model.specs.Supply.{Supply}
use Rattle.model.specs.Rules.{merge_by, diff_by}
use Rattle.model.specs.Balance.{Balanced}
use Rattle.model.specs.Heap.{version, supply}
use Rattle.model.specs.Block.{heap}
use Rattle.model.specs.Frame.{Frame, Reading, good, fault, read}
use Rattle.model.specs.Inbox.{heard_at}
use Rattle.model.specs.Calls.{fails, passes, Answer, Versions, Edited, Edit, Edits, giving, Fresh, Fitting, fresh_block}
use Rattle.model.specs.Batch.{Record, batch_rule, Batched}
use Rattle.model.specs.Link.{frame_rule, Step, Takes, Says, Receive}
use Rattle.model.specs.Replica.{Hearing, still, then}
use Rattle.model.specs.Text.{entries_of}
use Rattle.model.specs.Restore.{built, Restore}
use Rattle.model.specs.Reached.{Call, insert, remove, copy, clear, union, difference, edit_of, Reached, fresh, edited, batched, batched_words, received, restored, BalancedBlock}
use Rattle.model.proofs.block.FreshBlock.{fresh_sound, fresh_empty}
use Rattle.model.proofs.calls.Builds.{built-balanced}
use Rattle.model.proofs.rules.Balances.{insert-balanced, remove-balanced, edit_by-balanced, union-balanced, difference-balanced}

-- a refusal leaves the block
unmoved : {b after : List ℕ} → BalancedBlock b → after ≡ b → BalancedBlock after
unmoved B e = subst BalancedBlock (sym e) B

-- one version becomes a balanced tree
pub edited_balanced : {b after : List ℕ} (dst : ℕ) (t : Tree) → BalancedBlock b → Balanced t → Edited b after dst t → BalancedBlock after
edited_balanced {b} {after} dst t B bt E = record { sound = E.sound; balanced = λ v lt. at v lt (ℕ_discrete v dst) }
  where
    at : (v : ℕ) → v < 16 → Dec (v ≡ dst) → Balanced (version (heap after) v)
    at v lt (yes e) = rw e (rw E.here bt)
    at v lt (no ne) = rw (E.others v lt ne) (B.balanced v lt)

-- Edits

-- a call that is an edit keeps balance, whatever it answers, if its rule gives a balanced tree
pub edits_balanced : {b after : List ℕ} {a : Answer} (e : Edit) → BalancedBlock b → (Versions e.versions → Balanced (e.rule (supply (heap b))).0) → Edits b after e a → BalancedBlock after
edits_balanced e B rule (fails p r) = unmoved B r.1
edits_balanced e B rule (passes p (fails q r)) = unmoved B r.1
edits_balanced e B rule (passes p (passes q (fails u r))) = unmoved B r.1
edits_balanced e B rule (passes p (passes q (passes u (fails l r)))) = unmoved B r.1
edits_balanced e B rule (passes p (passes q (passes u (passes l (fails o r))))) = unmoved B r.1
edits_balanced e B rule (passes p (passes q (passes u (passes l (passes o (fails f r)))))) = unmoved B r.1
edits_balanced e B rule (passes p (passes q (passes u (passes l (passes o (passes f (fails m r))))))) = unmoved B r.1
edits_balanced {b} e B rule (passes p (passes q (passes u (passes l (passes o (passes f (passes m r))))))) = edited_balanced e.dst (e.rule (supply (heap b))).0 B (rule u) r.1

call_balanced : {b : List ℕ} (c : Call) → BalancedBlock b → Versions (edit_of b c).versions → Balanced ((edit_of b c).rule (supply (heap b))).0
unfolding Versions Balanced
call_balanced {b} (insert dst src key value) B u = insert-balanced (version (heap b) src) key value (supply (heap b)) (B.balanced src u.1.0)
call_balanced {b} (remove dst src key) B u = remove-balanced (version (heap b) src) key (supply (heap b)) (B.balanced src u.1.0)
call_balanced (copy dst src) B u = B.balanced src u.1.0
call_balanced (clear v) B u = tt
call_balanced {b} (union dst left right rule) B u =
    union-balanced (merge_by rule) (version (heap b) left) (version (heap b) right) (supply (heap b)) (B.balanced left u.1.0) (B.balanced right u.1.1.0)
call_balanced {b} (difference dst left right rule cancel) B u =
    difference-balanced (diff_by rule) cancel (version (heap b) left) (version (heap b) right) (supply (heap b)) (B.balanced left u.1.0) (B.balanced right u.1.1.0)

-- Batches

batch_rule-balanced : (es : List Record) (t : Tree) (s : Supply) → Balanced t → Balanced (batch_rule es t s).0
unfolding batch_rule
batch_rule-balanced [] t s b = b
batch_rule-balanced (e ∷ es) t s b = batch_rule-balanced es _ _ (edit_by-balanced e.kind e.key e.value t s b)

-- whatever is asked of the records, and whatever it answers
pub batch_balanced : {b after : List ℕ} {legal : Type 0} {n : ℕ} (dst src : ℕ) (es : List Record) → BalancedBlock b → Batched b after dst src legal es n → BalancedBlock after
unfolding Versions
batch_balanced dst src es B (fails p r) = unmoved B r.1
batch_balanced dst src es B (passes p (fails q r)) = unmoved B r.1
batch_balanced dst src es B (passes p (passes q (fails u r))) = unmoved B r.1
batch_balanced dst src es B (passes p (passes q (passes u (fails l r)))) = unmoved B r.1
batch_balanced dst src es B (passes p (passes q (passes u (passes l (fails z r))))) = unmoved B r.1
batch_balanced dst src es B (passes p (passes q (passes u (passes l (passes z (fails m r)))))) = unmoved B r.1
batch_balanced {b} dst src es B (passes p (passes q (passes u (passes l (passes z (passes m r)))))) =
    let t = version (heap b) src in
    edited_balanced dst (batch_rule es t (supply (heap b))).0 B (batch_rule-balanced es t (supply (heap b)) (B.balanced src u.1.0)) r.1

-- Lines

frame_rule-balanced : (f : Frame) (t : Tree) (s : Supply) → Balanced t → Balanced (frame_rule f t s).0
unfolding frame_rule
frame_rule-balanced f t s b = edit_by-balanced f.kind f.key f.value t s b

-- whatever it is answered
pub receive_balanced : (s : Step) (v : ℕ) (line : List ℕ) → BalancedBlock s.block → Receive s v line → BalancedBlock s.block'
receive_balanced s v line B (fails p r) = unmoved B r.1
receive_balanced s v line B (passes a (fails p r)) = unmoved B r.1
receive_balanced s v line B (passes a (passes c (fails p r))) = unmoved B r.1
receive_balanced s v line B (passes a (passes c (passes d (fails p r)))) = unmoved B r.1
receive_balanced s v line B (passes a (passes c (passes d (passes e (fails p r))))) = unmoved B r.1
receive_balanced s v line B (passes a (passes c (passes d (passes e (passes lt T))))) = says (read line) T
  where
    takes : (f : Frame) (heard : Bool) → Takes s v f heard → BalancedBlock s.block'
    takes f true r = unmoved B r.1
    takes f false (fails p r) = unmoved B r.1
    takes f false (passes p r) =
        let t = version (heap s.block) v in
        edited_balanced v (frame_rule f t (supply (heap s.block))).0 B (frame_rule-balanced f t (supply (heap s.block)) (B.balanced v lt)) r.1

    says : (o : Reading) → Says s v o → BalancedBlock s.block'
    says (fault n p) r = unmoved B r.1
    says (good f) (fails p r) = unmoved B r.1
    says (good f) (passes p (fails q r)) = unmoved B r.1
    says (good f) (passes p (passes q (fails z r))) = unmoved B r.1
    says (good f) (passes p (passes q (passes z T))) = takes f (heard_at s.inbox f.index) T

-- Restores

-- whatever it answers: its tree is built from the middle
pub restore_balanced : {b after : List ℕ} {n line : ℕ} (v : ℕ) (text : List ℕ) → BalancedBlock b → Restore b after v text n line → BalancedBlock after
restore_balanced v text B (fails p r) = unmoved B r.2
restore_balanced v text B (passes p (fails q r)) = unmoved B r.2
restore_balanced v text B (passes p (passes q (fails u r))) = unmoved B r.2
restore_balanced v text B (passes p (passes q (passes u (fails f r)))) = unmoved B r.1
restore_balanced v text B (passes p (passes q (passes u (passes f (fails m r))))) = unmoved B r.2
restore_balanced {b} v text B (passes p (passes q (passes u (passes f (passes m r))))) =
    let es = entries_of text in
    let fits : length es ≤ length es = omega arith in
    edited_balanced v (built (length es) es (supply (heap b))).0 B (built-balanced (length es) es (supply (heap b)) fits) r.2

-- A fresh call that is done

fresh_balanced : {b after : List ℕ} {a : Answer} (n : ℕ) → Fresh b after n a → a.number ≡ 0 → BalancedBlock after
unfolding Balanced
fresh_balanced n (fails p r) z = let e : ◌≡◌ {A = ℕ} 1 0 = sym (ap (λ (x : Answer). x.number) r.0) ∙ z in absurd (omega arith)
fresh_balanced {b} n (passes F r) z = subst BalancedBlock (sym r.1) (record { sound = fresh_sound n (length b) F; balanced = λ v lt. rw (fresh_empty n (length b) F v) tt })

-- The theorems

-- a reached block is sound and its sixteen versions are balanced
pub reached_balanced : {b : List ℕ} → Reached b → BalancedBlock b
reached_balanced (fresh n F z) = fresh_balanced n F z
reached_balanced (edited {b = b} c R E) = let B = reached_balanced R in edits_balanced (edit_of b c) B (call_balanced c B) E
reached_balanced (batched dst src es R E) = batch_balanced dst src es (reached_balanced R) E
reached_balanced (batched_words dst src ws R E) = batch_balanced dst src _ (reached_balanced R) E
reached_balanced (received v line R r) = receive_balanced _ v line (reached_balanced R) r
reached_balanced (restored v text R r) = restore_balanced v text (reached_balanced R) r

-- every fresh block is reached
pub fresh_reached : (b : List ℕ) (n : ℕ) → Fitting (length b) n → Reached (fresh_block n)
fresh_reached b n F = fresh {b = b} {a = giving 0} n (passes F (refl, refl)) refl

-- and what a standby comes to that hears lines, if its host only makes the table's calls between them
pub hearing_reached : {host : List ℕ → List ℕ → Type 0} {v : ℕ} {b x c y : List ℕ} {lines : List (List ℕ)} → ((d e : List ℕ) → host d e → Reached d → Reached e)
    → Hearing host v b x lines c y → Reached b → Reached c
hearing_reached by still R = R
hearing_reached {v = v} by (then {b = b} {a = a} {line = line} answer h r later) R = hearing_reached by later (received v line (by b a h R) r)
