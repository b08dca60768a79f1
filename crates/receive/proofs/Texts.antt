-- The text is written from its first byte on: each piece is put behind the bytes before it, which stay.
use mathlib.Core.Path.{◌≡◌, refl, ap, sym, ◌∙◌}
use mathlib.Core.Logic.{◌≢◌}
use Prim.Native.Nat.{ℕ, suc, ◌+◌, ◌*◌, ◌≤◌, ◌<◌}
use mathlib.Core.List.{List, [], ◌∷◌, ◌++◌, append_assoc, append-nil}
use lib.ListN.{length, take, drop, set, length-append}
use lib.Seq.{length-take-le, take_at, take-suc-set}
use native.Mathlib.Omega.{arith}
use Rattle.model.specs.Tree.{Entry, entries}
use Rattle.model.specs.Heap.{Occupied, Named, Linked, size_at, load, tree}
use Rattle.model.specs.Block.{heap, room, SoundBlock}
use Rattle.model.specs.Frame.{digits}
use Rattle.model.specs.Text.{entry_line, entry_lines}
use Rattle.model.specs.Inbox.{SoundInbox, question}
use Rattle.model.specs.Calls.{fails, passes}
use Rattle.model.specs.Link.{Missing}
use Rattle.model.proofs.link.Digits.{length_digits}
use Rattle.model.proofs.block.Loads.{tree_node, tree-size, size_at_occupied}
use Rattle.model.proofs.block.Lookups.{link_occupied}
use Rattle.model.proofs.block.Versions.{version_named, tree-room}
use Rattle.block.specs.declared.Node.{Node}
use Rattle.block.specs.Outcome.{node_of}
use Rattle.receive.specs.Text.{text_of}

-- k digits from `at` to n
pub digits-put : (o p : List ℕ) (at k n x : ℕ) → at + k ≡ n → n ≤ length o → p ≡ take at o ++ (digits k x ++ drop (at + k) o)
    → take n p ≡ take at o ++ digits k x
digits-put o p at k n x e h w =
    let t : length (take at o) ≡ at = length-take-le at o (omega (arith, e, h)) in
    rw (w, sym (append_assoc (take at o) (digits k x) (drop (at + k) o)))
    (take_at (take at o ++ digits k x) (drop (at + k) o) n (omega (arith, e, length-append (take at o) (digits k x), t, length_digits k x)))

-- a newline behind them
pub newline_put : (p A : List ℕ) (m n : ℕ) → suc m ≡ n → m < length p → take m p ≡ A → take n (set p m 10) ≡ A ++ 10 ∷ []
newline_put p A m n e h w = rw (sym e) (take-suc-set p m 10 h ∙ ap (λ (a : List ℕ). a ++ 10 ∷ []) w)

-- an entry: two numbers and a newline
pub entry_put : (o p q : List ℕ) (at key value : ℕ) → at + 17 ≤ length o → length p ≡ length o → length q ≡ length o
    → p ≡ take at o ++ (digits 8 key ++ drop (at + 8) o) → q ≡ take (at + 8) p ++ (digits 8 value ++ drop (at + 8 + 8) p)
    → take (at + 17) (set q (at + 16) 10) ≡ take at o ++ entry_line (key, value)
unfolding entry_line
entry_put o p q at key value h lp lq first second =
    let one : take (at + 8) p ≡ take at o ++ digits 8 key = digits-put o p at 8 (at + 8) key refl (omega arith) first in
    let two : take (at + 16) q ≡ take (at + 8) p ++ digits 8 value = digits-put p q (at + 8) 8 (at + 16) value (omega arith) (omega (arith, lp)) second in
    newline_put q (take (at + 8) p ++ digits 8 value) (at + 16) (at + 17) (omega arith) (omega (arith, lq)) two ∙ rw one (ends (take at o) (digits 8 key) (digits 8 value))
  where
    ends : (T A B : List ℕ) → ((T ++ A) ++ B) ++ 10 ∷ [] ≡ T ++ (A ++ (B ++ 10 ∷ []))
    ends T A B = simp append_assoc

lines_append : (es fs : List Entry) → entry_lines (es ++ fs) ≡ entry_lines es ++ entry_lines fs
unfolding entry_lines
lines_append [] fs = refl
lines_append (e ∷ es) fs = rw (lines_append es fs) (sym (append_assoc (entry_line e) (entry_lines es) (entry_lines fs)))

-- the text of the tree below n
abbrev pub below : (b : List ℕ) (n : ℕ) → List ℕ
below b n = entry_lines (entries (tree (heap b) n))

-- what a call writes from `at` on
pub record Wrote (b : List ℕ) (n : ℕ) (o p : List ℕ) (at r : ℕ) : Type 0 where
  pub ends : r ≡ at + 17 * size_at (heap b) n
  pub text : take r p ≡ take at o ++ below b n

-- nothing below 0
pub wrote_none : {b o : List ℕ} {n at : ℕ} → n ≡ 0 → Wrote b n o o at at
unfolding tree load entries entry_lines
wrote_none {b} {o} {n} {at} e = rw e (record { ends = omega arith; text = sym (append-nil (take at o)) })

-- node n was read as m
pub record Reads (b : List ℕ) (n : ℕ) (m : Node) : Type 0 where
  pub linked : Linked (heap b)
  pub named : Named (heap b) n
  pub there : n ≢ 0
  pub is : m ≡ node_of (heap b) n

module _ {b : List ℕ} {n : ℕ} {m : Node} (R : Reads b n m) where
  occupied : Occupied (heap b) n
  occupied = link_occupied (heap b) n R.named R.there

  pub left_named : Named (heap b) m.left
  left_named = rw R.is (R.linked.lefts n occupied)

  pub right_named : Named (heap b) m.right
  right_named = rw R.is (R.linked.rights n occupied)

  pub sizes : size_at (heap b) n ≡ suc (size_at (heap b) m.left + size_at (heap b) m.right)
  sizes = rw R.is (size_at_occupied (heap b) R.linked n occupied ∙ R.linked.sizes n occupied)

  -- its text: the left side's, its entry, the right side's
  parts : below b n ≡ below b m.left ++ (entry_line (m.key, m.value) ++ below b m.right)
  unfolding entries entry_lines
  parts = rw R.is (rw (tree_node (heap b) R.linked n occupied) (lines_append (entries (tree (heap b) ((heap b).left n))) (((heap b).key n, (heap b).value n) ∷ entries (tree (heap b) ((heap b).right n)))))

  pub wrote_all : {o p q s : List ℕ} {at middle r : ℕ} → Wrote b m.left o p at middle
      → take (middle + 17) q ≡ take middle p ++ entry_line (m.key, m.value) → Wrote b m.right q s (middle + 17) r → Wrote b n o s at r
  wrote_all {o} {p} {q} {s} {at} {middle} {r} l e u = record { ends = omega (arith, sizes, l.ends, u.ends); text = u.text ∙ rw (e, l.text, parts) (joined (take at o) (below b m.left) (entry_line (m.key, m.value)) (below b m.right)) }
    where
      joined : (T A B C : List ℕ) → ((T ++ A) ++ B) ++ C ≡ T ++ (A ++ (B ++ C))
      joined T A B C = simp append_assoc

-- what is asked of reading an occupied node
pub within-room : (b : List ℕ) (n : ℕ) → Linked (heap b) → Named (heap b) n → n ≢ 0 → (1 ≤ n) × (n ≤ room b)
within-room b n L N ne = L.within n (link_occupied (heap b) n N ne)

-- version 0 of a block of 2,016 nodes has at most as many entries
pub root_fits : {b : List ℕ} (n : ℕ) → SoundBlock b → room b ≡ 2016 → n ≡ (heap b).root 0 → Named (heap b) n × (size_at (heap b) n ≤ 2016)
root_fits {b} n B e r =
    let N = version_named B 0 n (omega arith) r in
    (N, omega (arith, tree-size (heap b) B.sound.kept.linked n N, tree-room (heap b) B.sound n N, e))

-- the missing question of a sound inbox
pub missing_is : {x : List ℕ} {number m : ℕ} → SoundInbox x → Missing x number m → m ≡ question x
missing_is X (fails p r) = absurd (p X.long)
missing_is X (passes a (fails p r)) = absurd (p X)
missing_is X (passes a (passes c r)) = r.1

-- the entries from the first byte on, then how many lines are missing
pub text_put : (b x o p q : List ℕ) (n at m : ℕ) → n ≡ (heap b).root 0 → m ≡ question x → Wrote b n o p 0 at → at + 9 ≤ length p → length q ≡ length p
    → q ≡ take at p ++ (digits 8 m ++ drop (at + 8) p) → take (at + 9) (set q (at + 8) 10) ≡ text_of b x
text_put b x o p q n at m e f w h l d =
    let last : take (at + 8) q ≡ take at p ++ digits 8 m = digits-put p q at 8 (at + 8) m refl (omega arith) d in
    newline_put q (take at p ++ digits 8 m) (at + 8) (at + 9) (omega arith) (omega (arith, l)) last
    ∙ rw (w.text, sym e, sym f) (append_assoc (below b n) (digits 8 m) (10 ∷ []))
