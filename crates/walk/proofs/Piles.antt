-- Places written from the top on are items pushed, and a shorter cursor is its items popped.
use mathlib.Core.Path.{◌≡◌, refl, ap, ◌∙◌}
use mathlib.Core.Logic.{◌≢◌, ◌⊎◌, inl, inr}
use mathlib.Core.Bool.{not}
use mathlib.Core.List.{List, ◌∷◌}
use Prim.Native.Nat.{ℕ, zero, suc, ◌+◌, ◌-◌, ◌≤◌, ◌<◌}
use native.Mathlib.Nat.{sub-zero}
use native.Mathlib.Numerals.{add-one, sub-one}
use native.Mathlib.Omega.{arith}
use lib.ListN.{length, get_or, set, drop, length-set, length-drop}
use lib.Dec.{eqb}
use borrow.Author.Tests.{ne_eqb}
use lib.Seq.{get_or-set_same, get_or-set_other}
use Rattle.model.specs.Heap.{Heap}
use Rattle.walk.specs.declared.Pending.{Pending}
use Rattle.walk.specs.declared.Pending.TheVariants.{Tree, Entry}
use mir.Val.{bool_byte}
use Rattle.walk.specs.Cursors.{nowhere, pile, top, begun, kid, opened_on}
use Rattle.std.specs.Prelude.{Some, None}

pile-set : (xs : List Pending) (i n : ℕ) (p : Pending) → n ≤ i → pile (set xs i p) n ≡ pile xs n
unfolding pile
pile-set xs i zero p h = refl
pile-set xs i (suc n) p h =
    let e : get_or (set xs i p) n nowhere ≡ get_or xs n nowhere = get_or-set_other xs i n p nowhere (λ q. omega arith) in
    rw (e, pile-set xs i n p (omega arith))

pile_push : (xs : List Pending) (n : ℕ) (p : Pending) → n < length xs → pile (set xs n p) (n + 1) ≡ p ∷ pile xs n
unfolding pile
pile_push xs n p h = rw (add-one, get_or-set_same xs n p nowhere h, pile-set xs n n p (omega arith))

pile_top : (xs : List Pending) (n : ℕ) → 0 < n → pile xs n ≡ get_or xs (n - 1) nowhere ∷ pile xs (n - 1)
unfolding pile
pile_top xs zero h = absurd (omega arith)
pile_top xs (suc n) h = rw sub-one

pub length-pile : (xs : List Pending) (n : ℕ) → length (pile xs n) ≡ n
unfolding pile
length-pile xs zero = refl
length-pile xs (suc n) = ap suc (length-pile xs n)

pub pile-drop : (xs : List Pending) (n i : ℕ) → i ≤ n → pile xs (n - i) ≡ drop i (pile xs n)
unfolding pile
pile-drop xs n zero h = rw sub-zero
pile-drop xs zero (suc i) h = absurd (omega arith)
pile-drop xs (suc n) (suc i) h =
    let e : suc n - suc i ≡ n - i = omega arith in
    rw (e, pile-drop xs n i (omega arith))

top_at : (xs : List Pending) (n i : ℕ) → i ≡ n - 1 → 0 < n → pile xs n ≡ get_or xs i nowhere ∷ pile xs i
top_at xs n i e h = rw e (pile_top xs n h)

-- the length of what is pending
pub piled : (xs : List Pending) (n : ℕ) (s : List Pending) → pile xs n ≡ s → length s ≡ n
piled xs n s e = rw (← e) (length-pile xs n)

pub top_none : (xs : List Pending) (n : ℕ) → n ≡ 0 → None ≡ top (pile xs n)
unfolding pile
top_none xs n e = rw e

pub top_some : (xs : List Pending) (n : ℕ) → n ≢ 0 → Some (get_or xs (n - 1) nowhere) ≡ top (pile xs n)
top_some xs n h = rw (pile_top xs n (omega arith))

-- 1 for a link, 0 for none
abbrev pub is_link : ℕ → ℕ
is_link zero = 0
is_link (suc n) = 1

pub link_is : (n : ℕ) → bool_byte (not (eqb n 0)) ≡ is_link n
link_is zero = refl
link_is (suc n) = rw (ne_eqb (suc n) 0 (λ q. omega arith))

pub begun_pile : (xs : List Pending) (root n : ℕ) → n ≡ bool_byte (not (eqb root 0)) → get_or xs 0 nowhere ≡ Tree root → pile xs n ≡ begun root
unfolding pile
begun_pile xs zero n e f = let g : n ≡ 0 = e ∙ link_is zero in rw g
begun_pile xs (suc r) n e f = let g : n ≡ 1 = e ∙ link_is (suc r) in rw (g, f)

kid_set : (xs : List Pending) (i w at : ℕ) → at ≡ i + is_link w → at < length xs → pile (set xs i (Tree w)) at ≡ kid w (pile xs i)
kid_set xs i zero at e h =
    let f : at ≡ i = omega arith in
    rw (f, pile-set xs i i (Tree 0) (omega arith))
kid_set xs i (suc w) at e h =
    let f : at ≡ i + 1 = omega arith in
    rw (f, pile_push xs i (Tree (suc w)) (omega arith))

-- a link w, an entry and a link v pushed, where no link v is the entry again
three_set : (xs : List Pending) (i w v at last : ℕ) (e p : Pending) → at ≡ i + is_link w → last ≡ at + is_link v → last < length xs
    → ((v ≡ 0) × (p ≡ e)) ⊎ ((v ≢ 0) × (p ≡ Tree v))
    → pile (set (set (set xs i (Tree w)) at e) last p) (last + 1) ≡ kid v (e ∷ kid w (pile xs i))
three_set xs i w zero at last e p a b h (inr (m, t)) = absurd (m refl)
three_set xs i w zero at last e p a b h (inl (z, m)) =
    let t : Pending = Tree w in
    let f : last ≡ at = omega arith in
    rw (f, pile_push (set (set xs i t) at e) at p (omega (arith, length-set (set xs i t) at e, length-set xs i t)), pile-set (set xs i t) at at e (omega arith), m, kid_set xs i w at a (omega arith))
three_set xs i w (suc v) at last e p a b h (inl (z, m)) = absurd (omega arith)
three_set xs i w (suc v) at last e p a b h (inr (z, m)) =
    let t : Pending = Tree w in
    let f : last ≡ at + 1 = omega arith in
    rw (f, pile_push (set (set xs i t) at e) (at + 1) p (omega (arith, length-set (set xs i t) at e, length-set xs i t)), pile_push (set xs i t) at e (omega (arith, length-set xs i t)), m, kid_set xs i w at a (omega arith))

kid_long : (n : ℕ) (s : List Pending) → length (kid n s) ≡ is_link n + length s
kid_long zero s = omega arith
kid_long (suc n) s = omega arith

-- node m opened in place of the top of s, which the first n places hold
module _ (h : Heap) (m : ℕ) (xs : List Pending) (n : ℕ) (s : List Pending) (e : pile xs n ≡ s) (f : 0 < n) (i j : ℕ) (a : i ≡ bool_byte (not (eqb (h.right m) 0))) (b : j ≡ bool_byte (not (eqb (h.left m) 0))) where
  pub opened_long : length (opened_on h m (drop 1 s)) ≡ n - 1 + i + j + 1
  opened_long =
      omega (arith, kid_long (h.left m) (Entry (h.key m) (h.value m) ∷ kid (h.right m) (drop 1 s)), kid_long (h.right m) (drop 1 s), length-drop 1 s, piled xs n s e, a, b, link_is (h.right m), link_is (h.left m))

  pub opened_pile : (p : Pending) → n - 1 + i + j < length xs → ((h.left m ≡ 0) × (p ≡ Entry (h.key m) (h.value m))) ⊎ ((h.left m ≢ 0) × (p ≡ Tree (h.left m))) →
      pile (set (set (set xs (n - 1) (Tree (h.right m))) (n - 1 + i) (Entry (h.key m) (h.value m))) (n - 1 + i + j) p) (n - 1 + i + j + 1) ≡ opened_on h m (drop 1 s)
  opened_pile p l u =
      rw (← e, ← (pile-drop xs n 1 f))
      (three_set xs (n - 1) (h.right m) (h.left m) (n - 1 + i) (n - 1 + i + j) (Entry (h.key m) (h.value m)) p (omega (arith, a, link_is (h.right m))) (omega (arith, b, link_is (h.left m))) l u)
