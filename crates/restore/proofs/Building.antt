-- One level of the tree: the left side is built, then the right side beside it, and one make takes both.
use mathlib.Core.Path.{◌≡◌, ap, sym, subst, ◌∙◌}
use Prim.Native.Nat.{ℕ, zero, suc, ◌+◌, ◌-◌, ◌*◌, ◌/◌, ◌≤◌, ◌<◌}
use mathlib.Core.List.{List, [], ◌∷◌}
use lib.ListN.{length, get_or, take, drop, length-take, length-drop}
use lib.Seq.{length-take-le}
use native.Mathlib.Omega.{arith}
use Rattle.model.specs.Tree.{Tree, Entry}
use Rattle.model.specs.Supply.{Make, make, ◌>>=◌}
use Rattle.model.specs.Heap.{size_at, load, tree}
use Rattle.model.specs.Block.{heap}
use Rattle.model.specs.Moves.{held, Holding}
use Rattle.model.specs.Text.{entry_at, entries_of}
use Rattle.model.specs.Restore.{middle, built}
use Rattle.model.proofs.block.Counts.{hit_no}
use Rattle.model.proofs.running.Growing.{came_holding}
use Rattle.model.proofs.rules.Steady.{Onward, bind_onward, make_onward}
use Rattle.model.proofs.link.Texts.{entries-length, entries-take, entries-drop, entries_at}
use Rattle.model.proofs.calls.Builds.{left_fits, right_fits, built-size, built_onward}
use Rattle.std.specs.Prelude.{Option, Some, None}
use Rattle.block.specs.Outcome.{Outcome}
use Rattle.block.proofs.Outcomes.{stock, out_bind, out_stop, out_done, out_size}
use Rattle.block.proofs.Levels.{Asks, then_still, then_right}

-- the entries es were built from b to e, whatever fuel that is enough
abbrev pub Builds : (b e : List ℕ) → List Entry → Option ℕ → Type 0
Builds b e es q = (fuel : ℕ) → length es ≤ fuel → Outcome b e [] q (built fuel es)

-- no entries
pub builds_none : (b : List ℕ) (es : List Entry) → Holding b [] → length es ≡ 0 → Builds b b es (Some 0)
unfolding built tree load held
builds_none b [] H e zero h = out_done b 0 (λ n i. omega (arith, hit_no 0 n (omega arith))) H.running tt
builds_none b [] H e (suc fuel) h = out_done b 0 (λ n i. omega (arith, hit_no 0 n (omega arith))) H.running tt
builds_none b (x ∷ es) H e fuel h = absurd (omega arith)

-- the size of what was built
builds_size : {b c qs : List ℕ} {x : ℕ} (es : List Entry) → Holding b qs → Builds b c es (Some x) → size_at (heap c) x ≡ length es
unfolding held
builds_size {b} {c} {qs} {x} es H B =
    let n = length es in
    out_size b c x (built n es) H (λ m i. omega arith) (B n (omega arith)) ∙ built-size n es (stock H) (omega arith)

-- a list that is not empty, and its two sides
record Sides (es ls rs : List Entry) : Type 0 where
  some : 0 < length es
  left : ls ≡ take (middle es) es
  right : rs ≡ drop (suc (middle es)) es

-- the rule of one level
abbrev top : Entry → ℕ → List Entry → Tree → Make Tree
top e fuel rs t = built fuel rs >>= λ u. make e.0 e.1 t u

top_onward : (e : Entry) (fuel : ℕ) (rs : List Entry) (t : Tree) → Onward (top e fuel rs t)
top_onward e fuel rs t = bind_onward (built fuel rs) (λ u. make e.0 e.1 t u) (built_onward fuel rs) (λ u. make_onward e.0 e.1 t u)

level : {b e : List ℕ} {q : Option ℕ} {es ls rs : List Entry} (x : Entry) → Sides es ls rs → ((d : Entry) → get_or es (middle es) d ≡ x)
    → ((fuel : ℕ) → length ls ≤ fuel → length rs ≤ fuel → Outcome b e [] q (built fuel ls >>= top x fuel rs)) → Builds b e es q
unfolding built
level {es = []} x S g O fuel h = absurd (omega (arith, S.some))
level {es = y ∷ es} x S g O zero h = absurd (omega arith)
level {b} {e} {q} {es = y ∷ es} {ls} {rs} x S g O (suc fuel) h =
    let ls' = take (middle (y ∷ es)) (y ∷ es) in
    let rs' = drop (suc (middle (y ∷ es))) (y ∷ es) in
    subst (λ (z : Entry). Outcome b e [] q (built fuel ls' >>= top z fuel rs')) (sym (g y))
    (subst (λ (zs : List Entry). Outcome b e [] q (built fuel zs >>= top x fuel rs')) S.left
    (subst (λ (zs : List Entry). Outcome b e [] q (built fuel ls >>= top x fuel zs)) S.right
    (O fuel (rw S.left (left_fits y es fuel h)) (rw S.right (right_fits y es fuel h)))))

module _ {b : List ℕ} {es ls rs : List Entry} (H : Holding b []) (S : Sides es ls rs) (x : Entry) (g : (d : Entry) → get_or es (middle es) d ≡ x) where
  -- no room for the left side
  stops_left : {c : List ℕ} → Builds b c ls None → Builds b c es None
  unfolding held
  stops_left {c} A = level x S g (λ fuel p q. out_stop b c (built fuel ls) (top x fuel rs) (λ n i. omega arith) (A fuel p) (top_onward x fuel rs))

  module _ {c : List ℕ} {l : ℕ} (A : Builds b c ls (Some l)) where
    abbrev O : Outcome b c [] (Some l) (built (length ls) ls)
    O = A (length ls) (omega arith)

    -- the left side is a piece
    one : Holding c (l ∷ [])
    unfolding held
    one = came_holding H O.came [] (λ n i. omega arith) (λ n i. omega arith)

    -- what building the right side asks
    then_holds : Holding c []
    unfolding held
    then_holds = came_holding H O.came [] (λ n i. omega arith) (λ n i. omega arith)

    -- no room for it
    stops_right : {d : List ℕ} → Builds c d rs None → Builds b d es None
    unfolding held
    stops_right {d} B =
        let last : Tree → Make Tree = λ u. make x.0 x.1 (tree (heap c) l) u in
        level x S g (λ fuel p q. out_bind b c d [] l None (built fuel ls) (top x fuel rs) (λ n i. omega arith) (λ n i. omega arith) (A fuel p)
        (out_stop c d {ins = []} {tot = l ∷ []} (built fuel rs) last (λ n i. omega arith) (B fuel q) (λ u. make_onward x.0 x.1 (tree (heap c) l) u)))

    module _ {d : List ℕ} {r : ℕ} (B : Builds c d rs (Some r)) where
      -- the left side is still a piece beside what the right side became
      beside : (n : ℕ) → 1 ≤ n → held [] n + held (l ∷ []) n ≤ held (l ∷ []) n
      unfolding held
      beside n i = omega arith

      -- what the make asks
      make_asks : length es ≤ 4096 → Asks d l r
      make_asks few =
          let left = ap length S.left ∙ length-take (middle es) es in
          let right = ap length S.right ∙ length-drop (suc (middle es)) es in
          then_right one (B (length rs) (omega arith)) l beside (omega (arith, builds_size ls H A, builds_size rs one B, left, right))

      -- and what it makes
      builds_all : {e : List ℕ} {q : Option ℕ} → Outcome d e (l ∷ r ∷ []) q (make x.0 x.1 (tree (heap d) l) (tree (heap d) r)) → Builds b e es q
      unfolding held
      builds_all {e} {q} M =
          let last : Tree → Make Tree = λ u. make x.0 x.1 (tree (heap c) l) u in
          let still = (then_still one (B (length rs) (omega arith)) l beside).tree in
          level x S g (λ fuel p w. out_bind b c e [] l q (built fuel ls) (top x fuel rs) (λ n i. omega arith) (λ n i. omega arith) (A fuel p)
          (out_bind c d e {ins2 = l ∷ r ∷ []} {tot = l ∷ []} (l ∷ []) r q (built fuel rs) last (λ n i. omega arith) (λ n i. omega arith) (B fuel w)
          (subst (λ (t : Tree). Outcome d e (l ∷ r ∷ []) q (make x.0 x.1 t (tree (heap d) r))) still M)))

-- The lines of a text as such a list: each side is the lines of its own part.
module _ (t : List ℕ) where
  abbrev pub half : ℕ
  half = length t / 17 / 2

  abbrev pub first : List ℕ
  first = take (17 * half) t

  abbrev pub second : List ℕ
  second = take (length t - (17 * half + 17)) (drop (17 * half + 17) t)

  halves : middle (entries_of t) ≡ half
  halves = ap (λ n. n / 2) (entries-length t 0 (length t / 17))

  module _ (h : 0 < length t / 17) where
    text_sides : Sides (entries_of t) (entries_of first) (entries_of second)
    text_sides = record {
      some = omega (arith, entries-length t 0 (length t / 17));
      left = entries-take t half (omega arith) ∙ ap (λ n. take n (entries_of t)) (sym halves);
      right = entries-drop t (suc half) (17 * half + 17) (omega arith) (omega arith) ∙ ap (λ n. drop (suc n) (entries_of t)) (sym halves);
    }

    text_middle : (d : Entry) → get_or (entries_of t) (middle (entries_of t)) d ≡ entry_at t half
    text_middle d = ap (λ n. get_or (entries_of t) n d) halves ∙ entries_at t half d (omega arith)

    -- each part is shorter than the text
    pub first_length : length first ≡ 17 * half
    first_length = length-take-le (17 * half) t (omega arith)

    pub second_length : length second ≡ length t - (17 * half + 17)
    second_length = omega (arith, length-take (length t - (17 * half + 17)) (drop (17 * half + 17) t), length-drop (17 * half + 17) t)

-- what a level of the code begins with: some lines, and no more than 4,096
pub record Begun (b t : List ℕ) : Type 0 where
  pub holds : Holding b []
  pub few : length t ≤ 69632
  pub some : 0 < length t / 17

module _ {b t : List ℕ} (G : Begun b t) where
  abbrev S : Sides (entries_of t) (entries_of (first t)) (entries_of (second t))
  S = text_sides t G.some

  abbrev middle_is : (d : Entry) → get_or (entries_of t) (middle (entries_of t)) d ≡ entry_at t (half t)
  middle_is = text_middle t G.some

  pub no_first : {c : List ℕ} → Builds b c (entries_of (first t)) None → Builds b c (entries_of t) None
  no_first = stops_left G.holds S (entry_at t (half t)) middle_is

  module _ {c : List ℕ} {l : ℕ} (A : Builds b c (entries_of (first t)) (Some l)) where
    pub first_holds : Holding c []
    first_holds = then_holds G.holds S (entry_at t (half t)) middle_is A

    pub no_second : {d : List ℕ} → Builds c d (entries_of (second t)) None → Builds b d (entries_of t) None
    no_second = stops_right G.holds S (entry_at t (half t)) middle_is A

    module _ {d : List ℕ} {r : ℕ} (B : Builds c d (entries_of (second t)) (Some r)) where
      pub both_ask : Asks d l r
      both_ask = make_asks G.holds S (entry_at t (half t)) middle_is A B (omega (arith, G.few, entries-length t 0 (length t / 17)))

      pub both_made : {e : List ℕ} {q : Option ℕ} (x : Entry) → x ≡ entry_at t (half t)
          → Outcome d e (l ∷ r ∷ []) q (make x.0 x.1 (tree (heap d) l) (tree (heap d) r)) → Builds b e (entries_of t) q
      both_made x p M = builds_all G.holds S x (λ d. middle_is d ∙ sym p) A B M

-- A single line has no lines before it and none behind: both sides are empty, and one make is all.
module _ {b t : List ℕ} (G : Begun b t) (single : length t < 34) where
  before : Builds b b (entries_of (first t)) (Some 0)
  before = builds_none b (entries_of (first t)) G.holds (omega (arith, entries-length (first t) 0 (length (first t) / 17), first_length t G.some))

  behind : Builds b b (entries_of (second t)) (Some 0)
  behind = builds_none b (entries_of (second t)) G.holds (omega (arith, entries-length (second t) 0 (length (second t) / 17), second_length t G.some))

  pub single_asks : Asks b 0 0
  single_asks = both_ask G before behind

  pub single_made : {e : List ℕ} {q : Option ℕ} (x : Entry) → x ≡ entry_at t 0
      → Outcome b e (0 ∷ 0 ∷ []) q (make x.0 x.1 (tree (heap b) 0) (tree (heap b) 0)) → Builds b e (entries_of t) q
  single_made x p M = both_made G before behind x (p ∙ ap (entry_at t) (omega arith)) M
