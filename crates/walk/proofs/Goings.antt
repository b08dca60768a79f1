-- A turn of the loop takes from the listing what it adds to the answer, so what the walk will tell stays the same.
use mathlib.Core.Path.{◌≡◌, refl, ap, sym, ◌∙◌}
use mathlib.Core.Bool.{Bool, true, false}
use mathlib.Core.List.{List, [], ◌∷◌}
use Prim.Native.Nat.{ℕ, zero, suc, ◌+◌, ◌-◌, ◌*◌, ◌≤◌, ◌<◌}
use native.Mathlib.Numerals.{sub-one}
use native.Mathlib.Omega.{arith}
use lib.ListN.{length, drop, length-drop}
use borrow.Author.Tests.{lt-ltb, le-ltb}
use Rattle.model.specs.Heap.{Heap, Named, Linked, size_at, tree}
use Rattle.model.specs.Listing.{Item, Sides, Row, Turn, Walk, over, on, yield, turn, too_deep, walk, turns, listing, until}
use Rattle.model.specs.Block.{heap, SoundBlock}
use Rattle.model.proofs.block.Loads.{tree-size}
use Rattle.model.proofs.block.Versions.{tree-room}
use mir.Val.{bool_byte}
use Rattle.std.specs.Prelude.{Option, Some, None, Ok, Err}
use Rattle.std.specs.Option.{is_some}
use Rattle.answers.specs.declared.Refusal.TheVariants.{TooDeep}
use Rattle.walk.specs.declared.Pending.{Pending}
use Rattle.walk.specs.declared.Yield.{Yield}
use Rattle.walk.specs.declared.Act.{Act}
use Rattle.walk.specs.declared.Act.TheVariants.{Left, Right, Drop, Give}
use Rattle.walk.specs.declared.Wanted.{Wanted}
use Rattle.walk.specs.Rows.{row, wants, chosen, counted, shown, written, answer, upto}
use Rattle.walk.specs.Cursors.{items, Standing, AllStanding, TopStanding, begun, top, opened_on, act_of, pops_of}
use Rattle.walk.proofs.Outputs.{shows, shows_written, chosen_more}
use Rattle.walk.proofs.Acts.{acted, Fit, items_kid, kid_standing, opened_standing, stand_top, stand_other, acts_by, fit_by}

-- what a walk tells in the end
pub record Told : Type 0 where
  pub total : ℕ
  pub deep : Bool
  pub out : List ℕ

-- n wanted rows and the output so far, and k still to come
told_all : Wanted → ℕ → Walk → ℕ → List ℕ → Told
told_all w start k n out = record { total = n + length (chosen w k.rows); deep = k.deep; out = shows w start n k.rows out }

-- the same up to the first wanted row, where one is enough
pub told : Bool → Wanted → ℕ → Walk → ℕ → List ℕ → Told
told o w start k n out = told_all w start (upto o w k) n out

upto_end : (o : Bool) (w : Wanted) (d : Bool) → upto o w (record { rows = []; deep = d }) ≡ record { rows = []; deep = d }
unfolding until
upto_end true w d = refl
upto_end false w d = refl

module _ (o : Bool) (w : Wanted) (start : ℕ) (k : Walk) (n : ℕ) (out out₀ : List ℕ) where
  told_out : shows w start n [] out ≡ shows w start 0 (upto o w k).rows out₀ → out ≡ written w start (upto o w k).rows out₀
  unfolding shows
  told_out e = e ∙ shows_written w start (upto o w k).rows out₀

  pub told_total : told o w start (record { rows = []; deep = false }) n out ≡ told o w start k 0 out₀
      → (Ok n ≡ answer w (upto o w k)) × (out ≡ written w start (upto o w k).rows out₀)
  unfolding told told_all answer chosen
  told_total h =
      let e : told_all w start (record { rows = []; deep = false }) n out ≡ told o w start k 0 out₀ = rw (upto_end o w false) at h in
      let m : n ≡ length (chosen w (upto o w k).rows) = omega (arith, ap (λ (t : Told). t.total) e) in
      (rw (← (ap (λ (t : Told). t.deep) e), answer) (ap Ok m), told_out (ap (λ (t : Told). t.out) e))

  pub told_deep : told o w start (record { rows = []; deep = true }) n out ≡ told o w start k 0 out₀
      → (Err TooDeep ≡ answer w (upto o w k)) × (out ≡ written w start (upto o w k).rows out₀)
  unfolding told told_all answer
  told_deep h =
      let e : told_all w start (record { rows = []; deep = true }) n out ≡ told o w start k 0 out₀ = rw (upto_end o w true) at h in
      (rw (← (ap (λ (t : Told). t.deep) e), answer), told_out (ap (λ (t : Told). t.out) e))

told_row : (w : Wanted) (start : ℕ) (r : Row) (k : Walk) (n : ℕ) (out : List ℕ) →
    told_all w start (record { rows = r ∷ k.rows; deep = k.deep }) n out ≡ told_all w start k (n + counted w r) (shown w start n r out)
unfolding told_all shows
told_row w start r k n out = rw (chosen_more w n r k.rows)

module _ (w : Wanted) (r : Row) where
  first_wanted : (rs : List Row) (d : Bool) → wants w r ≡ true → until (wants w) (r ∷ rs) d ≡ record { rows = r ∷ []; deep = false }
  unfolding until
  first_wanted rs d e = rw (e, until)

  first_other : (rs : List Row) (d : Bool) → wants w r ≡ false
      → until (wants w) (r ∷ rs) d ≡ record { rows = r ∷ (until (wants w) rs d).rows; deep = (until (wants w) rs d).deep }
  unfolding until
  first_other rs d e = rw (e, until)

  counted_is : (t : Bool) → wants w r ≡ t → counted w r ≡ elim t [ true ↦ 1 | false ↦ 0 ]
  unfolding counted
  counted_is t e = rw (e, counted)

-- a row r, and k after it
abbrev after : Row → Walk → Walk
after r k = record { rows = r ∷ k.rows; deep = k.deep }

module _ (w : Wanted) (start : ℕ) (r : Row) (k : Walk) (n : ℕ) (out : List ℕ) where
  row_other : wants w r ≡ false → told_all w start (after r k) n out ≡ told_all w start k n (shown w start n r out)
  row_other e = let m : n + counted w r ≡ n = omega (arith, counted_is w r false e) in told_row w start r k n out ∙ ap (λ (i : ℕ). told_all w start k i (shown w start n r out)) m

  row_more : wants w r ≡ true → told_all w start (after r k) n out ≡ told_all w start k (n + 1) (shown w start n r out)
  row_more e = let m : n + counted w r ≡ n + 1 = omega (arith, counted_is w r true e) in told_row w start r k n out ∙ ap (λ (i : ℕ). told_all w start k i (shown w start n r out)) m

-- a row that is not wanted leaves what is counted; after a wanted one the walk goes on, or ends where one is enough
module _ (w : Wanted) (start : ℕ) (r : Row) (k : Walk) (n : ℕ) (out : List ℕ) where
  told_other : (o : Bool) → wants w r ≡ false → told o w start (after r k) n out ≡ told o w start k n (shown w start n r out)
  unfolding told
  told_other false e = row_other w start r k n out e
  told_other true e = ap (λ (k : Walk). told_all w start k n out) (first_other w r k.rows k.deep e) ∙ row_other w start r (upto true w k) n out e

  told_more : (o : Bool) → o ≡ false → wants w r ≡ true → told o w start (after r k) n out ≡ told o w start k (n + 1) (shown w start n r out)
  unfolding told
  told_more o f e = rw f (row_more w start r k n out e)

  told_first : (o : Bool) → o ≡ true → wants w r ≡ true → told o w start (after r k) n out ≡ told o w start (record { rows = []; deep = false }) (n + 1) (shown w start n r out)
  unfolding told until
  told_first o f e =
      rw f (ap (λ (k : Walk). told_all w start k n out) (first_wanted w r k.rows k.deep e) ∙ row_more w start r (record { rows = []; deep = false }) n out e)

-- what follows a turn of the listing's loop
abbrev next : ℕ → Turn → Walk
next f over = record { rows = []; deep = false }
next f (on s) = elim (too_deep s) [ true ↦ record { rows = []; deep = true } | false ↦ walk f s ]
next f (yield y s) = record { rows = y ∷ (walk f s).rows; deep = (walk f s).deep }

walk-next : (f : ℕ) (l r : List Item) → 0 < f → walk f (record { left = l; right = r }) ≡ next (f - 1) (turn l r)
unfolding walk
walk-next zero l r p = absurd (omega arith)
walk-next (suc f) l r p = rw sub-one (go (turn l r))
  where
    go : (x : Turn) → elim x [
      | over ↦ record { rows = []; deep = false }
      | on s ↦ elim (too_deep s) [ true ↦ record { rows = []; deep = true } | false ↦ walk f s ]
      | yield y s ↦ record { rows = y ∷ (walk f s).rows; deep = (walk f s).deep }
    ] ≡ next f x
    go over = refl
    go (on s) = refl
    go (yield y s) = refl

module _ (f : ℕ) (l r : List Item) (p : 0 < f) where
  walk_over : turn l r ≡ over → walk f (record { left = l; right = r }) ≡ record { rows = []; deep = false }
  walk_over e = walk-next f l r p ∙ ap (next (f - 1)) e

  walk_on : {s : Sides} → turn l r ≡ on s → too_deep s ≡ false → walk f (record { left = l; right = r }) ≡ walk (f - 1) s
  walk_on e d = walk-next f l r p ∙ (ap (next (f - 1)) e ∙ rw (d, next))

  walk_deep : {s : Sides} → turn l r ≡ on s → too_deep s ≡ true → walk f (record { left = l; right = r }) ≡ record { rows = []; deep = true }
  walk_deep e d = walk-next f l r p ∙ (ap (next (f - 1)) e ∙ rw (d, next))

  walk_yield : {y : Row} {s : Sides} → turn l r ≡ yield y s
      → walk f (record { left = l; right = r }) ≡ record { rows = y ∷ (walk (f - 1) s).rows; deep = (walk (f - 1) s).deep }
  walk_yield e = walk-next f l r p ∙ ap (next (f - 1)) e

length-items : (h : Heap) (s : List Pending) → length (items h s) ≡ length s
unfolding items
length-items h [] = refl
length-items h (p ∷ s) = ap suc (length-items h s)

module _ (h : Heap) (l r : List Pending) where
  fits : length l ≤ 64 → length r ≤ 64 → too_deep (record { left = items h l; right = items h r }) ≡ false
  unfolding too_deep
  fits p q = rw (length-items h l, length-items h r, le-ltb 64 (length l) p, le-ltb 64 (length r) q)

  deep_left : 64 < length l → too_deep (record { left = items h l; right = items h r }) ≡ true
  unfolding too_deep
  deep_left p = rw (length-items h l, lt-ltb 64 (length l) p)

  deep_right : length l ≤ 64 → 64 < length r → too_deep (record { left = items h l; right = items h r }) ≡ true
  unfolding too_deep
  deep_right p q = rw (length-items h l, length-items h r, le-ltb 64 (length l) p, lt-ltb 64 (length r) q)

abbrev sides : Heap → List Pending → List Pending → Sides
sides h l r = record { left = items h l; right = items h r }

-- the loop at a turn: what is told now and later is t
pub record Going (h : Heap) (o : Bool) (w : Wanted) (start : ℕ) (t : Told) (l r : List Pending) (n fuel : ℕ) (out : List ℕ) : Type 0 where
  pub linked : Linked h
  pub few_left : length l ≤ 64
  pub few_right : length r ≤ 64
  pub left : AllStanding h l
  pub right : AllStanding h r
  pub rest : told o w start (walk fuel (sides h l r)) n out ≡ t

begun_few : (x : ℕ) → length (begun x) ≤ 64
begun_few zero = omega arith
begun_few (suc x) = omega arith

pub going_begins : (h : Heap) (o : Bool) (w : Wanted) (start x y : ℕ) (fuel : ℕ) (out : List ℕ) → Linked h → Named h x → Named h y
    → fuel ≡ 2 * (size_at h x + size_at h y) + 1 → Going h o w start (told o w start (listing (tree h x) (tree h y)) 0 out) (begun x) (begun y) 0 fuel out
unfolding listing items AllStanding
going_begins h once w start x y fuel out L o p c =
    let m : fuel ≡ turns (tree h x) (tree h y) = omega (arith, tree-size h L x o, tree-size h L y p) in
    record {
      linked = L;
      few_left = begun_few x;
      few_right = begun_few y;
      left = kid_standing h L x [] o tt;
      right = kid_standing h L y [] p tt;
      rest = rw (m, items_kid h L x [] o, items_kid h L y [] p);
    }

drop_standing : (h : Heap) (i : ℕ) (s : List Pending) → AllStanding h s → AllStanding h (drop i s)
unfolding AllStanding
drop_standing h zero s a = a
drop_standing h (suc i) [] a = a
drop_standing h (suc i) (p ∷ s) a = drop_standing h i s a.1

drop_few : (i : ℕ) (s : List Pending) → length s ≤ 64 → length (drop i s) ≤ 64
drop_few i s f = omega (arith, length-drop i s)

module _ {h : Heap} {once : Bool} {w : Wanted} {start : ℕ} {t : Told} {l r : List Pending} {n fuel : ℕ} {out : List ℕ} (G : Going h once w start t l r n fuel out) where
  tell : {k : Walk} → walk fuel (sides h l r) ≡ k → told once w start k n out ≡ t
  tell e = rw e at G.rest

  -- no turns are left, or the left side has nothing pending
  pub stops : fuel ≡ 0 → told once w start (record { rows = []; deep = false }) n out ≡ t
  unfolding walk
  stops e = tell (rw e)

  pub ends : 0 < fuel → None ≡ top l → told once w start (record { rows = []; deep = false }) n out ≡ t
  unfolding turn items
  ends p e = tell (walk_over fuel (items h l) (items h r) p (go l e))
    where
      go : (l : List Pending) → None ≡ top l → turn (items h l) (items h r) ≡ over
      go [] e = refl
      go (x ∷ l) e = absurd (cc)

  pub stands : {a : Pending} → Some a ≡ top l → Standing h a
  stands e = stand_top G.linked _ l r e G.left G.right

  pub stands_other : TopStanding h (top r)
  stands_other = stand_other h r G.right

-- the act of a turn, chosen by both sides' tops
pub record Chosen (h : Heap) (a : Pending) (l r : List Pending) (fuel : ℕ) (x : Act) : Type 0 where
  pub some : Some a ≡ top l
  pub turns : 0 < fuel
  pub is : x ≡ act_of h a (top r)

module _ {h : Heap} {once : Bool} {w : Wanted} {start : ℕ} {t : Told} {a : Pending} {l r : List Pending} {n fuel : ℕ} {out : List ℕ} {x : Act} (G : Going h once w start t l r n fuel out) (C : Chosen h a l r fuel x) where
  acted_by : {c : Act} → x ≡ c → turn (items h l) (items h r) ≡ acted h c l r
  acted_by q = acts_by G.linked a l r C.some G.left G.right (sym q ∙ C.is)

  pub fitting : {c : Act} → x ≡ c → Fit h (length r) c
  fitting q = fit_by G.linked a l r C.some G.left G.right (sym q ∙ C.is)

  pub some_left : 0 < length l
  some_left = go l C.some
    where
      go : (l : List Pending) → Some a ≡ top l → 0 < length l
      go [] e = absurd (cc)
      go (y ∷ l) e = omega arith

  -- a turn that yields nothing
  goes : (m s : List Pending) → length m ≤ 64 → length s ≤ 64 → AllStanding h m → AllStanding h s → turn (items h l) (items h r) ≡ on (sides h m s)
      → Going h once w start t m s n (fuel - 1) out
  goes m s f g M S q = record {
    linked = G.linked;
    few_left = f;
    few_right = g;
    left = M;
    right = S;
    rest = tell G (walk_on fuel (items h l) (items h r) C.turns q (fits h m s f g));
  }

  module _ {m : ℕ} (q : x ≡ Left m) where
    abbrev left_on : List Pending
    left_on = opened_on h m (drop 1 l)

    pub goes_left : length left_on ≤ 64 → Going h once w start t left_on r n (fuel - 1) out
    goes_left d = goes left_on r d G.few_right (opened_standing h G.linked m (drop 1 l) (fitting q) (drop_standing h 1 l G.left)) G.right (acted_by q)

    pub deepens_left : 64 < length left_on → told once w start (record { rows = []; deep = true }) n out ≡ t
    deepens_left d = tell G (walk_deep fuel (items h l) (items h r) C.turns (acted_by q) (deep_left h left_on r d))

  module _ {m : ℕ} (q : x ≡ Right m) where
    abbrev right_on : List Pending
    right_on = opened_on h m (drop 1 r)

    pub goes_right : length right_on ≤ 64 → Going h once w start t l right_on n (fuel - 1) out
    goes_right d = goes l right_on G.few_left d G.left (opened_standing h G.linked m (drop 1 r) (fitting q).0 (drop_standing h 1 r G.right)) (acted_by q)

    pub deepens_right : 64 < length right_on → told once w start (record { rows = []; deep = true }) n out ≡ t
    deepens_right d = tell G (walk_deep fuel (items h l) (items h r) C.turns (acted_by q) (deep_right h l right_on G.few_left d))

  pub goes_down : {j : ℕ} → x ≡ Drop j → Going h once w start t (drop j l) (drop 1 r) n (fuel - 1) out
  goes_down {j} q =
      goes (drop j l) (drop 1 r) (drop_few j l G.few_left) (drop_few 1 r G.few_right) (drop_standing h j l G.left) (drop_standing h 1 r G.right) (acted_by q)

  -- a turn that yields a row
  module _ {y : Yield} (q : x ≡ Give y) where
    abbrev left_off : List Pending
    left_off = drop 1 l

    abbrev right_off : List Pending
    right_off = drop (pops_of y) r

    abbrev later : Walk
    later = walk (fuel - 1) (sides h left_off right_off)

    yielded : told once w start (after (row y) later) n out ≡ t
    yielded = tell G (walk_yield fuel (items h l) (items h r) C.turns (acted_by q))

    stays : (i : ℕ) (o : List ℕ) → told once w start later i o ≡ t → Going h once w start t left_off right_off i (fuel - 1) o
    stays i o e = record {
      linked = G.linked;
      few_left = drop_few 1 l G.few_left;
      few_right = drop_few (pops_of y) r G.few_right;
      left = drop_standing h 1 l G.left;
      right = drop_standing h (pops_of y) r G.right;
      rest = e;
    }

    abbrev out_on : List ℕ
    out_on = shown w start n (row y) out

    pub goes_past : wants w (row y) ≡ false → Going h once w start t left_off right_off n (fuel - 1) out_on
    goes_past e = stays n out_on (sym (told_other w start (row y) later n out once e) ∙ yielded)

    pub goes_on : once ≡ false → wants w (row y) ≡ true → Going h once w start t left_off right_off (n + 1) (fuel - 1) out_on
    goes_on f e = stays (n + 1) out_on (sym (told_more w start (row y) later n out once f e) ∙ yielded)

    pub first_found : once ≡ true → wants w (row y) ≡ true → told once w start (record { rows = []; deep = false }) (n + 1) out_on ≡ t
    first_found f e = sym (told_first w start (row y) later n out once f e) ∙ yielded

-- the turns that are left after a row of which k are wanted: none, where one is enough
abbrev pub turns_left : Bool → ℕ → ℕ → ℕ
turns_left false k f = f
turns_left true zero f = f
turns_left true (suc k) f = 0

pub left_all : (o : Bool) (k f : ℕ) → o ≡ false → f ≡ turns_left o k f
left_all o k f e = sym (ap (λ (x : Bool). turns_left x k f) e)

pub left_more : (o : Bool) (k f : ℕ) → k ≡ 0 → f ≡ turns_left o k f
left_more false k f e = refl
left_more true k f e = sym (ap (λ (x : ℕ). turns_left true x f) e)

pub left_none : (o : Bool) (k f : ℕ) → o ≡ true → (k ≡ 0 → ⊥) → 0 ≡ turns_left o k f
left_none o zero f e d = absurd (d refl)
left_none o (suc k) f e d = sym (ap (λ (x : Bool). turns_left x (suc k) f) e)

-- so that the number of turns fits
pub small : (b : List ℕ) → SoundBlock b → (x : ℕ) → Named (heap b) x → size_at (heap b) x ≤ 4096
small b S x o = omega (arith, S.shaped.most, tree-room (heap b) S.sound x o, tree-size (heap b) S.sound.kept.linked x o)

-- how many items a yield takes off the right
pub pops_is : (y : Yield) → bool_byte (is_some y.right) ≡ pops_of y
pops_is y = go y.right
  where
    go : (r : Option ℕ) → bool_byte (is_some r) ≡ elim r [ None ↦ 0 | Some u ↦ 1 ]
    go None = refl
    go (Some u) = refl
