-- Pieces of 35 bytes written one behind another are the part that fits, and what stood after it.
use mathlib.Core.Path.{◌≡◌, refl, ap, sym, ◌∙◌}
use Prim.Native.Nat.{ℕ, zero, suc, ◌+◌, ◌-◌, ◌*◌, ◌/◌, ◌≤◌, ◌<◌, min}
use mathlib.Core.List.{List, [], ◌∷◌, ◌++◌, map, append_assoc, append-nil}
use native.Mathlib.Omega.{arith}
use lib.ListN.{length, get_or, take, drop, length-append, length-drop}
use lib.Seq.{take_at, drop-append-add, drop-drop, get_or-drop}
use Rattle.model.specs.Lists.{laid, part}
use Rattle.model.proofs.listing.Cutting.{take_min, Wide, wide_drop, laid_long}
use Rattle.lists.specs.Reports.{Wrote}

-- map, take and drop change places
module _ {A B : Type 0} (f : A → B) where
  pub take-map : (n : ℕ) (xs : List A) → take n (map f xs) ≡ map f (take n xs)
  take-map zero xs = refl
  take-map (suc n) [] = refl
  take-map (suc n) (x ∷ xs) = ap (λ (ys : List B). f x ∷ ys) (take-map n xs)

  pub drop-map : (n : ℕ) (xs : List A) → drop n (map f xs) ≡ map f (drop n xs)
  drop-map zero xs = refl
  drop-map (suc n) [] = refl
  drop-map (suc n) (x ∷ xs) = drop-map n xs

-- one piece more
laid_more : (ps : List (List ℕ)) (i : ℕ) → i < length ps → laid (take (suc i) ps) ≡ laid (take i ps) ++ get_or ps i []
unfolding laid
laid_more [] i h = absurd (omega arith)
laid_more (p ∷ ps) zero h = append-nil p
laid_more (p ∷ ps) (suc i) h = rw (laid_more ps i (omega arith)) (sym (append_assoc p (laid (take i ps)) (get_or ps i [])))

-- of the k pieces from `start` on the first i are written to out, which was o
pub record Laid (ps : List (List ℕ)) (start k : ℕ) (o out : List ℕ) (i : ℕ) : Type 0 where
  pub wide : Wide 35 ps
  pub room : k ≡ min (length o / 35) (length ps - start)
  pub most : i ≤ k
  pub is : out ≡ laid (take i (drop start ps)) ++ drop (35 * i) o

pub laid_none : {ps : List (List ℕ)} {start k : ℕ} {o : List ℕ} → Wide 35 ps → k ≡ min (length o / 35) (length ps - start) → Laid ps start k o o 0
unfolding laid
laid_none w e = record { wide = w; room = e; most = omega arith; is = refl }

module _ {ps : List (List ℕ)} {start k : ℕ} {o out : List ℕ} {i : ℕ} (L : Laid ps start k o out i) where
  abbrev q : List (List ℕ)
  q = drop start ps

  abbrev front : List ℕ
  front = laid (take i q)

  few : i ≤ length q
  few = omega (arith, length-drop start ps, L.room, L.most)

  front_long : length front ≡ 35 * i
  front_long = laid_long 35 i q (wide_drop 35 start ps L.wide) few

  pub laid_same : length out ≡ length o
  laid_same = rw L.is (omega (arith, length-append front (drop (35 * i) o), length-drop (35 * i) o, front_long, L.room, L.most))

  -- the next piece, from byte `at` on
  pub laid_next : {after : List ℕ} (at : ℕ) (p : List ℕ) → at ≡ 35 * i → i < k → p ≡ get_or ps (start + i) []
      → after ≡ take at out ++ (p ++ drop (at + 35) out) → Laid ps start k o after (i + 1)
  laid_next {after} at p a h e w =
      let m : i + 1 ≡ suc i = omega arith in
      let n : 35 * suc i ≡ 35 * i + 35 = omega arith in
      let lt : i < length q = omega (arith, length-drop start ps, L.room) in
      let ahead : take at out ≡ front = rw (L.is, a) (take_at front (drop (35 * i) o) (35 * i) front_long) in
      let behind : drop (at + 35) out ≡ drop (35 * i + 35) o =
      rw (L.is, a) (ap (λ x. drop (x + 35) (front ++ drop (35 * i) o)) (sym front_long) ∙ drop-append-add front (drop (35 * i) o) 35 ∙ drop-drop 35 (35 * i) o) in
      record {
        wide = L.wide;
        room = L.room;
        most = omega arith;
        is = w ∙ rw (ahead, behind, m, n, laid_more q i lt, get_or-drop start ps i [], ← e) (sym (append_assoc front p (drop (35 * i + 35) o)));
      }

  -- all are written
  pub laid-all : i ≡ k → Wrote ps start o (35 * k) out
  laid-all e =
      let r : k ≡ min (length o / 35) (length q) = rw (length-drop start ps) L.room in
      let t : part 35 start (length o) ps ≡ front = rw (e, r) (ap laid (sym (take_min (length o / 35) q))) in
      rw (t, front_long, ← e) (refl, L.is)
