-- Pieces of one width laid one behind another are as long as they are many, and can be cut out again; so what a call that lists wrote can be read.
use mathlib.Core.Path.{◌≡◌, refl, ap, sym, ◌∙◌}
use Prim.Native.Nat.{ℕ, zero, suc, ◌+◌, ◌-◌, ◌*◌, ◌/◌, ◌≤◌, ◌<◌, min}
use mathlib.Core.List.{List, [], ◌∷◌, ◌++◌, map, append_assoc}
use native.Mathlib.Omega.{arith}
use native.Mathlib.Nat.{mul-zero, mul-suc, lt_of_mul-lt-mul_left}
use native.Mathlib.Decide.{dec_le}
use lib.ListN.{length, get_or, take, drop, length-append, length-drop}
use lib.Seq.{take_at, take_all, drop_at, drop-append-add, get_or-drop}
use Rattle.model.specs.Calls.{fails, passes, Versions}
use Rattle.model.specs.Block.{SoundBlock}
use mathlib.Core.Bool.{false}
use Rattle.model.specs.Lists.{laid, part, over, Report, Pieces, Lists}

pub map_at : {A B : Type 0} (f : A → B) (xs : List A) (i : ℕ) (d : A) (e : B) → i < length xs → get_or (map f xs) i e ≡ f (get_or xs i d)
map_at f [] i d e h = absurd (omega arith)
map_at f (x ∷ xs) zero d e h = refl
map_at f (x ∷ xs) (suc i) d e h = map_at f xs i d e (omega arith)

-- no more than there are
pub take_min : {A : Type 0} (n : ℕ) (xs : List A) → take (min n (length xs)) xs ≡ take n xs
take_min n xs = go (dec_le (length xs) n)
  where
    go : Dec (length xs ≤ n) → take (min n (length xs)) xs ≡ take n xs
    go (yes p) = take_all (min n (length xs)) xs (omega arith) ∙ sym (take_all n xs p)
    go (no p) = let e : min n (length xs) ≡ n = omega arith in ap (λ k. take k xs) e

-- every piece is w long
unfoldable pub Wide : ℕ → List (List ℕ) → Type 0
Wide w [] = Unit {0}
Wide w (p ∷ ps) = (length p ≡ w) × Wide w ps

pub wide_map : {A : Type 0} (w : ℕ) (f : A → List ℕ) → ((a : A) → length (f a) ≡ w) → (xs : List A) → Wide w (map f xs)
unfolding Wide
wide_map w f l [] = tt
wide_map w f l (x ∷ xs) = (l x, wide_map w f l xs)

pub wide_drop : (w n : ℕ) (ps : List (List ℕ)) → Wide w ps → Wide w (drop n ps)
unfolding Wide
wide_drop w zero ps h = h
wide_drop w (suc n) [] h = tt
wide_drop w (suc n) (p ∷ ps) h = wide_drop w n ps h.1

pub laid_long : (w i : ℕ) (ps : List (List ℕ)) → Wide w ps → i ≤ length ps → length (laid (take i ps)) ≡ w * i
unfolding Wide laid
laid_long w zero ps h m = sym (mul-zero w)
laid_long w (suc i) [] h m = absurd (omega arith)
laid_long w (suc i) (p ∷ ps) h m = rw (mul-suc w i) (omega (arith, length-append p (laid (take i ps)), h.0, laid_long w i ps h.1 (omega arith)))

-- piece i of k, cut out again
laid-cut : (w : ℕ) (qs : List (List ℕ)) (k i : ℕ) (rest : List ℕ) → Wide w qs → i < k → k ≤ length qs
    → take w (drop (w * i) (laid (take k qs) ++ rest)) ≡ get_or qs i []
unfolding Wide laid
laid-cut w qs zero i rest h l m = absurd (omega arith)
laid-cut w [] (suc k) i rest h l m = absurd (omega arith)
laid-cut w (p ∷ qs) (suc k) zero rest h l m = rw (mul-zero w, append_assoc) (take_at p (laid (take k qs) ++ rest) w h.0)
laid-cut w (p ∷ qs) (suc k) (suc i) rest h l m =
    let n : w * suc i ≡ length p + w * i = rw (mul-suc w i) (omega (arith, h.0)) in
    rw (append_assoc, n, drop-append-add p (laid (take k qs) ++ rest) (w * i)) (laid-cut w qs k i rest h.1 (omega arith) (omega arith))

-- What a call that lists wrote to `out`, which is `after` then: pieces from the start index on while one more fits, in order, and what stood behind them.
pub record Written (p : Pieces) (out after : List ℕ) (start : ℕ) (r : Report) : Type 0 where
  pub total : r.total ≡ length p.pieces
  pub written : r.written ≡ p.width * min (length out / p.width) (length p.pieces - start)
  pub piece : (i : ℕ) → p.width * i < r.written
      → (start + i < length p.pieces) × (take p.width (drop (p.width * i) after) ≡ get_or p.pieces (start + i) [])
  pub rest : drop r.written after ≡ drop r.written out

-- what a done call says of block and versions
pub record Listed (b : List ℕ) (p : Pieces) : Type 0 where
  pub sound : SoundBlock b
  pub versions : Versions p.versions
  pub shallow : p.deep ≡ false

-- a refusal's number is not 0
pub refused : {n : ℕ} {r : Report} → r ≡ record { number = suc n; written = 0; total = 0 } → r.number ≡ 0 → ⊥
refused {n} e z = let k : suc n ≡ 0 = sym (ap (λ (x : Report). x.number) e) ∙ z in omega arith

module _ (p : Pieces) (W : Wide p.width p.pieces) (out after : List ℕ) (start : ℕ) where
  abbrev cut : List ℕ
  cut = part p.width start (length out) p.pieces

  abbrev q : List (List ℕ)
  q = drop start p.pieces

  abbrev n : ℕ
  n = min (length out / p.width) (length q)

  long : length cut ≡ p.width * n
  long = rw (← (take_min (length out / p.width) q)) (laid_long p.width n q (wide_drop p.width start p.pieces W) (omega arith))

  at : after ≡ over cut out → (i : ℕ) → i < n
      → (start + i < length p.pieces) × (take p.width (drop (p.width * i) after) ≡ get_or p.pieces (start + i) [])
  at k i h =
      let c = laid-cut p.width q n i (drop (length cut) out) (wide_drop p.width start p.pieces W) h (omega arith) in
      (omega (arith, length-drop start p.pieces), rw k (rw (take_min (length out / p.width) q, get_or-drop start p.pieces i []) at c))

  pub written : (r : Report) → r ≡ record { number = 0; written = length cut; total = length p.pieces } → after ≡ over cut out → Written p out after start r
  written r e k =
      let w : r.written ≡ length cut = ap (λ (x : Report). x.written) e in
      record {
        total = ap (λ (x : Report). x.total) e;
        written = w ∙ long ∙ ap (λ m. p.width * min (length out / p.width) m) (length-drop start p.pieces);
        piece = λ i h. at k i (lt_of_mul-lt-mul_left p.width (rw (w, long) at h));
        rest = rw (w, k) (drop_at cut (drop (length cut) out) (length cut) refl);
      }

-- a call that lists pieces of one width, and answered 0
pub lists_done : (b out after : List ℕ) (start : ℕ) (p : Pieces) (r : Report) → Wide p.width p.pieces → Lists b out after start p r
    → r.number ≡ 0 → Listed b p × Written p out after start r
lists_done b out after start p r W (fails a e) z = absurd (refused e.0 z)
lists_done b out after start p r W (passes a (fails c e)) z = absurd (refused e.0 z)
lists_done b out after start p r W (passes a (passes c (fails v e))) z = absurd (refused e.0 z)
lists_done b out after start p r W (passes a (passes c (passes v (fails d e)))) z = absurd (refused e.0 z)
lists_done b out after start p r W (passes a (passes c (passes v (passes d e)))) z = (record { sound = c; versions = v; shallow = d }, written p W out after start r e.0 e.1)
