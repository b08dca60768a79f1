-- Entries written one behind another are the part that fits, and what stood after it.
use mathlib.Core.Path.{◌≡◌, refl, ap, sym, ◌∙◌}
use Prim.Native.Nat.{ℕ, zero, suc, ◌+◌, ◌-◌, ◌*◌, ◌/◌, ◌≤◌, ◌<◌, min}
use mathlib.Core.List.{List, [], ◌∷◌, ◌++◌, map, append_assoc, append-nil}
use native.Mathlib.Omega.{arith}
use lib.ListN.{length, get_or, take, drop, set, length-drop, length-map}
use lib.Seq.{sets-eq, take_at, drop-append-add, drop-drop, get_or-drop}
use Rattle.model.specs.Lists.{Report, laid, part}
use Rattle.model.specs.Calls.{passes}
use Rattle.model.specs.Kiosk.{count, key_at, value_at, pairs, entry_words, SoundKiosk, Lists}
use Rattle.model.proofs.listing.Cutting.{map_at, take_min, wide_map, wide_drop, laid_long}
use Rattle.model.proofs.kiosk.Pairs.{length_pairs, pairs_at}

-- four stores
pub entry_put : (o : List ℕ) (at key value : ℕ) → at + 4 ≤ length o
    → set (set (set (set o at key) (at + 1) value) (at + 2) 0) (at + 3) 0 ≡ take at o ++ (entry_words (key, value) ++ drop (at + 4) o)
entry_put o at key value h =
    let a : at + 1 ≡ suc at = omega arith in
    let b : at + 2 ≡ suc (suc at) = omega arith in
    let c : at + 3 ≡ suc (suc (suc at)) = omega arith in
    rw (a, b, c) (sets-eq (key ∷ value ∷ 0 ∷ 0 ∷ []) o at h ∙ append_assoc (take at o) (key ∷ value ∷ 0 ∷ 0 ∷ []) (drop (at + 4) o))

-- one piece more
laid_more : (ps : List (List ℕ)) (i : ℕ) → i < length ps → laid (take (suc i) ps) ≡ laid (take i ps) ++ get_or ps i []
unfolding laid
laid_more [] i h = absurd (omega arith)
laid_more (p ∷ ps) zero h = append-nil p
laid_more (p ∷ ps) (suc i) h = rw (laid_more ps i (omega arith)) (sym (append_assoc p (laid (take i ps)) (get_or ps i [])))

-- the entries' words
abbrev pub pieces : List ℕ → List (List ℕ)
pieces k = map entry_words (pairs k)

pub pieces_long : (k : List ℕ) → length (pieces k) ≡ count k
pieces_long k = length-map (pairs k) entry_words ∙ length_pairs k 0 (count k)

piece_at : (k : List ℕ) (i : ℕ) → i < count k → get_or (pieces k) i [] ≡ entry_words (key_at k i, value_at k i)
piece_at k i h =
    let e : 0 + i ≡ i = omega arith in
    map_at entry_words (pairs k) i (0, 0) [] (omega (arith, length_pairs k 0 (count k))) ∙ ap entry_words (pairs_at k 0 (count k) i h ∙ ap (λ j. (key_at k j, value_at k j)) e)

-- of the n entries from `start` on the first j are written to out, which was o
pub record Written (k : List ℕ) (start n : ℕ) (o out : List ℕ) (j : ℕ) : Type 0 where
  pub few : n ≤ count k - start
  pub fits : 4 * n ≤ length o
  pub most : j ≤ n
  pub is : out ≡ laid (take j (drop start (pieces k))) ++ drop (4 * j) o

pub written_none : (k : List ℕ) (start n : ℕ) (o : List ℕ) → n ≤ count k - start → 4 * n ≤ length o → Written k start n o o 0
unfolding laid
written_none k start n o p q = record { few = p; fits = q; most = omega arith; is = refl }

module _ {k : List ℕ} {start n : ℕ} {o out : List ℕ} {j : ℕ} (W : Written k start n o out j) where
  abbrev q : List (List ℕ)
  q = drop start (pieces k)

  abbrev front : List ℕ
  front = laid (take j q)

  room : j ≤ length q
  room = omega (arith, length-drop start (pieces k), pieces_long k, W.few, W.most)

  front_long : length front ≡ 4 * j
  front_long = laid_long 4 j q (wide_drop 4 start (pieces k) (wide_map 4 entry_words (λ e. refl) (pairs k))) room

  pub written_more : {after : List ℕ} (i : ℕ) → i ≡ start + j → j < n
      → after ≡ take (4 * j) out ++ (entry_words (key_at k i, value_at k i) ++ drop (4 * j + 4) out) → Written k start n o after (j + 1)
  written_more {after} i a h w =
      let m : j + 1 ≡ suc j = omega arith in
      let s : 4 * j + 4 ≡ 4 * (j + 1) = omega arith in
      let lt : j < length q = omega (arith, length-drop start (pieces k), pieces_long k, W.few) in
      let ahead : take (4 * j) out ≡ front = rw W.is (take_at front (drop (4 * j) o) (4 * j) front_long) in
      let behind : drop (4 * j + 4) out ≡ drop (4 * j + 4) o =
      rw W.is (ap (λ x. drop (x + 4) (front ++ drop (4 * j) o)) (sym front_long) ∙ drop-append-add front (drop (4 * j) o) 4 ∙ drop-drop 4 (4 * j) o) in
      let e : entry_words (key_at k i, value_at k i) ≡ get_or (pieces k) (start + j) [] = rw a (sym (piece_at k (start + j) (omega (arith, W.few)))) in
      record {
        few = W.few;
        fits = W.fits;
        most = omega arith;
        is = w ∙ ap (λ x. x ++ (entry_words (key_at k i, value_at k i) ++ drop (4 * j + 4) out)) ahead ∙ ap (λ x. front ++ (entry_words (key_at k i, value_at k i) ++ x)) behind
            ∙ ap (λ x. front ++ (x ++ drop (4 * j + 4) o)) e ∙ sym (append_assoc front (get_or (pieces k) (start + j) []) (drop (4 * j + 4) o))
            ∙ ap (λ x. x ++ drop (4 * j + 4) o) (sym (laid_more q j lt ∙ ap (λ x. front ++ x) (get_or-drop start (pieces k) j []))) ∙ ap (λ x. laid (take x q) ++ drop (4 * j + 4) o) (sym m)
            ∙ ap (λ x. laid (take (j + 1) q) ++ drop x o) s;
      }

-- the whole call: m entries are shown
pub listed : {k out after : List ℕ} {m : ℕ} (start : ℕ) (S : SoundKiosk k) → m ≡ min (length out / 4) (count k - start)
    → after ≡ laid (take m (drop start (pieces k))) ++ drop (4 * m) out → Lists k out after start (record { number = 0; written = 4 * m; total = count k })
listed {k} {out} {after} {m} start S e w = passes S.long (passes S (reported, w ∙ rw (t, front_long)))
  where
    many : m ≡ min (length out / 4) (length (drop start (pieces k)))
    many = rw (length-drop start (pieces k), pieces_long k) e

    front_long : length (laid (take m (drop start (pieces k)))) ≡ 4 * m
    front_long = laid_long 4 m (drop start (pieces k)) (wide_drop 4 start (pieces k) (wide_map 4 entry_words (λ e. refl) (pairs k))) (omega (arith, many))

    t : part 4 start (length out) (pieces k) ≡ laid (take m (drop start (pieces k)))
    t = rw many (ap laid (sym (take_min (length out / 4) (drop start (pieces k)))))

    reported : ◌≡◌ {A = Report} (record { number = 0; written = 4 * m; total = count k }) (record { number = 0; written = length (part 4 start (length out) (pieces k)); total = length (pieces k) })
    reported = rw (t, front_long, pieces_long k)
