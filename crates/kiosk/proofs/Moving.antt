-- Words that move by a pair, and what the slice holds then.
use mathlib.Core.Path.{◌≡◌, refl, ap, sym, subst, ◌∙◌}
use mathlib.Core.Logic.{◌≢◌}
use Prim.Native.Nat.{ℕ, zero, suc, ◌+◌, ◌-◌, ◌*◌, ◌≤◌, ◌<◌}
use mathlib.Core.Option.{none, some}
use mathlib.Core.List.{List, ◌∷◌, ◌++◌}
use lib.ListN.{length, set, length-set}
use lib.Seq.{get_or-set_same, get_or-set_other}
use native.Mathlib.Omega.{arith}
use native.Mathlib.Decide.{dec_lt}
use Rattle.model.specs.Tree.{Cut, put, without, set_by}
use Rattle.model.specs.Block.{word}
use Rattle.model.specs.Calls.{fails, passes}
use Rattle.model.specs.Kiosk.{count, key_at, value_at, pairs_from, pairs, SoundKiosk, Holds}
use Rattle.model.proofs.maps.Finds.{sorted_without}
use Rattle.model.proofs.maps.Maps.{put_is}
use Rattle.model.proofs.kiosk.Pairs.{length_pairs, pairs-split, pairs_same, sound_sorted, holds_by, holds_own}
use Rattle.kiosk.specs.Places.{Place, Opened, Closed, Putting, Editing}
use Rattle.kiosk.proofs.Finding.{pairs_around, cut_has, cut_lacks}

-- words that agree before pair i, have the key and the value there, and behind it the pairs of k from j on
pub put-pairs : (k a : List ℕ) (i j m key value : ℕ) → ((v : ℕ) → 0 < v → v < 1 + 2 * i → word a v ≡ word k v) → key_at a i ≡ key → value_at a i ≡ value
    → ((t : ℕ) → t < m → (key_at a (suc i + t) ≡ key_at k (j + t)) × (value_at a (suc i + t) ≡ value_at k (j + t)))
    → pairs_from a 0 (i + suc m) ≡ pairs_from k 0 i ++ (key, value) ∷ pairs_from k j m
put-pairs k a i j m key value before here there later =
    pairs_around a i m ∙ rw (here, there, pairs_same a k 0 0 i (λ t h. (before (1 + 2 * (0 + t)) (omega arith) (omega arith), before (2 + 2 * (0 + t)) (omega arith) (omega arith))), pairs_same a k (suc i) j m later)

module _ {k : List ℕ} {key i : ℕ} (S : SoundKiosk k) (P : Place k key i) where
  -- an equal key: only its value changes
  pub put-over : (value : ℕ) → i < count k → key_at k i ≡ key → Holds (set k (2 + 2 * i) value) (put (pairs k) key value)
  put-over value h e = holds_by (count k) (length-set k (2 + 2 * i) value ∙ S.long) (other 0 (λ d. omega arith)) S.few is (put_is (pairs k) key value (sound_sorted S)).sorted (λ w p q. other w (λ d. omega arith) ∙ S.unused w p q)
    where
      other : (w : ℕ) → w ≢ 2 + 2 * i → word (set k (2 + 2 * i) value) w ≡ word k w
      other w ne = get_or-set_other k (2 + 2 * i) w value 0 ne

      is : pairs_from (set k (2 + 2 * i) value) 0 (count k) ≡ put (pairs k) key value
      is =
          let n : count k ≡ i + suc (count k - suc i) = omega arith in
          ap (pairs_from (set k (2 + 2 * i) value) 0) n
          ∙ put-pairs k (set k (2 + 2 * i) value) i (suc i) (count k - suc i) key value (λ v p q. other v (λ d. omega arith)) (other (1 + 2 * i) (λ d. omega arith) ∙ e)
          (get_or-set_same k (2 + 2 * i) value 0 (omega (arith, S.long, S.few))) (λ t p. (other (1 + 2 * (suc i + t)) (λ d. omega arith), other (2 + 2 * (suc i + t)) (λ d. omega arith)))
          ∙ ap (λ (c : Cut). c.before ++ (key, value) ∷ c.after) (sym (cut_has P h e))

  -- a new key: the pairs from its place on stand one higher
  pub put_new : {o : List ℕ} (value : ℕ) → ((i < count k) × (key_at k i ≡ key) → ⊥) → count k < 64 → Opened k o i
      → Holds (set (set (set o (1 + 2 * i) key) (2 + 2 * i) value) 0 (count k + 1)) (put (pairs k) key value)
  put_new {o} value lacks room O = holds_by (count k + 1) (length-set (set (set o (1 + 2 * i) key) (2 + 2 * i) value) 0 (count k + 1) ∙ long) first (omega arith) is
      (put_is (pairs k) key value (sound_sorted S)).sorted (λ w p q. other w (λ d. omega arith) (λ d. omega (arith, P.within)) (λ d. omega (arith, P.within)) ∙ O.behind w (omega arith) ∙ S.unused w (omega arith) q)
    where
      long : length (set (set o (1 + 2 * i) key) (2 + 2 * i) value) ≡ 129
      long = length-set (set o (1 + 2 * i) key) (2 + 2 * i) value ∙ length-set o (1 + 2 * i) key ∙ O.long

      first : count (set (set (set o (1 + 2 * i) key) (2 + 2 * i) value) 0 (count k + 1)) ≡ count k + 1
      first = get_or-set_same (set (set o (1 + 2 * i) key) (2 + 2 * i) value) 0 (count k + 1) 0 (omega (arith, long))

      other : (w : ℕ) → w ≢ 0 → w ≢ 1 + 2 * i → w ≢ 2 + 2 * i → word (set (set (set o (1 + 2 * i) key) (2 + 2 * i) value) 0 (count k + 1)) w ≡ word o w
      other w p q r =
          get_or-set_other (set (set o (1 + 2 * i) key) (2 + 2 * i) value) 0 w (count k + 1) 0 p ∙ get_or-set_other (set o (1 + 2 * i) key) (2 + 2 * i) w value 0 r ∙ get_or-set_other o (1 + 2 * i) w key 0 q

      here : key_at (set (set (set o (1 + 2 * i) key) (2 + 2 * i) value) 0 (count k + 1)) i ≡ key
      here =
          get_or-set_other (set (set o (1 + 2 * i) key) (2 + 2 * i) value) 0 (1 + 2 * i) (count k + 1) 0 (λ d. omega arith) ∙ get_or-set_other (set o (1 + 2 * i) key) (2 + 2 * i) (1 + 2 * i) value 0 (λ d. omega arith)
          ∙ get_or-set_same o (1 + 2 * i) key 0 (omega (arith, O.long, P.within))

      there : value_at (set (set (set o (1 + 2 * i) key) (2 + 2 * i) value) 0 (count k + 1)) i ≡ value
      there =
          get_or-set_other (set (set o (1 + 2 * i) key) (2 + 2 * i) value) 0 (2 + 2 * i) (count k + 1) 0 (λ d. omega arith)
          ∙ get_or-set_same (set o (1 + 2 * i) key) (2 + 2 * i) value 0 (omega (arith, length-set o (1 + 2 * i) key, O.long, P.within))

      higher : (v w : ℕ) → w ≡ v + 2 → 1 + 2 * i ≤ v → v < 1 + 2 * count k
          → word (set (set (set o (1 + 2 * i) key) (2 + 2 * i) value) 0 (count k + 1)) w ≡ word k v
      higher v w e p q = other w (λ d. omega arith) (λ d. omega arith) (λ d. omega arith) ∙ ap (word o) e ∙ O.moved v p q

      is : pairs_from (set (set (set o (1 + 2 * i) key) (2 + 2 * i) value) 0 (count k + 1)) 0 (count k + 1) ≡ put (pairs k) key value
      is =
          let n : count k + 1 ≡ i + suc (count k - i) = omega (arith, P.within) in
          ap (pairs_from (set (set (set o (1 + 2 * i) key) (2 + 2 * i) value) 0 (count k + 1)) 0) n
          ∙ put-pairs k (set (set (set o (1 + 2 * i) key) (2 + 2 * i) value) 0 (count k + 1)) i i (count k - i) key value
          (λ v p q. other v (λ d. omega arith) (λ d. omega arith) (λ d. omega arith) ∙ O.before v q) here there
          (λ t p. (higher (1 + 2 * (i + t)) (1 + 2 * (suc i + t)) (omega arith) (omega arith) (omega arith), higher (2 + 2 * (i + t)) (2 + 2 * (suc i + t)) (omega arith) (omega arith) (omega arith)))
          ∙ ap (λ (c : Cut). c.before ++ (key, value) ∷ c.after) (sym (cut_lacks P lacks))

  -- the key taken out: the pairs behind it stand one lower
  pub take-over : {c : List ℕ} → i < count k → key_at k i ≡ key → Closed k c i → Holds (set c 0 (count k - 1)) (without (pairs k) key)
  take-over {c} h e C = holds_by (count k - 1) (length-set c 0 (count k - 1) ∙ C.long) (get_or-set_same c 0 (count k - 1) 0 (omega (arith, C.long))) (omega (arith, S.few)) is
      (sorted_without (pairs k) key (sound_sorted S)) (λ w p q. other w (λ d. omega arith) ∙ empty w p q (dec_lt w (1 + 2 * count k)))
    where
      other : (w : ℕ) → w ≢ 0 → word (set c 0 (count k - 1)) w ≡ word c w
      other w p = get_or-set_other c 0 w (count k - 1) 0 p

      empty : (w : ℕ) → 1 + 2 * (count k - 1) ≤ w → w < 129 → Dec (w < 1 + 2 * count k) → word c w ≡ 0
      empty w p q (yes r) = C.last w (omega arith) r
      empty w p q (no r) = C.behind w (omega arith) ∙ S.unused w (omega arith) q

      lower : (v w : ℕ) → w + 2 ≡ v → 1 + 2 * i ≤ w → v < 1 + 2 * count k → word (set c 0 (count k - 1)) w ≡ word k v
      lower v w d p q = other w (λ z. omega arith) ∙ C.moved w p (omega arith) ∙ ap (word k) d

      is : pairs_from (set c 0 (count k - 1)) 0 (count k - 1) ≡ without (pairs k) key
      is =
          let n : count k - 1 ≡ i + (count k - suc i) = omega arith in
          let z : 0 + i ≡ i = omega arith in
          ap (pairs_from (set c 0 (count k - 1)) 0) n ∙ pairs-split (set c 0 (count k - 1)) 0 i (count k - suc i) ∙ ap (λ j. pairs_from (set c 0 (count k - 1)) 0 i ++ pairs_from (set c 0 (count k - 1)) j (count k - suc i)) z
          ∙ rw (
            pairs_same (set c 0 (count k - 1)) k 0 0 i (λ t p. (other (1 + 2 * (0 + t)) (λ d. omega arith) ∙ C.before (1 + 2 * (0 + t)) (omega arith), other (2 + 2 * (0 + t)) (λ d. omega arith) ∙ C.before (2 + 2 * (0 + t)) (omega arith))),
            pairs_same (set c 0 (count k - 1)) k i (suc i) (count k - suc i) (λ t p. (lower (1 + 2 * (suc i + t)) (1 + 2 * (i + t)) (omega arith) (omega arith) (omega arith), lower (2 + 2 * (suc i + t)) (2 + 2 * (i + t)) (omega arith) (omega arith) (omega arith))),
          )
          (ap (λ (c : Cut). c.before ++ c.after) (sym (cut_has P h e)))

  -- an absent key changes nothing
  pub take_none : ((i < count k) × (key_at k i ≡ key) → ⊥) → Holds k (without (pairs k) key)
  take_none lacks =
      let n : count k ≡ i + (count k - i) = omega (arith, P.within) in
      let z : 0 + i ≡ i = omega arith in
      record { sound = S; is = ap (pairs_from k 0) n ∙ pairs-split k 0 i (count k - i) ∙ ap (λ j. pairs_from k 0 i ++ pairs_from k j (count k - i)) z ∙ ap (λ (c : Cut). c.before ++ c.after) (sym (cut_lacks P lacks)) }

-- a put, by what was found at the key's place
module _ {k : List ℕ} {key i : ℕ} (S : SoundKiosk k) (P : Place k key i) (value : ℕ) where
  pub putting_over : (i < count k) × (key_at k i ≡ key) → Putting k (set k (2 + 2 * i) value) key value 0
  putting_over (h, e) = passes (λ F. let z : none ≡ some (value_at k i) = sym F.0 ∙ ap (λ (c : Cut). c.found) (cut_has P h e) in let d : ◌≡◌ {A = ℕ} 0 1 = cc z in absurd (omega arith)) (refl, put-over S P value h e)

  module _ (lacks : (i < count k) × (key_at k i ≡ key) → ⊥) where
    pub putting_full : 64 ≤ count k → Putting k k key value 5
    putting_full h = fails (λ n. n (ap (λ (c : Cut). c.found) (cut_lacks P lacks), omega (arith, length_pairs k 0 (count k)))) (refl, refl)

    pub putting_new : {o : List ℕ} → count k < 64 → Opened k o i → Putting k (set (set (set o (1 + 2 * i) key) (2 + 2 * i) value) 0 (count k + 1)) key value 0
    putting_new h O = passes (λ F. omega (arith, F.1, length_pairs k 0 (count k))) (refl, put_new S P value lacks h O)

-- the edit of a frame, by its kind
pub edit_nothing : {k : List ℕ} (kind key value : ℕ) → SoundKiosk k → kind ≡ 0 → Editing k k kind key value 0
unfolding set_by
edit_nothing {k} zero key value S z = passes (λ F. omega (arith, F.0)) (refl, holds_own S)
edit_nothing {k} (suc kind) key value S z = absurd (omega arith)

pub edit_put : {k a : List ℕ} {n : ℕ} (kind key value : ℕ) → kind ≡ 1 → Putting k a key value n → Editing k a kind key value n
unfolding set_by
edit_put {k} {a} {n} kind key value e E = subst (λ i. Editing k a i key value n) (sym e) (by E)
  where
    by : Putting k a key value n → Editing k a 1 key value n
    by (fails p u) = fails (λ q. p (λ F. q (refl, F))) u
    by (passes p u) = passes (λ F. p F.1) u

pub edit_take : {k a : List ℕ} (kind key value : ℕ) → kind ≢ 0 → kind ≢ 1 → Holds a (without (pairs k) key) → Editing k a kind key value 0
unfolding set_by
edit_take zero key value p q H = absurd (p refl)
edit_take (suc zero) key value p q H = absurd (q refl)
edit_take (suc (suc kind)) key value p q H = passes (λ F. q F.0) (refl, H)
