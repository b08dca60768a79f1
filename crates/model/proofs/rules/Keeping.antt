-- What every make keeps, all the rules keep.
use mathlib.Core.Path.{◌≡◌, refl}
use Prim.Native.Nat.{ℕ, zero, suc, ◌+◌, compare, Ordering}
use mathlib.Core.Bool.{Bool, true, false, ◌&&◌}
use mathlib.Core.Option.{Option, none, some}
use lib.Dec.{ltb, leb, eqb}
use Rattle.model.specs.Tree.{Tree, leaf, node, size, lookup}
use Rattle.model.specs.Supply.{Supply, Make, make, done, apart, ◌>>=◌, ◌>>◌, given, next, taken}
use Rattle.model.specs.Rules.{heavy, once, larger, twice, rotate_left, rotate_right, balanced, insert_by, insert, remove_min, without_key, remove_present, remove, join, Parts, split, merged_left, merged_right, union_by, union, rest, kept, difference}

-- a computation that gives what R holds of, and leaves a supply that A holds of
module _ (A : Supply → Type 0) where
  abbrev pub Ok : {X : Type 0} → (X → Type 0) → Make X → Type 0
  Ok R m = (s : Supply) → A s → R (m s).0 × A (m s).1

  done_ok : {X : Type 0} (R : X → Type 0) (x : X) → R x → Ok R (done x)
  done_ok R x p = λ s a. (p, a)

  bind_ok : {X Y : Type 0} (R : X → Type 0) (S : Y → Type 0) (m : Make X) (f : X → Make Y) → Ok R m → ((x : X) → R x → Ok S (f x)) → Ok S (m >>= f)
  bind_ok R S m f o g = λ s a. let r = o s a in g (m s).0 r.0 (m s).1 r.1

  apart_ok : {Y : Type 0} (S : Y → Type 0) → ((i : ℕ) (s : Supply) → A s → A (given i s)) → (i : ℕ) (m : Make Y) → Ok S m → Ok S (apart i >> m)
  apart_ok S g i m o = λ s a. o (given i s) (g i s a)

  if_ok : {Y : Type 0} (S : Y → Type 0) (b : Bool) (m n : Make Y) → Ok S m → Ok S n → Ok S (elim b [ true ↦ m | false ↦ n ])
  if_ok S true m n o p = o
  if_ok S false m n o p = p

  cmp_ok : {Y : Type 0} (S : Y → Type 0) (c : Ordering) (m n k : Make Y) → Ok S m → Ok S n → Ok S k
      → Ok S (elim c [ Ordering.lt ↦ m | Ordering.eq ↦ n | Ordering.gt ↦ k ])
  cmp_ok S Ordering.lt m n k o p q = o
  cmp_ok S Ordering.eq m n k o p q = p
  cmp_ok S Ordering.gt m n k o p q = q

-- what holds of trees (P) and of supplies (A) is kept by taking a node apart, by join, and by join where there is no key between
pub record Joining (P : Tree → Type 0) (A : Supply → Type 0) : Type 0 where
  pub empty : P leaf
  pub left : (i k v : ℕ) (l r : Tree) → P (node i k v l r) → P l
  pub right : (i k v : ℕ) (l r : Tree) → P (node i k v l r) → P r
  pub given : (i : ℕ) (s : Supply) → A s → A (given i s)
  pub gap : (l r : Tree) → P l → P r → Ok A P (without_key join l r)
  pub join : (k v : ℕ) (l r : Tree) → P l → P r → Ok A P (join k v l r)

module _ {P : Tree → Type 0} {A : Supply → Type 0} (J : Joining P A) where
  abbrev Both : Parts → Type 0
  Both p = P p.left × P p.right

  pub split_ok : (t : Tree) (k : ℕ) → P t → Ok A Both (split t k)
  unfolding split
  split_ok leaf k p s a = ((J.empty, J.empty), a)
  split_ok (node i h w l r) k p s a = go (compare k h) refl (split_ok l k pl (given i s) (J.given i s a)) (split_ok r k pr (given i s) (J.given i s a))
    where
      pl : P l
      pl = J.left i h w l r p

      pr : P r
      pr = J.right i h w l r p

      go : (c : Ordering) → compare k h ≡ c → Both (split l k (given i s)).0 × A (split l k (given i s)).1
          → Both (split r k (given i s)).0 × A (split r k (given i s)).1
          → Both (split (node i h w l r) k s).0 × A (split (node i h w l r) k s).1
      go Ordering.lt e x y =
          let q = split l k (given i s) in
          let j = J.join h w q.0.right r x.0.1 pr q.1 x.1 in
          rw (e, split) ((x.0.0, j.0), j.1)
      go Ordering.eq e x y = rw (e, split) ((pl, pr), J.given i s a)
      go Ordering.gt e x y =
          let q = split r k (given i s) in
          let j = J.join h w l q.0.left pl y.0.0 q.1 y.1 in
          rw (e, split) ((j.0, y.0.1), j.1)

  pub rest_ok : (a : Tree) (h : ℕ) (o : Option ℕ) (b : Tree) → P a → P b → Ok A P (rest a h o b)
  unfolding rest
  rest_ok a h (some w) b pa pb = J.join h w a b pa pb
  rest_ok a h none b pa pb = J.gap a b pa pb

  pub difference_ok : (diff : ℕ → ℕ → Option ℕ) (cancel : Bool) (l r : Tree) → P l → P r → Ok A P (difference diff cancel l r)
  unfolding difference
  difference_ok diff cancel leaf r pl pr = λ s a. (J.empty, a)
  difference_ok diff cancel (node i h w ll lr) leaf pl pr = λ s a. (pl, a)
  difference_ok diff cancel (node i h w ll lr) (node j g u rl rr) pl pr = if_ok A P (cancel && eqb i j) _ _ (done_ok A P leaf J.empty) (λ s a.
      let p = split (node j g u rl rr) h (given i s) in
      let q = split_ok (node j g u rl rr) h pr (given i s) (J.given i s a) in
      let x = difference diff cancel ll p.0.left p.1 in
      let y = difference_ok diff cancel ll p.0.left (J.left i h w ll lr pl) q.0.0 p.1 q.1 in
      let x' = difference diff cancel lr p.0.right x.1 in
      let y' = difference_ok diff cancel lr p.0.right (J.right i h w ll lr pl) q.0.1 x.1 y.1 in
      rest_ok x.0 h (kept diff w p.0.found) x'.0 y.0 y'.0 x'.1 y'.1)

  pub union_by_ok : (merge : ℕ → ℕ → ℕ) (fuel : ℕ) (l r : Tree) → P l → P r → Ok A P (union_by merge fuel l r)
  unfolding union_by
  union_by_ok merge zero l r pl pr = done_ok A P leaf J.empty
  union_by_ok merge (suc fuel) leaf r pl pr = done_ok A P r pr
  union_by_ok merge (suc fuel) (node i h w ll lr) leaf pl pr = done_ok A P (node i h w ll lr) pl
  union_by_ok merge (suc fuel) (node i h w ll lr) (node j g u rl rr) pl pr = if_ok A P (leb (size (node j g u rl rr)) (size (node i h w ll lr))) _ _
      (apart_ok A P J.given i _ (bind_ok A Both P (split (node j g u rl rr) h) _ (split_ok (node j g u rl rr) h pr) (λ p q.
      bind_ok A P P (union_by merge fuel ll p.left) _ (union_by_ok merge fuel ll p.left (J.left i h w ll lr pl) q.0) (λ a pa.
      bind_ok A P P (union_by merge fuel lr p.right) _ (union_by_ok merge fuel lr p.right (J.right i h w ll lr pl) q.1) (λ b pb. J.join h (merged_left merge w p.found) a b pa pb)))))
      (apart_ok A P J.given j _ (bind_ok A Both P (split (node i h w ll lr) g) _ (split_ok (node i h w ll lr) g pl) (λ p q.
      bind_ok A P P (union_by merge fuel p.left rl) _ (union_by_ok merge fuel p.left rl q.0 (J.left j g u rl rr pr)) (λ a pa.
      bind_ok A P P (union_by merge fuel p.right rr) _ (union_by_ok merge fuel p.right rr q.1 (J.right j g u rl rr pr)) (λ b pb. J.join g (merged_right merge p.found u) a b pa pb)))))

  pub union_ok : (merge : ℕ → ℕ → ℕ) (l r : Tree) → P l → P r → Ok A P (union merge l r)
  unfolding union
  union_ok merge l r pl pr = union_by_ok merge (suc (size l + size r)) l r pl pr

-- what holds of trees and of supplies is kept by taking a node apart and by making one
pub record Keeping (P : Tree → Type 0) (A : Supply → Type 0) : Type 0 where
  pub empty : P leaf
  pub left : (i k v : ℕ) (l r : Tree) → P (node i k v l r) → P l
  pub right : (i k v : ℕ) (l r : Tree) → P (node i k v l r) → P r
  pub make : (k v : ℕ) (l r : Tree) (s : Supply) → P l → P r → A s → P (node (next s) k v l r)
  pub taken : (s : Supply) → A s → A (taken s)
  pub given : (i : ℕ) (s : Supply) → A s → A (given i s)

module _ {P : Tree → Type 0} {A : Supply → Type 0} (K : Keeping P A) where
  abbrev pub Keep : (ℕ → ℕ → Tree → Tree → Make Tree) → Type 0
  Keep mk = (k v : ℕ) (l r : Tree) → P l → P r → Ok A P (mk k v l r)

  pub make_ok : Keep make
  make_ok k v l r p q = λ s a. (K.make k v l r s p q a, K.taken s a)

  two_ok : (k v : ℕ) (l r : Tree) (h w : ℕ) (t : Tree) → P l → P r → P t → Ok A P (make k v l r >>= λ a. make h w a t)
  two_ok k v l r h w t p q o = bind_ok A P P (make k v l r) (λ a. make h w a t) (make_ok k v l r p q) (λ a pa. make_ok h w a t pa o)

  two_ok' : (k v : ℕ) (l r : Tree) (h w : ℕ) (t : Tree) → P l → P r → P t → Ok A P (make k v l r >>= λ a. make h w t a)
  two_ok' k v l r h w t p q o = bind_ok A P P (make k v l r) (λ a. make h w t a) (make_ok k v l r p q) (λ a pa. make_ok h w t a o pa)

  three_ok : (k v : ℕ) (l x : Tree) (h w : ℕ) (y r : Tree) (g u : ℕ) → P l → P x → P y → P r → Ok A P (make k v l x >>= λ a. make h w y r >>= λ b. make g u a b)
  three_ok k v l x h w y r g u pl px py pr =
      bind_ok A P P (make k v l x) (λ a. make h w y r >>= λ b. make g u a b) (make_ok k v l x pl px) (λ a pa.
      bind_ok A P P (make h w y r) (λ b. make g u a b) (make_ok h w y r py pr) (λ b pb. make_ok g u a b pa pb))

  twice_ok : (k v : ℕ) (l rl : Tree) (h w : ℕ) (rr : Tree) → P l → P rl → P rr → Ok A P (twice k v l rl h w rr)
  unfolding twice
  twice_ok k v l leaf h w rr pl prl prr = two_ok k v l leaf h w rr pl prl prr
  twice_ok k v l (node i g u x y) h w rr pl prl prr = apart_ok A P K.given i _ (three_ok k v l x h w y rr g u pl (K.left i g u x y prl) (K.right i g u x y prl) prr)

  rotate_left_ok : Keep rotate_left
  unfolding rotate_left
  rotate_left_ok k v l leaf pl pr = make_ok k v l leaf pl pr
  rotate_left_ok k v l (node i h w rl rr) pl pr = apart_ok A P K.given i _ (if_ok A P (once rl rr) _ _
      (two_ok k v l rl h w rr pl (K.left i h w rl rr pr) (K.right i h w rl rr pr)) (twice_ok k v l rl h w rr pl (K.left i h w rl rr pr) (K.right i h w rl rr pr)))

  rotate_right_ok : Keep rotate_right
  unfolding rotate_right
  rotate_right_ok k v leaf r pl pr = make_ok k v leaf r pl pr
  rotate_right_ok k v (node i h w ll lr) r pl pr = apart_ok A P K.given i _ (if_ok A P (once lr ll) _ _
      (two_ok' k v lr r h w ll (K.right i h w ll lr pl) pr (K.left i h w ll lr pl)) (twice_ok h w ll lr k v r (K.left i h w ll lr pl) (K.right i h w ll lr pl) pr))

  pub balanced_ok : Keep balanced
  unfolding balanced
  balanced_ok k v l r pl pr = if_ok A P (ltb (size l + size r) 2) _ _ (make_ok k v l r pl pr)
      (if_ok A P (heavy r l) _ _ (rotate_left_ok k v l r pl pr)
      (if_ok A P (heavy l r) _ _ (rotate_right_ok k v l r pl pr) (make_ok k v l r pl pr)))

  pub join_ok : Keep join
  unfolding join
  join_ok k v leaf leaf pl pr = balanced_ok k v leaf leaf pl pr
  join_ok k v leaf (node j h w rl rr) pl pr = apart_ok A P K.given j _ (bind_ok A P P (join k v leaf rl) (λ l'. balanced h w l' rr) (join_ok k v leaf rl pl (K.left j h w rl rr pr)) (λ l' p. balanced_ok h w l' rr p (K.right j h w rl rr pr)))
  join_ok k v (node i h w ll lr) leaf pl pr = apart_ok A P K.given i _ (bind_ok A P P (join k v lr leaf) (λ r'. balanced h w ll r') (join_ok k v lr leaf (K.right i h w ll lr pl) pr) (λ r' p. balanced_ok h w ll r' (K.left i h w ll lr pl) p))
  join_ok k v (node i h w ll lr) (node j g u rl rr) pl pr =
      if_ok A P (larger (node j g u rl rr) (node i h w ll lr)) _ _
      (apart_ok A P K.given j _ (bind_ok A P P (join k v (node i h w ll lr) rl) (λ l'. balanced g u l' rr) (join_ok k v (node i h w ll lr) rl pl (K.left j g u rl rr pr)) (λ l' p. balanced_ok g u l' rr p (K.right j g u rl rr pr))))
      (if_ok A P (larger (node i h w ll lr) (node j g u rl rr)) _ _
      (apart_ok A P K.given i _ (bind_ok A P P (join k v lr (node j g u rl rr)) (λ r'. balanced h w ll r') (join_ok k v lr (node j g u rl rr) (K.right i h w ll lr pl) pr) (λ r' p. balanced_ok h w ll r' (K.left i h w ll lr pl) p)))
      (balanced_ok k v (node i h w ll lr) (node j g u rl rr) pl pr))

  pub remove_min_ok : (k v : ℕ) (l r : Tree) → P l → P r → (s : Supply) → A s → P (remove_min k v l r s).0.rest × A (remove_min k v l r s).1
  unfolding remove_min
  remove_min_ok k v leaf r pl pr s a = (pr, a)
  remove_min_ok k v (node j h w ll lr) r pl pr s a =
      let m = remove_min_ok h w ll lr (K.left j h w ll lr pl) (K.right j h w ll lr pl) (given j s) (K.given j s a) in
      let q = remove_min h w ll lr (given j s) in
      balanced_ok k v q.0.rest r m.0 pr q.1 m.1

  pub without_key_ok : (mk : ℕ → ℕ → Tree → Tree → Make Tree) → Keep mk → (l r : Tree) → P l → P r → Ok A P (without_key mk l r)
  unfolding without_key
  without_key_ok mk o leaf r pl pr s a = (pr, a)
  without_key_ok mk o (node i h w ll lr) leaf pl pr s a = (pl, a)
  without_key_ok mk o (node i h w ll lr) (node j g u rl rr) pl pr s a =
      let m = remove_min_ok g u rl rr (K.left j g u rl rr pr) (K.right j g u rl rr pr) (given j s) (K.given j s a) in
      let q = remove_min g u rl rr (given j s) in
      o q.0.key q.0.value (node i h w ll lr) q.0.rest pl m.0 q.1 m.1

  pub joining : Joining P A
  joining = record { empty = K.empty; left = K.left; right = K.right; given = K.given; join = join_ok; gap = without_key_ok join join_ok }

  pub insert_by_ok : (mk : ℕ → ℕ → Tree → Tree → Make Tree) → Keep mk → (t : Tree) (k v : ℕ) → P t → Ok A P (insert_by mk t k v)
  unfolding insert_by
  insert_by_ok mk q leaf k v p s a = make_ok k v leaf leaf K.empty K.empty s a
  insert_by_ok mk q (node i h w l r) k v p s a = go (compare k h) refl (insert_by_ok mk q l k v (K.left i h w l r p) (given i s) (K.given i s a)) (insert_by_ok mk q r k v (K.right i h w l r p) (given i s) (K.given i s a))
    where
      go : (c : Ordering) → compare k h ≡ c → P (insert_by mk l k v (given i s)).0 × A (insert_by mk l k v (given i s)).1
          → P (insert_by mk r k v (given i s)).0 × A (insert_by mk r k v (given i s)).1
          → P (insert_by mk (node i h w l r) k v s).0 × A (insert_by mk (node i h w l r) k v s).1
      go Ordering.lt e x y = rw (e, insert_by) (q h w (insert_by mk l k v (given i s)).0 r x.0 (K.right i h w l r p) (insert_by mk l k v (given i s)).1 x.1)
      go Ordering.eq e x y = rw (e, insert_by) (q k v l r (K.left i h w l r p) (K.right i h w l r p) (given i s) (K.given i s a))
      go Ordering.gt e x y = rw (e, insert_by) (q h w l (insert_by mk r k v (given i s)).0 (K.left i h w l r p) y.0 (insert_by mk r k v (given i s)).1 y.1)

  pub remove_present_ok : (t : Tree) (k : ℕ) → P t → Ok A P (remove_present t k)
  unfolding remove_present
  remove_present_ok leaf k p = done_ok A P leaf K.empty
  remove_present_ok (node i h w l r) k p = apart_ok A P K.given i _ (cmp_ok A P (compare k h) _ _ _
      (bind_ok A P P (remove_present l k) (λ l'. balanced h w l' r) (remove_present_ok l k (K.left i h w l r p)) (λ l' q. balanced_ok h w l' r q (K.right i h w l r p)))
      (without_key_ok balanced balanced_ok l r (K.left i h w l r p) (K.right i h w l r p))
      (bind_ok A P P (remove_present r k) (λ r'. balanced h w l r') (remove_present_ok r k (K.right i h w l r p)) (λ r' q. balanced_ok h w l r' (K.left i h w l r p) q)))

  pub insert_ok : (t : Tree) (k v : ℕ) → P t → Ok A P (insert t k v)
  unfolding insert
  insert_ok t k v p = go (lookup t k)
    where
      go : (f : Option ℕ) → Ok A P (elim f [ none ↦ insert_by balanced t k v | some w ↦ insert_by make t k v ])
      go none = insert_by_ok balanced balanced_ok t k v p
      go (some w) = insert_by_ok make make_ok t k v p

  pub remove_ok : (t : Tree) (k : ℕ) → P t → Ok A P (remove t k)
  unfolding remove
  remove_ok t k p = go (lookup t k)
    where
      go : (f : Option ℕ) → Ok A P (elim f [ none ↦ done t | some w ↦ remove_present t k ])
      go none = done_ok A P t p
      go (some w) = remove_present_ok t k p
