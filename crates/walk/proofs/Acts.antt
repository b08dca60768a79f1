-- What the code chooses by numbers and tops is what the listing's turn does by trees.
use mathlib.Core.Path.{◌≡◌, refl, ap, ◌∙◌}
use mathlib.Core.Bool.{Bool, true, false}
use mathlib.Core.List.{List, [], ◌∷◌}
use Prim.Native.Nat.{ℕ, zero, suc, ◌≤◌, ◌<◌, compare, Ordering}
use native.Mathlib.Omega.{arith}
use lib.ListN.{length, drop}
use lib.Dec.{eqb, leb}
use Rattle.std.specs.Prelude.{Some}
use Rattle.model.specs.Tree.{size, id_of}
use Rattle.model.specs.Heap.{Heap, Occupied, Named, Linked, size_at, tree, load}
use Rattle.model.specs.Listing.{Turn, on, yield, pend, opened, turn}
use Rattle.model.proofs.block.Loads.{tree_node, tree_id, tree-size}
use Rattle.model.proofs.running.Growing.{named_occupied}
use Rattle.walk.specs.declared.Pending.{Pending}
use Rattle.walk.specs.declared.Pending.TheVariants as pending
use Rattle.walk.specs.declared.Act.{Act}
use Rattle.walk.specs.declared.Act.TheVariants.{Left, Right, Drop, Give}
use Rattle.walk.specs.Rows.{row}
use Rattle.walk.specs.Cursors.{item, items, top, kid, opened_on, only, common, Standing, AllStanding, TopStanding, trees, entries, both_of, alone_of, act_of, pops_of}

-- the doing of what was chosen, on both sides
abbrev pub acted : Heap → Act → List Pending → List Pending → Turn
acted h (Left m) l r = on (record { left = items h (opened_on h m (drop 1 l)); right = items h r })
acted h (Right m) l r = on (record { left = items h l; right = items h (opened_on h m (drop 1 r)) })
acted h (Drop i) l r = on (record { left = items h (drop i l); right = items h (drop 1 r) })
acted h (Give y) l r = yield (row y) (record { left = items h (drop 1 l); right = items h (drop (pops_of y) r) })

-- what a choice needs: opened nodes stand, and no more is dropped than there is
abbrev pub Fit : Heap → ℕ → Act → Type 0
Fit h n (Left m) = Occupied h m
Fit h n (Right m) = Occupied h m × (0 < n)
Fit h n (Drop i) = (i ≤ 1) × (0 < n)
Fit h n (Give y) = pops_of y ≤ n

module _ (h : Heap) (L : Linked h) where
  pub items_kid : (n : ℕ) (s : List Pending) → Named h n → items h (kid n s) ≡ pend (tree h n) (items h s)
  unfolding items tree load
  items_kid zero s o = refl
  items_kid (suc n) s o = rw (tree_node h L (suc n) o)

  items_opened : (n : ℕ) (s : List Pending) → Occupied h n → items h (opened_on h n s) ≡ opened (tree h n) (items h s)
  unfolding items
  items_opened n s o =
      rw (tree_node h L n o, items_kid (h.left n) (pending.Entry (h.key n) (h.value n) ∷ kid (h.right n) s) (L.lefts n o), items_kid (h.right n) s (L.rights n o))

  pub kid_standing : (n : ℕ) (s : List Pending) → Named h n → AllStanding h s → AllStanding h (kid n s)
  unfolding AllStanding
  kid_standing zero s o a = a
  kid_standing (suc n) s o a = (o, a)

  pub opened_standing : (n : ℕ) (s : List Pending) → Occupied h n → AllStanding h s → AllStanding h (opened_on h n s)
  unfolding AllStanding
  opened_standing n s o a = kid_standing (h.left n) _ (L.lefts n o) (tt, kid_standing (h.right n) s (L.rights n o) a)

  both_acts : (a z : Pending) (l r : List Pending) → Standing h a → Standing h z →
      turn (items h (a ∷ l)) (items h (z ∷ r)) ≡ acted h (both_of h a z) (a ∷ l) (z ∷ r)
  unfolding turn items trees entries
  both_acts (pending.Tree x) (pending.Tree y) l r p q =
      let px = named_occupied h x p in
      let qy = named_occupied h y q in
      let same : eqb (id_of (tree h x)) (id_of (tree h y)) ≡ eqb x y = rw (tree_id h L x px, tree_id h L y qy) in
      let less : leb (size (tree h y)) (size (tree h x)) ≡ leb (size_at h y) (size_at h x) = rw (tree-size h L x px, tree-size h L y qy) in
      go (eqb (id_of (tree h x)) (id_of (tree h y))) (leb (size (tree h y)) (size (tree h x)))
      ∙ (ap (λ (t : Bool). done (pick t (leb (size (tree h y)) (size (tree h x))))) same ∙ ap (λ (s : Bool). done (pick (eqb x y) s)) less)
    where
      pick : Bool → Bool → Act
      pick t s = elim t [ true ↦ Drop 1 | false ↦ elim s [ true ↦ Left x | false ↦ Right y ] ]

      done : Act → Turn
      done c = acted h c (pending.Tree x ∷ l) (pending.Tree y ∷ r)

      go : (t s : Bool) → elim t [
        | true ↦ on (record { left = items h l; right = items h r })
        | false ↦ elim s [
          | true ↦ on (record { left = opened (tree h x) (items h l); right = item h (pending.Tree y) ∷ items h r })
          | false ↦ on (record { left = item h (pending.Tree x) ∷ items h l; right = opened (tree h y) (items h r) })
        ]
      ] ≡ done (pick t s)
      go true s = refl
      go false true = rw (items_opened x l p)
      go false false = rw (items_opened y r q)
  both_acts (pending.Tree x) (pending.Entry j u) l r p q = rw (items_opened x l p)
  both_acts (pending.Entry k v) (pending.Tree y) l r p q = rw (items_opened y r q)
  both_acts (pending.Entry k v) (pending.Entry j u) l r p q = go (compare k j)
    where
      go : (o : Ordering) → elim o [
        | Ordering.lt ↦ yield (row (only k v)) (record { left = items h l; right = item h (pending.Entry j u) ∷ items h r })
        | Ordering.eq ↦ yield (row (common k v u)) (record { left = items h l; right = items h r })
        | Ordering.gt ↦ on (record { left = item h (pending.Entry k v) ∷ items h l; right = items h r })
      ] ≡ acted h (elim o [ Ordering.lt ↦ Give (only k v) | Ordering.eq ↦ Give (common k v u) | Ordering.gt ↦ Drop 0 ]) (pending.Entry k v ∷ l) (pending.Entry j u ∷ r)
      go Ordering.lt = refl
      go Ordering.eq = refl
      go Ordering.gt = refl

  alone_acts : (a : Pending) (l : List Pending) → Standing h a → turn (items h (a ∷ l)) [] ≡ acted h (alone_of a) (a ∷ l) []
  unfolding turn items
  alone_acts (pending.Tree x) l p = rw (items_opened x l p)
  alone_acts (pending.Entry k v) l p = refl

  both_fit : (n : ℕ) (a z : Pending) → Standing h a → Standing h z → 0 < n → Fit h n (both_of h a z)
  unfolding trees entries
  both_fit n (pending.Tree x) (pending.Tree y) p q m = go (eqb x y) (leb (size_at h y) (size_at h x))
    where
      go : (t s : Bool) → Fit h n (elim t [ true ↦ Drop 1 | false ↦ elim s [ true ↦ Left x | false ↦ Right y ] ])
      go true s = (omega arith, m)
      go false true = p
      go false false = (q, m)
  both_fit n (pending.Tree x) (pending.Entry j u) p q m = p
  both_fit n (pending.Entry k v) (pending.Tree y) p q m = (q, m)
  both_fit n (pending.Entry k v) (pending.Entry j u) p q m = go (compare k j)
    where
      go : (o : Ordering) → Fit h n (elim o [ Ordering.lt ↦ Give (only k v) | Ordering.eq ↦ Give (common k v u) | Ordering.gt ↦ Drop 0 ])
      go Ordering.lt = omega arith
      go Ordering.eq = omega arith
      go Ordering.gt = (omega arith, m)

  alone_fit : (n : ℕ) (a : Pending) → Standing h a → Fit h n (alone_of a)
  alone_fit n (pending.Tree x) p = p
  alone_fit n (pending.Entry k v) p = omega arith

module _ {h : Heap} (L : Linked h) (a : Pending) (l r : List Pending) (e : Some a ≡ top l) (p : AllStanding h l) (q : AllStanding h r) where
  pub stand_top : Standing h a
  unfolding AllStanding
  stand_top = go l e p
    where
      go : (l : List Pending) → Some a ≡ top l → AllStanding h l → Standing h a
      go [] e p = absurd (cc)
      go (x ∷ l) e p = let f : x ≡ a = cc in rw (← f) p.0

  pub acts : turn (items h l) (items h r) ≡ acted h (act_of h a (top r)) l r
  unfolding items AllStanding
  acts = go l r e q
    where
      go : (l r : List Pending) → Some a ≡ top l → AllStanding h r → turn (items h l) (items h r) ≡ acted h (act_of h a (top r)) l r
      go [] r e q = absurd (cc)
      go (x ∷ l) [] e q = let f : x ≡ a = cc in rw f (alone_acts h L a l stand_top)
      go (x ∷ l) (z ∷ r) e q = let f : x ≡ a = cc in rw f (both_acts h L a z l r stand_top q.0)

  pub fit : Fit h (length r) (act_of h a (top r))
  unfolding AllStanding
  fit = go r q
    where
      go : (r : List Pending) → AllStanding h r → Fit h (length r) (act_of h a (top r))
      go [] q = alone_fit h L 0 a stand_top
      go (z ∷ r) q = both_fit h L (length (z ∷ r)) a z stand_top q.0 (omega arith)

  module _ {x : Act} (c : x ≡ act_of h a (top r)) where
    pub acts_by : turn (items h l) (items h r) ≡ acted h x l r
    acts_by = rw c acts

    pub fit_by : Fit h (length r) x
    fit_by = rw c fit

pub stand_other : (h : Heap) (r : List Pending) → AllStanding h r → TopStanding h (top r)
unfolding AllStanding
stand_other h [] q = tt
stand_other h (z ∷ r) q = q.0
