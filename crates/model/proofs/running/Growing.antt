-- A make, a node taken apart, and one rule after another: how a running call keeps to its rule.
use mathlib.Core.Path.{◌≡◌, refl, ap, sym, subst, ◌∙◌}
use mathlib.Core.Logic.{◌≢◌}
use Prim.Native.Nat.{ℕ, zero, suc, ◌+◌, ◌≤◌, ◌<◌}
use mathlib.Core.Bool.{Bool, true, false}
use mathlib.Core.Option.{Option, none, some}
use mathlib.Core.List.{List, [], ◌∷◌}
use native.Mathlib.Omega.{arith}
use Rattle.model.specs.Tree.{Tree, size}
use Rattle.model.specs.Supply.{Supply, Make, make, done, apart, ◌>>=◌, ◌>>◌, first_of, after_first, is_none, among, next, taken, back, given, short}
use Rattle.model.specs.Heap.{Heap, Occupied, Named, size_at, hit, refs, load, tree, Linked, free, supply}
use Rattle.model.specs.Block.{heap, Shaped}
use Rattle.model.specs.Moves.{Made, Opened, Running, held, Among, Covered, Holds, Holding, Stocked, Gives, Turned, Came, Still}
use Rattle.model.proofs.block.Loads.{tree-size}
use Rattle.model.proofs.block.Counts.{hit_yes, hit_no}
use Rattle.model.proofs.running.Steps.{made_linked, made_counted, made_old, made_new, still}
use Rattle.model.proofs.running.Pieces.{holds-less, piece_named, piece_stood, piece_new, made_holds, stood_holds, opened-holds}
use Rattle.model.proofs.block.Pinned.{free_head, free_back, Taken}
use Rattle.model.proofs.rules.Steady.{Onward}

-- a call starts with its entry's free numbers
pub stocked_supply : (h : Heap) → Stocked h h (supply h)
unfolding supply short
stocked_supply h = record { free = refl; stood = λ n. refl; enough = refl }

-- an occupied node is named
pub named_occupied : (h : Heap) (n : ℕ) → Occupied h n → Named h n
named_occupied h zero o = tt
named_occupied h (suc n) o = o

-- the node of the lowest free number was made
pub came_made : {b e : List ℕ} {k v l r n : ℕ} {ns : List ℕ} → Running b → Shaped e → free (heap b) ≡ n ∷ ns → Named (heap b) l
    → Named (heap b) r → Made (heap b) (heap e) n l r → (heap e).key n ≡ k → (heap e).value n ≡ v
    → Came Tree b e (l ∷ r ∷ []) (n ∷ []) (some (tree (heap e) n)) (make k v (tree (heap b) l) (tree (heap b) r))
unfolding next taken short first_of after_first is_none
came_made {b} {e} {k} {v} {l} {r} {n} {ns} R S first nl nr M ek ev = record {
  running = record { shaped = S; linked = made_linked M R.linked nl nr; counts = made_counted M R.linked nl nr (λ x. 0) refl R.counts };
  turned = λ a own H. record { holds = made_holds M R.linked nl nr H; trees = λ m q p. made_old M R.linked nl nr m (piece_named m H (omega (arith, p))) };
  gives = λ a own H s F. let q : s.free ≡ n ∷ ns = F.free ∙ first in (
    sym (made_new M R.linked nl nr ∙ rw (ek, ev, q)),
    record { free = rw q (sym (rw M.except.room T.left)); stood = F.stood; enough = rw q F.enough },
  );
}
  where
    T : Taken (heap b).occupied (heap e).occupied 1 (heap b).room n ns
    T = free_head (heap b).occupied (heap e).occupied 1 (heap b).room n ns first M.occupied M.except.occupied

-- no number is free
pub came_full : {b ps : List ℕ} {k v : ℕ} {l r : Tree} → Running b → free (heap b) ≡ [] → Came Tree b b ps [] none (make k v l r)
unfolding taken short is_none held
came_full {b} R empty = record {
  running = R;
  turned = λ a own H. record { holds = holds-less (λ n p. omega arith) H; trees = λ m q p. refl };
  gives = λ a own H s F. rw (F.free ∙ empty) refl;
}

-- a node that stood at entry was taken apart: nothing is changed
pub came_stood : {b : List ℕ} {n : ℕ} → Running b → Occupied (heap b) n → 1 ≤ refs (heap b) n
    → Came (Unit {0}) b b (n ∷ []) ((heap b).left n ∷ (heap b).right n ∷ []) (some tt) (apart n)
unfolding given back held short
came_stood {b} {n} R o r = record {
  running = R;
  turned = λ a own H. record { holds = stood_holds R.linked (stood H) H; trees = λ m q p. refl };
  gives = λ a own H s F. let t : s.stood n ≡ true = F.stood n ∙ stood H in (refl, record { free = rw t F.free; stood = F.stood; enough = F.enough });
}
  where
    stood : {a : Heap} {own : ℕ → ℕ} → Holds a (heap b) (n ∷ []) own → a.occupied n ≡ true
    stood H = piece_stood n H (R.linked.within n o).0 (omega (arith, hit_yes n n refl)) o r

-- a node that the call made was taken apart: its number is free again
pub came_opened : {b e : List ℕ} {n : ℕ} → Running b → Running e → refs (heap b) n ≡ 0 → Opened (heap b) (heap e) n
    → Named (heap e) ((heap b).left n) → Named (heap e) ((heap b).right n)
    → Came (Unit {0}) b e (n ∷ []) ((heap b).left n ∷ (heap b).right n ∷ []) (some tt) (apart n)
unfolding given back short held
came_opened {b} {e} {n} R S z O nl nr = record {
  running = S;
  turned = λ a own H. record { holds = opened-holds R.linked O nl nr (piece_new n H z) H; trees = λ m q p. O.trees m (other H m p) (piece_named m H (omega (arith, p))) };
  gives = λ a own H s F. let t : s.stood n ≡ false = F.stood n ∙ piece_new n H z in (
    refl,
    record {
      free = rw t (ap (among n) F.free ∙ sym (rw O.except.room (free_back (heap b).occupied (heap e).occupied 1 (heap b).room n O.was O.free O.except.occupied (R.linked.within n O.was).0 (omega (arith, (R.linked.within n O.was).1)))));
      stood = F.stood;
      enough = F.enough;
    },
  );
}
  where
    other : {a : Heap} {own : ℕ → ℕ} → Holds a (heap b) (n ∷ []) own → (m : ℕ) → 1 ≤ own m → m ≢ n
    other {a} {own} H m p q = absurd (omega (arith, H.once n (R.linked.within n O.was).0 O.was (piece_new n H z), hit_yes n n refl, ap own q))

-- One rule after another: the first takes some of the pieces `tot` and leaves `rest`, the second takes of `rest` and of what the first made

module _ {X Y : Type 0} (b c e : List ℕ) {ins mid ins2 outs tot : List ℕ} (rest : List ℕ) (p : Among ins rest tot) (q : Covered ins2 mid rest) where
  pub came_bind : (x : X) (y : Option Y) (m : Make X) (f : X → Make Y) → Came X b c ins mid (some x) m → Came Y c e ins2 outs y (f x)
      → Came Y b e tot outs y (m >>= f)
  came_bind x y m f A B = record {
    running = B.running;
    turned = λ a own H. let T = B.turned a own (then a own H) in record { holds = T.holds; trees = λ n i o. T.trees n i o ∙ (A.turned a (λ n. held rest n + own n) (first a own H)).trees n i (omega (arith, o)) };
    gives = λ a own H s F. let g = A.gives a (λ n. held rest n + own n) (first a own H) s F in subst (λ z. Gives a (heap e) y (f z (m s).1)) (sym g.0) (B.gives a own (then a own H) (m s).1 g.1);
  }
    where
      first : (a : Heap) (own : ℕ → ℕ) → Holds a (heap b) tot own → Holds a (heap b) ins (λ n. held rest n + own n)
      first a own H = holds-less (λ n i. omega (arith, p n i)) H

      then : (a : Heap) (own : ℕ → ℕ) → Holds a (heap b) tot own → Holds a (heap c) ins2 own
      then a own H = holds-less (λ n i. omega (arith, q n i)) (A.turned a (λ n. held rest n + own n) (first a own H)).holds

-- the same where the first takes a node apart
pub came_apart : {Y : Type 0} (b c e : List ℕ) {ins mid ins2 outs tot : List ℕ} (rest : List ℕ) → Among ins rest tot → Covered ins2 mid rest
    → (i : ℕ) (y : Option Y) (m : Make Y) → Came (Unit {0}) b c ins mid (some tt) (apart i) → Came Y c e ins2 outs y m → Came Y b e tot outs y (apart i >> m)
came_apart b c e rest p q i y m A B = came_bind b c e rest p q tt y (apart i) (λ u. m) A B

-- the first found no room, and what would follow only makes more
pub came_stop : {X Y : Type 0} (b e : List ℕ) {ins tot : List ℕ} → Among ins [] tot → (m : Make X) (f : X → Make Y)
    → Came X b e ins [] none m → ((x : X) → Onward (f x)) → Came Y b e tot [] none (m >>= f)
came_stop b e p m f A o = record {
  running = A.running;
  turned = λ a own H. A.turned a own (holds-less (λ n i. omega (arith, p n i)) H);
  gives = λ a own H s F. o (m s).0 (m s).1 (A.gives a own (holds-less (λ n i. omega (arith, p n i)) H) s F);
}

-- nothing made: some pieces are let go of
pub came_done : {X : Type 0} (b : List ℕ) {ins outs : List ℕ} → Among outs [] ins → (x : X) → Running b → Came X b b ins outs (some x) (done x)
came_done b p x R = record {
  running = R;
  turned = λ a own H. record { holds = holds-less (λ n i. omega (arith, p n i)) H; trees = λ m i o. refl };
  gives = λ a own H s F. (refl, F);
}

-- more pieces than the rule takes
pub came_less : {X : Type 0} {b e ps qs outs : List ℕ} {x : Option X} {m : Make X} → Among ps [] qs → Came X b e ps outs x m → Came X b e qs outs x m
came_less p A = record {
  running = A.running;
  turned = λ a own H. A.turned a own (holds-less (λ n i. omega (arith, p n i)) H);
  gives = λ a own H s F. A.gives a own (holds-less (λ n i. omega (arith, p n i)) H) s F;
}

-- What a rule leaves of the other pieces

module _ {X : Type 0} {b c ins outs ps : List ℕ} {x : Option X} {m : Make X} (H : Holding b ps) (A : Came X b c ins outs x m) where
  pub came_still : (y : ℕ) → Among ins (y ∷ []) ps → Still b c y
  unfolding held tree load
  came_still zero p = record { named = tt; tree = refl; size = refl }
  came_still (suc y) p = record { named = named; tree = same; size = sym (tree-size (heap c) A.running.linked (suc y) named) ∙ ap size same ∙ tree-size (heap b) H.running.linked (suc y) was }
    where
      one : hit (suc y) (suc y) ≡ 1
      one = hit_yes (suc y) (suc y) refl

      T : Turned H.entry (heap b) (heap c) outs (hit (suc y))
      T = A.turned H.entry (hit (suc y)) (holds-less (λ n i. omega (arith, p n i)) H.holds)

      named : Named (heap c) (suc y)
      named = piece_named (suc y) T.holds (omega (arith, one))

      was : Named (heap b) (suc y)
      was = piece_named (suc y) H.holds (omega (arith, p (suc y) (omega arith), one))

      same : tree (heap c) (suc y) ≡ tree (heap b) (suc y)
      same = T.trees (suc y) (omega arith) (omega (arith, one))

  pub came_holding : {qs : List ℕ} (rest : List ℕ) → Among ins rest ps → Covered qs outs rest → Holding c qs
  came_holding rest p q = record { running = A.running; entry = H.entry; holds = holds-less (λ n i. omega (arith, q n i)) (A.turned H.entry (held rest) (holds-less (λ n i. omega (arith, p n i)) H.holds)).holds }

-- fewer pieces
pub holding_less : {b ps qs : List ℕ} → Holding b ps → Among qs [] ps → Holding b qs
holding_less H p = record { running = H.running; entry = H.entry; holds = holds-less (λ n i. omega (arith, p n i)) H.holds }

-- a piece is named
pub holding_named : {b ps : List ℕ} (y : ℕ) → Holding b ps → Among (y ∷ []) [] ps → Named (heap b) y
unfolding held
holding_named zero H p = tt
holding_named (suc y) H p = piece_named (suc y) H.holds (omega (arith, p (suc y) (omega arith), hit_yes (suc y) (suc y) refl))

-- a supply for what a running call holds
pub stocked_now : {b ps : List ℕ} (H : Holding b ps) → Stocked H.entry (heap b) (record { free = free (heap b); stood = H.entry.occupied; dry = false })
unfolding short
stocked_now H = record { free = refl; stood = λ n. refl; enough = refl }
