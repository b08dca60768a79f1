-- A node taken apart: with references it stays; without, it is emptied, and its children are the call's pieces and no longer its.
use mathlib.Core.Path.{◌≡◌, refl, ap, sym, ◌∙◌}
use mathlib.Core.Logic.{◌≢◌}
use Prim.Native.Nat.{ℕ, zero, suc, ◌+◌, ◌≤◌, ◌<◌}
use mathlib.Core.List.{List, [], ◌∷◌}
use native.Mathlib.Omega.{arith}
use Rattle.model.specs.Tree.{size}
use Rattle.model.specs.Heap.{Heap, Occupied, Named, size_at, tree, hit, refs, Linked, Counted}
use Rattle.model.specs.Block.{heap, Shaped}
use Rattle.model.specs.Moves.{Same, Lowered, Emptied, Opened, Unlinked, Owed, Unnamed, Running, Still, Apart}
use Rattle.model.proofs.block.Loads.{tree-size}
use Rattle.model.proofs.block.Counts.{hit_yes, hit_no}
use Rattle.model.proofs.running.Steps.{emptied_tree}
use Rattle.model.proofs.running.Giving.{lowered_linked, lowered_counted, lowered_trees}
use Rattle.model.proofs.running.Giveups.{Emptying, was, none, leaves, child, left_other, right_other}
use Rattle.model.proofs.running.Growing.{came_stood, came_opened}

-- A reference fewer

pub unlinked_lowered : {h g : Heap} {n : ℕ} → Linked h → Lowered h g n → Unlinked h g n
unlinked_lowered L W = record { same = W.same; root = W.root; linked = lowered_linked W L; trees = lowered_trees W L; counts = lowered_counted W L }

pub unlinked_none : {h : Heap} {n : ℕ} → Linked h → n ≡ 0 → Unlinked h h n
unlinked_none {h} {n} L e = record {
  same = record { room = refl; occupied = λ m. refl; key = λ m. refl; value = λ m. refl; left = λ m. refl; right = λ m. refl; size = λ m. refl; sum = λ m. refl };
  root = λ v lt. refl;
  linked = L;
  trees = λ m o. refl;
  counts = λ extra c m o. omega (arith, c m o, hit_no n m (λ q. absurd (omega (arith, (L.within m o).0))));
}

same_named : {h g : Heap} → Same h g → (m : ℕ) → Named h m → Named g m
same_named S zero o = tt
same_named S (suc m) o = S.occupied (suc m) ∙ o

-- a node that nothing names: emptied from h to k, its left child unlinked from k to k2, its right child from k2 to k3
module _ {h k k2 : Heap} {n l r : ℕ} (E : Emptying h k n l r) (U : Unlinked k k2 l) where
  -- what unlinking the right child asks
  pub right_unlinks : Linked k2 × Owed k2 r
  right_unlinks = (
    U.linked,
    record {
      named = same_named U.same r (child E r (rw E.right (E.linked.rights n (was E))) (right_other E));
      extra = E.unnamed.extra;
      counts = U.counts (λ x. E.unnamed.extra x + hit r x) (leaves E E.unnamed.extra E.unnamed.counts);
    },
  )

  module _ {k3 : Heap} (W : Unlinked k2 k3 r) where
    pub opened_counted : Counted k3 E.unnamed.extra
    unfolding right_unlinks
    opened_counted = W.counts E.unnamed.extra right_unlinks.1.counts

    stay : (m : ℕ) → m ≢ n → Named h m → Named k3 m
    stay m ne o = same_named W.same m (same_named U.same m (child E m o ne))

    pub opened : Opened h k3 n
    opened = record {
      was = was E;
      except = record {
        room = W.same.room ∙ U.same.room ∙ E.emptied.except.room;
        root = λ v lt. W.root v lt ∙ U.root v lt ∙ E.emptied.except.root v lt;
        occupied = λ m ne. W.same.occupied m ∙ U.same.occupied m ∙ E.emptied.except.occupied m ne;
        key = λ m ne. W.same.key m ∙ U.same.key m ∙ E.emptied.except.key m ne;
        value = λ m ne. W.same.value m ∙ U.same.value m ∙ E.emptied.except.value m ne;
        left = λ m ne. W.same.left m ∙ U.same.left m ∙ E.emptied.except.left m ne;
        right = λ m ne. W.same.right m ∙ U.same.right m ∙ E.emptied.except.right m ne;
        size = λ m ne. W.same.size m ∙ U.same.size m ∙ E.emptied.except.size m ne;
        sum = λ m ne. W.same.sum m ∙ U.same.sum m ∙ E.emptied.except.sum m ne;
      };
      free = W.same.occupied n ∙ U.same.occupied n ∙ E.emptied.free;
      left = W.same.left n ∙ U.same.left n ∙ E.emptied.blank.left;
      right = W.same.right n ∙ U.same.right n ∙ E.emptied.blank.right;
      trees = λ m ne o. W.trees m (same_named U.same m (child E m o ne)) ∙ U.trees m (child E m o ne) ∙ emptied_tree E.emptied E.linked (none E) m ne o;
    }

    pub left_stays : Named k3 (h.left n)
    left_stays = rw (← E.left) (stay l (left_other E) (rw E.left (E.linked.lefts n (was E))))

    pub right_stays : Named k3 (h.right n)
    right_stays = rw (← E.right) (stay r (right_other E) (rw E.right (E.linked.rights n (was E))))

    pub left_tree : tree k3 (h.left n) ≡ tree h (h.left n)
    left_tree = opened.trees (h.left n) (rw (← E.left) (left_other E)) (E.linked.lefts n (was E))

    pub right_tree : tree k3 (h.right n) ≡ tree h (h.right n)
    right_tree = opened.trees (h.right n) (rw (← E.right) (right_other E)) (E.linked.rights n (was E))

still_tree : {b e : List ℕ} (m : ℕ) → Running b → Running e → Named (heap b) m → Named (heap e) m → tree (heap e) m ≡ tree (heap b) m → Still b e m
still_tree {b} {e} m R S o p t = record { named = p; tree = t; size = sym (tree-size (heap e) S.linked m p) ∙ ap size t ∙ tree-size (heap b) R.linked m o }

-- the call made it
pub apart-opened : {b e : List ℕ} {k k2 : Heap} {n l r : ℕ} → Running b → Shaped e → (E : Emptying (heap b) k n l r)
    → ((x : ℕ) → E.unnamed.extra x ≡ 0) → Unlinked k k2 l → Unlinked k2 (heap e) r → Apart b e n
apart-opened {b} {e} {n = n} R S E z U W = record {
  left = still_tree ((heap b).left n) R running (R.linked.lefts n (was E)) (left_stays E U W) (left_tree E U W);
  right = still_tree ((heap b).right n) R running (R.linked.rights n (was E)) (right_stays E U W) (right_tree E U W);
  came = came_opened R running (none E) (opened E U W) (left_stays E U W) (right_stays E U W);
}
  where
    running : Running e
    running = record { shaped = S; linked = W.linked; counts = λ m o. omega (arith, opened_counted E U W m o, z m) }

-- it stood at entry
pub apart_stood : {b : List ℕ} {n : ℕ} → Running b → Occupied (heap b) n → (heap b).count n ≢ 0 → Apart b b n
apart_stood {b} {n} R o ne = record {
  left = record { named = R.linked.lefts n o; tree = refl; size = refl };
  right = record { named = R.linked.rights n o; tree = refl; size = refl };
  came = came_stood R o (omega (arith, R.counts n o, ne));
}
