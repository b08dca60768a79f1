-- The sixteen versions of a sound block: ordered, small, the same trees after a call has only made nodes or given them up;
-- and union and difference of them by the number of their rule.
use mathlib.Core.Path.{◌≡◌, refl, sym, ◌∙◌, ap}
use mathlib.Core.Logic.{◌≢◌}
use Prim.Native.Nat.{ℕ, zero, suc, ◌<◌, ◌≤◌}
use mathlib.Core.Bool.{Bool, true, false, true≢false}
use mathlib.Core.Option.{none}
use borrow.Author.Tests.{eq-eqb, le-ltb}
use native.Mathlib.Omega.{arith}
use Rattle.model.specs.Tree.{size, entries, find, Ordered, both, less, Is}
use Rattle.model.specs.Supply.{Supply}
use Rattle.model.specs.Rules.{union, difference, merge_by, diff_by}
use Rattle.model.specs.Heap.{Heap, Named, load, tree, version, Linked, Sound, free_from, supply, size_at}
use Rattle.model.proofs.block.Loads.{tree-size}
use Rattle.model.proofs.block.Bound.{size_room}
use Rattle.model.proofs.rules.Cancel.{AllFree, Avoids, tree_stands, cancel_same}
use Rattle.model.proofs.rules.Unions.{union_is}
use Rattle.model.proofs.rules.Differences.{difference_is}
use mathlib.Core.List.{List}
use Rattle.model.specs.Block.{heap, SoundBlock}
use Rattle.model.specs.Moves.{Gave, Running}

-- a call starts from a sound block
pub sound_running : {b : List ℕ} → SoundBlock b → Running b
sound_running B = record { shaped = B.shaped; linked = B.sound.kept.linked; counts = λ n o. omega (arith, B.sound.kept.counts n o) }

pub version_ordered : {h : Heap} → Sound h → (v : ℕ) → v < 16 → Ordered (version h v)
unfolding tree load Ordered
version_ordered {h} S v lt = go (h.root v) (S.kept.linked.roots v lt)
  where
    go : (n : ℕ) → Named h n → Ordered (tree h n)
    go zero o = tt
    go (suc n) o = S.ordered (suc n) o

-- the root r of a version, as code holds it
pub version_named : {b : List ℕ} → SoundBlock b → (v r : ℕ) → v < 16 → r ≡ (heap b).root v → Named (heap b) r
version_named B v r lt e = rw e (B.sound.kept.linked.roots v lt)

pub version_small : {b : List ℕ} → SoundBlock b → (v r : ℕ) → v < 16 → r ≡ (heap b).root v → size_at (heap b) r ≤ 4096
version_small {b} B v r lt e =
    let L = B.sound.kept.linked in
    rw e (omega (arith, size_room (heap b) L ((heap b).root v) (L.roots v lt) (version_ordered B.sound v lt), B.shaped.most))

pub gave_version : {h g : Heap} → Gave h g → (v : ℕ) → v < 16 → version g v ≡ version h v
gave_version {h} {g} G v lt = G.trees (g.root v) (G.linked.roots v lt) ∙ ap (tree h) (G.root v lt)

-- every tree of a sound heap has at most N nodes
pub tree-room : (h : Heap) → Sound h → (n : ℕ) → Named h n → size (tree h n) ≤ h.room
unfolding tree load size
tree-room h S zero o = omega arith
tree-room h S (suc n) o = let L = S.kept.linked in omega (arith, tree-size h L (suc n) o, size_room h L (suc n) o (S.ordered (suc n) o))

pub version-room : (h : Heap) → Sound h → (v : ℕ) → v < 16 → size (version h v) ≤ h.room
version-room h S v lt = tree-room h S (h.root v) (S.kept.linked.roots v lt)

-- each key of the union: the value of the one side that has it, or both values merged by the rule
pub union-entries : (h : Heap) → Sound h → (rule v w : ℕ) → v < 16 → w < 16 → (s : Supply)
    → Is (entries (union (merge_by rule) (version h v) (version h w) s).0) (λ k. both (merge_by rule) (find (entries (version h v)) k) (find (entries (version h w)) k))
union-entries h S rule v w lv lw s = union_is (merge_by rule) (version h v) (version h w) s (version_ordered S v lv) (version_ordered S w lw)

-- each key of the difference: the left side's value, by the rule where the right side has the key too
pub difference-entries : (h : Heap) → Sound h → (rule v w : ℕ) → v < 16 → w < 16 → (s : Supply)
    → Is (entries (difference (diff_by rule) false (version h v) (version h w) s).0) (λ k. less (diff_by rule) (find (entries (version h v)) k) (find (entries (version h w)) k))
difference-entries h S rule v w lv lw s = difference_is (diff_by rule) (version h v) (version h w) s (version_ordered S v lv) (version_ordered S w lw)

-- equal values drop under every rule but 2
drops_equal : (rule : ℕ) → rule ≢ 2 → (x : ℕ) → diff_by rule x x ≡ none
unfolding diff_by
drops_equal zero ne x = refl
drops_equal (suc zero) ne x = rw (eq-eqb x x refl, diff_by)
drops_equal (suc (suc zero)) ne x = absurd (ne refl)
drops_equal (suc (suc (suc n))) ne x = rw (le-ltb x x (omega arith), diff_by)

-- what is free is not occupied
free_unoccupied : (h : Heap) (L : Linked h) (a k : ℕ) → AllFree h L (free_from h.occupied a k)
unfolding free_from AllFree
free_unoccupied h L a zero = tt
free_unoccupied h L a (suc k) = go (h.occupied a) refl (free_unoccupied h L (suc a) k)
  where
    go : (t : Bool) → h.occupied a ≡ t → AllFree h L (free_from h.occupied (suc a) k) → AllFree h L (free_from h.occupied a (suc k))
    go true e ih = rw (e, free_from) ih
    go false e ih = rw (e, free_from) ((λ o. true≢false (sym o ∙ e)), ih)

supply_avoids : (h : Heap) (L : Linked h) → Avoids h L (supply h)
unfolding Avoids supply
supply_avoids h L = (free_unoccupied h L 1 h.room, λ n. refl)

-- cancelling changes neither tree nor supply under rules 0, 1 and 3
pub cancelling_changes_nothing : (h : Heap) → Sound h → (rule v w : ℕ) → rule ≢ 2 → v < 16 → w < 16
    → difference (diff_by rule) true (version h v) (version h w) (supply h) ≡ difference (diff_by rule) false (version h v) (version h w) (supply h)
cancelling_changes_nothing h S rule v w ne lv lw =
    let L = S.kept.linked in
    cancel_same h L (diff_by rule) (drops_equal rule ne) (version h v) (version h w) (supply h) (tree_stands h L (h.root v) (L.roots v lv)) (tree_stands h L (h.root w) (L.roots w lw)) (supply_avoids h L)
