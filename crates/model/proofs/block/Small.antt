-- Three blocks of N = 32, word for word: sound, and the trees that they hold. A standby goes from one to the next by a put and a remove.
use mathlib.Core.Path.{◌≡◌, refl, sym, ◌∙◌}
use mathlib.Core.Logic.{◌≢◌}
use Prim.Native.Nat.{ℕ, zero, suc, ◌+◌, ◌<◌}
use mathlib.Core.Bool.{true}
use mathlib.Core.List.{List, ◌∷◌, ◌++◌}
use lib.ListN.{replicate}
use lib.Dec.{eqb}
use borrow.Author.Tests.{eqb-true}
use native.Mathlib.Omega.{arith}
use Rattle.model.specs.Tree.{leaf, node, entries}
use Rattle.model.specs.Heap.{load, tree, version, hit, hits, refs}
use Rattle.model.specs.Block.{heap, Shaped, SoundBlock}
use Rattle.model.proofs.block.Tested.{up_to, up_to_at, below, above, ordered, block_tested}

abbrev zeros : ℕ → List ℕ
zeros n = replicate n 0

-- call 1 holds 10 minutes in version 0, at node 1; call 2 holds 4,294,967,295 in version 1, at node 2
unfoldable pub before : List ℕ
before =
    32 ∷ 1 ∷ 2 ∷ zeros 14 ++ 3
    ∷ 1 ∷ 10 ∷ 0 ∷ 0 ∷ 1 ∷ 1 ∷ 10 ∷ 0
    ∷ 2 ∷ 4294967295 ∷ 0 ∷ 0 ∷ 1 ∷ 1 ∷ 4294967295 ∷ 0
    ∷ zeros 240

-- call 2 put into version 0: nodes 3 and 4, and node 1 is free again; their sum takes two words
unfoldable pub amid : List ℕ
amid =
    32 ∷ 4 ∷ 2 ∷ zeros 14 ++ 14
    ∷ 0 ∷ 0 ∷ 0 ∷ 0 ∷ 0 ∷ 0 ∷ 0 ∷ 0
    ∷ 2 ∷ 4294967295 ∷ 0 ∷ 0 ∷ 1 ∷ 1 ∷ 4294967295 ∷ 0
    ∷ 2 ∷ 4294967295 ∷ 0 ∷ 0 ∷ 1 ∷ 1 ∷ 4294967295 ∷ 0
    ∷ 1 ∷ 10 ∷ 0 ∷ 3 ∷ 2 ∷ 1 ∷ 9 ∷ 1
    ∷ zeros 224

-- call 1 taken out of version 0
unfoldable pub done : List ℕ
done =
    32 ∷ 3 ∷ 2 ∷ zeros 14 ++ 6
    ∷ 0 ∷ 0 ∷ 0 ∷ 0 ∷ 0 ∷ 0 ∷ 0 ∷ 0
    ∷ 2 ∷ 4294967295 ∷ 0 ∷ 0 ∷ 1 ∷ 1 ∷ 4294967295 ∷ 0
    ∷ 2 ∷ 4294967295 ∷ 0 ∷ 0 ∷ 1 ∷ 1 ∷ 4294967295 ∷ 0
    ∷ zeros 232

before_shaped : Shaped before
unfolding before
before_shaped = record { least = omega arith; most = omega arith; whole = refl; long = refl }

amid_shaped : Shaped amid
unfolding amid
amid_shaped = record { least = omega arith; most = omega arith; whole = refl; long = refl }

done_shaped : Shaped done
unfolding done
done_shaped = record { least = omega arith; most = omega arith; whole = refl; long = refl }

pub before_sound : SoundBlock before
unfolding before up_to below above ordered entries load tree hit hits refs
before_sound = block_tested before before_shaped (refl, refl)

pub amid_sound : SoundBlock amid
unfolding amid up_to below above ordered entries load tree hit hits refs
amid_sound = block_tested amid amid_shaped (refl, refl)

pub done_sound : SoundBlock done
unfolding done up_to below above ordered entries load tree hit hits refs
done_sound = block_tested done done_shaped (refl, refl)

-- the trees of versions 0 and 1, with their numbers
pub before_trees : (version (heap before) 0 ≡ node 1 1 10 leaf leaf) × (version (heap before) 1 ≡ node 2 2 4294967295 leaf leaf)
unfolding before load tree
before_trees = (refl, refl)

pub amid_trees : (version (heap amid) 0 ≡ node 4 1 10 leaf (node 3 2 4294967295 leaf leaf)) × (version (heap amid) 1 ≡ node 2 2 4294967295 leaf leaf)
unfolding amid load tree
amid_trees = (refl, refl)

pub done-trees : (version (heap done) 0 ≡ node 3 2 4294967295 leaf leaf) × (version (heap done) 1 ≡ node 2 2 4294967295 leaf leaf)
unfolding done load tree
done-trees = (refl, refl)

-- the other versions are empty
bare : (b : List ℕ) → up_to (λ i. eqb ((heap b).root (2 + i)) 0) 14 ≡ true → (w : ℕ) → w < 14 → version (heap b) (2 + w) ≡ leaf
unfolding load tree
bare b e w h = rw (eqb-true ((heap b).root (2 + w)) 0 (up_to_at (λ i. eqb ((heap b).root (2 + i)) 0) 14 w e h))

-- so two of these blocks have all versions but 0 in common
module _ (b c : List ℕ) (p : up_to (λ i. eqb ((heap b).root (2 + i)) 0) 14 ≡ true) (q : up_to (λ i. eqb ((heap c).root (2 + i)) 0) 14 ≡ true) (one : version (heap c) 1 ≡ version (heap b) 1) where
  but_first : (w : ℕ) → w < 16 → w ≢ 0 → version (heap c) w ≡ version (heap b) w
  but_first zero h ne = absurd (ne refl)
  but_first (suc zero) h ne = one
  but_first (suc (suc w)) h ne =
      let e : suc (suc w) ≡ 2 + w = omega arith in
      rw e (bare c q w (omega arith) ∙ sym (bare b p w (omega arith)))

pub amid_others : (w : ℕ) → w < 16 → w ≢ 0 → version (heap amid) w ≡ version (heap before) w
unfolding before amid up_to
amid_others = but_first before amid refl refl (amid_trees.1 ∙ sym before_trees.1)

pub done_others : (w : ℕ) → w < 16 → w ≢ 0 → version (heap done) w ≡ version (heap amid) w
unfolding amid done up_to
done_others = but_first amid done refl refl (done-trees.1 ∙ sym amid_trees.1)
