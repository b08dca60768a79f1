-- The whole request: no bytes are left over, and it says complete or asks.
use mathlib.Core.Path.{◌≡◌, refl, sym}
use mathlib.Core.Logic.{◌≢◌}
use Prim.Native.Nat.{ℕ, ◌*◌, ◌/◌, ◌%◌, ◌<◌}
use mathlib.Core.Bool.{Bool, true, false, true≢false}
use mathlib.Core.Option.{Option, none, some}
use mathlib.Core.List.{List, [], ◌∷◌}
use native.Mathlib.Omega.{arith}
use native.Mathlib.Decide.{ℕ_discrete}
use lib.ListN.{length}
use Rattle.model.specs.Frame as model
use Rattle.model.specs.Request.{ascend, says_complete, well_formed, cutting, all_fields}
use Rattle.requests.specs.Reading.{holds, counting}
use Rattle.requests.proofs.Cutting.{lines_count, lines_short}

-- what the request says
abbrev Well : List ℕ → Bool
Well cs = holds well_formed (all_fields (cutting (counting cs) cs))

module _ (cs : List ℕ) where
  -- a piece is left over
  pub well_over : length cs % 35 ≢ 0 → false ≡ Well cs
  well_over h = rw (lines_short (counting cs) cs (omega arith)) refl

  -- no line
  pub well_none : length cs / 35 ≡ 0 → false ≡ Well cs
  unfolding well_formed all_fields cutting
  well_none h = go (ℕ_discrete (length cs) 0)
    where
      go : Dec (length cs ≡ 0) → false ≡ Well cs
      go (yes e) = let z : counting cs ≡ 0 = omega arith in rw z refl
      go (no n) = well_over (λ q. n (omega arith))

  -- n lines
  module _ (n : ℕ) (whole : length cs ≡ 35 * n) where
    same_lines : counting cs ≡ n
    same_lines = omega arith

    -- they say complete
    pub well_complete : true ≡ holds says_complete (all_fields (cutting n cs)) → true ≡ Well cs
    well_complete e = rw same_lines (go (all_fields (cutting n cs)) e)
      where
        go : (o : Option (List model.Frame)) → true ≡ holds says_complete o → true ≡ holds well_formed o
        go none q = q
        go (some []) q = unfold says_complete in absurd (true≢false q)
        go (some (f ∷ fs)) q = unfold well_formed in rw (sym q) refl

    -- or they do not, and are to ask
    pub well_asks : 0 < n → holds says_complete (all_fields (cutting n cs)) ≡ false → holds (ascend n 0 0) (all_fields (cutting n cs)) ≡ Well cs
    unfolding well_formed
    well_asks h e = rw same_lines (go (all_fields (cutting n cs)) refl e)
      where
        go : (o : Option (List model.Frame)) → all_fields (cutting n cs) ≡ o → holds says_complete o ≡ false → holds (ascend n 0 0) o ≡ holds well_formed o
        go none l q = refl
        go (some []) l q = absurd (omega (arith, lines_count n cs [] l))
        go (some (f ∷ fs)) l q = let c : length (f ∷ fs) ≡ n = lines_count n cs (f ∷ fs) l in rw (q, c) refl

    -- the only line does not
    pub well_other : n ≡ 1 → holds says_complete (all_fields (cutting 1 cs)) ≡ false → holds says_complete (all_fields (cutting n cs)) ≡ false
    well_other h e = rw h e

    -- more than one line never do
    pub well_several : n ≢ 1 → holds says_complete (all_fields (cutting n cs)) ≡ false
    well_several h = go (all_fields (cutting n cs)) refl
      where
        go : (o : Option (List model.Frame)) → all_fields (cutting n cs) ≡ o → holds says_complete o ≡ false
        go none l = refl
        go (some []) l = unfold says_complete in refl
        go (some (f ∷ [])) l = absurd (h (sym (lines_count n cs (f ∷ []) l)))
        go (some (f ∷ g ∷ fs)) l = unfold says_complete in refl
