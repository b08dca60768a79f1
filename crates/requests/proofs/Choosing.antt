-- The indexes that lines ask for, line by line: what the lines so far have chosen and what those behind them ask for is what the request asks for.
use mathlib.Core.Path.{◌≡◌, refl, ap, sym, ◌∙◌}
use mathlib.Core.Logic.{◌⊎◌, inl, inr, ◌≢◌}
use Prim.Native.Nat.{ℕ, suc, ◌+◌, ◌-◌, ◌≤◌, ◌<◌, min}
use mathlib.Core.Bool.{true, false, ◌&&◌, false≢true}
use mathlib.Core.Option.{Option, none, some}
use mathlib.Core.List.{List, [], ◌∷◌, ◌++◌, append_assoc, append-nil}
use native.Mathlib.Omega.{arith}
use lib.ListN.{length, take}
use lib.Seq.{length-take-le}
use lib.Dec.{eqb}
use borrow.Author.Tests.{eqb-true}
use Rattle.model.specs.Frame as model
use Rattle.model.specs.Request.{last_of, in_place, asks, asked, ascend, says_complete, well_formed, cutting, six_fields, all_fields}
use Rattle.model.proofs.maps.Tests.{both, either, not_true}
use Rattle.model.proofs.requests.Requests.{asks_between, Kinded, right_kinded, Ascends, ascend_says, asked_here, asked_later, complete_asks}
use Rattle.requests.specs.Reading.{holds, choice, Chooses}
use Rattle.requests.proofs.Judging.{ascend_end}
use Rattle.requests.proofs.Choices.{choice_same, choice_none, choice_at}
use Rattle.requests.proofs.Cutting.{piece, lines_from, Read, lines_all, lines_next, lines_bad, lines_end, lines_count}

-- what the lines before place i have chosen, k words, and what those from it on ask for, is what all ask for
pub record Chosen (n : ℕ) (cs : List ℕ) (end i k : ℕ) (ws : List ℕ) : Type 0 where
  pub least : ℕ
  pub rest : List model.Frame
  pub all : List model.Frame
  pub begun : all_fields (cutting n cs) ≡ some all
  pub left : lines_from n cs i ≡ some rest
  pub well : (ascend n i least rest ≡ true) ⊎ (says_complete rest ≡ true)
  pub few : k ≤ least
  pub most : least ≤ 4096
  pub same : take k ws ++ choice (asked rest) least (end - least) ≡ choice (asked all) 0 end

pub chosen_none : (n : ℕ) (cs : List ℕ) (end : ℕ) (ws : List ℕ) → holds well_formed (all_fields (cutting n cs)) ≡ true → Chosen n cs end 0 0 ws
chosen_none n cs end ws w = go (all_fields (cutting n cs)) refl
  where
    z : end - 0 ≡ end
    z = omega arith

    well : (fs : List model.Frame) → length fs ≡ n → well_formed fs ≡ true → (ascend n 0 0 fs ≡ true) ⊎ (says_complete fs ≡ true)
    well [] l e = unfold well_formed in absurd (false≢true e)
    well (f ∷ fs) l e = unfold well_formed in go (either (says_complete (f ∷ fs)) (ascend (length (f ∷ fs)) 0 0 (f ∷ fs)) e)
      where
        go : (says_complete (f ∷ fs) ≡ true) ⊎ (ascend (length (f ∷ fs)) 0 0 (f ∷ fs) ≡ true) → (ascend n 0 0 (f ∷ fs) ≡ true) ⊎ (says_complete (f ∷ fs) ≡ true)
        go (inl c) = inr c
        go (inr a) = inl (rw l at a)

    go : (o : Option (List model.Frame)) → all_fields (cutting n cs) ≡ o → Chosen n cs end 0 0 ws
    go none e = absurd (false≢true (rw e at w))
    go (some fs) e = record {
      least = 0;
      rest = fs;
      all = fs;
      begun = e;
      left = lines_all n cs ∙ e;
      well = well fs (lines_count n cs fs e) (rw e at w);
      few = omega arith;
      most = omega arith;
      same = rw z refl;
    }

-- A line in front of others.

complete_eighteen : (f : model.Frame) (fs : List model.Frame) → says_complete (f ∷ fs) ≡ true → f.kind ≡ 18
unfolding says_complete
complete_eighteen f [] e =
    let a = both (in_place 1 0 f && eqb f.kind 18 && eqb f.key 0) (eqb f.value 0) e in
    let b = both (in_place 1 0 f && eqb f.kind 18) (eqb f.key 0) a.0 in
    eqb-true f.kind 18 (both (in_place 1 0 f) (eqb f.kind 18) b.0).1
complete_eighteen f (g ∷ fs) e = absurd (false≢true e)

complete_only : (f : model.Frame) (fs : List model.Frame) → says_complete (f ∷ fs) ≡ true → fs ≡ []
unfolding says_complete
complete_only f [] e = refl
complete_only f (g ∷ fs) e = absurd (false≢true e)

-- none of them asks for what the request does not ask for
complete_behind : (f : model.Frame) (fs : List model.Frame) → says_complete (f ∷ fs) ≡ true → (j : ℕ) → asked fs j ≡ asked (f ∷ fs) j
complete_behind f fs c j = rw (complete_only f fs c) at_end ∙ sym (complete_asks (f ∷ fs) c j)
  where
    at_end : asked [] j ≡ false
    at_end = unfold asked in refl

module _ (count place least : ℕ) (f : model.Frame) (fs : List model.Frame) where
  complete_is : (ascend count place least (f ∷ fs) ≡ true) ⊎ (says_complete (f ∷ fs) ≡ true) → f.kind ≡ 18 → says_complete (f ∷ fs) ≡ true
  complete_is (inl a) e = absurd (omega (arith, (right_kinded f (ascend_says count place least f fs a).kind).kind))
  complete_is (inr c) e = c

  ascend_is : (ascend count place least (f ∷ fs) ≡ true) ⊎ (says_complete (f ∷ fs) ≡ true) → f.kind ≢ 18 → ascend count place least (f ∷ fs) ≡ true
  ascend_is (inl a) n = a
  ascend_is (inr c) n = absurd (n (complete_eighteen f fs c))

  -- the line chooses its run, those behind it what comes after
  module _ (a : ascend count place least (f ∷ fs) ≡ true) (end : ℕ) where
    A : Ascends count place least f fs
    A = ascend_says count place least f fs a

    K : Kinded f
    K = right_kinded f A.kind

    before : (j : ℕ) → least ≤ j → j < least + (min f.key end - least) → asked (f ∷ fs) j ≡ false
    before j l h =
        let low : j < f.key = omega (arith, A.low) in
        asked_here count place least f fs a j (omega (arith, K.key)) ∙ not_true (asks f j) (λ q. omega (arith, ((asks_between f K.asks j).0 q).0))

    within : (j : ℕ) → f.key ≤ j → j < f.key + (min (suc (last_of f)) end - f.key) → asked (f ∷ fs) j ≡ true
    within j l h =
        let high : j ≤ last_of f = omega (arith, K.key) in
        asked_here count place least f fs a j high ∙ (asks_between f K.asks j).1 (l, high)

    line_choice : choice (asked (f ∷ fs)) least (end - least)
        ≡ choice (λ j. true) f.key (min (suc (last_of f)) end - f.key) ++ choice (asked fs) (suc (last_of f)) (end - suc (last_of f))
    line_choice =
        let w = asked (f ∷ fs) in
        let e = suc (last_of f) in
        let low : choice w least (min f.key end - least) ≡ [] = choice_none w least (min f.key end - least) before in
        let n = min e end - f.key in
        let mid : choice w f.key n ≡ choice (λ j. true) f.key n = choice_same w (λ j. true) f.key n within in
        let late : choice w e (end - e) ≡ choice (asked fs) e (end - e) = choice_same w (asked fs) e (end - e) (λ j l h. asked_later f fs j (omega arith)) in
        choice_at w least f.key end A.low ∙ rw low (choice_at w f.key e end (omega (arith, K.key)) ∙ rw (mid, late) refl)

module _ {n end i k : ℕ} {cs ws : List ℕ} (C : Chosen n cs end i k ws) where
  -- all are lines
  pub chosen_bad : i < n → six_fields (piece cs i) ≡ none → ⊥
  chosen_bad h e = lines_bad n i cs C.left h e

  -- no line is left
  pub chosen_end : n ≤ i → length ws ≡ 4096 → Chooses (all_fields (cutting n cs)) end k ws
  chosen_end h l = rw C.begun (length_is, is)
    where
      is : take k ws ≡ choice (asked C.all) 0 end
      is = sym (append-nil (take k ws)) ∙ ap (λ js. take k ws ++ js) (sym none_left) ∙ C.same
        where
          none_left : choice (asked C.rest) C.least (end - C.least) ≡ []
          none_left = choice_none (asked C.rest) C.least (end - C.least) (λ j a b. unfold asked in rw (lines_end n i cs C.left h) refl)

      length_is : k ≡ length (choice (asked C.all) 0 end)
      length_is = sym (length-take-le k ws (omega (arith, C.few, C.most))) ∙ ap length is

  -- one line more
  module _ {f : model.Frame} (R : Read n i cs f) where
    next : (fs : List model.Frame) × (lines_from n cs (i + 1) ≡ some fs) × (C.rest ≡ f ∷ fs)
    next = lines_next R C.left

    well : (ascend n i C.least (f ∷ next.0) ≡ true) ⊎ (says_complete (f ∷ next.0) ≡ true)
    well = rw next.2 at C.well

    same : take k ws ++ choice (asked (f ∷ next.0)) C.least (end - C.least) ≡ choice (asked C.all) 0 end
    same = rw next.2 at C.same

    -- that says complete: it is the last, and chooses nothing
    pub chosen_complete : f.kind ≡ 18 → Chosen n cs end (i + 1) k ws
    chosen_complete e =
        let c = complete_is n i C.least f next.0 well e in
        record {
          least = C.least;
          rest = next.0;
          all = C.all;
          begun = C.begun;
          left = next.1;
          well = inl (rw (complete_only f next.0 c) (ascend_end n (i + 1) C.least));
          few = C.few;
          most = C.most;
          same = ap (λ js. take k ws ++ js) (nothing c) ∙ same;
        }
      where
        nothing : says_complete (f ∷ next.0) ≡ true
            → choice (asked next.0) C.least (end - C.least) ≡ choice (asked (f ∷ next.0)) C.least (end - C.least)
        nothing c = choice_same (asked next.0) (asked (f ∷ next.0)) C.least (end - C.least) (λ j l h. complete_behind f next.0 c j)

    -- that asks
    module _ (asking : f.kind ≢ 18) where
      asks_on : ascend n i C.least (f ∷ next.0) ≡ true
      asks_on = ascend_is n i C.least f next.0 well asking

      now : Ascends n i C.least f next.0
      now = ascend_says n i C.least f next.0 asks_on

      pub chosen_last : last_of f ≤ 4095
      chosen_last = now.high

      pub chosen_first : k ≤ f.key
      chosen_first = omega (arith, C.few, now.low)

      pub chosen_run : {l e r : ℕ} {vs : List ℕ} → l ≡ last_of f → e ≡ min (l + 1) end
          → (r ≡ k + (e - f.key)) × (take r vs ≡ take k ws ++ choice (λ j. true) f.key (e - f.key))
          → Chosen n cs end (i + 1) r vs
      chosen_run {l} {e} {r} {vs} p q t =
          let place : i + 1 ≡ suc i = omega arith in
          let to : e ≡ min (suc (last_of f)) end = omega (arith, p, q) in
          record {
            least = suc (last_of f);
            rest = next.0;
            all = C.all;
            begun = C.begun;
            left = next.1;
            well = inl (rw place now.rest);
            few = omega (arith, t.0, p, q, C.few, now.low, (right_kinded f now.kind).key);
            most = omega (arith, now.high);
            same = is to;
          }
        where
          is : e ≡ min (suc (last_of f)) end → take r vs ++ choice (asked next.0) (suc (last_of f)) (end - suc (last_of f)) ≡ choice (asked C.all) 0 end
          is to =
              rw (t.1, append_assoc, to) (ap (λ js. take k ws ++ js) (sym (line_choice n i C.least f next.0 asks_on end)) ∙ same)
