-- The chosen lines are the frames that a request asks for, each 35 bytes long.
use mathlib.Core.Path.{◌≡◌, refl, ap, sym, ◌∙◌}
use Prim.Native.Nat.{ℕ, zero, suc, ◌+◌, ◌≤◌, ◌<◌}
use mathlib.Core.Bool.{Bool, true, false}
use mathlib.Core.List.{List, [], ◌∷◌, map}
use native.Mathlib.Omega.{arith}
use lib.ListN.{length, get_or, take, length-map}
use lib.Seq.{length-take-le, get_or-take}
use Rattle.std.proofs.lemmas.Simd.{map-map}
use Rattle.model.specs.Frame.{Frame, nothing, line, frames_of, frame_at}
use Rattle.model.specs.Request.{wanted}
use Rattle.model.proofs.listing.Cutting.{map_at}
use Rattle.requests.specs.Reading.{choice}
use Rattle.lists.specs.Changes.{changes_in, at_least_one, frame_in, chosen_in}
use Rattle.lists.proofs.Framing.{frames_long, frame_in_lem}

-- the frames of the first n words, and their lines
module _ (batch puts count : ℕ) (ws : List ℕ) (n : ℕ) (chosen : List ℕ) where
  abbrev pub chosen_frames : List Frame
  chosen_frames = map (frame_in batch puts count ws) (take n chosen)

  pub chosen_lines : map line chosen_frames ≡ chosen_in batch puts count ws n chosen
  unfolding chosen_in
  chosen_lines = map-map line (frame_in batch puts count ws) (take n chosen)

  pub chosen_many : length (chosen_in batch puts count ws n chosen) ≡ length (take n chosen)
  unfolding chosen_in
  chosen_many = length-map (take n chosen) (λ i. line (frame_in batch puts count ws i))

  module _ (h : n ≤ length chosen) where
    pub chosen_long : length chosen_frames ≡ n
    chosen_long = length-map (take n chosen) (frame_in batch puts count ws) ∙ length-take-le n chosen h

    pub chosen_at : (i : ℕ) → i < n → frame_in batch puts count ws (get_or chosen i 0) ≡ frame_at chosen_frames i
    chosen_at i l =
        let m = length-take-le n chosen h in
        let f : ℕ → Frame = frame_in batch puts count ws in
        sym (map_at f (take n chosen) i 0 (nothing 0) (omega arith) ∙ ap f (get_or-take n chosen i 0 l))

-- the indexes that are wanted of n from i on
pub choice_few : (want : ℕ → Bool) (i n : ℕ) → length (choice want i n) ≤ n
unfolding choice
choice_few want i zero = omega arith
choice_few want i (suc n) = go (want i) refl (choice_few want (suc i) n)
  where
    go : (b : Bool) → want i ≡ b → length (choice want (suc i) n) ≤ n → length (choice want i (suc n)) ≤ suc n
    go true e IH = rw (e, choice) (omega arith)
    go false e IH = rw (e, choice) (omega arith)

pub choice_below : (want : ℕ → Bool) (i n j : ℕ) → j < length (choice want i n) → get_or (choice want i n) j 0 < i + n
unfolding choice
choice_below want i zero j h = absurd (omega arith)
choice_below want i (suc n) j h = go (want i) refl j h (λ k l. choice_below want (suc i) n k l)
  where
    go : (b : Bool) → want i ≡ b → (j : ℕ) → j < length (choice want i (suc n))
        → ((k : ℕ) → k < length (choice want (suc i) n) → get_or (choice want (suc i) n) k 0 < suc i + n)
        → get_or (choice want i (suc n)) j 0 < i + suc n
    go true e zero h IH = rw (e, choice) (omega arith)
    go true e (suc j) h IH =
        let l : suc j < suc (length (choice want (suc i) n)) = rw (e, choice) at h in
        rw (e, choice) (omega (arith, IH j (omega (arith, l))))
    go false e j h IH =
        let l : j < length (choice want (suc i) n) = rw (e, choice) at h in
        rw (e, choice) (omega (arith, IH j l))

-- wanted frames are those at the wanted indexes
wanted-choice : (want : ℕ → Bool) (i : ℕ) (fs : List Frame) (g : ℕ → Frame) → ((j : ℕ) → j < length fs → frame_at fs j ≡ g (i + j))
    → map line (wanted want i fs) ≡ map (λ j. line (g j)) (choice want i (length fs))
unfolding wanted choice
wanted-choice want i [] g e = refl
wanted-choice want i (f ∷ fs) g e = go (want i) refl (wanted-choice want (suc i) fs g (λ j l. e (suc j) (omega arith) ∙ ap g (omega arith)))
  where
    here : f ≡ g i
    here = e 0 (omega arith) ∙ ap g (omega arith)

    go : (b : Bool) → want i ≡ b → map line (wanted want (suc i) fs) ≡ map (λ j. line (g j)) (choice want (suc i) (length fs))
        → map line (wanted want i (f ∷ fs)) ≡ map (λ j. line (g j)) (choice want i (length (f ∷ fs)))
    go true q IH = rw (q, wanted, choice) (rw (here, IH) refl)
    go false q IH = rw (q, wanted, choice) IH

-- the lines that are chosen of the frames that words hold
pub chosen-wanted : (want : ℕ → Bool) (batch puts n : ℕ) (ws chosen : List ℕ) (total : ℕ) → take total chosen ≡ choice want 0 (at_least_one n)
    → chosen_in batch puts n ws total chosen ≡ map line (wanted want 0 (frames_of batch (changes_in puts ws n 0)))
unfolding chosen_in
chosen-wanted want batch puts n ws chosen total e =
    let fs = frames_of batch (changes_in puts ws n 0) in
    let l = frames_long batch puts ws n in
    let g = frame_in batch puts n ws in
    let is : (j : ℕ) → j < length fs → frame_at fs j ≡ g (0 + j) = λ j h. frame_in_lem batch puts ws n j (omega arith) ∙ ap g (omega arith) in
    rw e (sym (wanted-choice want 0 fs g is ∙ rw l refl))
