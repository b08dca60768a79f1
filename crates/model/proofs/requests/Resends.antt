-- What is asked is what is sent: the data frames at the asked indexes, in order, and nothing past the last frame.
use mathlib.Core.Path.{◌≡◌, refl, ap, sym, subst, ◌∙◌}
use mathlib.Core.Logic.{inl, inr, ⊎_elim}
use Prim.Native.Nat.{ℕ, zero, suc, ◌+◌, ◌^◌, ◌≤◌, ◌<◌}
use mathlib.Core.Bool.{Bool, true, false, false≢true}
use mathlib.Core.Option.{Option, some}
use mathlib.Core.List.{List, [], ◌∷◌, map}
use lib.ListN.{length}
use native.Mathlib.Omega.{arith}
use Rattle.model.specs.Tree.{Tree}
use Rattle.model.specs.Listing.{◌∈◌, Ascending}
use Rattle.model.specs.Delta.{Change, delta_deep}
use Rattle.model.specs.Heap.{version}
use Rattle.model.specs.Block.{heap, SoundBlock}
use Rattle.model.specs.Frame.{Frame, line, frames_of, frames, frame_at}
use Rattle.model.specs.Inbox.{batch_of, count_of, SoundInbox}
use Rattle.model.specs.Calls.{fails, passes, Versions}
use Rattle.model.specs.Lists.{laid, Report}
use Rattle.model.specs.Request.{asked, says_complete, request_of, wanted, Writes, Primary, Sends, Resend}
use Rattle.model.proofs.maps.Members.{none_in}
use Rattle.model.proofs.link.Frames.{frames-count}
use Rattle.model.proofs.requests.Requests.{complete_asks, request_unknown}
use Rattle.model.proofs.requests.RequestLines.{request_own, written_read}

-- Frames whose place, from i on, is wanted.

pub wanted_in : (want : ℕ → Bool) (i : ℕ) (fs : List Frame) (f : Frame) → f ∈ wanted want i fs
    → (j : ℕ) × (j < length fs) × (want (i + j) ≡ true) × (frame_at fs j ≡ f)
unfolding wanted ◌∈◌
wanted_in want i [] f m = absurd m
wanted_in want i (g ∷ fs) f m = go (want i) refl (λ n. wanted_in want (suc i) fs f n)
  where
    Place : ℕ → List Frame → Type 0
    Place i fs = (j : ℕ) × (j < length fs) × (want (i + j) ≡ true) × (frame_at fs j ≡ f)

    later : Place (suc i) fs → Place i (g ∷ fs)
    later (j, l, w, e) = (suc j, omega arith, ap want (omega arith) ∙ w, e)

    go : (b : Bool) → want i ≡ b → (f ∈ wanted want (suc i) fs → Place (suc i) fs) → Place i (g ∷ fs)
    go false q IH = later (IH (rw (q, wanted) at m))
    go true q IH = ⊎_elim (λ e. (0, omega arith, ap want (omega arith) ∙ q, sym e)) (λ n. later (IH n)) (rw (q, wanted) at m)

in_wanted : (want : ℕ → Bool) (i : ℕ) (fs : List Frame) (j : ℕ) → j < length fs → want (i + j) ≡ true → frame_at fs j ∈ wanted want i fs
unfolding wanted ◌∈◌
in_wanted want i [] j l w = absurd (omega arith)
in_wanted want i (g ∷ fs) j l w = go (want i) refl j l w (λ j l w. in_wanted want (suc i) fs j l w)
  where
    go : (b : Bool) → want i ≡ b → (j : ℕ) → j < length (g ∷ fs) → want (i + j) ≡ true
        → ((j : ℕ) → j < length fs → want (suc i + j) ≡ true → frame_at fs j ∈ wanted want (suc i) fs)
        → frame_at (g ∷ fs) j ∈ wanted want i (g ∷ fs)
    go true q zero l w IH = rw (q, wanted) (inl refl)
    go false q zero l w IH = absurd (false≢true (sym q ∙ ap want (omega arith) ∙ w))
    go true q (suc j) l w IH = rw (q, wanted) (inr (IH j (omega arith) (ap want (omega arith) ∙ w)))
    go false q (suc j) l w IH = rw (q, wanted) (IH j (omega arith) (ap want (omega arith) ∙ w))

-- frames that carry their place are sent in order
wanted-ascends : (want : ℕ → Bool) (i : ℕ) (fs : List Frame) → ((j : ℕ) → j < length fs → (frame_at fs j).index ≡ i + j)
    → Ascending (λ (f : Frame). f.index) (wanted want i fs)
unfolding wanted Ascending
wanted-ascends want i [] p = tt
wanted-ascends want i (g ∷ fs) p = go (want i) refl (wanted-ascends want (suc i) fs (λ j l. p (suc j) (omega arith) ∙ omega arith))
  where
    above : (f : Frame) → f ∈ wanted want (suc i) fs → g.index < f.index
    above f m = let w = wanted_in want (suc i) fs f m in omega (arith, p 0 (omega arith), p (suc w.0) (omega (arith, w.1)), ap (λ (h : Frame). h.index) w.3)

    go : (b : Bool) → want i ≡ b → Ascending (λ (f : Frame). f.index) (wanted want (suc i) fs) → Ascending (λ (f : Frame). f.index) (wanted want i (g ∷ fs))
    go true q IH = rw (q, wanted) (above, IH)
    go false q IH = rw (q, wanted) IH

-- where all are wanted all are sent
wanted-all : (want : ℕ → Bool) (i : ℕ) (fs : List Frame) → ((j : ℕ) → j < length fs → want (i + j) ≡ true) → wanted want i fs ≡ fs
unfolding wanted
wanted-all want i [] w = refl
wanted-all want i (g ∷ fs) w =
    let here : want i ≡ true = ap want (omega arith) ∙ w 0 (omega arith) in
    rw (here, wanted) (ap (λ hs. g ∷ hs) (wanted-all want (suc i) fs (λ j l. ap want (omega arith) ∙ w (suc j) (omega arith))))

-- what is sent of the data frames ds for the request rs: exactly the asked frames that there are, ascending
pub record SendsAsked (rs ds : List Frame) (sent : List Frame) : Type 0 where
  pub ascends : Ascending (λ (f : Frame). f.index) sent
  pub only : (f : Frame) → f ∈ sent → (i : ℕ) × (i < length ds) × (asked rs i ≡ true) × (frame_at ds i ≡ f)
  pub all : (i : ℕ) → i < length ds → asked rs i ≡ true → frame_at ds i ∈ sent

pub asked_sent : (batch : ℕ) (cs : List Change) (rs : List Frame) → SendsAsked rs (frames_of batch cs) (wanted (asked rs) 0 (frames_of batch cs))
asked_sent batch cs rs = record {
  ascends = wanted-ascends (asked rs) 0 (frames_of batch cs) (λ j l. (frames-count batch cs j l).index ∙ omega arith);
  only = λ f m. let w = wanted_in (asked rs) 0 (frames_of batch cs) f m in (w.0, w.1, ap (asked rs) (omega arith) ∙ w.2, w.3);
  all = λ i l a. in_wanted (asked rs) 0 (frames_of batch cs) i l (ap (asked rs) (omega arith) ∙ a);
}

-- while the count is unknown the whole batch is sent
pub unknown_sent : (x : List ℕ) → count_of x ≡ 0 → (fs : List Frame) → length fs ≤ 4096 → wanted (asked (request_of x)) 0 fs ≡ fs
unknown_sent x z fs m = wanted-all (asked (request_of x)) 0 fs (λ j l. (request_unknown x z (0 + j)).1 (omega arith))

-- a request that says complete gets nothing
pub complete_sent : (rs fs : List Frame) → says_complete rs ≡ true → wanted (asked rs) 0 fs ≡ []
complete_sent rs fs c = none_in (wanted (asked rs) 0 fs) (λ f m. let w = wanted_in (asked rs) 0 fs f m in false≢true (sym (complete_asks rs c (0 + w.0)) ∙ w.2))

-- Ask, then resend: the primary reads what the standby wrote, and sends what it asks for.
module _ (p : Primary) (x : List ℕ) (S : SoundInbox x) (fits : batch_of x < 2 ^ 32) (same : p.batch ≡ batch_of x) where
  abbrev A : Tree
  A = version (heap p.block) p.from

  abbrev B : Tree
  B = version (heap p.block) p.to

  sends : (out after : List ℕ) (start : ℕ) (a : Report) → delta_deep A B ≡ false → Sends p (some (request_of x)) out after start a
      → Writes out after start (wanted (asked (request_of x)) 0 (frames p.batch A B)) a
  sends out after start a shallow (fails q r) = absurd (q (rw same (request_own x)))
  sends out after start a shallow (passes q (fails d r)) = absurd (d shallow)
  sends out after start a shallow (passes q (passes d w)) = w

  pub ask_resend : (out after : List ℕ) (start : ℕ) (a : Report) → SoundBlock p.block → Versions (p.from ∷ p.to ∷ []) → delta_deep A B ≡ false
      → Resend p (laid (map line (request_of x))) out after start a → Writes out after start (wanted (asked (request_of x)) 0 (frames p.batch A B)) a
  ask_resend out after start a P known shallow (fails q r) = absurd (q P.shaped)
  ask_resend out after start a P known shallow (passes q (fails s r)) = absurd (s P)
  ask_resend out after start a P known shallow (passes q (passes s (fails v r))) = absurd (v known)
  ask_resend out after start a P known shallow (passes q (passes s (passes v w))) = sends out after start a shallow (subst (λ (o : Option (List Frame)). Sends p o out after start a) (written_read x S fits) w)
