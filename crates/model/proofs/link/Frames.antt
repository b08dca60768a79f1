-- The frames of a delta.
use mathlib.Core.Path.{◌≡◌, refl, ap, ◌∙◌}
use mathlib.Core.Logic.{◌↔◌}
use Prim.Native.Nat.{ℕ, zero, suc, ◌+◌, ◌^◌, ◌≤◌, ◌<◌}
use mathlib.Core.Bool.{true}
use mathlib.Core.Option.{Option, none, some}
use mathlib.Core.List.{List, [], ◌∷◌}
use lib.ListN.{length}
use native.Mathlib.Omega.{arith}
use Rattle.model.specs.Delta.{Change, change_at}
use Rattle.model.specs.Frame.{Frame, line, legal, kind_legal, Fitting, parse, frame_of, nothing, numbered, frames_of, frame_at}
use Rattle.model.proofs.link.Lines.{Legal, legal_exactly, parse-line}

-- the frame is number i of n in batch b
pub record Numbered (b n i : ℕ) (f : Frame) : Type 0 where
  pub batch : f.batch ≡ b
  pub count : f.count ≡ n
  pub index : f.index ≡ i

numbered-length : (batch count j : ℕ) (cs : List Change) → length (numbered batch count j cs) ≡ length cs
unfolding numbered
numbered-length batch count j [] = refl
numbered-length batch count j (c ∷ cs) = ap suc (numbered-length batch count (suc j) cs)

numbered_at : (batch count j : ℕ) (cs : List Change) (i : ℕ) → i < length cs
    → frame_at (numbered batch count j cs) i ≡ frame_of batch count (j + i) (change_at cs i)
unfolding numbered
numbered_at batch count j [] i h = absurd (omega arith)
numbered_at batch count j (c ∷ cs) zero h = ap (λ n. frame_of batch count n c) (omega arith)
numbered_at batch count j (c ∷ cs) (suc i) h =
    numbered_at batch count (suc j) cs i (omega arith) ∙ ap (λ n. frame_of batch count n (change_at cs i)) (omega arith)

frame_numbered : (batch count i : ℕ) (c : Change) → Numbered batch count i (frame_of batch count i c)
unfolding frame_of
frame_numbered batch count i c = go c.now refl
  where
    go : (o : Option ℕ) → c.now ≡ o → Numbered batch count i (frame_of batch count i c)
    go none e = rw (e, frame_of) (record { batch = refl; count = refl; index = refl })
    go (some v) e = rw (e, frame_of) (record { batch = refl; count = refl; index = refl })

frame_legal : (batch count i : ℕ) (c : Change) → count ≤ 4096 → i < count → Legal (frame_of batch count i c)
unfolding frame_of
frame_legal batch count i c m h = go c.now refl
  where
    go : (o : Option ℕ) → c.now ≡ o → Legal (frame_of batch count i c)
    go none e = rw (e, frame_of) (record { least = omega arith; most = m; below = h; kind = record { known = omega arith; removes = λ q. refl; nothing = λ q. absurd (omega arith) } })
    go (some v) e = rw (e, frame_of) (record { least = omega arith; most = m; below = h; kind = record { known = omega arith; removes = λ q. absurd (omega arith); nothing = λ q. absurd (omega arith) } })

-- a delta that is not empty has as many frames as changes
pub frames-length : (batch : ℕ) (cs : List Change) → 0 < length cs → length (frames_of batch cs) ≡ length cs
unfolding frames_of
frames-length batch [] h = absurd (omega arith)
frames-length batch (c ∷ cs) h = numbered-length batch (length (c ∷ cs)) 0 (c ∷ cs)

-- a batch has 1 to 4,096 frames
pub frames_few : (batch : ℕ) (cs : List Change) → length cs ≤ 4096 → (0 < length (frames_of batch cs)) × (length (frames_of batch cs) ≤ 4096)
unfolding frames_of
frames_few batch [] h = (omega arith, omega arith)
frames_few batch (c ∷ cs) h = let l = frames-length batch (c ∷ cs) (omega arith) in (omega arith, omega arith)

-- frame i is that of change i
pub frame_at_lem : (batch : ℕ) (cs : List Change) (i : ℕ) → i < length cs → frame_at (frames_of batch cs) i ≡ frame_of batch (length cs) i (change_at cs i)
unfolding frames_of
frame_at_lem batch [] i h = absurd (omega arith)
frame_at_lem batch (c ∷ cs) i h = numbered_at batch (length (c ∷ cs)) 0 (c ∷ cs) i h ∙ ap (λ n. frame_of batch (length (c ∷ cs)) n (change_at (c ∷ cs) i)) (omega arith)

-- each frame carries the batch, the number of frames, and its own place among them
pub frames-count : (batch : ℕ) (cs : List Change) (i : ℕ) → i < length (frames_of batch cs)
    → Numbered batch (length (frames_of batch cs)) i (frame_at (frames_of batch cs) i)
unfolding frames_of
frames-count batch [] zero h = record { batch = refl; count = refl; index = refl }
frames-count batch [] (suc i) h = absurd (omega arith)
frames-count batch (c ∷ cs) i h =
    let l = frames-length batch (c ∷ cs) (omega arith) in
    rw (l, frame_at_lem batch (c ∷ cs) i (omega arith)) (frame_numbered batch (length (c ∷ cs)) i (change_at (c ∷ cs) i))

-- a put says what its change sets, and is the put of a change
frame_sets : (batch count i v : ℕ) (c : Change) → (((frame_of batch count i c).kind ≡ 1) × ((frame_of batch count i c).value ≡ v)) ↔ (c.now ≡ some v)
unfolding frame_of
frame_sets batch count i v c = go c.now refl
  where
    go : (o : Option ℕ) → c.now ≡ o → (((frame_of batch count i c).kind ≡ 1) × ((frame_of batch count i c).value ≡ v)) ↔ (c.now ≡ some v)
    go none e = rw (e, frame_of) ((λ z. absurd (omega (arith, z.0))), (λ z. let u : ◌≡◌ {A = ℕ} 0 1 = cc z in absurd (omega arith)))
    go (some w) e = rw (e, frame_of) ((λ z. ap some z.1), (λ z. (refl, cc z)))

pub frames-set : (batch : ℕ) (cs : List Change) (i v : ℕ) → i < length (frames_of batch cs)
    → (((frame_at (frames_of batch cs) i).kind ≡ 1) × ((frame_at (frames_of batch cs) i).value ≡ v)) ↔ ((i < length cs) × ((change_at cs i).now ≡ some v))
unfolding frames_of
frames-set batch [] zero v h = ((λ z. absurd (omega (arith, z.0))), (λ z. absurd (omega (arith, z.0))))
frames-set batch [] (suc i) v h = absurd (omega arith)
frames-set batch (c ∷ cs) i v h =
    let l : i < length (c ∷ cs) = omega (arith, frames-length batch (c ∷ cs) (omega arith)) in
    let F = frame_sets batch (length (c ∷ cs)) i v (change_at (c ∷ cs) i) in
    rw (frame_at_lem batch (c ∷ cs) i l) ((λ z. (l, F.0 z)), (λ z. F.1 z.1))

-- each frame is legal
pub frames-legal : (batch : ℕ) (cs : List Change) → length cs ≤ 4096 → (i : ℕ) → i < length (frames_of batch cs) → legal (frame_at (frames_of batch cs) i) ≡ true
unfolding frames_of legal kind_legal
frames-legal batch [] m zero h = refl
frames-legal batch [] m (suc i) h = absurd (omega arith)
frames-legal batch (c ∷ cs) m i h =
    let l = frames-length batch (c ∷ cs) (omega arith) in
    let f = frame_of batch (length (c ∷ cs)) i (change_at (c ∷ cs) i) in
    rw (frame_at_lem batch (c ∷ cs) i (omega arith)) ((legal_exactly f).1 (frame_legal batch (length (c ∷ cs)) i (change_at (c ∷ cs) i) m (omega arith)))

-- key and value of the change are u32
pub record Narrow (c : Change) : Type 0 where
  pub key : c.key < 2 ^ 32
  pub value : (v : ℕ) → c.now ≡ some v → v < 2 ^ 32

frame_fitting : (batch count i : ℕ) (c : Change) → batch < 2 ^ 32 → Narrow c → Fitting (frame_of batch count i c)
unfolding frame_of
frame_fitting batch count i c b n = go c.now refl
  where
    go : (o : Option ℕ) → c.now ≡ o → Fitting (frame_of batch count i c)
    go none e = rw (e, frame_of) (record { batch = b; key = n.key; value = omega arith })
    go (some v) e = rw (e, frame_of) (record { batch = b; key = n.key; value = n.value v e })

-- each frame is read from its line, if all numbers are u32
pub frames-parsed : (batch : ℕ) (cs : List Change) → batch < 2 ^ 32 → length cs ≤ 4096 → ((i : ℕ) → i < length cs → Narrow (change_at cs i))
    → (i : ℕ) → i < length (frames_of batch cs) → parse (line (frame_at (frames_of batch cs) i)) ≡ some (frame_at (frames_of batch cs) i)
frames-parsed batch cs b m n i h = parse-line (frame_at (frames_of batch cs) i) (frames-legal batch cs m i h) (go cs n i h)
  where
    go : (cs : List Change) → ((i : ℕ) → i < length cs → Narrow (change_at cs i)) → (i : ℕ) → i < length (frames_of batch cs)
        → Fitting (frame_at (frames_of batch cs) i)
    go [] n zero h = unfold frames_of in record { batch = b; key = omega arith; value = omega arith }
    go [] n (suc i) h = unfold frames_of in absurd (omega arith)
    go (c ∷ cs) n i h =
        let l = frames-length batch (c ∷ cs) (omega arith) in
        rw (frame_at_lem batch (c ∷ cs) i (omega arith)) (frame_fitting batch (length (c ∷ cs)) i (change_at (c ∷ cs) i) b (n i (omega arith)))
