-- Entries and an inbox that follow a batch: what is heard of it stands as at its end, all else as at its start or as at its end.
use mathlib.Core.Path.{◌≡◌, refl, ap, sym, ◌∙◌}
use mathlib.Core.Logic.{◌⊎◌, inl, inr, ⊎_elim, ◌↔◌}
use Prim.Native.Nat.{ℕ, zero, suc, ◌^◌, ◌≤◌, ◌<◌}
use mathlib.Core.Bool.{true, false≢true}
use mathlib.Core.Option.{Option, none, some}
use mathlib.Core.List.{List, [], ◌∷◌}
use lib.ListN.{length}
use native.Mathlib.Omega.{arith}
use native.Mathlib.Decide.{ℕ_discrete}
use Rattle.model.specs.Tree.{Tree, Entry, entries, find, set_by, Sorted, Ordered, Is}
use Rattle.model.specs.Supply.{Supply}
use Rattle.model.specs.Delta.{Change, change_at, Carries}
use Rattle.model.specs.Frame.{Frame, frame_of, frames_of, frame_at}
use Rattle.model.specs.Block.{Words}
use Rattle.model.specs.Inbox.{batch_of, count_of, heard_at, SoundInbox, begun, marked, Complete}
use Rattle.model.specs.Link.{frame_rule}
use Rattle.model.proofs.rules.Splits.{edit_by-entries}
use Rattle.model.proofs.maps.Finds.{sorted_ext}
use Rattle.model.proofs.maps.Maps.{updated, updated_at, updated_other, put_is, without_is}
use Rattle.model.proofs.link.Frames.{frames-length, frames_few, frame_at_lem, frames-count}
use Rattle.model.proofs.link.Heard.{Markable, begun_batch, begun-count, begun_sound, begun-words, begun_heard, marked_batch, marked-count, marked_sound, marked-words, marked_heard}
use Rattle.model.proofs.link.Missing.{missing-zero}

-- the edit of a frame on plain entries
unfoldable pub edited : Frame → List Entry → List Entry
edited f es = set_by f.kind f.key f.value es

-- it is what the frame's tree rule does
pub frame_entries : (f : Frame) (t : Tree) (s : Supply) → Ordered t → entries (frame_rule f t s).0 ≡ edited f (entries t)
unfolding frame_rule edited
frame_entries f t s o = edit_by-entries f.kind f.key f.value t s o

-- the edit of a change's frame sets its key to what the change says
edited_is : (batch count i : ℕ) (c : Change) (xs : List Entry) → Sorted xs → Is (edited (frame_of batch count i c) xs) (updated c (find xs))
unfolding frame_of edited set_by
edited_is batch count i c xs s = go c.key c.now
  where
    go : (k : ℕ) (o : Option ℕ) → Is (edited (frame_of batch count i (record { key = k; now = o })) xs) (updated (record { key = k; now = o }) (find xs))
    go k none = without_is xs k s
    go k (some v) = put_is xs k v s

-- the changes carry the entries es to fs, and are as many as a batch may hold
pub record Sending (batch : ℕ) (es fs : List Entry) (cs : List Change) : Type 0 where
  pub number : batch < 2 ^ 32
  pub short : length cs ≤ 4096
  pub before : Sorted es
  pub after : Sorted fs
  pub carries : Carries (find es) (find fs) cs

-- what holds of the inbox x and the entries xs from the start: each key heard is as in fs, every other key as in es or fs
pub record Follows (batch : ℕ) (es fs : List Entry) (cs : List Change) (x : List ℕ) (xs : List Entry) : Type 0 where
  pub same : batch_of x ≡ batch
  pub sound : SoundInbox x
  pub words : Words x
  pub counts : (count_of x ≡ 0) ⊎ (count_of x ≡ length (frames_of batch cs))
  pub sorted : Sorted xs
  pub done : (i : ℕ) → i < length cs → heard_at x i ≡ true → find xs (change_at cs i).key ≡ find fs (change_at cs i).key
  pub between : (k : ℕ) → (find xs k ≡ find es k) ⊎ (find xs k ≡ find fs k)

-- the edit of a frame takes a key to what fs holds or leaves it
record Edits (fs : List Entry) (cs : List Change) (i : ℕ) (xs ys : List Entry) : Type 0 where
  sorted : Sorted ys
  here : i < length cs → find ys (change_at cs i).key ≡ find fs (change_at cs i).key
  moves : (k : ℕ) → (find ys k ≡ find fs k) ⊎ (find ys k ≡ find xs k)

-- the edit of a change
change_edits : (A : ℕ → Option ℕ) (fs : List Entry) (cs : List Change) → Carries A (find fs) cs → (i : ℕ) → i < length cs
    → (xs ys : List Entry) → Is ys (updated (change_at cs i) (find xs)) → Edits fs cs i xs ys
change_edits A fs cs C i h xs ys I = record { sorted = I.sorted; here = λ _. at (change_at cs i).key refl; moves = λ k. go k (ℕ_discrete k (change_at cs i).key) }
  where
    at : (k : ℕ) → k ≡ (change_at cs i).key → find ys k ≡ find fs k
    at k e = I.finds k ∙ updated_at (change_at cs i) (find xs) k e ∙ C.right i h ∙ ap (find fs) (sym e)

    go : (k : ℕ) → Dec (k ≡ (change_at cs i).key) → (find ys k ≡ find fs k) ⊎ (find ys k ≡ find xs k)
    go k (yes e) = inl (at k e)
    go k (no e) = inr (I.finds k ∙ updated_other (change_at cs i) (find xs) k e)

-- the edit of a frame, "nothing" too
frame_edits : (batch : ℕ) (A : ℕ → Option ℕ) (fs : List Entry) (cs : List Change) → Carries A (find fs) cs → (i : ℕ) → i < length (frames_of batch cs)
    → (xs : List Entry) → Sorted xs → Edits fs cs i xs (edited (frame_at (frames_of batch cs) i) xs)
unfolding frames_of edited set_by
frame_edits batch A fs [] C zero h xs s = record { sorted = s; here = λ p. absurd (omega arith); moves = λ k. inr refl }
frame_edits batch A fs [] C (suc i) h xs s = absurd (omega arith)
frame_edits batch A fs (c ∷ cs) C i h xs s =
    let l : i < length (c ∷ cs) = rw (frames-length batch (c ∷ cs) (omega arith)) at h in
    rw (frame_at_lem batch (c ∷ cs) i l) (change_edits A fs (c ∷ cs) C i l xs _ (edited_is batch (length (c ∷ cs)) i (change_at (c ∷ cs) i) xs s))

module _ {batch : ℕ} {es fs : List Entry} {cs : List Change} (D : Sending batch es fs cs) where
  abbrev sent : List Frame
  sent = frames_of batch cs

  -- an inbox just begun
  pub start_follows : Follows batch es fs cs (begun batch) es
  start_follows = record {
    same = begun_batch batch;
    sound = begun_sound batch;
    words = begun-words batch D.number;
    counts = inl (begun-count batch);
    sorted = D.before;
    done = λ i _ h. absurd (false≢true (sym (begun_heard batch i) ∙ h));
    between = λ k. inl refl;
  }

  -- where the batch is followed the count of each frame is the inbox's, if that has one
  pub counts_agree : {x : List ℕ} {xs : List Entry} → Follows batch es fs cs x xs → (i : ℕ) → i < length sent
      → (count_of x ≡ 0) ⊎ (count_of x ≡ (frame_at sent i).count)
  counts_agree F i h = ⊎_elim (λ e. inl e) (λ e. inr (e ∙ sym (frames-count batch cs i h).count)) F.counts

  module _ {x : List ℕ} {xs : List Entry} (F : Follows batch es fs cs x xs) (i : ℕ) (h : i < length sent) (M : Markable x (frame_at sent i).count (frame_at sent i).index) where
    place : (frame_at sent i).index ≡ i
    place = (frames-count batch cs i h).index

    -- after its mark frame i is heard, and no other is that was not
    pub frame_heard : (j : ℕ) → (heard_at (marked x (frame_at sent i).count (frame_at sent i).index) j ≡ true) ↔ ((j ≡ i) ⊎ (heard_at x j ≡ true))
    frame_heard j = (λ p. ⊎_elim (λ e. inl (e ∙ place)) (λ q. inr q) ((marked_heard M j).0 p), λ p. (marked_heard M j).1 (⊎_elim (λ e. inl (e ∙ sym place)) (λ q. inr q) p))

    -- the edit of a frame and its mark
    pub frame_follows : Follows batch es fs cs (marked x (frame_at sent i).count (frame_at sent i).index) (edited (frame_at sent i) xs)
    frame_follows = record {
      same = marked_batch M ∙ F.same;
      sound = marked_sound M;
      words = marked-words M F.words;
      counts = inr (marked-count M ∙ (frames-count batch cs i h).count);
      sorted = E.sorted;
      done = λ j l p. done j l ((frame_heard j).0 p);
      between = λ k. ⊎_elim (λ p. inr p) (λ p. ⊎_elim (λ q. inl (p ∙ q)) (λ q. inr (p ∙ q)) (F.between k)) (E.moves k);
    }
      where
        E : Edits fs cs i xs (edited (frame_at sent i) xs)
        E = frame_edits batch (find es) fs cs D.carries i h xs F.sorted

        done : (j : ℕ) → j < length cs → (j ≡ i) ⊎ (heard_at x j ≡ true) → find (edited (frame_at sent i) xs) (change_at cs j).key ≡ find fs (change_at cs j).key
        done j l (inl e) = rw e (E.here (rw e at l))
        done j l (inr p) = ⊎_elim (λ q. q) (λ q. q ∙ F.done j l p) (E.moves (change_at cs j).key)

  module _ {x : List ℕ} {xs : List Entry} (F : Follows batch es fs cs x xs) where
    -- an inbox is complete exactly when every frame is heard
    pub complete_heard : Complete x ↔ ((i : ℕ) → i < length sent → heard_at x i ≡ true)
    complete_heard = (to, back)
      where
        to : Complete x → (i : ℕ) → i < length sent → heard_at x i ≡ true
        to c i h = (missing-zero x F.sound F.words).0 c.none i (⊎_elim (λ e. absurd (omega (arith, c.counted))) (λ e. omega arith) F.counts)

        back : ((i : ℕ) → i < length sent → heard_at x i ≡ true) → Complete x
        back all = go F.counts
          where
            some_frame : 0 < length sent
            some_frame = (frames_few batch cs D.short).0

            go : (count_of x ≡ 0) ⊎ (count_of x ≡ length sent) → Complete x
            go (inl e) = absurd (false≢true (sym (F.sound.clear 0 (omega arith) (omega arith)) ∙ all 0 some_frame))
            go (inr e) = record { counted = omega (arith, some_frame); none = (missing-zero x F.sound F.words).1 (λ i h. all i (omega arith)) }

    -- where it is complete the entries are fs
    pub complete_entries : Complete x → xs ≡ fs
    complete_entries c = sorted_ext xs fs F.sorted D.after (λ k. go k (D.carries.whole k))
      where
        go : (k : ℕ) → (find es k ≡ find fs k) ⊎ ((i : ℕ) × (i < length cs) × ((change_at cs i).key ≡ k)) → find xs k ≡ find fs k
        go k (inl e) = ⊎_elim (λ p. p ∙ e) (λ p. p) (F.between k)
        go k (inr w) =
            let h = complete_heard.0 c w.0 (rw (frames-length batch cs (omega (arith, w.1))) w.1) in
            ap (find xs) (sym w.2) ∙ F.done w.0 w.1 h ∙ ap (find fs) w.2
