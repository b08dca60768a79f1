-- Demand 3: a standby that hears lines follows their batch line by line, so it is complete, and equal, exactly when every frame has been accepted.
use mathlib.Core.Path.{◌≡◌, refl, ap, sym, subst, ◌∙◌}
use mathlib.Core.Logic.{◌≢◌, ◌⊎◌, inl, inr, ⊎_elim, ◌↔◌}
use Prim.Native.Nat.{ℕ, ◌^◌, ◌<◌}
use mathlib.Core.Bool.{true, false, true≢false}
use mathlib.Core.Option.{some}
use mathlib.Core.List.{List}
use lib.ListN.{length}
use native.Mathlib.Omega.{arith}
use Rattle.model.specs.Tree.{Tree, Entry, entries, find}
use Rattle.model.specs.Delta.{Change, delta, delta_deep, change_at}
use Rattle.model.specs.Heap.{version}
use Rattle.model.specs.Block.{heap, SoundBlock}
use Rattle.model.specs.Frame.{Frame, parse, frames_of, frame_at, frames}
use Rattle.model.specs.Inbox.{heard_at, begun, marked, Complete}
use Rattle.model.specs.Link.{Missing, Step, PutsZero}
use Rattle.model.specs.Kiosk.{pairs, SoundKiosk}
use Rattle.model.specs.Replica.{NoZeroSent, Store, table, flat, SoundIn, entries_in, Receives, Nothing, Beside, Elsewhere, HearingIn, Hearing, still, then, Each, Some, Took, Genuine, Heeded, ReplicatedIn, Replicated}
use Rattle.model.proofs.maps.Sorts.{ordered_sorted}
use Rattle.model.proofs.block.Versions.{version_ordered}
use Rattle.model.proofs.maps.Members.{in_at}
use Rattle.model.proofs.listing.Listings.{versions_one-heap}
use Rattle.model.proofs.listing.Deltas.{delta_carries, delta_keys}
use Rattle.model.proofs.listing.DeltaRoom.{delta-room}
use Rattle.model.proofs.link.Frames.{frames-length, frames-count, frames-set}
use Rattle.model.proofs.link.Heard.{Markable, begun_heard}
use Rattle.model.proofs.link.Replicas.{edited, Sending, Follows, start_follows, counts_agree, frame_heard, frame_follows, complete_heard, complete_entries}
use Rattle.model.proofs.link.Stores.{Known, DoneIn, store_comes, store_only_room, store_zero, store_others}
use Rattle.model.proofs.link.Receiving.{Comes, away, again, new, comes_reports, line_markable, missing_complete, missing_answers}

module _ {batch : ℕ} {es fs : List Entry} {cs : List Change} (D : Sending batch es fs cs) (store : Store) (known : Known store) where
  abbrev sent : List Frame
  sent = frames_of batch cs

  -- the words b and the inbox x follow the batch
  abbrev Following : (b x : List ℕ) → Type 0
  Following b x = Follows batch es fs cs x (entries_in store b)

  -- none of the frames puts a zero
  abbrev NoZeroPut : Type 0
  NoZeroPut = (i : ℕ) → i < length sent → ¬ PutsZero (frame_at sent i)

  -- one line
  record Stepped (s : Step) (line : List ℕ) : Type 0 where
    follows : Following s.block' s.inbox'
    sound : SoundIn store s.block'
    heard : (i : ℕ) → i < length sent → (heard_at s.inbox' i ≡ true) ↔ ((heard_at s.inbox i ≡ true) ⊎ Took sent i s line)

  module _ (s : Step) (line : List ℕ) (B : SoundIn store s.block) (F : Following s.block s.inbox) (R : Receives store s line) (G : Genuine sent s line) where
    kept : s.block' ≡ s.block → s.inbox' ≡ s.inbox → ((i : ℕ) → i < length sent → Took sent i s line → heard_at s.inbox i ≡ true) → Stepped s line
    kept b x told = record {
      follows = rw (b, x) F;
      sound = subst (SoundIn store) (sym b) B;
      heard = λ i l. (λ h. inl (subst (λ z. heard_at z i ≡ true) x h), λ h. subst (λ z. heard_at z i ≡ true) (sym x) (⊎_elim (λ p. p) (told i l) h));
    }

    same_frame : (f g : Frame) → parse line ≡ some f → parse line ≡ some g → f ≡ g
    same_frame f g e d = cc (sym e ∙ d)

    step : Comes s (DoneIn store s) (parse line) → Stepped s line
    step (away n b x) = kept b x (λ i l t. absurd (n t.0))
    step (again f e W h a b x) = kept b x (λ i l t. subst (λ j. heard_at s.inbox j ≡ true) (ap (λ (g : Frame). g.index) (same_frame f (frame_at sent i) e t.1) ∙ (frames-count batch cs i l).index) h)
    step (new f e W h a E x) = go (G a.number)
      where
        go : (i : ℕ) × (i < length sent) × (parse line ≡ some (frame_at sent i)) → Stepped s line
        go (i, l, d) = record {
          follows = rw (inbox, held) (frame_follows D F i l M);
          sound = E.sound;
          heard = λ j m. (
            (λ q. ⊎_elim (λ k. inr (a.number, rw k d)) (λ k. inl k) ((frame_heard D F i l M j).0 (rw inbox at q))),
            (λ q. rw inbox ((frame_heard D F i l M j).1 (⊎_elim (λ k. inr k) (λ k. inl (there j m k)) q))),
          );
        }
          where
            p : f ≡ frame_at sent i
            p = same_frame f (frame_at sent i) e d

            M : Markable s.inbox (frame_at sent i).count (frame_at sent i).index
            M = subst (λ (g : Frame). Markable s.inbox g.count g.index) p (line_markable line f F.sound e W h)

            inbox : s.inbox' ≡ marked s.inbox (frame_at sent i).count (frame_at sent i).index
            inbox = x ∙ ap (λ (g : Frame). marked s.inbox g.count g.index) p

            held : entries_in store s.block' ≡ edited (frame_at sent i) (entries_in store s.block)
            held = E.is ∙ ap (λ (g : Frame). edited g (entries_in store s.block)) p

            there : (j : ℕ) → j < length sent → Took sent j s line → j ≡ i
            there j m t =
                sym (frames-count batch cs j m).index ∙ ap (λ (g : Frame). g.index) (same_frame (frame_at sent j) (frame_at sent i) t.1 d) ∙ (frames-count batch cs i l).index

    stepped : Stepped s line
    stepped = step (store_comes s line store known B R)

    told : (i : ℕ) → i < length sent → Took sent i s line
        → ((heard_at s.inbox i ≡ false) × (s.answer.again ≡ 0)) ⊎ ((heard_at s.inbox i ≡ true) × (s.answer.again ≡ 1))
    told i l t = go (store_comes s line store known B R)
      where
        at : (f : Frame) → parse line ≡ some f → f.index ≡ i
        at f e = ap (λ (g : Frame). g.index) (same_frame f (frame_at sent i) e t.1) ∙ (frames-count batch cs i l).index

        go : Comes s (DoneIn store s) (parse line)
            → ((heard_at s.inbox i ≡ false) × (s.answer.again ≡ 0)) ⊎ ((heard_at s.inbox i ≡ true) × (s.answer.again ≡ 1))
        go (away n b x) = absurd (n t.0)
        go (again f e W h a b x) = inr (subst (λ j. heard_at s.inbox j ≡ true) (at f e) h, a.again)
        go (new f e W h a E x) = inl (subst (λ j. heard_at s.inbox j ≡ false) (at f e) h, a.again)

    heeded : NoZeroPut → Heeded sent store s line
    heeded worth = record {
      reports = comes_reports s line F.sound (store_comes s line store known B R);
      again = told;
      only_room = λ w. store_only_room s line store known (frame_at sent w.0) B F.sound R w.2
          (record { batch = (frames-count batch cs w.0 w.1).batch ∙ sym F.same; counts = counts_agree D F w.0 w.1; worth = worth w.0 w.1 });
      others = store_others s line store R;
    }

  -- lines heard from b and x to c and y
  pub record Kept (x : List ℕ) {b : List ℕ} {lines : List (List ℕ)} {c y : List ℕ} (run : HearingIn (Beside store) store b x lines c y) : Type 0 where
    pub follows : Following c y
    pub sound : SoundIn store c
    pub answers : NoZeroPut → Each (Heeded sent store) run
    pub heard : (i : ℕ) → i < length sent → (heard_at y i ≡ true) ↔ ((heard_at x i ≡ true) ⊎ Some (Took sent i) run)

  pub kept_run : {b x : List ℕ} {lines : List (List ℕ)} {c y : List ℕ} (run : HearingIn (Beside store) store b x lines c y)
      → SoundIn store b → Following b x → Each (Genuine sent) run → Kept x run
  unfolding Each Some
  kept_run still B F G = record { follows = F; sound = B; answers = λ worth. tt; heard = λ i l. ((λ h. inl h), (λ h. ⊎_elim (λ p. p) (λ p. absurd p) h)) }
  kept_run (then {x = x} {a = a} {b' = b'} {x' = x'} {line = line} answer H R later) B F G =
      let s : Step = record { block = a; inbox = x; block' = b'; inbox' = x'; answer = answer } in
      let A : SoundIn store a = H.sound B in
      let E : Following a x = rw H.same F in
      let S = stepped s line A E R G.0 in
      let K = kept_run later S.sound S.follows G.1 in
      record {
        follows = K.follows;
        sound = K.sound;
        answers = λ worth. (heeded s line A E R G.0 worth, K.answers worth);
        heard = λ i l. (
          (λ h. ⊎_elim (λ p. ⊎_elim (λ q. inl q) (λ q. inr (inl q)) ((S.heard i l).0 p)) (λ p. inr (inr p)) ((K.heard i l).0 h)),
          (λ h. (K.heard i l).1 (⊎_elim (λ p. inl ((S.heard i l).1 (inl p))) (λ p. ⊎_elim (λ q. inl ((S.heard i l).1 (inr q))) (λ q. inr q) p) h)),
        );
      }

-- no run accepts a frame that puts a zero
some_took : (fs : List Frame) (i : ℕ) → PutsZero (frame_at fs i)
    → {host : List ℕ → List ℕ → Type 0} {store : Store} {b x : List ℕ} {lines : List (List ℕ)} {c y : List ℕ} (run : HearingIn host store b x lines c y)
    → Some (Took fs i) run → ⊥
unfolding Some
some_took fs i zero still t = t
some_took fs i zero {store = store} (then {line = line} answer h r later) t = ⊎_elim (λ p. store_zero _ line store (frame_at fs i) r p.1 zero p.0) (some_took fs i zero later) t

-- the delta of two versions is what a batch may send
pub versions_sent : {b : List ℕ} → SoundBlock b → (A B batch : ℕ) → A < 16 → B < 16 → batch < 2 ^ 32
    → delta_deep (version (heap b) A) (version (heap b) B) ≡ false
    → Sending batch (entries (version (heap b) A)) (entries (version (heap b) B)) (delta (version (heap b) A) (version (heap b) B))
versions_sent {b} P A B batch la lb fits shallow = record {
  number = fits;
  short = omega (arith, delta-room (heap b) P.sound A B la lb shallow, P.shaped.most);
  before = ordered_sorted (version (heap b) A) (version_ordered P.sound A la);
  after = ordered_sorted (version (heap b) B) (version_ordered P.sound B lb);
  carries = delta_carries (version (heap b) A) (version (heap b) B) (versions_one-heap (heap b) P.sound A B la lb) shallow;
}

-- where no zero is sent no frame puts one: a change differs from A, so it sets no zero that A has
pub none_puts-zero : {b : List ℕ} (P : SoundBlock b) (A B batch : ℕ) (la : A < 16) (lb : B < 16) → batch < 2 ^ 32
    → delta_deep (version (heap b) A) (version (heap b) B) ≡ false
    → NoZeroSent (version (heap b) A) (version (heap b) B) → (i : ℕ) → i < length (frames batch (version (heap b) A) (version (heap b) B))
    → ¬ PutsZero (frame_at (frames batch (version (heap b) A) (version (heap b) B)) i)
none_puts-zero {b} P A B batch la lb fits shallow worth i h p = go ((frames-set batch (delta a z) i 0 h).0 p)
  where
    a : Tree
    a = version (heap b) A

    z : Tree
    z = version (heap b) B

    go : (i < length (delta a z)) × ((change_at (delta a z) i).now ≡ some 0) → ⊥
    go (l, e) =
        let c = change_at (delta a z) i in
        let there : find (entries z) c.key ≡ some 0 = sym ((versions_sent P A B batch la lb fits shallow).carries.right i l) ∙ e in
        (delta_keys a z (versions_one-heap (heap b) P.sound A B la lb) shallow c.key).0 (c, in_at (delta a z) _ i l, refl) (worth c.key there ∙ sym there)

module _ (primary : List ℕ) (P : SoundBlock primary) (A B batch : ℕ) (la : A < 16) (lb : B < 16) (fits : batch < 2 ^ 32) (shallow : delta_deep (version (heap primary) A) (version (heap primary) B) ≡ false)
    (store : Store) (known : Known store) (b : List ℕ) (S : SoundIn store b) (holds : entries_in store b ≡ entries (version (heap primary) A))
    {lines : List (List ℕ)} {c y : List ℕ} (run : HearingIn (Beside store) store b (begun batch) lines c y) (genuine : Each (Genuine (frames batch (version (heap primary) A) (version (heap primary) B))) run) where
  abbrev a : Tree
  a = version (heap primary) A

  abbrev z : Tree
  z = version (heap primary) B

  D : Sending batch (entries a) (entries z) (delta a z)
  D = versions_sent P A B batch la lb fits shallow

  K : Kept D store known (begun batch) run
  K = kept_run D store known run S (rw holds (start_follows D)) genuine

  complete_accepted : Complete y → (i : ℕ) → i < length (frames batch a z) → Some (Took (frames batch a z) i) run
  complete_accepted k i l = ⊎_elim (λ p. absurd (true≢false (sym p ∙ begun_heard batch i))) (λ p. p) ((K.heard i l).0 ((complete_heard D K.follows).0 k i l))

  -- A standby that holds A's entries in its words, a version of a block or a kiosk, and hears lines, of which those that it answers with 0 are frames that carry A to B and put no zero: in any order, repeated or lost, with foreign and
  -- damaged lines among them, edits that found no room, and its host at work on anything but these entries between them. It is complete, and reports so, exactly when each frame has been accepted
  -- at least once; its entries then equal B's exactly; until then every key stands as in A or as in B.
  pub store_replicates : NoZeroSent a z → ReplicatedIn store a z batch run
  store_replicates worth = record {
    complete = (complete_accepted, (λ all. (complete_heard D K.follows).1 (λ i l. (K.heard i l).1 (inr (all i l)))));
    reports = λ n m M. let e = missing_answers y n m K.follows.sound M in (e, missing_complete y m (subst (λ (k : ℕ). Missing y k m) e M));
    equal = complete_entries D K.follows;
    between = K.follows.between;
    answers = K.answers (none_puts-zero P A B batch la lb fits shallow worth);
    sound_block = K.sound;
    sound_inbox = K.follows.sound;
  }

  -- The premise is needed: where B holds a zero that A lacks, its line is never accepted, so the standby never becomes complete.
  pub zero_never_in : (k : ℕ) → find (entries z) k ≡ some 0 → find (entries a) k ≢ some 0 → Complete y → ⊥
  zero_never_in k there lacks C = ⊎_elim (λ e. lacks (e ∙ there)) (λ w. sent w) (D.carries.whole k)
    where
      sent : (i : ℕ) × (i < length (delta a z)) × ((change_at (delta a z) i).key ≡ k) → ⊥
      sent (i, l, e) =
          let h : i < length (frames batch a z) = omega (arith, frames-length batch (delta a z) (omega arith)) in
          let zero = (frames-set batch (delta a z) i 0 h).1 (l, D.carries.right i l ∙ ap (find (entries z)) e ∙ there) in
          some_took (frames batch a z) i zero run (complete_accepted C i h)

-- version v of a table is such a standby, and so is a kiosk
module _ (primary : List ℕ) (P : SoundBlock primary) (A B batch : ℕ) (la : A < 16) (lb : B < 16) (fits : batch < 2 ^ 32) (shallow : delta_deep (version (heap primary) A) (version (heap primary) B) ≡ false) where
  module _ (b : List ℕ) (S : SoundBlock b) (v : ℕ) (lt : v < 16) (holds : entries (version (heap b) v) ≡ entries (version (heap primary) A))
      {lines : List (List ℕ)} {c y : List ℕ} (run : Hearing (Elsewhere v) v b (begun batch) lines c y) (genuine : Each (Genuine (frames batch (version (heap primary) A) (version (heap primary) B))) run) where
    pub standby_replicates : NoZeroSent (version (heap primary) A) (version (heap primary) B)
        → Replicated (version (heap primary) A) (version (heap primary) B) batch v run
    standby_replicates = store_replicates primary P A B batch la lb fits shallow (table v) lt b S holds run genuine

    pub zero_never_complete : (k : ℕ) → find (entries (version (heap primary) B)) k ≡ some 0
        → find (entries (version (heap primary) A)) k ≢ some 0 → Complete y → ⊥
    zero_never_complete = zero_never_in primary P A B batch la lb fits shallow (table v) lt b S holds run genuine

  pub kiosk_replicates : (k : List ℕ) → SoundKiosk k → pairs k ≡ entries (version (heap primary) A)
      → {lines : List (List ℕ)} {c y : List ℕ} (run : HearingIn (Beside flat) flat k (begun batch) lines c y)
      → Each (Genuine (frames batch (version (heap primary) A) (version (heap primary) B))) run
      → NoZeroSent (version (heap primary) A) (version (heap primary) B)
      → ReplicatedIn flat (version (heap primary) A) (version (heap primary) B) batch run
  kiosk_replicates k S holds run genuine = store_replicates primary P A B batch la lb fits shallow flat tt k S holds run genuine

-- a run with nothing between its lines is such a run
pub undisturbed : {v : ℕ} {b x : List ℕ} {lines : List (List ℕ)} {c y : List ℕ} → Hearing Nothing v b x lines c y → Hearing (Elsewhere v) v b x lines c y
undisturbed still = still
undisturbed {v} (then answer n r later) = then answer (record { sound = λ S. subst SoundBlock (sym n) S; same = ap (λ z. entries (version (heap z) v)) n }) r (undisturbed later)

pub undisturbed_each : (P : Step → List ℕ → Type 0) {v : ℕ} {b x : List ℕ} {lines : List (List ℕ)} {c y : List ℕ} (run : Hearing Nothing v b x lines c y)
    → Each P run → Each P (undisturbed run)
unfolding Each undisturbed
undisturbed_each P still p = tt
undisturbed_each P (then answer n r later) p = (p.0, undisturbed_each P later p.1)
