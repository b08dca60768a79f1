-- After a repair the standby is complete: what it had not heard it asked for, and what it asked for it has heard.
use mathlib.Core.Path.{◌≡◌, refl}
use mathlib.Core.Logic.{◌⊎◌, inl, inr, ⊎_elim}
use Prim.Native.Nat.{ℕ, ◌^◌, ◌<◌}
use mathlib.Core.Bool.{Bool, true, false}
use mathlib.Core.List.{List}
use lib.ListN.{length}
use native.Mathlib.Omega.{arith}
use Rattle.model.specs.Tree.{Tree, entries}
use Rattle.model.specs.Delta.{delta, delta_deep}
use Rattle.model.specs.Heap.{version}
use Rattle.model.specs.Block.{heap, SoundBlock}
use Rattle.model.specs.Frame.{Frame, frames}
use Rattle.model.specs.Inbox.{count_of, heard_at, begun, Complete}
use Rattle.model.specs.Link.{Step}
use Rattle.model.specs.Replica.{NoZeroSent, table, Elsewhere, Hearing, still, then, Each, Some, Took, Genuine}
use Rattle.model.specs.Request.{asked, request_of, Arrives, Repaired}
use Rattle.model.proofs.link.Frames.{frames_few}
use Rattle.model.proofs.link.Replicas.{Sending, Follows, start_follows, complete_heard, complete_entries}
use Rattle.model.proofs.link.Standbys.{Kept, kept_run, versions_sent, none_puts-zero}
use Rattle.model.proofs.requests.Requests.{request_covers, request_unknown, request_complete}

-- what holds of each line and of one of them
each_some : {P Q R : Step → List ℕ → Type 0} → ((s : Step) (line : List ℕ) → P s line → Q s line → R s line)
    → {host : List ℕ → List ℕ → Type 0} {v : ℕ} {b x : List ℕ} {lines : List (List ℕ)} {c y : List ℕ}
    (run : Hearing host v b x lines c y) → Each P run → Some Q run → Some R run
unfolding Each Some
each_some f still p q = q
each_some f (then {line = line} answer h r later) p q = ⊎_elim (λ m. inl (f _ line p.0 m)) (λ m. inr (each_some f later p.1 m)) q

-- what one of them says
pub some_map : {Q R : Step → List ℕ → Type 0} → ((s : Step) (line : List ℕ) → Q s line → R s line)
    → {host : List ℕ → List ℕ → Type 0} {v : ℕ} {b x : List ℕ} {lines : List (List ℕ)} {c y : List ℕ}
    (run : Hearing host v b x lines c y) → Some Q run → Some R run
unfolding Some
some_map f still q = q
some_map f (then {line = line} answer h r later) q = ⊎_elim (λ m. inl (f _ line m)) (λ m. inr (some_map f later m)) q

module _ (primary : List ℕ) (P : SoundBlock primary) (A B batch : ℕ) (la : A < 16) (lb : B < 16) (fits : batch < 2 ^ 32) (shallow : delta_deep (version (heap primary) A) (version (heap primary) B) ≡ false)
    (b : List ℕ) (S : SoundBlock b) (v : ℕ) (lt : v < 16) (holds : entries (version (heap b) v) ≡ entries (version (heap primary) A)) where
  abbrev a : Tree
  a = version (heap primary) A

  abbrev z : Tree
  z = version (heap primary) B

  abbrev sent : List Frame
  sent = frames batch a z

  D : Sending batch (entries a) (entries z) (delta a z)
  D = versions_sent P A B batch la lb fits shallow

  -- what a standby that follows the batch has not heard it asks for
  lost_asked : {x : List ℕ} {xs : List (ℕ × ℕ)} → Follows batch (entries a) (entries z) (delta a z) x xs → (i : ℕ) → i < length sent
      → heard_at x i ≡ false → asked (request_of x) i ≡ true
  lost_asked {x} F i l h = go F.counts
    where
      go : (count_of x ≡ 0) ⊎ (count_of x ≡ length sent) → asked (request_of x) i ≡ true
      go (inl e) = (request_unknown x e i).1 (omega (arith, (frames_few batch (delta a z) D.short).1))
      go (inr e) = (request_covers x (omega arith) i).1 (omega arith, h)

  -- Under the premises of `standby_replicates` the standby heard lines and then, its inbox at x, asked. It has heard further lines since, in any order, with others among them and its host at work
  -- between them. If every frame that it asked for arrived and found room it is complete, its entries equal B's exactly, and its next request says complete.
  pub repair_ends : {lines : List (List ℕ)} {c x : List ℕ} (run : Hearing (Elsewhere v) v b (begun batch) lines c x) → Each (Genuine sent) run → NoZeroSent a z
      → {more : List (List ℕ)} {d y : List ℕ} (again : Hearing (Elsewhere v) v c x more d y) → Each (Genuine sent) again
      → ((i : ℕ) → i < length sent → asked (request_of x) i ≡ true → Some (Arrives sent i) again) → Repaired z v d y
  repair_ends {x = x} run genuine worth {d = d} {y = y} again genuine' arrive = record {
    complete = done;
    equal = complete_entries D L.follows done;
    ends = (request_complete y L.follows.sound L.follows.words).1 done;
  }
    where
      K : Kept D (table v) lt (begun batch) run
      K = kept_run D (table v) lt run S (rw holds (start_follows D)) genuine

      L : Kept D (table v) lt x again
      L = kept_run D (table v) lt again K.sound K.follows genuine'

      took : (i : ℕ) → i < length sent → Some (Arrives sent i) again → Some (Took sent i) again
      took i l s = each_some (λ s line H r. (⊎_elim (λ e. e) (λ e. absurd (r.0 e)) (H.only_room (i, l, r.1)), r.1)) again (L.answers (none_puts-zero P A B batch la lb fits shallow worth)) s

      all : (i : ℕ) → i < length sent → heard_at y i ≡ true
      all i l = go (heard_at x i) refl
        where
          go : (h : Bool) → heard_at x i ≡ h → heard_at y i ≡ true
          go true e = (L.heard i l).1 (inl e)
          go false e = (L.heard i l).1 (inr (took i l (arrive i l (lost_asked K.follows i l e))))

      done : Complete y
      done = (complete_heard D L.follows).1 all
