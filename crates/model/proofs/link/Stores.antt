-- One line at a standby, whether it keeps its entries in a version of a block or in a kiosk: what comes of it, and what its answer says.
use mathlib.Core.Path.{◌≡◌, refl, ap, ◌∙◌}
use mathlib.Core.Logic.{◌≢◌, ◌⊎◌}
use Prim.Native.Nat.{ℕ, ◌<◌}
use mathlib.Core.Option.{some}
use mathlib.Core.List.{List}
use Rattle.model.specs.Tree.{entries, set_by}
use Rattle.model.specs.Heap.{version, supply}
use Rattle.model.specs.Block.{heap}
use Rattle.model.specs.Frame.{Frame, read, parse}
use Rattle.model.specs.Inbox.{SoundInbox}
use Rattle.model.specs.Numbers.{NO_ROOM}
use Rattle.model.specs.Calls.{fails, passes}
use Rattle.model.specs.Link.{Step, PutsZero}
use Rattle.model.specs.Kiosk.{pairs, Full, Holds}
use Rattle.model.specs.Kiosk as kiosk
use Rattle.model.specs.Replica.{Store, table, flat, SoundIn, entries_in, Receives, Others}
use Rattle.model.proofs.calls.Checks.{passed}
use Rattle.model.proofs.block.Versions.{version_ordered}
use Rattle.model.proofs.link.Replicas.{edited, frame_entries}
use Rattle.model.proofs.link.Receiving.{Belongs, Comes, turned, comes_map, judged_comes, judged_only_room, comes_zero, receive_outcome, receive_others, belongs_only_room, zero-refused}

-- a version that the block has
abbrev pub Known : Store → Type 0
Known (table v) = v < 16
Known flat = Unit {0}

-- the edit of a frame is done there
pub record DoneIn (store : Store) (s : Step) (f : Frame) : Type 0 where
  pub sound : SoundIn store s.block'
  pub is : entries_in store s.block' ≡ edited f (entries_in store s.block)

-- at a kiosk
kiosk_comes : (s : Step) (line : List ℕ) → kiosk.Receive s line
    → Comes s (λ f. (¬ ((f.kind ≡ 1) × Full (pairs s.block) f.key)) × Holds s.block' (set_by f.kind f.key f.value (pairs s.block))) (parse line)
kiosk_comes s line (fails p u) = turned s u
kiosk_comes s line (passes a (fails p u)) = turned s u
kiosk_comes s line (passes a (passes c (fails p u))) = turned s u
kiosk_comes s line (passes a (passes c (passes d (fails p u)))) = turned s u
kiosk_comes s line (passes a (passes c (passes d (passes e J)))) = judged_comes s _ _ line (read line) refl J

module _ (s : Step) (line : List ℕ) where
  pub store_comes : (store : Store) → Known store → SoundIn store s.block → Receives store s line → Comes s (DoneIn store s) (parse line)
  unfolding edited
  store_comes (table v) lt B R =
      comes_map (λ f d. record { sound = d.1.sound; is = ap entries d.1.here ∙ frame_entries f (version (heap s.block) v) (supply (heap s.block)) (version_ordered B.sound v lt) }) (receive_outcome s v line R)
  store_comes flat lt B R = comes_map (λ f d. record { sound = d.1.sound; is = d.1.is }) (kiosk_comes s line R)

  -- one of the batch is refused only for room
  pub store_only_room : (store : Store) → Known store → (f : Frame) → SoundIn store s.block → SoundInbox s.inbox
      → Receives store s line → parse line ≡ some f → Belongs s.inbox f
      → (s.answer.number ≡ 0) ⊎ (s.answer.number ≡ NO_ROOM)
  store_only_room (table v) lt f B X R e W = belongs_only_room s v line f B X lt R e W
  store_only_room flat lt f B X R e W = judged_only_room s _ _ line f e W (passed X (passed B (passed X.long (passed B.long R))))

  -- a put of 0 is never accepted
  pub store_zero : (store : Store) (f : Frame) → Receives store s line → parse line ≡ some f → PutsZero f → s.answer.number ≢ 0
  store_zero (table v) f R e Z = zero-refused s v line f R e Z
  store_zero flat f R e Z = comes_zero line f (kiosk_comes s line R) e Z

  pub store_others : (store : Store) → Receives store s line → Others store s
  store_others (table v) R = receive_others s v line R
  store_others flat R = tt
