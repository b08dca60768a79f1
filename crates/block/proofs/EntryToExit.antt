-- A call from entry to exit, whatever its rule: carried out, or refused for room with every word as at entry.
use mathlib.Core.Path.{◌≡◌, ap, sym, ◌∙◌}
use mathlib.Core.Logic.{◌≢◌}
use Prim.Native.Nat.{ℕ, ◌≤◌, ◌<◌}
use mathlib.Core.Bool.{false, true≢false}
use mathlib.Core.List.{List}
use native.Mathlib.Decide.{ℕ_discrete}
use Rattle.model.specs.Tree.{Tree, Ordered}
use Rattle.model.specs.Supply.{Make, short}
use Rattle.model.specs.Heap.{tree, version, supply}
use Rattle.model.specs.Block.{heap, Words, SoundBlock}
use Rattle.model.specs.Moves.{Running, Over, Holds, Holding, Gives, Turned, FullBelow, HeldBelow, Swept, Finished}
use Rattle.model.specs.Calls.{fails, passes, Edited, Refused, Carried, Ending}
use Rattle.model.proofs.maps.Sorts.{sound_by_versions}
use Rattle.model.proofs.block.Pinned.{undone}
use Rattle.model.proofs.running.Growing.{stocked_supply}
use Rattle.model.proofs.block.Versions.{sound_running, version_ordered, gave_version}
use Rattle.model.proofs.running.Pieces.{AllNamed, start-holds, over-version}
use Rattle.model.proofs.running.Ends.{held-from}
use Rattle.std.specs.Prelude.{Option, Some, None}
use Rattle.block.specs.Outcome.{tree_at, Stands, piece_of, Outcome, Settled}

module _ {b : List ℕ} (B : SoundBlock b) where
  -- the end of a call in which version d became t
  ended : {e after : List ℕ} {d n : ℕ} {t : Tree} → Over (heap b) (heap e) → tree (heap e) n ≡ t → Ordered t → Finished e after d n → Edited b after d t
  ended {e} {after} {d} {n} {t} G is o F = record {
    sound = record { shaped = F.shaped; sound = sound_by_versions (heap after) F.kept (λ v lt. ordered v lt (ℕ_discrete v d)) };
    room_kept = F.room_kept ∙ G.room;
    here = F.here ∙ is;
    others = others;
  }
    where
      others : (v : ℕ) → v < 16 → v ≢ d → version (heap after) v ≡ version (heap b) v
      others v lt ne = F.others v lt ne ∙ over-version B.sound.kept.linked G v lt

      ordered : (v : ℕ) → v < 16 → Dec (v ≡ d) → Ordered (version (heap after) v)
      ordered v lt (yes p) = rw (ap (version (heap after)) p ∙ F.here ∙ is) o
      ordered v lt (no p) = rw (others v lt p) (version_ordered B.sound v lt)

module _ {b : List ℕ} (B : SoundBlock b) (ps : List ℕ) (N : AllNamed (heap b) ps) where
  begins : Holds (heap b) (heap b) ps (λ n. 0)
  begins = start-holds (heap b) ps B.sound.kept N

  -- what the call holds at entry
  pub start : Holding b ps
  start = record { running = sound_running B; entry = heap b; holds = begins }

  turned : {e : List ℕ} {q : Option ℕ} {rule : Make Tree} → Outcome b e ps q rule → Turned (heap b) (heap b) (heap e) (piece_of q) (λ n. 0)
  turned O = O.came.turned (heap b) (λ n. 0) begins

  gives : {e : List ℕ} {q : Option ℕ} {rule : Make Tree} → Outcome b e ps q rule → Gives (heap b) (heap e) (tree_at (heap e) q) (rule (supply (heap b)))
  gives O = O.came.gives (heap b) (λ n. 0) begins (supply (heap b)) (stocked_supply (heap b))

  over : {e : List ℕ} {q : Option ℕ} {rule : Make Tree} → Outcome b e ps q rule → Over (heap b) (heap e)
  over O = (turned O).holds.over

  -- the nodes below those that the call made have references
  pub held : {e : List ℕ} {q : Option ℕ} {rule : Make Tree} {from : ℕ} → FullBelow (heap b) from → Outcome b e ps q rule → HeldBelow (heap e) from
  held F O = held-from b F (turned O).holds O.came.running

  -- success is never short of room
  pub enough : {e : List ℕ} {n : ℕ} {rule : Make Tree} → Outcome b e ps (Some n) rule → short (rule (supply (heap b))).1 ≡ false
  enough O = (gives O).1.enough

  pub carried : {e after : List ℕ} {d n : ℕ} {rule : Make Tree} → Outcome b e ps (Some n) rule → Ordered (rule (supply (heap b))).0
      → Finished e after d n → Carried b after d rule
  carried {e} {after} {d} {n} {rule} O o F = record { enough = enough O; edited = ended B (over O) (sym (gives O).0) o F }

  pub refused : {e after : List ℕ} {rule : Make Tree} → Outcome b e ps None rule → Swept e after → Words b → Words after → Refused b after rule
  refused {e} {after} {rule} O W wb wa = record { short = gives O; same = undone b after B sound (W.gave.room ∙ (over O).room) same wb wa }
    where
      same : (v : ℕ) → v < 16 → version (heap after) v ≡ version (heap b) v
      same v lt = gave_version W.gave v lt ∙ over-version B.sound.kept.linked (over O) v lt

      sound : SoundBlock after
      sound = record { shaped = W.shaped; sound = sound_by_versions (heap after) W.kept (λ v lt. rw (same v lt) (version_ordered B.sound v lt)) }

-- a rule that has run from b to c, of pieces that stood there, making nodes from number `low` on
pub record Run (b c : List ℕ) (low : ℕ) (made : Option ℕ) (rule : Make Tree) : Type 0 where
  pub sound : SoundBlock b
  pub low_is : (1 ≤ low) × FullBelow (heap b) low
  pub pieces : List ℕ
  pub named : AllNamed (heap b) pieces
  pub out : Outcome b c pieces made rule
  pub ordered : Ordered (rule (supply (heap b))).0

module _ {b c : List ℕ} {low : ℕ} {made : Option ℕ} {rule : Make Tree} (R : Run b c low made rule) where
  -- what the end asks of the block and of what was made
  pub run_asks : Running c × Stands (heap c) made × (1 ≤ low) × HeldBelow (heap c) low
  run_asks = (R.out.came.running, R.out.named, R.low_is.0, held R.sound R.pieces R.named R.low_is.1 R.out)

  -- and what it gives
  pub run_ends : {after : List ℕ} {v n : ℕ} → Settled c after v made n → Words b → Words after → Ending b after v rule n
  run_ends {after} {v} {n} S wb wa = go made R.out S
    where
      go : (m : Option ℕ) → Outcome b c R.pieces m rule → Settled c after v m n → Ending b after v rule n
      go (Some k) O (z, F) = let C = carried R.sound R.pieces R.named O R.ordered F in passes C.enough (z, C.edited)
      go None O (z, W) = let X = refused R.sound R.pieces R.named O W wb wa in fails (λ e. true≢false (sym X.short ∙ e)) (z, X.same)
