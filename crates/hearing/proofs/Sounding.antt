-- Lines heard leave a sound block of the same N and a sound inbox.
use mathlib.Core.Path.{◌≡◌, refl, sym, subst, ◌∙◌}
use Prim.Native.Nat.{ℕ}
use mathlib.Core.Bool.{Bool}
use mathlib.Core.List.{List}
use lib.ListN.{length}
use native.Mathlib.Omega.{arith}
use Rattle.model.specs.Block.{room, SoundBlock}
use Rattle.model.specs.Frame.{parse}
use Rattle.model.specs.Inbox.{SoundInbox, begun}
use Rattle.model.specs.Calls.{fails, passes, Answer, Fitting, fresh_block, Fresh}
use Rattle.model.specs.Link.{Step, Receive}
use Rattle.model.specs.Replica.{Nothing, Hearing, still, then}
use Rattle.model.proofs.link.Heard.{begun_sound, marked_sound}
use Rattle.model.proofs.link.Receiving.{Outcome, away, again, new, receive_outcome, line_markable}
use Rattle.model.proofs.block.FreshBlock.{fresh_sound}
use Rattle.hearing.specs.Lines.{Runs, idle, waits, begins, hears, HearsSome}

pub record Well (b x : List ℕ) : Type 0 where
  pub block : SoundBlock b
  pub room_is : room b ≡ 2016
  pub inbox : SoundInbox x

well_same : {b x c y : List ℕ} → Well b x → (c ≡ b) × (y ≡ x) → Well c y
well_same W (p, q) = rw (p, q) W

-- a line: a refusal or a repeat changes nothing; an edit keeps the block sound, and the index is marked
well_heard_line : (s : Step) (line : List ℕ) → Receive s 0 line → Well s.block s.inbox → Well s.block' s.inbox'
well_heard_line s line R W = go (receive_outcome s 0 line R)
  where
    go : Outcome s 0 (parse line) → Well s.block' s.inbox'
    go (away n b x) = well_same W (b, x)
    go (again f e B h a b x) = well_same W (b, x)
    go (new f e B h a (m, E) x) = record { block = E.sound; room_is = E.room_kept ∙ W.room_is; inbox = subst SoundInbox (sym x) (marked_sound (line_markable line f W.inbox e B h)) }

well_hearing : {b x c y : List ℕ} {lines : List (List ℕ)} → Hearing Nothing 0 b x lines c y → Well b x → Well c y
well_hearing still W = W
well_hearing (then {x = x} {a = d} {b' = b'} {x' = x'} {line = line} a n r later) W =
    well_hearing later (well_heard_line (record { block = d; inbox = x; block' = b'; inbox' = x'; answer = a }) line r (well_same W (n, refl)))

pub well_runs : {b x c y : List ℕ} {g h : Bool} {lines : List (List ℕ)} → Runs b x g lines c y h → Well b x → Well c y
well_runs idle W = W
well_runs (waits e r) W = well_runs r W
well_runs (begins f e r) W = well_hearing r (record { block = W.block; room_is = W.room_is; inbox = begun_sound f.batch })
well_runs (hears r) W = well_hearing r W

-- a fresh block for 2,016 nodes
fitting : {words : ℕ} → words ≡ 16208 → Fitting words 2016
fitting e = record { least = omega arith; most = omega arith; whole = refl; long = e }

pub fresh_is : {b after : List ℕ} {a : Answer} → length b ≡ 16208 → Fresh b after 2016 a → after ≡ fresh_block 2016
fresh_is e (fails n r) = absurd (n (fitting e))
fresh_is e (passes p r) = r.1

-- the reads begin with it and an inbox that has heard nothing
pub hears_from : {b x c y : List ℕ} → b ≡ fresh_block 2016 → x ≡ begun 0 → HearsSome b x c y → HearsSome (fresh_block 2016) (begun 0) c y
hears_from p q h = rw (sym p, sym q) h

pub well_heard : {c y : List ℕ} → HearsSome (fresh_block 2016) (begun 0) c y → Well c y
unfolding fresh_block
well_heard (bytes, started, r) = well_runs r (record { block = fresh_sound 2016 16208 (fitting refl); room_is = refl; inbox = begun_sound 0 })
