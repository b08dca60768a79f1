-- The premises of `standby_replicates` (Standbys) can be met: by a put and a remove that carry one small block to the next, also with a request between them, and, whatever the block, by the one frame "nothing".
use mathlib.Core.Path.{◌≡◌, refl, ap, sym, subst, ◌∙◌}
use mathlib.Core.Logic.{◌≢◌, inl, inr}
use Prim.Native.Nat.{ℕ, zero, suc, ◌^◌, ◌<◌, compare, Ordering}
use mathlib.Core.Bool.{true, false, false≢true}
use mathlib.Core.Option.{some}
use mathlib.Core.List.{List, [], ◌∷◌}
use lib.ListN.{length}
use lib.Dec.{eqb}
use native.Mathlib.Omega.{arith}
use Rattle.model.specs.Tree.{Tree, leaf, node, size, id_of, lookup, entries, cut, find}
use Rattle.model.specs.Supply.{first_of, after_first, is_none, among, next, taken, back, given, short}
use Rattle.model.specs.Rules.{balanced, insert_by, insert, without_key, remove_present, remove, edit_by}
use Rattle.model.specs.Listing.{turn, too_deep, walk, listing}
use Rattle.model.specs.Delta.{changed, puts, removes, delta, delta_deep}
use Rattle.model.specs.Heap.{version, free_from, supply}
use Rattle.model.specs.Block.{heap, SoundBlock}
use Rattle.model.specs.Frame.{Frame, line, legal, kind_legal, good, parse, nothing, frame_of, numbered, frames_of, frames}
use Rattle.model.specs.Inbox.{heard_at, SoundInbox, begun, marked, missing, Complete}
use Rattle.model.specs.Calls.{passes, Edited}
use Rattle.model.specs.Link.{Step, frame_rule, Takes, Says, Receive}
use Rattle.model.specs.Replica.{NoZeroSent, Elsewhere, Hearing, still, then, Each, Some, Took, Genuine, Replicated}
use Rattle.model.specs.Request.{run_line, placed, request_lines, in_front, unheard, missing_runs, request_of, last_of, asks, asked, Arrives, Repaired}
use Rattle.model.proofs.listing.Turns.{same_lists_nothing}
use Rattle.model.proofs.running.Growing.{stocked_supply}
use Rattle.model.proofs.link.Lines.{good_parse, parse-line}
use Rattle.model.proofs.link.Heard.{Markable, begun_batch, begun-count, begun_sound, begun_heard, marked_batch, marked-count, marked_sound, marked_other}
use Rattle.model.proofs.link.Receiving.{Belongs}
use Rattle.model.proofs.link.Standbys.{standby_replicates}
use Rattle.model.proofs.requests.Repairs.{repair_ends}
use Rattle.model.proofs.block.Small.{before, amid, done, before_sound, amid_sound, done_sound, before_trees, amid_trees, done-trees, amid_others, done_others}

-- a host that does nothing
rests : {v : ℕ} {b : List ℕ} → Elsewhere v b b
rests = record { sound = λ s. s; same = refl }

-- a line of the batch, not heard before, whose edit finds room
module _ {b b' x : List ℕ} {v : ℕ} (f : Frame) (B : SoundBlock b) (X : SoundInbox x) (lt : v < 16) (said : parse (line f) ≡ some f) (W : Belongs x f) (new : heard_at x f.index ≡ false)
    (room : short (frame_rule f (version (heap b) v) (supply (heap b))).1 ≡ false) (E : Edited b b' v (frame_rule f (version (heap b) v) (supply (heap b))).0) where
  abbrev after : List ℕ
  after = marked x f.count f.index

  abbrev step : Step
  step = record { block = b; inbox = x; block' = b'; inbox' = after; answer = record { number = 0; again = 0; missing = missing after; place = 0 } }

  received : Receive step v (line f)
  received =
      let takes : Takes step v f (heard_at x f.index) = subst (Takes step v f) (sym new) (passes room (refl, E, refl)) in
      let says : Says step v (good f) = passes W.batch (passes W.counts (passes W.worth takes)) in
      passes B.shaped (passes X.long (passes B (passes X (passes lt (subst (Says step v) (sym ((good_parse (line f) f).0 said)) says)))))

-- A put and a remove.

abbrev putting : Frame
putting = record { batch = 7; index = 0; count = 2; kind = 1; key = 2; value = 4294967295 }

abbrev removing : Frame
removing = record { batch = 7; index = 1; count = 2; kind = 2; key = 1; value = 0 }

-- they are the frames from version 0 to version 1
carried : (frames 7 (version (heap before) 0) (version (heap before) 1) ≡ putting ∷ removing ∷ []) × (delta_deep (version (heap before) 0) (version (heap before) 1) ≡ false)
unfolding size id_of turn too_deep walk listing changed puts removes delta delta_deep frame_of numbered frames_of
carried = rw (before_trees.0, before_trees.1) (refl, refl)

-- and put no zero
none_zero : (k : ℕ) → find (entries (node 2 2 4294967295 leaf leaf)) k ≢ some 0
unfolding entries cut
none_zero k e = go (compare k 2) refl
  where
    go : (o : Ordering) → compare k 2 ≡ o → ⊥
    go Ordering.lt p = let z : ◌≡◌ {A = ℕ} 0 1 = cc (rw (p, find) at e) in omega arith
    go Ordering.eq p = let z : ◌≡◌ {A = ℕ} 4294967295 0 = cc (rw (p, find) at e) in omega arith
    go Ordering.gt p = let z : ◌≡◌ {A = ℕ} 0 1 = cc (rw (p, find) at e) in omega arith

no_zero : NoZeroSent (version (heap before) 0) (version (heap before) 1)
no_zero k e = absurd (none_zero k (rw before_trees.1 at e))

put-said : parse (line putting) ≡ some putting
unfolding legal kind_legal
put-said = parse-line putting refl (record { batch = omega arith; key = omega arith; value = omega arith })

remove-said : parse (line removing) ≡ some removing
unfolding legal kind_legal
remove-said = parse-line removing refl (record { batch = omega arith; key = omega arith; value = omega arith })

put-done : (short (frame_rule putting (version (heap before) 0) (supply (heap before))).1 ≡ false) × ((frame_rule putting (version (heap before) 0) (supply (heap before))).0 ≡ version (heap amid) 0)
unfolding frame_rule edit_by size lookup first_of after_first is_none among next taken back given short balanced insert_by insert supply free_from before
put-done = rw (before_trees.0, amid_trees.0) (refl, refl)

remove-done : (short (frame_rule removing (version (heap amid) 0) (supply (heap amid))).1 ≡ false) × ((frame_rule removing (version (heap amid) 0) (supply (heap amid))).0 ≡ version (heap done) 0)
unfolding frame_rule edit_by size lookup first_of after_first is_none among next taken back given short remove_present without_key remove supply free_from amid
remove-done = rw (amid_trees.0, done-trees.0) (refl, refl)

abbrev half : List ℕ
half = marked (begun 7) 2 0

abbrev whole : List ℕ
whole = marked half 2 1

first : Markable (begun 7) 2 0
first = record { sound = begun_sound 7; small = omega arith; below = omega arith; counts = inl (begun-count 7); new = begun_heard 7 0 }

put_received : Receive (record { block = before; inbox = begun 7; block' = amid; inbox' = half; answer = record { number = 0; again = 0; missing = missing half; place = 0 } }) 0 (line putting)
put_received = received putting before_sound (begun_sound 7) (omega arith) put-said (record { batch = sym (begun_batch 7); counts = inl (begun-count 7); worth = λ z. omega (arith, z.1) }) (begun_heard 7 0) put-done.0
    (record { sound = amid_sound; room_kept = unfold before amid in refl; here = sym put-done.1; others = amid_others })

remove_received : Receive (record { block = amid; inbox = half; block' = done; inbox' = whole; answer = record { number = 0; again = 0; missing = missing whole; place = 0 } }) 0 (line removing)
remove_received = received removing amid_sound (marked_sound first) (omega arith) remove-said (record { batch = sym (marked_batch first ∙ begun_batch 7); counts = inr (marked-count first); worth = λ z. omega (arith, z.0) })
    (ap (λ n. eqb n 1) (marked_other first 1 (omega arith)) ∙ begun_heard 7 1) remove-done.0
    (record { sound = done_sound; room_kept = unfold amid done in refl; here = sym remove-done.1; others = done_others })

pub run : Hearing (Elsewhere 0) 0 before (begun 7) (line putting ∷ line removing ∷ []) done whole
run = then _ rests put_received (then _ rests remove_received still)

-- the two lines of a put and a remove carry a standby from version 0 to version 1 of its block: every premise holds of this run, it is complete, and holds what version 1 holds
pub replication_happens : Replicated (version (heap before) 0) (version (heap before) 1) 7 0 run × Complete whole × (entries (version (heap done) 0) ≡ entries (version (heap before) 1))
unfolding Each Some run
replication_happens = (R, C, R.equal C)
  where
    genuine : Each (Genuine (frames 7 (version (heap before) 0) (version (heap before) 1))) run
    genuine = rw carried.0 ((λ z. (0, omega arith, put-said)), ((λ z. (1, omega arith, remove-said)), tt))

    R : Replicated (version (heap before) 0) (version (heap before) 1) 7 0 run
    R = standby_replicates before before_sound 0 1 7 (omega arith) (omega arith) (omega arith) carried.1 before before_sound 0 (omega arith) refl run genuine no_zero

    accepted : (i : ℕ) → i < length (frames 7 (version (heap before) 0) (version (heap before) 1))
        → Some (Took (frames 7 (version (heap before) 0) (version (heap before) 1)) i) run
    accepted i h = rw carried.0 (go i (rw carried.0 at h))
      where
        go : (i : ℕ) → i < 2 → Some (Took (putting ∷ removing ∷ []) i) run
        go zero h = inl (refl, put-said)
        go (suc zero) h = inr (inl (refl, remove-said))
        go (suc (suc i)) h = absurd (omega arith)

    C : Complete whole
    C = R.complete.1 accepted

-- The same with a repair between the two lines.

half_run : Hearing (Elsewhere 0) 0 before (begun 7) (line putting ∷ []) amid half
half_run = then _ rests put_received still

rest_run : Hearing (Elsewhere 0) 0 amid half (line removing ∷ []) done whole
rest_run = then _ rests remove_received still

-- a standby that heard the put alone asks for frame 1, hears it, and is complete: the premises of `repair_ends` (Repairs) hold of it
pub repair_happens : (request_of half ≡ record { batch = 7; index = 0; count = 1; kind = 16; key = 1; value = 0 } ∷ []) × Repaired (version (heap before) 1) 0 done whole
unfolding Each Some half_run rest_run begun marked run_line placed request_lines in_front unheard missing_runs request_of last_of asks asked
repair_happens = (asks_one, repair_ends before before_sound 0 1 7 (omega arith) (omega arith) (omega arith) carried.1 before before_sound 0 (omega arith) refl half_run before_request no_zero rest_run after_request arrive)
  where
    asks_one : request_of half ≡ record { batch = 7; index = 0; count = 1; kind = 16; key = 1; value = 0 } ∷ []
    asks_one = refl

    before_request : Each (Genuine (frames 7 (version (heap before) 0) (version (heap before) 1))) half_run
    before_request = rw carried.0 ((λ z. (0, omega arith, put-said)), tt)

    after_request : Each (Genuine (frames 7 (version (heap before) 0) (version (heap before) 1))) rest_run
    after_request = rw carried.0 ((λ z. (1, omega arith, remove-said)), tt)

    arrive : (i : ℕ) → i < length (frames 7 (version (heap before) 0) (version (heap before) 1)) → asked (request_of half) i ≡ true
        → Some (Arrives (frames 7 (version (heap before) 0) (version (heap before) 1)) i) rest_run
    arrive i h a = rw carried.0 (go i (rw carried.0 at h) a)
      where
        go : (i : ℕ) → i < 2 → asked (request_of half) i ≡ true → Some (Arrives (putting ∷ removing ∷ []) i) rest_run
        go zero h a = absurd (false≢true a)
        go (suc zero) h a = inl ((λ e. omega (arith, e)), remove-said)
        go (suc (suc i)) h a = absurd (omega arith)

-- "Nothing", whatever the block.

same_delta : (t : Tree) → (delta t t ≡ []) × (delta_deep t t ≡ false)
unfolding delta delta_deep puts removes
same_delta t = rw (same_lists_nothing t) (refl, refl)

module _ (b : List ℕ) (B : SoundBlock b) (v batch : ℕ) (lt : v < 16) (fits : batch < 2 ^ 32) where
  abbrev heard : List ℕ
  heard = marked (begun batch) 1 0

  said : parse (line (nothing batch)) ≡ some (nothing batch)
  unfolding legal kind_legal
  said = parse-line (nothing batch) refl (record { batch = fits; key = omega arith; value = omega arith })

  quiet : Receive (record { block = b; inbox = begun batch; block' = b; inbox' = heard; answer = record { number = 0; again = 0; missing = missing heard; place = 0 } }) v (line (nothing batch))
  unfolding frame_rule edit_by
  quiet = received (nothing batch) B (begun_sound batch) lt said (record { batch = sym (begun_batch batch); counts = inl (begun-count batch); worth = λ z. omega (arith, z.0) }) (begun_heard batch 0)
      (stocked_supply (heap b)).enough (record { sound = B; room_kept = refl; here = refl; others = λ w l ne. refl })

  pub nothing_run : Hearing (Elsewhere v) v b (begun batch) (line (nothing batch) ∷ []) b heard
  nothing_run = then _ rests quiet still

  -- a version against itself has one frame, and hearing its line completes the batch
  pub nothing_happens : Replicated (version (heap b) v) (version (heap b) v) batch v nothing_run × Complete heard
  unfolding Each Some frames_of nothing_run
  nothing_happens = (R, R.complete.1 accepted)
    where
      t : Tree
      t = version (heap b) v

      one : frames batch t t ≡ nothing batch ∷ []
      one = rw (same_delta t).0 refl

      R : Replicated t t batch v nothing_run
      R = standby_replicates b B v v batch lt lt fits (same_delta t).1 b B v lt refl nothing_run (rw one ((λ z. (0, omega arith, said)), tt)) (λ k e. e)

      accepted : (i : ℕ) → i < length (frames batch t t) → Some (Took (frames batch t t) i) nothing_run
      accepted i h = rw one (go i (rw one at h))
        where
          go : (i : ℕ) → i < 1 → Some (Took (nothing batch ∷ []) i) nothing_run
          go zero h = inl (refl, said)
          go (suc i) h = absurd (omega arith)
