-- A whole round, by the bytes that the calls write: the standby asks, the primary resends, the standby hears.
use mathlib.Core.Path.{◌≡◌, refl, ap, sym, subst, ◌∙◌}
use mathlib.Core.Logic.{◌≢◌, ◌⊎◌, ⊎_elim}
use Prim.Native.Nat.{ℕ, ◌+◌, ◌*◌, ◌/◌, ◌^◌, ◌≤◌, ◌<◌}
use mathlib.Core.Bool.{true, false}
use mathlib.Core.Option.{Option, none, some}
use mathlib.Core.List.{List, [], ◌∷◌, map}
use lib.ListN.{length, get_or, take, drop, length-map}
use lib.Seq.{take_at, take_all}
use native.Mathlib.Omega.{arith}
use Rattle.model.specs.Tree.{Tree, entries}
use Rattle.model.specs.Delta.{delta, delta_deep}
use Rattle.model.specs.Heap.{version}
use Rattle.model.specs.Block.{heap, SoundBlock, Words}
use Rattle.model.specs.Frame.{Frame, line, parse, nothing, frames, frame_at}
use Rattle.model.specs.Inbox.{batch_of, SoundInbox, begun}
use Rattle.model.specs.Numbers.{NO_ROOM}
use Rattle.model.specs.Calls.{fails, passes, Versions}
use Rattle.model.specs.Lists.{laid, part, Report, Pieces}
use Rattle.model.specs.Link.{Step}
use Rattle.model.specs.Replica.{NoZeroSent, Elsewhere, Hearing, Each, Some, Genuine}
use Rattle.model.specs.Request.{asked, request_of, read_request, wanted, Writes, Ask, Primary, Sends, Resend, Arrives, Repaired}
use Rattle.model.proofs.maps.Members.{in_at, at_in}
use Rattle.model.proofs.listing.Cutting.{map_at, wide_map, Written, refused, written}
use Rattle.model.proofs.listing.DeltaRoom.{delta-room}
use Rattle.model.proofs.link.Lines.{line-length}
use Rattle.model.proofs.link.Frames.{frames-parsed}
use Rattle.model.proofs.link.Reading.{change_small}
use Rattle.model.proofs.requests.Requests.{request_most}
use Rattle.model.proofs.requests.RequestLines.{written_read}
use Rattle.model.proofs.requests.Repairs.{some_map, repair_ends}
use Rattle.model.proofs.requests.Resends.{wanted_in, asked_sent}

-- lines that are written from a start index on
abbrev lines_of : List Frame → Pieces
lines_of fs = record { versions = []; deep = false; width = 35; pieces = map line fs }

writes_written : (out after : List ℕ) (start : ℕ) (fs : List Frame) (a : Report) → Writes out after start fs a → Written (lines_of fs) out after start a
writes_written out after start fs a w =
    written (lines_of fs) (wide_map 35 line line-length fs) out after start a
    (w.0 ∙ ap (λ n. record { number = 0; written = length (part 35 start (length out) (map line fs)); total = n }) (sym (length-map fs line))) w.1

-- where there is room for all lines the bytes written are all of them
all-written : (out after : List ℕ) (fs : List Frame) (a : Report) → 35 * length fs ≤ length out → Writes out after 0 fs a
    → take a.written after ≡ laid (map line fs)
all-written out after fs a h w =
    let q : take (length out / 35) (map line fs) ≡ map line fs = take_all (length out / 35) (map line fs) (omega (arith, length-map fs line)) in
    let l : a.written ≡ length (laid (map line fs)) = ap (λ (r : Report). r.written) w.0 ∙ rw q refl in
    rw (l, w.1, q) (take_at (laid (map line fs)) (drop (length (laid (map line fs))) out) (length (laid (map line fs))) refl)

-- so one call of ask with room for all writes the whole request; 71,680 bytes are always enough
pub ask_text : (x out after : List ℕ) (a : Report) → Ask x out after 0 a → a.number ≡ 0
    → (35 * a.total ≤ length out) ⊎ (71680 ≤ length out) → take a.written after ≡ laid (map line (request_of x))
ask_text x out after a (fails h r) z m = absurd (refused r.0 z)
ask_text x out after a (passes h (fails s r)) z m = absurd (refused r.0 z)
ask_text x out after a (passes h (passes s w)) z m =
    let t : a.total ≡ length (request_of x) = ap (λ (r : Report). r.total) w.0 in
    all-written out after (request_of x) a (⊎_elim (λ q. omega (arith, t)) (λ q. omega (arith, request_most x s)) m) w

-- what a done call of resend says
record Done (p : Primary) (request out after : List ℕ) (start : ℕ) (a : Report) : Type 0 where
  sound : SoundBlock p.block
  known : Versions (p.from ∷ p.to ∷ [])
  shallow : delta_deep (version (heap p.block) p.from) (version (heap p.block) p.to) ≡ false
  lines : List Frame
  read : read_request request ≡ some lines
  writes : Writes out after start (wanted (asked lines) 0 (frames p.batch (version (heap p.block) p.from) (version (heap p.block) p.to))) a

resend_done : (p : Primary) (request out after : List ℕ) (start : ℕ) (a : Report) → Resend p request out after start a → a.number ≡ 0
    → Done p request out after start a
resend_done p request out after start a (fails h r) z = absurd (refused r.0 z)
resend_done p request out after start a (passes h (fails s r)) z = absurd (refused r.0 z)
resend_done p request out after start a (passes h (passes s (fails v r))) z = absurd (refused r.0 z)
resend_done p request out after start a (passes h (passes s (passes v r))) z = go (read_request request) refl r
  where
    go : (o : Option (List Frame)) → read_request request ≡ o → Sends p o out after start a → Done p request out after start a
    go none e r = absurd (refused r.0 z)
    go (some fs) e (fails q r) = absurd (refused r.0 z)
    go (some fs) e (passes q (fails d r)) = absurd (refused r.0 z)
    go (some fs) e (passes q (passes d w)) = record { sound = s; known = v; shallow = d; lines = fs; read = e; writes = w }

-- the line is the j-th of what is resent: 35 bytes of what some done call, from whatever start index, wrote
pub record Resent (p : Primary) (request : List ℕ) (j : ℕ) (line : List ℕ) : Type 0 where
  pub out : List ℕ
  pub after : List ℕ
  pub start : ℕ
  pub report : Report
  pub wrote : Resend p request out after start report
  pub done : report.number ≡ 0
  pub place : ℕ
  pub within : 35 * place < report.written
  pub at : start + place ≡ j
  pub is : line ≡ take 35 (drop (35 * place) after)

module _ (p : Primary) (W : Words p.block) (fits : p.batch < 2 ^ 32) (x : List ℕ) (S : SoundInbox x) (same : batch_of x ≡ p.batch) where
  abbrev a : Tree
  a = version (heap p.block) p.from

  abbrev z : Tree
  z = version (heap p.block) p.to

  abbrev sent : List Frame
  sent = frames p.batch a z

  -- the frames that the inbox lacks
  abbrev lost : List Frame
  lost = wanted (asked (request_of x)) 0 sent

  -- its request's bytes
  abbrev request : List ℕ
  request = laid (map line (request_of x))

  -- each frame is read from its line
  sent_parsed : SoundBlock p.block → (p.from < 16) → (p.to < 16) → delta_deep a z ≡ false → (i : ℕ) → i < length sent
      → parse (line (frame_at sent i)) ≡ some (frame_at sent i)
  sent_parsed B la lb d i l = frames-parsed p.batch (delta a z) fits (omega (arith, delta-room (heap p.block) B.sound p.from p.to la lb d, B.shaped.most)) (change_small B W p.from p.to la lb d) i l

  -- what is resent is the lost frames, line by line
  pub resent_says : (j : ℕ) (l : List ℕ) → Resent p request j l → (j < length lost) × (parse l ≡ some (frame_at lost j))
  unfolding Versions
  resent_says j l r = (h, rw (r.is, q.1, place, map_at line lost j (nothing 0) [] h, ← w.3) (sent_parsed D.sound D.known.0 D.known.1.0 D.shallow w.0 w.1))
    where
      D : Done p request r.out r.after r.start r.report
      D = resend_done p request r.out r.after r.start r.report r.wrote r.done

      -- the primary reads what the standby wrote
      asks : D.lines ≡ request_of x
      asks = cc (sym D.read ∙ written_read x S (rw same fits))

      wrote : Written (lines_of lost) r.out r.after r.start r.report
      wrote = writes_written r.out r.after r.start lost r.report (subst (λ (fs : List Frame). Writes r.out r.after r.start (wanted (asked fs) 0 sent) r.report) asks D.writes)

      q : (r.start + r.place < length (map line lost)) × (take 35 (drop (35 * r.place) r.after) ≡ get_or (map line lost) (r.start + r.place) [])
      q = wrote.piece r.place r.within

      place : r.start + r.place ≡ j
      place = r.at

      h : j < length lost
      h = omega (arith, q.0, place, length-map lost line)

      w : (i : ℕ) × (i < length sent) × (asked (request_of x) (0 + i) ≡ true) × (frame_at sent i ≡ frame_at lost j)
      w = wanted_in (asked (request_of x)) 0 sent (frame_at lost j) (in_at lost (nothing 0) j h)

  -- A standby that holds A's entries hears lines of the batch, and asks when its inbox is x. Every line of what the primary resends to that request, in one call or in parts, arrives and finds room, in any
  -- order, repeated, with others among them and the host at work between them. Then it is complete, its entries equal B's exactly, and its next request says so.
  pub round_repairs : SoundBlock p.block → (la : p.from < 16) → (lb : p.to < 16) → delta_deep a z ≡ false → NoZeroSent a z
      → (b : List ℕ) → SoundBlock b → (v : ℕ) → v < 16 → entries (version (heap b) v) ≡ entries a
      → {lines : List (List ℕ)} {c : List ℕ} (run : Hearing (Elsewhere v) v b (begun p.batch) lines c x) → Each (Genuine sent) run
      → {more : List (List ℕ)} {d y : List ℕ} (again : Hearing (Elsewhere v) v c x more d y) → Each (Genuine sent) again
      → ((j : ℕ) → j < length lost → Some (λ s l. (s.answer.number ≢ NO_ROOM) × Resent p request j l) again) → Repaired z v d y
  round_repairs B la lb shallow worth b O v lt holds run genuine again genuine' arrive = repair_ends p.block B p.from p.to p.batch la lb fits shallow b O v lt holds run genuine worth again genuine' asked_arrives
    where
      said : (i j : ℕ) → frame_at lost j ≡ frame_at sent i → (s : Step) (l : List ℕ) → (s.answer.number ≢ NO_ROOM) × Resent p request j l → Arrives sent i s l
      said i j e s l q = (q.0, (resent_says j l q.1).1 ∙ ap some e)

      asked_arrives : (i : ℕ) → i < length sent → asked (request_of x) i ≡ true → Some (Arrives sent i) again
      asked_arrives i l k =
          let w = at_in lost (nothing 0) (frame_at sent i) ((asked_sent p.batch (delta a z) (request_of x)).all i l k) in
          some_map (said i w.0 w.2) again (arrive w.0 w.1)
