-- What resend answers behind each check: a request that is read, its batch, the depth, and the asked lines.
use mathlib.Core.Path.{◌≡◌, refl, ap, sym, subst, ◌∙◌}
use Prim.Native.Nat.{ℕ, ◌*◌, ◌/◌, ◌≤◌, ◌<◌}
use mathlib.Core.Bool.{Bool, true, false, true≢false}
use mathlib.Core.Option.{Option, none, some}
use mathlib.Core.List.{List, [], ◌∷◌, map}
use native.Mathlib.Omega.{arith}
use lib.ListN.{length, get_or, take, length-map}
use lib.Seq.{get_or-take}
use Rattle.model.specs.Heap.{version}
use Rattle.model.specs.Block.{heap}
use Rattle.model.specs.Frame.{Frame, line, frames_of, frames}
use Rattle.model.specs.Calls.{fails, passes, Admitted}
use Rattle.model.specs.Lists.{Report, part, over}
use Rattle.model.specs.Request.{asked, well_formed, cutting, all_fields, read_request, all_of, wanted, Primary, Sends, Resend}
use Rattle.model.proofs.requests.RequestLines.{lines_long, read_exactly}
use Rattle.requests.specs.Reading.{holds, counting, choice, Chooses}
use Rattle.table.proofs.Admitting.{Admission}
use Rattle.std.specs.Prelude.{Result, Ok, Err}
use Rattle.answers.specs.declared.Refusal.{Refusal}
use Rattle.answers.specs.declared.Refusal.TheVariants.{Batch, Request}
use Rattle.answers.specs.Numbers.{number}
use Rattle.answers.specs.Answers.{report_of}
use Rattle.answers.proofs.NotDone.{some_number}
use Rattle.lists.specs.declared.changes.Changes.{Changes}
use Rattle.lists.specs.Reports.{refused, Wrote}
use Rattle.lists.specs.Changes.{at_least_one, chosen_in}
use Rattle.lists.proofs.Sending.{Gathered, held, too_deep}
use Rattle.lists.proofs.Choosing.{chosen_many, choice_few, choice_below, chosen-wanted}

-- a request of n lines that is well formed
pub record Read (cs : List ℕ) (n : ℕ) (fs : List Frame) : Type 0 where
  pub whole : length cs ≡ 35 * n
  pub lines : all_fields (cutting n cs) ≡ some fs
  pub well : well_formed fs ≡ true
  pub is : read_request cs ≡ some fs

module _ (cs : List ℕ) where
  abbrev tested : Bool
  tested = holds well_formed (all_fields (cutting (counting cs) cs))

  pub unread : tested ≡ false → read_request cs ≡ none
  unfolding read_request
  unread e = go (all_fields (cutting (counting cs) cs)) refl
    where
      go : (o : Option (List Frame)) → all_fields (cutting (counting cs) cs) ≡ o → read_request cs ≡ none
      go none q = rw (q, read_request) refl
      go (some fs) q =
          let w : well_formed fs ≡ false = rw q at e in
          let left : ◌≡◌ {A = Option (List Frame)} (elim (well_formed fs) [ true ↦ some fs | false ↦ none ]) none = rw w in
          rw (q, read_request) left

  pub is_read : (n : ℕ) → n ≡ length cs / 35 → tested ≡ true → (fs : List Frame) × Read cs n fs
  unfolding read_request
  is_read n k e = go (all_fields (cutting (counting cs) cs)) refl
    where
      go : (o : Option (List Frame)) → all_fields (cutting (counting cs) cs) ≡ o → (fs : List Frame) × Read cs n fs
      go none q = absurd (true≢false (sym (rw q at e)))
      go (some fs) q =
          let w : well_formed fs ≡ true = rw q at e in
          let kept : elim (well_formed fs) [ true ↦ some fs | false ↦ none ] ≡ some fs = rw w in
          let r : read_request cs ≡ some fs = rw (q, read_request) kept in
          let long : length cs ≡ 35 * length fs = ap length ((read_exactly cs fs).0 r).0 ∙ lines_long fs in
          let same : counting cs ≡ n = omega (arith, k, long) in
          (fs, record { whole = omega (arith, k, long); lines = ap (λ m. all_fields (cutting m cs)) (sym same) ∙ q; well = w; is = r })

-- a test of all the lines
pub read-holds : {cs : List ℕ} {n : ℕ} {fs : List Frame} → Read cs n fs → (T : List Frame → Bool) → holds T (all_fields (cutting n cs)) ≡ T fs
read-holds R T = ap (holds T) R.lines

-- the indexes below `end` that its lines ask for are chosen
pub record Picked (fs : List Frame) (end total : ℕ) (chosen : List ℕ) : Type 0 where
  pub count : total ≡ length (choice (asked fs) 0 end)
  pub are : take total chosen ≡ choice (asked fs) 0 end

pub picked : {cs : List ℕ} {n : ℕ} {fs : List Frame} → Read cs n fs → {end m : ℕ} (total : ℕ) (chosen : List ℕ) → end ≡ m
    → Chooses (all_fields (cutting n cs)) end total chosen
    → Picked fs m total chosen
picked {cs} {n} {fs} R {end} {m} total chosen e C =
    let c = subst (λ o. Chooses o end total chosen) R.lines C in
    let same = ap (choice (asked fs) 0) e in
    record { count = c.0 ∙ ap length same; are = c.1 ∙ same }

module _ {fs : List Frame} {end total : ℕ} {chosen : List ℕ} (P : Picked fs end total chosen) where
  pub picked_few : total ≤ end
  picked_few = omega (arith, P.count, choice_few (asked fs) 0 end)

  pub picked_below : (i : ℕ) → i < total → get_or chosen i 0 < end
  picked_below i h =
      let e : get_or chosen i 0 ≡ get_or (choice (asked fs) 0 end) i 0 = sym (get_or-take total chosen i 0 h) ∙ ap (λ xs. get_or xs i 0) P.are in
      omega (arith, e, choice_below (asked fs) 0 end i (omega (arith, P.count)))

-- a check of the block or of the versions fails
pub resend_refused : {out : List ℕ} (p : Primary) (request : List ℕ) (start : ℕ) (r : Refusal) → Admitted p.block (p.from ∷ p.to ∷ []) (number r)
    → Resend p request out out start (report_of (Err r))
resend_refused p request start r (fails q e) = fails q (ap refused e, refl)
resend_refused p request start r (passes q (fails s e)) = passes q (fails s (ap refused e, refl))
resend_refused p request start r (passes q (passes s (fails u e))) = passes q (passes s (fails u (ap refused e, refl)))
resend_refused p request start r (passes q (passes s (passes u e))) = absurd (some_number r e)

module _ (p : Primary) (request : List ℕ) {out after : List ℕ} (start : ℕ) (A : Admission p.block (p.from ∷ p.to ∷ [])) where
  admitted : {o : Option (List Frame)} {a : Report} → read_request request ≡ o → Sends p o out after start a → Resend p request out after start a
  admitted {o} {a} e s = passes A.sound.shaped (passes A.sound (passes A.versions (subst (λ o. Sends p o out after start a) (sym e) s)))

  pub resend_unread : read_request request ≡ none → after ≡ out → Resend p request out after start (report_of (Err Request))
  resend_unread e k = admitted e (refl, k)

  module _ {n : ℕ} {fs : List Frame} (R : Read request n fs) where
    pub resend_batch : all_of p.batch fs ≡ false → after ≡ out → Resend p request out after start (report_of (Err Batch))
    resend_batch f k = admitted R.is (fails (λ t. true≢false (sym t ∙ f)) (refl, k))

    module _ (own : all_of p.batch fs ≡ true) {ws : List ℕ} {q : Result Changes Refusal} (G : Gathered p.block p.from p.to ws q) where
      pub resend_deep : {r : Refusal} → q ≡ Err r → after ≡ out → Resend p request out after start (report_of (Err r))
      resend_deep e k =
          let d = too_deep G e in
          admitted R.is (passes own (fails (λ t. true≢false (sym d.1 ∙ t)) (ap (λ (r : Refusal). report_of (Err r)) d.0, k)))

      pub resend_done : {total : ℕ} {chosen : List ℕ} {k : Changes} (w : ℕ) {m : ℕ} → q ≡ Ok k → Picked fs (at_least_one k.count) total chosen
          → Wrote (chosen_in p.batch k.puts k.count ws total chosen) start out w after → m ≡ total → Resend p request out after start (report_of (Ok (record { written = w; total = m })))
      resend_done {total} {chosen} {k} w e P d r =
          let h = held G e in
          let batch = p.batch in
          let sent = wanted (asked fs) 0 (frames batch (version (heap p.block) p.from) (version (heap p.block) p.to)) in
          let L : chosen_in batch k.puts k.count ws total chosen ≡ map line sent =
          chosen-wanted (asked fs) batch k.puts k.count ws chosen total P.are ∙ ap (λ cs. map line (wanted (asked fs) 0 (frames_of batch cs))) h.1 in
          let many = chosen_many batch k.puts k.count ws total chosen in
          let t : total ≡ length sent = P.count ∙ ap length (sym P.are) ∙ sym many ∙ ap length L ∙ length-map sent line in
          let u : w ≡ length (part 35 start (length out) (map line sent)) = d.0 ∙ ap (λ ls. length (part 35 start (length out) ls)) L in
          admitted R.is (passes own (passes h.0 (rw (u, r, t) refl, d.1 ∙ ap (λ ls. over (part 35 start (length out) ls) out) L)))
