-- The checks in their order, and what a call that lists answers behind each.
use mathlib.Core.Path.{◌≡◌, refl, ap, sym, ◌∙◌}
use Prim.Native.Nat.{ℕ, ◌≤◌}
use mathlib.Core.Bool.{true, false, true≢false}
use mathlib.Core.List.{List}
use native.Mathlib.Omega.{arith}
use lib.ListN.{length, take, drop, length-append}
use lib.Seq.{take_at}
use Rattle.model.specs.Calls.{fails, passes, Admitted}
use Rattle.model.specs.Lists.{Report, Pieces, Lists, part, over}
use Rattle.model.proofs.calls.Once.{check_once}
use Rattle.std.specs.Prelude.{Ok, Err}
use Rattle.answers.specs.declared.Refusal.{Refusal}
use Rattle.answers.specs.declared.Refusal.TheVariants.{TooDeep}
use Rattle.answers.specs.Numbers.{number}
use Rattle.answers.specs.Answers.{report_of}
use Rattle.answers.proofs.NotDone.{some_number}
use Rattle.table.proofs.Admitting.{Admission}
use Rattle.lists.specs.Reports.{refused, Empty, Shows}

-- a check of the block or of the versions fails
pub lists_refused : {b out : List ℕ} (start : ℕ) (p : Pieces) (r : Refusal) → Admitted b p.versions (number r) → Lists b out out start p (report_of (Err r))
lists_refused start p r (fails q e) = fails q (ap refused e, refl)
lists_refused start p r (passes q (fails s e)) = passes q (fails s (ap refused e, refl))
lists_refused start p r (passes q (passes s (fails u e))) = passes q (passes s (fails u (ap refused e, refl)))
lists_refused start p r (passes q (passes s (passes u e))) = absurd (some_number r e)

module _ {b out after : List ℕ} (start : ℕ) (p : Pieces) (A : Admission b p.versions) where
  pub lists_deep : {r : Refusal} → p.deep ≡ true → r ≡ TooDeep → after ≡ out → Lists b out after start p (report_of (Err r))
  lists_deep d e k = passes A.sound.shaped (passes A.sound (passes A.versions (fails (λ f. true≢false (sym d ∙ f)) (ap (λ (r : Refusal). report_of (Err r)) e, k))))

  pub lists_done : {w t : ℕ} → p.deep ≡ false → w ≡ length (part p.width start (length out) p.pieces) → t ≡ length p.pieces
      → after ≡ over (part p.width start (length out) p.pieces) out → Lists b out after start p (report_of (Ok (record { written = w; total = t })))
  lists_done d e f k = passes A.sound.shaped (passes A.sound (passes A.versions (passes d (rw (e, f) refl, k))))

-- The part of the output that is written, as the caller gets it.

part_whole : (ps out : List ℕ) → length ps ≤ length (over ps out)
part_whole ps out = omega (arith, length-append ps (drop (length ps) out))

empty : {n : ℕ} (after : List ℕ) (a : Report) → a ≡ refused n → Empty (take a.written after) a.number a.total n
empty after a e = rw e (refl, refl, refl)

module _ {b out after : List ℕ} (start : ℕ) (p : Pieces) (a : Report) where
  -- it lies in the output
  pub written-fits : Lists b out after start p a → a.written ≤ length after
  written-fits (fails q (e, k)) = rw e (omega arith)
  written-fits (passes q (fails s (e, k))) = rw e (omega arith)
  written-fits (passes q (passes s (fails u (e, k)))) = rw e (omega arith)
  written-fits (passes q (passes s (passes u (fails d (e, k))))) = rw e (omega arith)
  written-fits (passes q (passes s (passes u (passes d (e, k))))) = rw (e, k) (part_whole (part p.width start (length out) p.pieces) out)

  pub lists_shows : Lists b out after start p a → Shows b out start p (take a.written after) a.number a.total
  lists_shows (fails q (e, k)) = fails q (empty after a e)
  lists_shows (passes q (fails s (e, k))) = passes q (fails s (empty after a e))
  lists_shows (passes q (passes s (fails u (e, k)))) = passes q (passes s (fails u (empty after a e)))
  lists_shows (passes q (passes s (passes u (fails d (e, k))))) = passes q (passes s (passes u (fails d (empty after a e))))
  lists_shows (passes q (passes s (passes u (passes d (e, k))))) =
      let ps = part p.width start (length out) p.pieces in
      passes q (passes s (passes u (passes d (rw (e, k) (take_at ps (drop (length ps) out) (length ps) refl, refl, refl)))))

-- for every input there is one part, one number and one total
pub shows_once : (b out : List ℕ) (start : ℕ) (p : Pieces) (s t : List ℕ) (n m i j : ℕ) → Shows b out start p s n i
    → Shows b out start p t m j → (s ≡ t) × (n ≡ m) × (i ≡ j)
shows_once b out start p s t n m i j A C = check_once A C same (λ A C. check_once A C same (λ A C. check_once A C same (λ A C. check_once A C same same)))
  where
    same : {x : List ℕ} {y z : ℕ} → (s ≡ x) × (n ≡ y) × (i ≡ z) → (t ≡ x) × (m ≡ y) × (j ≡ z) → (s ≡ t) × (n ≡ m) × (i ≡ j)
    same f g = (f.0 ∙ sym g.0, f.1 ∙ sym g.1, f.2 ∙ sym g.2)
