-- The edits of a batch one after another: whatever the records that are left do from here on, the whole batch does from its start.
use mathlib.Core.Path.{◌≡◌, refl, subst, ◌∙◌}
use Prim.Native.Nat.{ℕ, ◌+◌, ◌-◌, ◌*◌, ◌≤◌, ◌<◌}
use mathlib.Core.List.{List, [], ◌∷◌}
use lib.ListN.{length, get_or}
use native.Mathlib.Omega.{arith}
use Rattle.std.specs.Prelude.{Option, Some, None}
use Rattle.model.specs.Tree.{Tree}
use Rattle.model.specs.Supply.{Make}
use Rattle.model.specs.Rules.{edit_by}
use Rattle.model.specs.Heap.{Named, size_at, tree}
use Rattle.model.specs.Block.{heap}
use Rattle.model.specs.Moves.{held, Holding}
use Rattle.model.specs.Batch.{batch_rule, records_from}
use Rattle.model.proofs.rules.Sizes.{edit_by-size}
use Rattle.model.proofs.running.Growing.{came_holding}
use Rattle.model.proofs.calls.Batches.{batch_onward}
use Rattle.block.specs.Outcome.{Outcome}
use Rattle.block.proofs.Outcomes.{out_bind, out_stop, out_done}
use Rattle.block.proofs.Levels.{out_most}
use Rattle.batch.proofs.Words.{records_step, records_end}

-- i of n records have turned the tree below start, at a, into the one below x, at b
pub record Going (a b : List ℕ) (start x : ℕ) (ws : List ℕ) (n i : ℕ) : Type 0 where
  pub long : length b ≡ length a
  pub upto : i ≤ n
  pub holds : Holding b (x ∷ [])
  pub named : Named (heap b) x
  pub small : size_at (heap b) x ≤ 4096 + i
  pub rest : (e : List ℕ) (q : Option ℕ) → Outcome b e (x ∷ []) q (batch_rule (records_from ws i (n - i)) (tree (heap b) x))
      → Outcome a e (start ∷ []) q (batch_rule (records_from ws 0 n) (tree (heap a) start))

pub going_start : {a : List ℕ} {start : ℕ} (ws : List ℕ) (n : ℕ) → Holding a (start ∷ []) → Named (heap a) start
    → size_at (heap a) start ≤ 4096 → Going a a start start ws n 0
going_start {a} {start} ws n H o s = record { long = refl; upto = omega arith; holds = H; named = o; small = omega arith; rest = λ e q O. let z : n - 0 ≡ n = omega arith in subst (λ k. Outcome a e (start ∷ []) q (batch_rule (records_from ws 0 k) (tree (heap a) start))) z O }

-- the edit of record i
abbrev pub edit_at : List ℕ → ℕ → Tree → Make Tree
edit_at ws i = edit_by (get_or ws (3 * i) 0) (get_or ws (3 * i + 1) 0) (get_or ws (3 * i + 2) 0)

module _ {a b : List ℕ} {start x : ℕ} {ws : List ℕ} {n i : ℕ} (G : Going a b start x ws n i) where
  abbrev later : Tree → Make Tree
  later = batch_rule (records_from ws (i + 1) (n - (i + 1)))

  onward : {e : List ℕ} {q : Option ℕ} → i < n → Outcome b e (x ∷ []) q (λ s. let (t, s') = edit_at ws i (tree (heap b) x) s in later t s')
      → Outcome a e (start ∷ []) q (batch_rule (records_from ws 0 n) (tree (heap a) start))
  unfolding batch_rule
  onward {e} {q} lt O = G.rest e q (rw (records_step ws i n lt, batch_rule) O)

  pub going_stop : {c : List ℕ} → i < n → Outcome b c (x ∷ []) None (edit_at ws i (tree (heap b) x))
      → Outcome a c (start ∷ []) None (batch_rule (records_from ws 0 n) (tree (heap a) start))
  unfolding held
  going_stop {c} lt O = onward lt (out_stop b c (edit_at ws i (tree (heap b) x)) later (λ m j. omega arith) O (batch_onward (records_from ws (i + 1) (n - (i + 1)))))

  pub going_next : {c : List ℕ} {y : ℕ} → i < n → length c ≡ length b → Outcome b c (x ∷ []) (Some y) (edit_at ws i (tree (heap b) x))
      → Going a c start y ws n (i + 1)
  unfolding held
  going_next {c} {y} lt l O = record {
    long = l ∙ G.long;
    upto = omega arith;
    holds = came_holding G.holds O.came [] (λ m j. omega arith) (λ m j. omega arith);
    named = O.named;
    small = omega (arith, G.small, out_most x G.holds (λ m j. omega arith) G.named O (edit_by-size (get_or ws (3 * i) 0) (get_or ws (3 * i + 1) 0) (get_or ws (3 * i + 2) 0) (tree (heap b) x)));
    rest = λ e q P. onward lt (out_bind b c e [] y q (edit_at ws i (tree (heap b) x)) later (λ m j. omega arith) (λ m j. omega arith) O P);
  }

  pub going_end : n ≤ i → Outcome a b (start ∷ []) (Some x) (batch_rule (records_from ws 0 n) (tree (heap a) start))
  unfolding batch_rule held
  going_end le = G.rest b (Some x) (rw (records_end ws i n le, batch_rule) (out_done b x (λ m j. omega arith) G.holds.running G.named))
