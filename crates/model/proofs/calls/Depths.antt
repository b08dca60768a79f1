-- No call on a block that the table's calls reach from a fresh one answers TOO_DEEP: its versions are balanced, and a walk of balanced trees keeps few items.
use mathlib.Core.Path.{◌≡◌, ap, sym, ◌∙◌}
use mathlib.Core.Logic.{◌≢◌, ⊎_elim}
use Prim.Native.Nat.{ℕ, ◌≤◌, ◌<◌}
use mathlib.Core.Bool.{false}
use mathlib.Core.List.{List}
use native.Mathlib.Omega.{arith}
use Rattle.model.specs.Tree.{Tree, size}
use Rattle.model.specs.Balance.{Balanced}
use Rattle.model.specs.Listing.{start, listing, after}
use Rattle.model.specs.Delta.{delta_deep}
use Rattle.model.specs.Heap.{version}
use Rattle.model.specs.Block.{heap, room}
use Rattle.model.specs.Numbers.{TOO_DEEP}
use Rattle.model.specs.Calls.{fails, passes, Answer, Versions}
use Rattle.model.specs.Lists.{Report, Pieces, Lists, listed, framed, Same}
use Rattle.model.specs.Reached.{Reached}
use Rattle.model.proofs.block.Versions.{version-room}
use Rattle.model.proofs.calls.Drifts.{same_too_deep}
use Rattle.model.proofs.listing.Pending.{heaviest, AtMost, carried_by_49, carried_by_44, few_pending, balanced_shallow, balanced-delta_shallow}
use Rattle.model.proofs.calls.Histories.{reached_balanced}

other_report : (a : Report) (n w t : ℕ) → a ≡ record { number = n; written = w; total = t } → n ≢ TOO_DEEP → a.number ≢ TOO_DEEP
other_report a n w t e ne z = ne (sym (ap (λ (x : Report). x.number) e) ∙ z)

-- what is not too deep is not answered so
lists_shallow : {b out after : List ℕ} {a : Report} (from : ℕ) (p : Pieces) → (Versions p.versions → p.deep ≡ false)
    → Lists b out after from p a → a.number ≢ TOO_DEEP
lists_shallow {a = a} from p s (fails q r) = other_report a 1 0 0 r.0 (omega arith)
lists_shallow {a = a} from p s (passes q (fails t r)) = other_report a 2 0 0 r.0 (omega arith)
lists_shallow {a = a} from p s (passes q (passes t (fails u r))) = other_report a 3 0 0 r.0 (omega arith)
lists_shallow from p s (passes q (passes t (passes u (fails d r)))) = absurd (d (s u))
lists_shallow {a = a} from p s (passes q (passes t (passes u (passes d r)))) = other_report a 0 _ _ r.0 (omega arith)

module _ {b : List ℕ} (R : Reached b) where
  abbrev tree : ℕ → Tree
  tree v = version (heap b) v

  balance : (v : ℕ) → v < 16 → Balanced (tree v)
  balance v lt = (reached_balanced R).balanced v lt

  within-room : (v : ℕ) → v < 16 → size (tree v) ≤ room b
  within-room v lt = version-room (heap b) (reached_balanced R).sound.sound v lt

  most : (v : ℕ) → v < 16 → size (tree v) ≤ 4096
  most v lt = omega (arith, within-room v lt, (reached_balanced R).sound.shaped.most)

  -- at any turn of a walk of one version against another, p items are enough on each side if N is below the weight that p carry
  pub reached_pending : (p : ℕ) → room b < heaviest p → (v w : ℕ) → v < 16 → w < 16 → (m : ℕ) → AtMost p (after m (start (tree v) (tree w)))
  reached_pending p few v w lv lw m =
      few_pending p (tree v) (tree w) (balance v lv) (balance w lw) (omega (arith, within-room v lv)) (omega (arith, within-room w lw)) m

  -- 49 whatever N is
  pub never_above_49 : (v w : ℕ) → v < 16 → w < 16 → (m : ℕ) → AtMost 49 (after m (start (tree v) (tree w)))
  never_above_49 v w lv lw m = reached_pending 49 (omega (arith, (reached_balanced R).sound.shaped.most, carried_by_49)) v w lv lw m

  -- 44 up to the standby's N
  pub never_above_44 : room b ≤ 2016 → (v w : ℕ) → v < 16 → w < 16 → (m : ℕ) → AtMost 44 (after m (start (tree v) (tree w)))
  never_above_44 few v w lv lw m = reached_pending 44 (omega (arith, carried_by_44)) v w lv lw m

  -- so no walk of two of its versions is too deep, and no delta
  pub never_too_deep : (v w : ℕ) → v < 16 → w < 16 → ((listing (tree v) (tree w)).deep ≡ false) × (delta_deep (tree v) (tree w) ≡ false)
  never_too_deep v w lv lw = (
    balanced_shallow (tree v) (tree w) (balance v lv) (balance w lw) (most v lv) (most w lw),
    balanced-delta_shallow (tree v) (tree w) (balance v lv) (balance w lw) (most v lv) (most w lw),
  )

  -- The calls never answer TOO_DEEP, whatever versions they name.

  pub listing_never_too_deep : {out after : List ℕ} {a : Report} (from left right : ℕ) → Lists b out after from (listed b left right) a → a.number ≢ TOO_DEEP
  unfolding Versions
  listing_never_too_deep from left right L = lists_shallow from (listed b left right) (λ u. (never_too_deep left right u.0 u.1.0).0) L

  pub frames_never_too_deep : {out after : List ℕ} {a : Report} (from v w batch : ℕ) → Lists b out after from (framed b v w batch) a → a.number ≢ TOO_DEEP
  unfolding Versions
  frames_never_too_deep from v w batch L = lists_shallow from (framed b v w batch) (λ u. (never_too_deep v w u.0 u.1.0).1) L

  pub same_never_too_deep : {a : Answer} (v w : ℕ) → Same b v w a → a.number ≢ TOO_DEEP
  unfolding Versions
  same_never_too_deep v w S z =
      let D = (same_too_deep v w S).0 z in
      let f = never_above_49 w v D.1.1.0 D.1.0 D.2.turn in
      ⊎_elim (λ q. omega (arith, f)) (λ q. omega (arith, f)) D.2.pending
