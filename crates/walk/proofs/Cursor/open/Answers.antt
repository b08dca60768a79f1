-- The three places hold the node's links and its entry from the old top on, and the last that is taken is its left child or, without one, the entry.
use native.Mathlib.Omega.{arith}
use mathlib.Core.Path.{◌≡◌, refl}
use mathlib.Core.Logic.{◌≢◌, ◌⊎◌, inl, inr}
use Prim.Native.Nat.{◌<◌}
use lib.ListN.{length}
use Rattle.model.specs.Block.{heap}
use Rattle.walk.specs.declared.Pending.{Pending}
use Rattle.walk.specs.declared.Pending.TheVariants.{Tree, Entry}
use Rattle.walk.proofs.Piles.{piled, opened_long, opened_pile}
use Rattle.walk.proofs.Cursor.open.Goals as goal
use Rattle.walk.proofs.Cursor.open.Goals.{After-self, then-node-eq0, else-node-eq0}

-- something is pending
some : (c : After-self) → 0 < c.self.inside.len
some c = omega (arith, piled c.self.inside.places c.self.inside.len c.args.self.now c.self.view_is)

pub overflow_sub-first : goal.overflow_sub-first
overflow_sub-first c = omega (arith, some (goal.at.overflow_sub-first c).After-self)

pub returns-then-last-gt63 : goal.returns-then-last-gt63
returns-then-last-gt63 c =
    let a = c.args in
    let s = c.self in
    let node = c.read-node.ensures in
    (refl, omega (arith, opened_long (heap a.b.now) a.m s.inside.places s.inside.len a.self.now s.view_is (some (goal.at.returns-then-last-gt63 c).After-self) _ _ (rw node at c.from.ensures) (rw node at c.from-2.ensures), c.if-last-gt63.true))

pub returns : goal.returns
returns c =
    let a = c.args in
    let s = c.self in
    let h = heap a.b.now in
    let n = c.read-node.ensures in
    let p = some (goal.at.returns c).After-self in
    let e : Pending = Entry (h.key a.m) (h.value a.m) in
    let l = rw n at c.from.ensures in
    let r = rw n at c.from-2.ensures in
    let long : length s.inside.places ≡ 64 = omega arith in
    let last : ((h.left a.m ≡ 0) × (c.if-node-eq0.self ≡ e)) ⊎ ((h.left a.m ≢ 0) × (c.if-node-eq0.self ≡ Tree (h.left a.m))) = elim c.if-node-eq0.branch [
      | then-node-eq0 w ↦ inl (rw n at w.if-node-eq0.true, rw n at w.self-is)
      | else-node-eq0 w ↦ inr (rw n at w.if-node-eq0.false, rw n at w.self-is)
    ] in (
      rw n (opened_pile h a.m s.inside.places s.inside.len a.self.now s.view_is p _ _ l r c.if-node-eq0.self (omega arith) last),
      omega (arith, opened_long h a.m s.inside.places s.inside.len a.self.now s.view_is p _ _ l r, c.if-last-gt63.false),
    )
