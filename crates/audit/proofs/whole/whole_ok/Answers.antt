-- In a sound block the words beyond the last occupied node are zeros, and without them it is as sound.
use mathlib.Core.Path.{◌≡◌, refl, ap}
use Prim.Native.Nat.{ℕ, ◌+◌, ◌-◌, ◌*◌, ◌/◌, ◌≤◌, ◌<◌}
use mathlib.Core.Bool.{Bool, true}
use mathlib.Core.List.{List}
use lib.ListN.{length, take, drop}
use native.Mathlib.Omega.{arith}
use Rattle.model.specs.Block.{word, room, width, Shaped}
use Rattle.model.specs.Tells.{Tells}
use Rattle.area.specs.Notes.{AllZero, Zeros}
use Rattle.area.proofs.Gathers.{zeros_part}
use Rattle.audit.specs.Whole.{nodes_of}
use Rattle.audit.proofs.Cuts.{area_long, tail_zeros, cut_is}
use Rattle.audit.proofs.whole.whole_ok.Goals as goal

-- the words from that of the first node beyond the w occupancy words in use
module _ (b a : List ℕ) (B : Shaped b) (ea : a ≡ nodes_of b) (n w : ℕ) (en : n ≡ room b) (le : w ≤ n / 32) where
  beyond : (r : Bool) → Tells r (AllZero (take (length a - width * (32 * w)) (drop (width * (32 * w)) a)))
      → Tells r (Zeros a (width * (32 * w)) (width * room b - width * (32 * w)))
  beyond = let l = area_long b a B ea in zeros_part a (width * (32 * w)) (width * room b - width * (32 * w)) (length a - width * (32 * w)) (omega arith) (omega arith)

  used_room : w ≤ room b / 32
  used_room = omega (arith, ap (λ x. x / 32) en)

  unused : ((v : ℕ) → w ≤ v → v < n / 32 → word b (17 + v) ≡ 0) → (v : ℕ) → w ≤ v → v < room b / 32 → word b (17 + v) ≡ 0
  unused f v p q = f v p (omega (arith, q, ap (λ x. x / 32) en))

pub returns-else-zeros : goal.returns-else-zeros
returns-else-zeros c =
    let b = c.args.b.now in
    let a = c.args.a.now in
    let B = c.requires.0 in
    let ea = c.requires.2 in
    let n = c.args.n in
    let w = c.used-m.result in
    let en = c.requires.1 in
    let le = c.used-m.ensures.0 in
    let Z = beyond b a B ea n w en le c.zeros.result c.zeros.ensures in
    rw c.if-zeros.false (λ S. (rw c.if-zeros.false at Z) (tail_zeros b a B ea w (used_room b a B ea n w en le) (unused b a B ea n w en le c.used-m.ensures.1) S))

pub cut_ok-requires : goal.cut_ok-requires
cut_ok-requires c =
    let b = c.args.b.now in
    let a = c.args.a.now in
    let B = c.requires.0 in
    let ea = c.requires.2 in
    let n = c.args.n in
    let w = c.used-m.result in
    let en = c.requires.1 in
    let le = c.used-m.ensures.0 in
    cut_is b a B ea w (used_room b a B ea n w en le) (unused b a B ea n w en le c.used-m.ensures.1) (32 * w) refl (beyond b a B ea n w en le true c.if-zeros.ensures)
