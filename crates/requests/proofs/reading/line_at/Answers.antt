-- Without a newline at its end a piece has no fields; with it they are those that frame reads.
use native.Mathlib.Omega.{arith}
use mathlib.Core.Path.{◌≡◌, refl}
use Prim.Native.Nat.{◌+◌, ◌-◌, ◌*◌}
use Rattle.requests.proofs.Cutting.{piece_open, piece_said}
use Rattle.requests.proofs.reading.line_at.Goals as goal

pub returns-then-request-at-ne10 : goal.returns-then-request-at-ne10
returns-then-request-at-ne10 c = piece_open _ _ c.requires _ refl c.if-request-at-ne10.true

pub returns : goal.returns
returns c =
    let i = c.args.i in
    let w : 35 * i + 35 - 35 * i ≡ 35 = omega arith in
    rw c.ok.ensures.value (piece_said _ i c.requires _ refl c.if-request-at-ne10.false c.fields.result (35 * i + 35 - 35 * i) c.fields.ensures w)
