-- The bytes are held to those of the digits that they would stand for.
use native.Mathlib.Omega.{arith}
use Rattle.frame.proofs.Decoding.{says_none, says_eight}
use Rattle.frame.proofs.word.read_eight.Goals as goal

pub returns-then-texts-x : goal.returns-then-texts-x
returns-then-texts-x c =
    says_eight c.args.line.now c.args.at c.requires (λ i. omega (arith, c.type_inv.line i)) c.bytes_at-x.ensures
    c.values-n.ensures.0 c.texts.ensures c.if-texts-x.true c.packed.ensures

pub returns-else-texts-x : goal.returns-else-texts-x
returns-else-texts-x c =
    says_none c.args.line.now c.args.at c.requires (λ i. omega (arith, c.type_inv.line i)) c.bytes_at-x.ensures
    c.values-n.ensures.0 c.texts.ensures c.if-texts-x.false
