-- A link of 0 stands for 0, any other for the number of its node's two words; values are words, so it is at most the size times the largest of them.
use native.Mathlib.Omega.{arith}
use Rattle.model.proofs.block.Words.{sum-words}
use Rattle.model.proofs.block.Sums.{block_sum}
use Rattle.block.proofs.sum_at.Goals as goal

pub returns : goal.returns
returns c =
    let b = c.args.b.now in
    let e = sum-words b c.args.n c.node_at-k.result c.from.result c.from-2.result c.if-n-eq0.false c.node_at-k.ensures.0 c.from.ensures c.from-2.ensures in
    (e, omega (arith, e, block_sum b (λ i. omega (arith, c.type_inv.b i)) c.requires.1 c.args.n c.requires.2))
