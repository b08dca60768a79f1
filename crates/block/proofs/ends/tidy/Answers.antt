-- A node that is not emptied has a reference already, or is not occupied.
use mathlib.Core.Path.{sym, ◌∙◌}
use Rattle.model.proofs.running.Ends.{sized, tidied_freed}
use Rattle.block.proofs.ends.tidy.Goals as goal

pub empty-requires : goal.empty-requires
empty-requires c =
    let R = c.requires.0 in
    let size = c.node_word.ensures in
    let count = c.node_word-then-node_word-ne0.ensures in
    let was = sized R c.requires.2 c.requires.3 (λ z. c.if-node_word-ne0.true (size ∙ z)) in
    (R.shaped, R.linked, record { was = was; zero = sym count ∙ c.if-node_word-eq0.true; extra = λ x. 0; counts = R.counts })

pub returns-then-node_word-eq0 : goal.returns-then-node_word-eq0
returns-then-node_word-eq0 c =
    let freed = c.empty.ensures in
    tidied_freed c.requires.0 c.requires.1 freed.0 freed.1
