-- The entries, cut at the key's place, have what stands there.
use mathlib.Core.Path.{ap, sym}
use Rattle.model.specs.Tree.{Cut}
use Rattle.kiosk.proofs.Testing.{says_yes, says_no}
use Rattle.kiosk.proofs.Finding.{cut_has, cut_lacks}
use Rattle.kiosk.proofs.slice.value_at.Goals as goal

pub returns-then-has : goal.returns-then-has
returns-then-has c =
    let y = says_yes c.has.result c.has.ensures c.if-has.true in
    ap (λ (d : Cut). d.found) (sym (cut_has c.requires.1 y.0 y.1))

pub returns-else-has : goal.returns-else-has
returns-else-has c =
    ap (λ (d : Cut). d.found) (sym (cut_lacks c.requires.1 (says_no c.has.result c.has.ensures c.if-has.false)))
