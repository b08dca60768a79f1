-- Zeros in every word are a kiosk of no entries.
use mathlib.Core.Path.{◌≡◌, refl, ap, ◌∙◌}
use lib.ListN.{length, replicate}
use Rattle.model.specs.Calls.{passes}
use Rattle.model.specs.Kiosk.{empty_kiosk}
use Rattle.kiosk.proofs.Testing.{says_yes}
use Rattle.kiosk.proofs.edits.fresh.Goals as goal

pub returns : goal.returns
unfolding empty_kiosk
returns c =
    let long : length c.args.k.now ≡ 129 = says_yes c.shape.result c.shape.ensures c.if-not-shape.false in
    passes long (refl, c.fill.ensures.after (λ y e. e) ∙ ap (λ n. replicate n 0) long)
