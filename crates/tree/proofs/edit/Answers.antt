-- The kind picks the rule; the lookup tells insert and remove whether the key is there.
use Rattle.tree.proofs.Told.{kind_none, kind_put, kind_remove}
use Rattle.tree.proofs.edit.Goals as goal

pub returns-then-kind-eq0 : goal.returns-then-kind-eq0
returns-then-kind-eq0 c = let a = c.args in (kind_none a.b.now a.n a.kind a.key a.value c.if-kind-eq0.true c.requires.0.0.running c.requires.0.1, c.requires.1)

pub returns-then-kind-eq1 : goal.returns-then-kind-eq1
returns-then-kind-eq1 c =
    let a = c.args in
    let found = c.find-found in
    let absent = c.is_none in
    (kind_put a.b.now a.n a.kind a.key a.value found.result absent.result c.if-kind-eq1.true absent.ensures found.ensures c.insert.ensures.0, c.insert.ensures.1)

pub returns : goal.returns
returns c =
    let a = c.args in
    (kind_remove a.b.now a.n a.kind a.key a.value c.if-kind-eq0.false c.if-kind-eq1.false c.without.ensures.0, c.without.ensures.1)
