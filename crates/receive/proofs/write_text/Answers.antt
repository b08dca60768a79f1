-- The entries from the first byte on, behind them the missing number and a newline.
use Rattle.std.proofs.Common.{arith, ◌+◌, ◌≤◌}
use Rattle.receive.proofs.Texts.{root_fits, missing_is, text_put}
use Rattle.receive.proofs.write_text.Goals as goal

pub put_entries-at-requires : goal.put_entries-at-requires
put_entries-at-requires c =
    let p = c.requires in
    let f = root_fits c.root.result p.0 p.1 c.root.ensures in
    (p.0.shaped, p.0.sound.kept.linked, f.0, omega (arith, f.1, p.3))

pub put_hex-requires : goal.put_hex-requires
put_hex-requires c = omega (arith, c.put_entries-at.ensures.0, (root_fits c.root.result c.requires.0 c.requires.1 c.root.ensures).1, c.requires.3)

pub bounds-out-at : goal.bounds-out-at
bounds-out-at c = omega (arith, c.put_entries-at.ensures.0, (root_fits c.root.result c.requires.0 c.requires.1 c.root.ensures).1, c.requires.3)

pub returns : goal.returns
returns c =
    let s = c.requires in
    let e = c.put_entries-at in
    let fits : e.result + 9 ≤ 34281 = omega (arith, e.ensures.0, (root_fits c.root.result s.0 s.1 c.root.ensures).1) in (
      fits,
      text_put c.args.b.now c.args.x.now c.args.out.now e.new.out c.put_hex.new.out c.root.result e.result c.unwrap.result
          c.root.ensures (missing_is s.2 (rw c.unwrap.ensures at c.question.ensures)) (record { ends = e.ensures.0; text = e.ensures.1 }) (omega (arith, fits, s.3)) (omega arith) c.put_hex.ensures,
    )
