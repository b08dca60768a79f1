-- The left side's entries, the node's own, the right side's.
use Rattle.std.proofs.Common.{◌+◌}
use Rattle.receive.proofs.Texts.{Wrote, wrote_none, Reads, wrote_all}
use Rattle.receive.proofs.+put_entries.Goals as goal

pub returns-then-n-eq0 : goal.returns-then-n-eq0
returns-then-n-eq0 t c = let w = wrote_none {b = c.args.b.now} c.if-n-eq0.true in (w.ends, w.text)

pub returns : goal.returns
returns t c =
    let m = c.read-node.result in
    let R : Reads c.args.b.now c.args.n m = record { linked = c.requires.1; named = c.requires.2; there = c.if-n-eq0.false; is = c.read-node.ensures } in
    let first : Wrote c.args.b.now m.left c.args.out.now c.put_entries-middle.new.out c.args.at c.put_entries-middle.result = record { ends = c.put_entries-middle.ensures.0; text = c.put_entries-middle.ensures.1 } in
    let last : Wrote c.args.b.now m.right c.put_entry.new.out c.put_entries.new.out (c.put_entries-middle.result + 17) c.put_entries.result = record { ends = c.put_entries.ensures.0; text = c.put_entries.ensures.1 } in
    let w = wrote_all R first c.put_entry.ensures last in
    (w.ends, w.text)
