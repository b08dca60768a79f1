-- Six fields are written one behind another and then the newline, which is the frame's line.
use Rattle.frame.specs.Fields.{fields_of}
use Rattle.frame.proofs.Writing.{Written, written-line}
use Rattle.frame.proofs.write.Goals as goal

pub returns : goal.returns
returns c =
    let w : Written c.args.out.now c.args.at (fields_of c.args.f) _ _ _ _ _ _ = record {
      inside = c.requires;
      batch = c.put_hex.ensures;
      index = c.put_hex-2.ensures;
      count = c.put_hex-3.ensures;
      kind = c.put_hex-4.ensures;
      key = c.put_hex-5.ensures;
      value = c.put_hex-6.ensures;
    } in
    written-line w
