-- The fields are read in the line's order, and the first that is no number makes the whole none and has the line's first bad digit.
use mathlib.Core.Path.{◌≡◌, sym}
use Prim.Native.Nat.{◌≤◌}
use mathlib.Core.Option.{some}
use native.Mathlib.Omega.{arith}
use Rattle.model.specs.Frame.{field, first_bad}
use Rattle.model.proofs.link.Faults.{field_good}
use Rattle.frame.proofs.Parsing.{field_is, field-not, no_batch, no_both, no_kind, no_key, no_value, all_read, all_said}
use Rattle.frame.proofs.fields.Goals as goal
use Rattle.frame.proofs.fields.Goals.{In_ok-batch, In_ok-both, In_ok-kind, In_ok-key, In_ok-value}

-- what each field says, and that it has no bad digit
batch-is : (c : In_ok-batch) → some c.in_ok-batch.batch ≡ field c.args.line.now 0 8
batch-is c = field_is _ 0 8 c.in_ok-batch.ensures

both_is : (c : In_ok-both) → some c.in_ok-both.both ≡ field c.args.line.now 8 8
both_is c = field_is _ 8 8 c.in_ok-both.ensures

kind-is : (c : In_ok-kind) → some c.in_ok-kind.kind ≡ field c.args.line.now 16 2
kind-is c = field_is _ 16 2 c.in_ok-kind.ensures

key-is : (c : In_ok-key) → some c.in_ok-key.key ≡ field c.args.line.now 18 8
key-is c = field_is _ 18 8 c.in_ok-key.ensures

value-is : (c : In_ok-value) → some c.in_ok-value.value ≡ field c.args.line.now 26 8
value-is c = field_is _ 26 8 c.in_ok-value.ensures

batch-good : (c : In_ok-batch) → 8 ≤ first_bad c.args.line.now
batch-good c = field_good _ 0 8 (omega arith) (omega (arith, c.requires)) (sym (batch-is c))

both-good : (c : In_ok-both) → 8 ≤ first_bad c.args.line.now → 16 ≤ first_bad c.args.line.now
both-good c g = field_good _ 8 8 g (omega (arith, c.requires)) (sym (both_is c))

kind-good : (c : In_ok-kind) → 16 ≤ first_bad c.args.line.now → 18 ≤ first_bad c.args.line.now
kind-good c g = field_good _ 16 2 g (omega (arith, c.requires)) (sym (kind-is c))

key-good : (c : In_ok-key) → 18 ≤ first_bad c.args.line.now → 26 ≤ first_bad c.args.line.now
key-good c g = field_good _ 18 8 g (omega (arith, c.requires)) (sym (key-is c))

pub returns-in_err-batch : goal.returns-in_err-batch
returns-in_err-batch c = field-not _ 0 8 _ c.from_residual.ensures.1 c.in_err-batch.ensures (no_batch _)

pub read_long-requires-2 : goal.read_long-requires-2
read_long-requires-2 c = (omega arith, omega arith, batch-good c)

pub returns-in_err-both : goal.returns-in_err-both
returns-in_err-both c =
    let at = goal.at.returns-in_err-both c in
    field-not _ 8 8 _ c.from_residual-in_err-both.ensures.1 c.in_err-both.ensures (no_both _ c.requires (batch-is at.In_ok-batch))

pub read_hex-requires : goal.read_hex-requires
read_hex-requires c = (omega arith, omega arith, omega arith, both-good c (batch-good (goal.at.read_hex-requires c).In_ok-batch))

pub returns-in_err-kind : goal.returns-in_err-kind
returns-in_err-kind c =
    let at = goal.at.returns-in_err-kind c in
    field-not _ 16 2 _ c.from_residual-in_err-kind.ensures.1 c.in_err-kind.ensures (no_kind _ c.requires (batch-is at.In_ok-batch) (both_is at.In_ok-both))

pub read_long-requires-3 : goal.read_long-requires-3
read_long-requires-3 c =
    let at = goal.at.read_long-requires-3 c in
    (omega arith, omega arith, kind-good c (both-good at.In_ok-both (batch-good at.In_ok-batch)))

pub returns-in_err-key : goal.returns-in_err-key
returns-in_err-key c =
    let at = goal.at.returns-in_err-key c in
    field-not _ 18 8 _ c.from_residual-in_err-key.ensures.1 c.in_err-key.ensures (no_key _ c.requires (batch-is at.In_ok-batch) (both_is at.In_ok-both) (kind-is at.In_ok-kind))

pub read_long-requires-4 : goal.read_long-requires-4
read_long-requires-4 c =
    let at = goal.at.read_long-requires-4 c in
    (omega arith, omega arith, key-good c (kind-good at.In_ok-kind (both-good at.In_ok-both (batch-good at.In_ok-batch))))

pub returns-in_err-value : goal.returns-in_err-value
returns-in_err-value c =
    let at = goal.at.returns-in_err-value c in
    field-not _ 26 8 _ c.from_residual-in_err-value.ensures.1 c.in_err-value.ensures (no_value _ c.requires (batch-is at.In_ok-batch) (both_is at.In_ok-both) (kind-is at.In_ok-kind) (key-is at.In_ok-key))

pub returns : goal.returns
returns c =
    let at = goal.at.returns c in
    all_said _ (all_read _ c.requires (batch-is at.In_ok-batch) (both_is at.In_ok-both) (kind-is at.In_ok-kind) (key-is at.In_ok-key) (value-is c))
