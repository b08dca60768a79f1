-- A line's fields are read in order, and the first that is no number makes the whole none.
use mathlib.Core.Path.{◌≡◌, refl, ap, sym, ◌∙◌}
use Rattle.std.specs.Prelude.{Result, Ok, Err, IsErrAnd}
use Rattle.std.proofs.lemmas.Result.{err_from_is_err_and}
use Prim.Native.Nat.{ℕ, ◌/◌, ◌%◌}
use mathlib.Core.Option.{Option, none, some}
use mathlib.Core.List.{List}
use native.Mathlib.Omega.{arith}
use lib.ListN.{length}
use Rattle.model.specs.Frame.{◌>>=◌, Frame, field, fields, good, fault, first_bad, read}
use Rattle.model.proofs.link.Lines.{Closed, read_digit}
use Rattle.answers.specs.declared.Fault.{Fault}
use Rattle.answers.specs.declared.Fault.TheVariants.{Digit}
use Rattle.answers.specs.Numbers.{fault_number, fault_place}
use Rattle.frame.specs.declared.Frame as code
use Rattle.frame.specs.Fields.{parsed, field_read, fields_read}
use Rattle.frame.proofs.Reading.{side_by_side}

-- a field's number; where it has none, so has the whole, and the place is the first bad one
pub field_is : (cs : List ℕ) (at k : ℕ) {n : ℕ} → Ok n ≡ field_read cs at k → some n ≡ field cs at k
unfolding field_read
field_is cs at k {n} e = go (field cs at k) refl
  where
    go : (o : Option ℕ) → field cs at k ≡ o → some n ≡ o
    go none q = let z : ◌≡◌ {A = ℕ} 0 1 = cc (rw (q, field_read) at e) in absurd (omega arith)
    go (some m) q = ap some (cc (rw (q, field_read) at e))

pub field-not : (cs : List ℕ) (at k : ℕ) {e : Fault} (r : Result code.Frame Fault) → IsErrAnd r (λ y. y ≡ e) → Err e ≡ field_read cs at k → (none ≡ field cs at k → none ≡ fields cs)
    → parsed r ≡ fields_read cs
unfolding field_read fields_read
field-not cs at k {e} r told h no_fields = let p = err_from_is_err_and r told in rw (p.1, p.2) (go (field cs at k) refl)
  where
    go : (o : Option ℕ) → field cs at k ≡ o → fault (fault_number e) (fault_place e) ≡ fields_read cs
    go none q =
        let first : e ≡ Digit (first_bad cs) = cc (rw (q, field_read) at h) in
        rw (sym (no_fields (sym q)), fields_read) (ap (λ f. fault (fault_number f) (fault_place f)) first)
    go (some m) q = absurd (cc (rw (q, field_read) at h))

-- the fields as they are read: index and count are one number
module _ (cs : List ℕ) where
  pub no_batch : none ≡ field cs 0 8 → none ≡ fields cs
  unfolding fields
  no_batch e = rw (sym e, fields)

  -- those behind index and count
  abbrev behind : (batch index count : ℕ) → Option Frame
  behind batch index count = do
    kind ← field cs 16 2
    key ← field cs 18 8
    value ← field cs 26 8
    some (record { batch = batch; index = index; count = count; kind = kind; key = key; value = value })

  module _ (long : length cs ≡ 35) {batch : ℕ} (a : some batch ≡ field cs 0 8) where
    -- where batch is read, from index and count on
    both_then : (field cs 8 8 >>= λ n. behind batch (n / 65536) (n % 65536)) ≡ fields cs
    unfolding fields
    both_then = rw (sym a, fields) (side_by_side cs 8 (omega arith) (behind batch))

    pub no_both : none ≡ field cs 8 8 → none ≡ fields cs
    no_both e = rw (sym e) at both_then

    module _ {both : ℕ} (b : some both ≡ field cs 8 8) where
      -- where these two are read, from kind on
      kind_then : behind batch (both / 65536) (both % 65536) ≡ fields cs
      kind_then = rw (sym b) at both_then

      pub no_kind : none ≡ field cs 16 2 → none ≡ fields cs
      no_kind e = rw (sym e) at kind_then

      module _ {kind : ℕ} (d : some kind ≡ field cs 16 2) where
        pub no_key : none ≡ field cs 18 8 → none ≡ fields cs
        no_key e = rw (sym e) at (rw (sym d) at kind_then)

        module _ {key : ℕ} (g : some key ≡ field cs 18 8) where
          pub no_value : none ≡ field cs 26 8 → none ≡ fields cs
          no_value e = rw (sym e) at (rw (sym g) at (rw (sym d) at kind_then))

          pub all_read : {value : ℕ} → some value ≡ field cs 26 8
              → some (record { batch = batch; index = both / 65536; count = both % 65536; kind = kind; key = key; value = value }) ≡ fields cs
          all_read e = rw (sym e) at (rw (sym g) at (rw (sym d) at kind_then))

-- the fields as the code answers them
pub all_said : (cs : List ℕ) {f : Frame} → some f ≡ fields cs → good f ≡ fields_read cs
unfolding fields_read
all_said cs e = rw (sym e, fields_read)

-- what that answer says of the line
module _ (cs : List ℕ) where
  pub fields_are : {f : Frame} → good f ≡ fields_read cs → fields cs ≡ some f
  unfolding fields_read
  fields_are {f} e = go (fields cs) refl
    where
      go : (o : Option Frame) → fields cs ≡ o → o ≡ some f
      go none q = let z : ◌≡◌ {A = ℕ} 0 1 = cc (rw (q, fields_read) at e) in absurd (omega arith)
      go (some g) q = ap some (sym (cc (rw (q, fields_read) at e)))

  pub no_fields : (e : Fault) (r : Result code.Frame Fault) → IsErrAnd r (λ y. y ≡ e) → Closed cs → fault (fault_number e) (fault_place e) ≡ fields_read cs → parsed r ≡ read cs
  unfolding fields_read
  no_fields e r told C h = let p = err_from_is_err_and r told in rw (p.1, p.2) (go (fields cs) refl)
    where
      go : (o : Option Frame) → fields cs ≡ o → fault (fault_number e) (fault_place e) ≡ read cs
      go none q = rw (q, fields_read) at h ∙ sym (read_digit cs C q)
      go (some g) q = absurd (cc (rw (q, fields_read) at h))
