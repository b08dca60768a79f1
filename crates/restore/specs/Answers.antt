-- The code's lines and answers as the documents'.
use Rattle.std.specs.Prelude.{◌≡◌, ◌≢◌, ℕ, List, Option, Some, None}
use Rattle.std.proofs.Math.Option as maybe
use Rattle.model.specs.Tree as tree
use Rattle.model.specs.Restore.{Faultless, FirstFault}
use Rattle.restore.specs.declared.Entry.{Entry}

abbrev pub pair : Entry → tree.Entry
pair e = (e.key, e.value)

-- what a line says
abbrev pub said : Option Entry → maybe.Option tree.Entry
said (Some e) = maybe.some (pair e)
said None = maybe.none

-- zeros where it says nothing
abbrev pub or_zeros : maybe.Option tree.Entry → tree.Entry
or_zeros maybe.none = (0, 0)
or_zeros (maybe.some e) = e

-- the first faulty line and what is wrong with it, or 0 and 0
pub record Judged (text : List ℕ) (n line : ℕ) : Type 0 where
  pub fine : n ≡ 0 → (line ≡ 0) × Faultless text
  pub faulty : n ≢ 0 → FirstFault text n line
