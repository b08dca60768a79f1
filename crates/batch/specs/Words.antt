-- The records that a host lends, and as words, three a record.
use Rattle.std.specs.Prelude.{◌≡◌, ℕ, suc, ◌+◌, ◌*◌, ◌%◌, ◌≤◌, true, false, List, [], ◌∷◌, length, set, replicate, ltb}
use Rattle.model.specs.Batch.{Record}
use Rattle.batch.specs.declared.records.Edit.{Edit}

-- words that are whole records, 512 at the most
abbrev pub Whole : List ℕ → Type 0
Whole ws = (length ws % 3 ≡ 0) × (length ws ≤ 1536)

abbrev pub record_of : Edit → Record
record_of e = record { kind = e.kind; key = e.key; value = e.value }

unfoldable pub records_of : List Edit → List Record
records_of [] = []
records_of (e ∷ es) = record_of e ∷ records_of es

-- record i at its three words, where there is room for it
unfoldable pub put_record : List ℕ → ℕ → Edit → List ℕ
put_record ws i e = elim (ltb i 512) [ true ↦ set (set (set ws (3 * i) e.kind) (3 * i + 1) e.key) (3 * i + 2) e.value | false ↦ ws ]

-- the records from number i on, each at its words
unfoldable pub flat : List Edit → ℕ → List ℕ → List ℕ
flat [] i ws = ws
flat (e ∷ es) i ws = flat es (suc i) (put_record ws i e)

-- no record yet
unfoldable pub no_words : List ℕ
no_words = replicate 1536 0
