-- What the receiving program prints.
use Rattle.std.specs.Prelude.{◌≡◌, ℕ, List, [], ◌∷◌, ◌++◌}
use Rattle.model.specs.Tree.{entries}
use Rattle.model.specs.Heap.{version}
use Rattle.model.specs.Block.{heap}
use Rattle.model.specs.Frame.{digits}
use Rattle.model.specs.Text.{entry_lines}
use Rattle.model.specs.Inbox.{begun, question}
use Rattle.model.specs.Calls.{fresh_block}
use Rattle.hearing.specs.Lines.{HearsSome}

-- each entry of version 0, ascending; last, 8 digits of missing and a newline
abbrev pub text_of : (b x : List ℕ) → List ℕ
text_of b x = entry_lines (entries (version (heap b) 0)) ++ (digits 8 (question x) ++ 10 ∷ [])

-- from a fresh block and an inbox that has heard nothing, the lines of some bytes are heard one after the other; this is the text of what is then held
abbrev pub Reports : List ℕ → Type 0
Reports text = (b : List ℕ) × (x : List ℕ) × HearsSome (fresh_block 2016) (begun 0) b x × (text ≡ text_of b x)
