-- What the asking program writes.
use Rattle.std.specs.Prelude.{◌≡◌, ℕ, List, map}
use Rattle.model.specs.Frame.{line}
use Rattle.model.specs.Inbox.{begun}
use Rattle.model.specs.Calls.{fresh_block}
use Rattle.model.specs.Lists.{laid}
use Rattle.model.specs.Request.{request_of}
use Rattle.hearing.specs.Lines.{HearsSome}

-- from a fresh block and an inbox that has heard nothing, the lines of some bytes are heard one after the other; this is what is then asked, line by line
abbrev pub Asks : List ℕ → Type 0
Asks text = (b : List ℕ) × (x : List ℕ) × HearsSome (fresh_block 2016) (begun 0) b x × (text ≡ laid (map line (request_of x)))
