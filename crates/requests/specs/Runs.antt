-- The runs of an inbox as the loops find them, one after another.
use Rattle.std.specs.Prelude.{◌≡◌, ◌⊎◌, ℕ, suc, ◌-◌, ◌≤◌, ◌<◌, Bool, true, false, not, Option, Some, None, List, [], ◌∷◌, eqb}
use Rattle.model.specs.Frame.{Frame}
use Rattle.model.specs.Inbox.{count_of, heard_at}
use Rattle.model.specs.Request.{Run, run_line, complete_line, unheard}
use Rattle.requests.specs.declared.runs.Run as code

-- the indexes before r are as `is` says, heard or not, and r is the first that is otherwise, or the end
pub record Reaches (x : List ℕ) (from end : ℕ) (is : Bool) (r : ℕ) : Type 0 where
  pub low : from ≤ r
  pub high : r ≤ end
  pub same : (j : ℕ) → from ≤ j → j < r → heard_at x j ≡ is
  pub other : (r ≡ end) ⊎ (heard_at x r ≡ not is)

-- the runs from index i on
abbrev pub runs_from : List ℕ → ℕ → List Run
runs_from x i = unheard (heard_at x) i (count_of x - i)

abbrev pub run_of : code.Run → Run
run_of r = record { first = r.first; last = r.last }

-- the first of them, if there is one
abbrev pub Finds : (x : List ℕ) (i : ℕ) → Option code.Run → Type 0
Finds x i (Some r) = (runs_from x i ≡ run_of r ∷ runs_from x (suc r.last)) × (i ≤ r.last) × (r.last < count_of x)
Finds x i None = runs_from x i ≡ []

-- the line of an inbox without runs
unfoldable pub alone_of : (batch count : ℕ) → Frame
alone_of batch count = elim (eqb count 0) [ true ↦ run_line batch 1 0 (record { first = 0; last = 4095 }) | false ↦ complete_line batch ]
