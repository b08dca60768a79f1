-- What an edit answers, and what a call that reads one version goes on with.
use Rattle.std.specs.Prelude.{◌≡◌, ℕ, ◌<◌, zero, suc, List, [], ◌∷◌, Result, Ok, Err}
use Rattle.model.specs.Heap.{Heap}
use Rattle.model.specs.Block.{heap, SoundBlock}
use Rattle.model.specs.Calls as calls
use Rattle.model.specs.Calls.{Admitted}
use Rattle.answers.specs.declared.Refusal.{Refusal}
use Rattle.answers.specs.Numbers.{number}

-- what an edit answers: its refusal, or `a` when done
abbrev pub ended : ℕ → calls.Answer → calls.Answer
ended zero a = a
ended (suc n) a = calls.refusal (suc n)

-- a version that a call reads, and its root
pub record Source (b : List ℕ) (v r : ℕ) : Type 0 where
  pub sound : SoundBlock b
  pub known : v < 16
  pub is : r ≡ (heap b).root v

-- the root of version v of an admitted block, or the refusal of its checks
abbrev pub Opened : (b : List ℕ) (v : ℕ) → Result ℕ Refusal → Type 0
Opened b v (Ok r) = Source b v r
Opened b v (Err e) = Admitted b (v ∷ []) (number e)
