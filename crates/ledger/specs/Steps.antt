-- Operations one after another, and what has been topped up by then.
use Rattle.std.specs.Prelude.{◌≡◌, ℕ, ◌+◌, true, false, List, eqb}
use Rattle.model.specs.Tree.{entries}
use Rattle.model.specs.Heap.{version}
use Rattle.model.specs.Block.{heap, SoundBlock}
use Rattle.ledger.specs.Ledger.{topped, spent, free, if_own, reserved, Reply, Act, TopUp, Reserve, Settle, Release}

pub data Operation : Type 0 where
  top_up : (account minutes : ℕ) → Operation
  reserve : (call minutes : ℕ) → Operation
  settle : (call used : ℕ) → Operation
  release : (call : ℕ) → Operation

-- an operation on version v, accepted or refused
abbrev pub Does : Act → (v : ℕ) → Operation → Type 0
Does s v (top_up account minutes) = TopUp s.ledger s.ledger' account minutes s.answer.number × (s.answer.table ≡ 0) × (s.block' ≡ s.block)
Does s v (reserve call minutes) = Reserve s v call minutes
Does s v (settle call used) = Settle s v call used
Does s v (release call) = Release s v call

-- steps on one ledger and one version: operations, and any change of the block that keeps it sound and leaves this version's entries alone
pub data Steps (v : ℕ) : (ledger block ledger' block' : List ℕ) → Type 0 where
  still : {l b : List ℕ} → Steps v l b l b
  then : {l b m c l' b' : List ℕ} (o : Operation) (answer : Reply) → Does (record { ledger = l; block = b; ledger' = m; block' = c; answer = answer }) v o → Steps v m c l' b' → Steps v l b l' b'
  beside : {l b c l' b' : List ℕ} → SoundBlock c → entries (version (heap c) v) ≡ entries (version (heap b) v) → Steps v l c l' b' → Steps v l b l' b'

-- what an operation tops account a up by: nothing where it is refused
unfoldable pub credit : Operation → Reply → ℕ → ℕ
credit (top_up account minutes) answer a = elim (eqb answer.number 0) [ true ↦ if_own account a minutes | false ↦ 0 ]
credit (reserve call minutes) answer a = 0
credit (settle call used) answer a = 0
credit (release call) answer a = 0

-- the sum of the accepted top-ups of account a
unfoldable pub credited : {v : ℕ} {l b l' b' : List ℕ} → Steps v l b l' b' → ℕ → ℕ
credited still a = 0
credited (then o answer d later) a = credit o answer a + credited later a
credited (beside s e later) a = credited later a

-- Document 02's promise: all that account a was topped up by is free, reserved or spent, in unbounded numbers
pub record MinutesKept (v : ℕ) {l b l' b' : List ℕ} (run : Steps v l b l' b') (a : ℕ) : Type 0 where
  pub all : free l' a + reserved a (entries (version (heap b') v)) + spent l' a ≡ credited run a
  pub history : topped l' a ≡ credited run a
