-- Accounts above the table: what each operation answers, and what ledger and block then are. Checks run in the order of their numbers; a refusal changes nothing.
-- What the table answers is said by the table's own contracts: a change of its checks is no change here.
use Rattle.std.specs.Prelude.{◌≡◌, ◌≢◌, ℕ, ◌+◌, ◌-◌, ◌*◌, ◌/◌, ◌%◌, ◌^◌, ◌≤◌, ◌<◌, true, false, List, [], ◌∷◌, length, get_or, set, replicate, eqb}
use Rattle.model.specs.Tree.{Entry}
use Rattle.model.specs.Calls.{Check, Answer, Edit, Edits, Lookup, inserting, removing}
use Rattle.ledger.specs.Numbers.{ACCOUNTS, ACCOUNT, LOOKUP, OPEN, NOT_OPEN, FREE, ABOVE, TOTAL, EDIT_REFUSED}

-- Three words of 64 bits an account: topped-up, spent and free minutes.

abbrev pub topped : List ℕ → ℕ → ℕ
topped l a = get_or l (3 * a) 0

abbrev pub spent : List ℕ → ℕ → ℕ
spent l a = get_or l (3 * a + 1) 0

abbrev pub free : List ℕ → ℕ → ℕ
free l a = get_or l (3 * a + 2) 0

abbrev pub accounts : List ℕ → ℕ
accounts l = length l / 3

-- the length is right: otherwise ACCOUNTS
pub record Formed (l : List ℕ) : Type 0 where
  pub least : 3 ≤ length l
  pub most : length l ≤ 768
  pub whole : length l % 3 ≡ 0

-- a call number's top eight bits
abbrev pub account_of : ℕ → ℕ
account_of call = call / 2 ^ 24

-- m, where x is the account a
unfoldable pub if_own : (x a m : ℕ) → ℕ
if_own x a m = elim (eqb x a) [ true ↦ m | false ↦ 0 ]

-- the minutes that account a has reserved: the sum over its open calls
unfoldable pub reserved : ℕ → List Entry → ℕ
reserved a [] = 0
reserved a (e ∷ es) = if_own (account_of e.0) a e.1 + reserved a es

-- The words after an operation that is done.

abbrev pub topped_up : (l : List ℕ) (a minutes : ℕ) → List ℕ
topped_up l a minutes = set (set l (3 * a) (topped l a + minutes)) (3 * a + 2) (free l a + minutes)

abbrev pub less_free : (l : List ℕ) (a minutes : ℕ) → List ℕ
less_free l a minutes = set l (3 * a + 2) (free l a - minutes)

-- used is spent, and what is left of the reservation is free again
abbrev pub settled_for : (l : List ℕ) (a held used : ℕ) → List ℕ
settled_for l a held used = set (set l (3 * a + 1) (spent l a + used)) (3 * a + 2) (free l a + (held - used))

-- both sums fit 64 bits: otherwise TOTAL
abbrev pub Fit : (x y : ℕ) → Type 0
Fit x y = (x < 2 ^ 64) × (y < 2 ^ 64)

-- the operation's number, 0 for done, and the table's beside LOOKUP and EDIT_REFUSED, else 0
pub record Reply : Type 0 where
  pub number : ℕ
  pub table : ℕ

abbrev pub replying : (number table : ℕ) → Reply
replying number table = record { number = number; table = table }

-- ledger and block before and after, and the answer
pub record Act : Type 0 where
  pub ledger : List ℕ
  pub block : List ℕ
  pub ledger' : List ℕ
  pub block' : List ℕ
  pub answer : Reply

-- a refusal changes no word
abbrev pub turned_away : Act → (number table : ℕ) → Type 0
turned_away s number table = (s.answer ≡ replying number table) × (s.ledger' ≡ s.ledger) × (s.block' ≡ s.block)

-- the first checks of all: the ledger, then the account
abbrev pub Known : (l : List ℕ) (a : ℕ) (away : ℕ → Type 0) (next : Type 0) → Type 0
Known l a away next = Check (Formed l) (away ACCOUNTS) (Check (a < accounts l) (away ACCOUNT) next)

-- of a call then what the table's lookup says of it
abbrev pub Begins : (l b : List ℕ) (v call : ℕ) (away : (number table : ℕ) → Type 0) (next : Answer → Type 0) → Type 0
Begins l b v call away next =
    Known l (account_of call) (λ n. away n 0) ((a : Answer) × Lookup b v call a × Check (a.number ≡ 0) (away LOOKUP a.number) (next a))

-- the last: the table's edit; only where it is done the ledger's words change
abbrev pub Ends : Act → Edit → (after : List ℕ) → Type 0
Ends s e after = (a : Answer) × Edits s.block s.block' e a × Check (a.number ≡ 0) (turned_away s EDIT_REFUSED a.number) ((s.answer ≡ replying 0 0) × (s.ledger' ≡ after))

-- The operations.

-- n accounts with nothing in them
abbrev pub fresh_ledger : ℕ → List ℕ
fresh_ledger n = replicate (3 * n) 0

abbrev pub Fresh : (l after : List ℕ) (n number : ℕ) → Type 0
Fresh l after n number = Check ((1 ≤ n) × (n ≤ 256) × (length l ≡ 3 * n)) ((number ≡ ACCOUNTS) × (after ≡ l)) ((number ≡ 0) × (after ≡ fresh_ledger n))

abbrev pub TopUp : (l after : List ℕ) (a minutes number : ℕ) → Type 0
TopUp l after a minutes number =
    Known l a (λ n. (number ≡ n) × (after ≡ l))
    (Check (Fit (topped l a + minutes) (free l a + minutes)) ((number ≡ TOTAL) × (after ≡ l)) ((number ≡ 0) × (after ≡ topped_up l a minutes)))

-- an open call keeps its minutes; else they go from free into the version
abbrev pub Reserve : Act → (v call minutes : ℕ) → Type 0
Reserve s v call minutes = Begins s.ledger s.block v call (turned_away s) (λ a.
    Check (a.found ≡ 0) (turned_away s OPEN 0)
    (Check (minutes ≤ free s.ledger (account_of call)) (turned_away s FREE 0)
    (Ends s (inserting s.block v v call minutes) (less_free s.ledger (account_of call) minutes))))

-- what is used is spent and the rest is free again
abbrev pub Settle : Act → (v call used : ℕ) → Type 0
Settle s v call used = Begins s.ledger s.block v call (turned_away s) (λ a.
    Check (a.found ≢ 0) (turned_away s NOT_OPEN 0)
    (Check (used ≤ a.value) (turned_away s ABOVE 0)
    (Check (Fit (spent s.ledger (account_of call) + used) (free s.ledger (account_of call) + (a.value - used))) (turned_away s TOTAL 0)
    (Ends s (removing s.block v v call) (settled_for s.ledger (account_of call) a.value used)))))

-- a call that is dropped uses nothing
abbrev pub Release : Act → (v call : ℕ) → Type 0
Release s v call = Settle s v call 0

-- an account's words; zeros on refusal
pub record Totals : Type 0 where
  pub number : ℕ
  pub topped : ℕ
  pub spent : ℕ
  pub free : ℕ

abbrev pub Account : (l : List ℕ) (a : ℕ) → Totals → Type 0
Account l a t =
    Known l a (λ n. t ≡ record { number = n; topped = 0; spent = 0; free = 0 })
    (t ≡ record { number = 0; topped = topped l a; spent = spent l a; free = free l a })
