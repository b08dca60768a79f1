-- Numbers an operation of the ledger gives back; 0 is none of them: done.
use Rattle.std.specs.Prelude.{ℕ}

-- the ledger is not three words for each of 1 to 256 accounts
abbrev pub ACCOUNTS : ℕ
ACCOUNTS = 21

-- the account is not below their number
abbrev pub ACCOUNT : ℕ
ACCOUNT = 22

-- the table refused the lookup; its number stands beside
abbrev pub LOOKUP : ℕ
LOOKUP = 23

-- the call is open already
abbrev pub OPEN : ℕ
OPEN = 24

-- the call is not open
abbrev pub NOT_OPEN : ℕ
NOT_OPEN = 25

-- less is free than is to be reserved
abbrev pub FREE : ℕ
FREE = 26

-- settled for more than was reserved
abbrev pub ABOVE : ℕ
ABOVE = 27

-- a total would not fit 64 bits
abbrev pub TOTAL : ℕ
TOTAL = 28

-- the table refused the edit; its number stands beside
abbrev pub EDIT_REFUSED : ℕ
EDIT_REFUSED = 29
