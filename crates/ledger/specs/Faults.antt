-- The faults as the ledger's numbers.
use Rattle.std.specs.Prelude.{ℕ}
use Rattle.answers.specs.Numbers as refusals
use Rattle.ledger.specs.declared.faults.Fault.{Fault}
use Rattle.ledger.specs.declared.faults.Fault.TheVariants.{Accounts, Account, Lookup, Open, NotOpen, Free, Above, Total, Edit}
use Rattle.ledger.specs.Numbers.{ACCOUNTS, ACCOUNT, LOOKUP, OPEN, NOT_OPEN, FREE, ABOVE, TOTAL, EDIT_REFUSED}

abbrev pub number : Fault → ℕ
number Accounts = ACCOUNTS
number Account = ACCOUNT
number (Lookup r) = LOOKUP
number Open = OPEN
number NotOpen = NOT_OPEN
number Free = FREE
number Above = ABOVE
number Total = TOTAL
number (Edit r) = EDIT_REFUSED

-- the table's number where the table refused, else 0
abbrev pub table_of : Fault → ℕ
table_of Accounts = 0
table_of Account = 0
table_of (Lookup r) = refusals.number r
table_of Open = 0
table_of NotOpen = 0
table_of Free = 0
table_of Above = 0
table_of Total = 0
table_of (Edit r) = refusals.number r
