-- Numbers a call gives back; 0 is none of them: done.
use Rattle.std.specs.Prelude.{ℕ}

-- block length or N is wrong, or inbox not 130 words
abbrev pub SHAPE : ℕ
SHAPE = 1

-- block not sound, or inbox not sound
abbrev pub DAMAGED : ℕ
DAMAGED = 2

-- a version number above 15
abbrev pub VERSION : ℕ
VERSION = 3

-- unknown rule, or cancelling with difference rule 2
abbrev pub RULE : ℕ
RULE = 4

-- a make of the rule finds no free node
abbrev pub NO_ROOM : ℕ
NO_ROOM = 5

-- a listing walk puts more than 64 pending items on one side
abbrev pub TOO_DEEP : ℕ
TOO_DEEP = 6

-- a line is not 35 bytes or has no closing newline
abbrev pub FRAME : ℕ
FRAME = 7

-- another batch number
abbrev pub BATCH : ℕ
BATCH = 8

-- inbox count not zero and unlike the frame's
abbrev pub COUNT : ℕ
COUNT = 9

-- a byte of a line's 34 is no digit
abbrev pub DIGIT : ℕ
DIGIT = 10

-- a line's kind is above 2
abbrev pub KIND : ℕ
KIND = 11

-- any other field rule of a line is broken
abbrev pub RANGE : ℕ
RANGE = 12

-- a value of 0 is put
abbrev pub ZERO : ℕ
ZERO = 13

-- a sum of union rule 4 is above 4,294,967,295
abbrev pub SUM : ℕ
SUM = 14

-- a request is not well formed
abbrev pub REQUEST : ℕ
REQUEST = 15

-- more than 512 records, a record of an unknown kind, or words that are no whole records
abbrev pub EDIT : ℕ
EDIT = 16

-- a line of a listing is not 16 digits and a newline
abbrev pub LINE : ℕ
LINE = 17

-- a key of a listing is not above its predecessor
abbrev pub ORDER : ℕ
ORDER = 18
