-- Eight bytes as one word, and what sums make of it.
use Rattle.std.specs.Prelude.{ℕ, ◌+◌, ◌*◌, ◌/◌, ◌%◌, List, [], ◌∷◌}
use Rattle.std.specs.Int.Bits.{bit_and}

-- bytes as one number, the first highest, behind those that gave n
unfoldable pub high_first : ℕ → List ℕ → ℕ
high_first n [] = n
high_first n (c ∷ cs) = high_first (n * 256 + c) cs

-- the digits of eight bytes, a byte each
abbrev pub values_of : ℕ → ℕ
values_of x = bit_and (bit_and x 1085102592571150095 + 9 * bit_and (x / 64) 72340172838076673) 1085102592571150095

-- the bytes of eight digits
abbrev pub texts_of : ℕ → ℕ
texts_of n = n + 3472328296227680304 + 39 * bit_and ((n + 434041037028460038) / 16) 72340172838076673

-- eight digits by pairs, and those by fours
abbrev pub pairs_of : ℕ → ℕ
pairs_of n = bit_and (n + n / 16) 71777214294589695

abbrev pub fours_of : ℕ → ℕ
fours_of y = bit_and (y + y / 256) 281470681808895

-- all eight as one number
abbrev pub packed_of : ℕ → ℕ
packed_of n = (fours_of (pairs_of n) + fours_of (pairs_of n) / 65536) % 4294967296
