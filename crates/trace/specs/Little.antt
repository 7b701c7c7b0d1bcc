-- Document 01, "The trace": "Little-endian."
use Rattle.std.specs.Prelude.{ℕ, ◌+◌, ◌*◌, List, get_or}

-- the number of two bytes, the lower one first
abbrev pub two : ℕ → ℕ → ℕ
two a b = a + 256 * b

-- the number of four bytes
abbrev pub four : ℕ → ℕ → ℕ → ℕ → ℕ
four a b c d = two a b + 65536 * two c d

-- the number of eight bytes, of which the lower four and the higher four make these numbers
abbrev pub eight : ℕ → ℕ → ℕ
eight low high = low + 4294967296 * high

-- the byte at place i
abbrev pub byte_at : List ℕ → ℕ → ℕ
byte_at bs i = get_or bs i 0

-- the number of 16 bits from place i on
abbrev pub two_at : List ℕ → ℕ → ℕ
two_at bs i = two (byte_at bs i) (byte_at bs (i + 1))

-- the number of 32 bits from place i on
abbrev pub four_at : List ℕ → ℕ → ℕ
four_at bs i = four (byte_at bs i) (byte_at bs (i + 1)) (byte_at bs (i + 2)) (byte_at bs (i + 3))

-- the number of 64 bits from place i on
abbrev pub eight_at : List ℕ → ℕ → ℕ
eight_at bs i = eight (four_at bs i) (four_at bs (i + 4))
