-- Where each number stands in a row of the book and in a row of figures: the constants of src/columns.rt. The first six of a row of figures grow by
-- at most one with each event.
use Rattle.std.specs.Prelude.{ℕ, ◌+◌, ◌*◌, List, slice_index}
use Rattle.table.specs.Columns.{most_guests, most_capacity}

-- A ROW OF THE BOOK: its first two numbers are guest and id, as in any row of a request

-- the time of acceptance
abbrev pub SINCE : ℕ
SINCE = 2

-- the limit tag that the request waits with
abbrev pub LIMITED : ℕ
LIMITED = 3

-- how many numbers it has
abbrev pub note_wide : ℕ
note_wide = 4

-- A ROW OF FIGURES

-- accepted arrivals
abbrev pub ARRIVALS : ℕ
ARRIVALS = 0

-- completions
abbrev pub COMPLETIONS : ℕ
COMPLETIONS = 1

-- sends by reservation
abbrev pub RESERVED : ℕ
RESERVED = 2

-- sends by weight
abbrev pub WEIGHED : ℕ
WEIGHED = 3

-- sends by reservation whose limit tag lay ahead
abbrev pub AHEAD : ℕ
AHEAD = 4

-- the upper number of the summed wait
abbrev pub UPPER : ℕ
UPPER = 5

-- its lower number
abbrev pub LOWER : ℕ
LOWER = 6

-- the longest wait
abbrev pub LONGEST : ℕ
LONGEST = 7

-- how many numbers it has
abbrev pub figures_wide : ℕ
figures_wide = 8

-- how many numbers the largest book has
abbrev pub book_long : ℕ
book_long = most_capacity * note_wide

-- the figures of the most guests
abbrev pub figures_long : ℕ
figures_long = most_guests * figures_wide

-- A NUMBER of a row

-- number j of note k
abbrev pub note_at : List ℕ → (k j : ℕ) → ℕ
note_at bk k j = slice_index bk (k * note_wide + j)

-- number j of the figures of guest k
abbrev pub figure_at : List ℕ → (k j : ℕ) → ℕ
figure_at fg k j = slice_index fg (k * figures_wide + j)
