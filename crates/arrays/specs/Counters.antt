-- Document 02, K14, the counters: "The host side counts, for each guest and array, completions anywhere since its last request to that array, or since the
-- start (delta), and those of them sent by reservation (rho); both stop at 65,535". They are lent as one list for all arrays, two numbers for each guest at each
-- array: array by array, and in each guest by guest. Words in quotes are K14's.
use Rattle.std.specs.Prelude.{ℕ, zero, suc, ◌+◌, ◌*◌, min, Bool, ◌&&◌, List, leb, get_or, set, if◌then◌else◌}
use Rattle.lists.specs.Words.{below}
use Rattle.rules.specs.Numbers.{most_delta}

-- "1 to 8 arrays"
abbrev pub most_arrays : ℕ
most_arrays = 8

-- how many numbers a guest has at an array
abbrev pub counter_wide : ℕ
counter_wide = 2

-- where delta stands among them
abbrev pub DELTA : ℕ
DELTA = 0

-- where rho stands among them
abbrev pub RHO : ℕ
RHO = 1

-- the row of guest g at array a, in a house of n guests
abbrev pub row_of : (n a g : ℕ) → ℕ
row_of n a g = a * n + g

-- number j of a row
abbrev pub counter_at : List ℕ → (row j : ℕ) → ℕ
counter_at cs row j = get_or cs (row * counter_wide + j) 0

-- a row is good: delta is not past its stop, and rho, which counts some of the same, not above delta
abbrev pub good_row : List ℕ → ℕ → Bool
good_row cs row = leb (counter_at cs row DELTA) most_delta && leb (counter_at cs row RHO) (counter_at cs row DELTA)

-- so many rows are good
unfoldable pub good_counters : List ℕ → (rows : ℕ) → Bool
good_counters cs rows = below rows (good_row cs)

-- a row with this delta and this rho
unfoldable pub row_set : (row delta rho : ℕ) → List ℕ → List ℕ
row_set row d r cs = set (set cs (row * counter_wide + DELTA) d) (row * counter_wide + RHO) r

-- one more, "both stop at 65,535"
abbrev pub one_more : ℕ → ℕ
one_more n = min most_delta (suc n)

-- one more in a row: of delta, and of rho where the request that was completed had been sent by reservation
abbrev pub counted_row : (reserved : Bool) (row : ℕ) → List ℕ → List ℕ
counted_row r row cs = row_set row (one_more (counter_at cs row DELTA)) (if r then one_more (counter_at cs row RHO) else counter_at cs row RHO) cs

-- a completion counts for its guest at each of so many arrays: "completions anywhere"
unfoldable pub counted_all : (arrays n guest : ℕ) (reserved : Bool) → List ℕ → List ℕ
counted_all zero n g r cs = cs
counted_all (suc a) n g r cs = counted_row r (row_of n a g) (counted_all a n g r cs)

-- a row begins anew: "since its last request to that array"
abbrev pub cleared_row : (row : ℕ) → List ℕ → List ℕ
cleared_row row cs = row_set row 0 0 cs

-- the rows of the first m guests at array a begin anew: "since the start"
unfoldable pub cleared_all : (n a m : ℕ) → List ℕ → List ℕ
cleared_all n a zero cs = cs
cleared_all n a (suc m) cs = cleared_row (row_of n a m) (cleared_all n a m cs)
