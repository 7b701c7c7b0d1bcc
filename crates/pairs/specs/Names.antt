-- The names of all requests, those waiting and then those in flight, as the code reads them.
use Rattle.std.specs.Prelude.{ℕ, ◌+◌, ◌*◌, ◌-◌, ◌%◌, ◌≤◌, Bool, not, ◌&&◌, List, ◌++◌, map, ltb, eqb, length}
use Rattle.lists.specs.Lines.{whether}
use Rattle.rules.specs.Tables.{name}
use Rattle.rules.specs.declared.Flight.{Flight}
use Rattle.table.specs.Columns.{flight_wide, waiting_wide, most_depth, most_capacity, waiting_at, flight_at}
use Rattle.table.specs.View.{waiting_of, flights_of}

-- what `all_once` asks: the bucket arrays have room for both counts, and both tables are long enough for them
pub record Rooms (ws : List ℕ) (count : ℕ) (fs : List ℕ) (sent : ℕ) : Type 0 where
  pub few : count ≤ most_capacity
  pub fewer : sent ≤ most_depth
  pub waiting_room : count * waiting_wide ≤ length ws
  pub flight_room : sent * flight_wide ≤ length fs

-- all the table's names: waiting, then in flight
abbrev pub names_of : List ℕ → ℕ → List ℕ → ℕ → List Flight
names_of ws n fs m = map name (waiting_of ws n) ++ flights_of fs m

-- part 0 or 1 of the name of request k, its guest or its id, where k counts through n waiting requests and then those in flight
unfoldable pub part_at : (ws : List ℕ) (n : ℕ) (fs : List ℕ) (part : ℕ) → ℕ → ℕ
part_at ws n fs part k = whether (ltb k n) (waiting_at ws k part) (flight_at fs (k - n) part)

-- request j has another name than request k
abbrev pub other_at : (ws : List ℕ) (n : ℕ) (fs : List ℕ) (k : ℕ) → ℕ → Bool
other_at ws n fs k j = not (eqb (part_at ws n fs 0 j) (part_at ws n fs 0 k) && eqb (part_at ws n fs 1 j) (part_at ws n fs 1 k))

-- the bucket of a guest and an id: any function of them below 4,096 would do
unfoldable pub bucket_of : ℕ → ℕ → ℕ
bucket_of guest id = (guest % 64 * 64 + id % 4096) % 4096
