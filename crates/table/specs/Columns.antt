-- Where each number stands in its row, how many numbers a row has, and how large a table may be: the constants of src/columns.rt.
use Rattle.std.specs.Prelude.{ℕ, ◌+◌, ◌*◌, List, get_or}

-- A GUEST

-- its reservation
abbrev pub RESERVATION : ℕ
RESERVATION = 0

-- its limit
abbrev pub LIMIT : ℕ
LIMIT = 1

-- its shares
abbrev pub SHARES : ℕ
SHARES = 2

-- its next reservation number
abbrev pub RNEXT : ℕ
RNEXT = 3

-- its next limit number
abbrev pub LNEXT : ℕ
LNEXT = 4

-- its next share number
abbrev pub SNEXT : ℕ
SNEXT = 5

-- its credit: the last number of its row, behind the next numbers
abbrev pub CREDIT : ℕ
CREDIT = 6

-- how many numbers it has
abbrev pub guest_wide : ℕ
guest_wide = 7

-- A GUEST'S SETTINGS in a list of settings: its reservation, limit and shares stand as in its row

-- its credit, behind its shares: there are no next numbers here
abbrev pub LISTCREDIT : ℕ
LISTCREDIT = 3

-- how many numbers they are
abbrev pub settings_wide : ℕ
settings_wide = 4

-- A REQUEST, waiting or in flight

-- whose it is
abbrev pub GUEST : ℕ
GUEST = 0

-- its id
abbrev pub ID : ℕ
ID = 1

-- how many numbers it has in flight
abbrev pub flight_wide : ℕ
flight_wide = 2

-- waiting: its reservation tag
abbrev pub RTAG : ℕ
RTAG = 2

-- its limit tag
abbrev pub LTAG : ℕ
LTAG = 3

-- its share tag
abbrev pub STAG : ℕ
STAG = 4

-- its cost: the last number of its row
abbrev pub COST : ℕ
COST = 5

-- how many numbers it has while it waits
abbrev pub waiting_wide : ℕ
waiting_wide = 6

-- THE LARGEST TABLES

-- the most guests
abbrev pub most_guests : ℕ
most_guests = 64

-- the most places at the array
abbrev pub most_depth : ℕ
most_depth = 64

-- the most waiting places
abbrev pub most_capacity : ℕ
most_capacity = 1024

-- how many numbers the largest guest table has
abbrev pub guests_long : ℕ
guests_long = most_guests * guest_wide

-- the largest list of settings
abbrev pub settings_long : ℕ
settings_long = most_guests * settings_wide

-- the largest waiting table
abbrev pub waiting_long : ℕ
waiting_long = most_capacity * waiting_wide

-- the largest flight table
abbrev pub flight_long : ℕ
flight_long = most_depth * flight_wide

-- A NUMBER of a row

-- number j of guest g, in a guest table
abbrev pub guest_at : List ℕ → (g j : ℕ) → ℕ
guest_at gs g j = get_or gs (g * guest_wide + j) 0

-- number j of guest g, in a list of settings
abbrev pub settings_at : List ℕ → (g j : ℕ) → ℕ
settings_at ss g j = get_or ss (g * settings_wide + j) 0

-- number j of waiting request k
abbrev pub waiting_at : List ℕ → (k j : ℕ) → ℕ
waiting_at ws k j = get_or ws (k * waiting_wide + j) 0

-- number j of request k in flight
abbrev pub flight_at : List ℕ → (k j : ℕ) → ℕ
flight_at fs k j = get_or fs (k * flight_wide + j) 0
