-- What the functions of src/rows.rt do to the lent numbers. MovesLaws, DropLaws and FollowLaws say which entries the numbers then show.
use Rattle.std.specs.Prelude.{ℕ, zero, suc, ◌+◌, ◌-◌, ◌*◌, ◌≤◌, ◌<◌, ◌≡◌, List, map, eqb, length, get_or, set}
use Rattle.lists.specs.Stores.{stores}
use Rattle.lists.specs.Parts.{shut}
use Rattle.lists.specs.Lines.{whether}
use Rattle.lists.specs.Rows.{rows_of, over_rows}
use Rattle.rules.specs.Numbers.{ceiling, most_cost, down, up}
use Rattle.rules.specs.Tables.{Request}
use Rattle.rules.specs.Run.{newcomer}
use Rattle.table.specs.Columns.{RESERVATION, LIMIT, SHARES, RNEXT, LNEXT, SNEXT, guest_wide, GUEST, ID, COST, flight_wide, RTAG, waiting_wide, guest_at, waiting_at}
use Rattle.table.specs.View.{settings_form, guest_form, request_form}
use Rattle.moves.specs.declared.rows.Sent.{Sent}

-- the waiting table of n requests once the one at place has gone
abbrev pub gone : (place n : ℕ) → List ℕ → List ℕ
gone place n ws = shut waiting_wide (place * waiting_wide) (n * waiting_wide) ws

-- in ys every number of xs stands s places further back, but for the last s, which have gone
pub record Pushed (s : ℕ) (xs ys : List ℕ) : Type 0 where
  pub same : length ys ≡ length xs
  pub moved : (k : ℕ) → k + s < length xs → get_or ys (k + s) 0 ≡ get_or xs k 0

-- behind n requests there are only zeros
abbrev pub Blank : (n : ℕ) → List ℕ → Type 0
Blank n ws = (j : ℕ) → n * waiting_wide ≤ j → get_or ws j 0 ≡ 0

-- the flight table of n requests once the name of the waiting request at place stands last
abbrev pub joined : (place n : ℕ) (ws fs : List ℕ) → List ℕ
joined place n ws fs = stores (λ j. n * flight_wide + j) (λ j. waiting_at ws place j) flight_wide fs

-- r is the name and the cost of the waiting request at place
abbrev pub Named : (place : ℕ) (ws : List ℕ) → Sent → Type 0
Named place ws r = (r.guest ≡ waiting_at ws place GUEST) × (r.id ≡ waiting_at ws place ID) × (r.cost ≡ waiting_at ws place COST)

-- the flight table of n requests once the one at place has left
abbrev pub freed : (place n : ℕ) → List ℕ → List ℕ
freed place n fs = shut flight_wide (place * flight_wide) (n * flight_wide) fs

-- the waiting table of n requests once q stands last
abbrev pub appended : ℕ → Request → List ℕ → List ℕ
appended n q ws = stores (λ j. n * waiting_wide + j) (λ j. get_or (request_form.line q) j 0) waiting_wide ws

-- how far the tags of guest g fall after a send at cost c
abbrev pub fall_of : (g c : ℕ) → List ℕ → ℕ
fall_of g c gs = c * down (guest_at gs g RESERVATION)

-- the reservation tag of request k once those of guest g have dropped by d
abbrev pub tag_dropped : (g d : ℕ) → List ℕ → ℕ → ℕ
tag_dropped g d ws k = whether (eqb (waiting_at ws k GUEST) g) (waiting_at ws k RTAG - d) (waiting_at ws k RTAG)

-- the waiting table once, in its first n rows, the reservation tags of guest g have dropped by d
abbrev pub tags_dropped : (g d : ℕ) → List ℕ → ℕ → List ℕ
tags_dropped g d ws n = stores (λ k. k * waiting_wide + RTAG) (tag_dropped g d ws) n ws

-- the number that follows the last request of guest g in the first n rows, once its tags have dropped by d: that tag plus its cost times the spacing s; or `next`
-- where there is none
abbrev pub last_past : (g d s next : ℕ) → List ℕ → ℕ → ℕ
last_past g d s next ws zero = next
last_past g d s next ws (suc n) = whether (eqb (waiting_at ws n GUEST) g) (waiting_at ws n RTAG - d + waiting_at ws n COST * s) (last_past g d s next ws n)

-- the guests once guest g has that next reservation number, after a send at cost c, where n requests wait
abbrev pub next_dropped : (g c n : ℕ) (ws gs : List ℕ) → List ℕ
next_dropped g c n ws gs =
    set gs (g * guest_wide + RNEXT) (last_past g (fall_of g c gs) (down (guest_at gs g RESERVATION)) (guest_at gs g RNEXT - fall_of g c gs) ws n)

-- the reservation tags and the costs of the first n rows are such as wait in a sound table
abbrev pub Lawful : (n : ℕ) → List ℕ → Type 0
Lawful n ws = (k : ℕ) → k < n → (waiting_at ws k RTAG ≤ ceiling) × (waiting_at ws k COST ≤ most_cost)

-- where guest g has no reservation, its next reservation number and its reservation tags in the first n rows are 0
abbrev pub Unreserved : (g n : ℕ) (gs ws : List ℕ) → Type 0
Unreserved g n gs ws = guest_at gs g RESERVATION ≡ 0 → (guest_at gs g RNEXT ≡ 0) × ((k : ℕ) → k < n → waiting_at ws k GUEST ≡ g → waiting_at ws k RTAG ≡ 0)

-- the guests once the three next numbers of guest g are the tags r, l and s plus c times its spacings
abbrev pub followed : (g r l s c : ℕ) → List ℕ → List ℕ
followed g r l s c gs = set (set (set gs (g * guest_wide + RNEXT) (r + c * down (guest_at gs g RESERVATION))) (g * guest_wide + LNEXT) (l + c * up (guest_at gs g LIMIT))) (g * guest_wide + SNEXT) (s + c * down (guest_at gs g SHARES))

-- the guests once the first n have the settings ss, and next numbers 0
abbrev pub started : (ss : List ℕ) (n : ℕ) → List ℕ → List ℕ
started ss n gs = over_rows guest_form n (map newcomer (rows_of settings_form ss n)) gs
