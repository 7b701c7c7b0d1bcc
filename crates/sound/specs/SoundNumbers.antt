-- Soundness of lent numbers in plain facts: document 01, "A table is sound when", place by place, unused places and wide ids included. A gate,
-- three lists of numbers; a row's columns go by the names that its form gives them.
use Rattle.std.specs.Prelude.{ℕ, suc, ◌+◌, ◌*◌, ◌≤◌, ◌<◌, ◌≡◌, Bool, true, false, List, get_or}
use Rattle.lists.specs.Lines.{line_at}
use Rattle.rules.specs.Numbers.{ceiling, second, most_cost}
use Rattle.rules.specs.Tables.{Request, reserved, limited, rspacing, lspacing, sspacing, name}
use Rattle.rules.specs.declared.Guest.{Guest}
use Rattle.rules.specs.declared.Flight.{Flight}
use Rattle.rules.specs.Sound.{no_gap}
use Rattle.rules.specs.Refused.{Countable, Ruled, Good, Fair}
use Rattle.rules.specs.declared.Gate.{Gate}
use Rattle.table.specs.View.{guest_form, request_form, flight_form}

-- guest number h, from its row of numbers
abbrev pub guest_row : List ℕ → ℕ → Guest
guest_row gs h = guest_form.read (line_at guest_form.wide gs h)

-- the waiting request at place i, from its row
abbrev pub waiting_row : List ℕ → ℕ → Request
waiting_row ws i = request_form.read (line_at request_form.wide ws i)

-- the request in flight at place i, from its row
abbrev pub flight_row : List ℕ → ℕ → Flight
flight_row fs i = flight_form.read (line_at flight_form.wide fs i)

-- no place from i on, below count, has a request of guest h
abbrev pub NoneFrom : (row : ℕ → Request) (i count h : ℕ) → Type 0
NoneFrom row i count h = (j : ℕ) → i ≤ j → j < count → (row j).guest ≡ h → ⊥

-- one kind of tag of guest h, and its next number, where count requests wait: the guest has this kind, or lacks it
pub record KeptAt (has : Bool) (tag gap spacing : Request → ℕ) (row : ℕ → Request) (count h next : ℕ) : Type 0 where
  -- "within a guest, each later waiting request's tag of each kind it has is at least the earlier one's plus the spacing", or what gap
  -- there must be
  pub spaced : has ≡ true → (i j : ℕ) → i < j → j < count → (row i).guest ≡ h → (row j).guest ≡ h → tag (row i) + gap (row i) ≤ tag (row j)
  -- "for a guest with something waiting, each next number it has is its last waiting tag plus the spacing"
  pub next-follows : has ≡ true → (i : ℕ) → i < count → (row i).guest ≡ h → NoneFrom row (suc i) count h → next ≡ tag (row i) + spacing (row i)
  -- document 02, K8: "an idle guest's next number is at most the ceiling plus 64,000,000,000"
  pub idle-fits : has ≡ true → NoneFrom row 0 count h → next ≤ ceiling + most_cost * second
  -- "meaningless numbers .. are zero"
  pub no_next : has ≡ false → next ≡ 0
  pub no_tags : has ≡ false → (i : ℕ) → i < count → (row i).guest ≡ h → tag (row i) ≡ 0

-- the gate g and the lent lists gs, ws and fs, of guests, waiting requests and requests in flight, are sound
pub record SoundNumbers (g : Gate) (gs ws fs : List ℕ) : Type 0 where
  -- "settings lie in the ranges"
  pub counts_in_range : Countable g.setup.depth g.guests g.setup.capacity
  pub rule_known : Ruled g.setup.rule
  pub settings_in_range : (h : ℕ) → h < g.guests → Good (guest_row gs h).settings
  -- "counts do not exceed capacity and depth"
  pub waiting-fits : g.waiting ≤ g.setup.capacity
  pub flight_fits : g.flight ≤ g.setup.depth
  -- "the time is at most the ceiling"
  pub time_fits : g.time ≤ ceiling
  -- "every entry's guest exists"
  pub waiting_guests : (i : ℕ) → i < g.waiting → (waiting_row ws i).guest < g.guests
  pub flight_guests : (i : ℕ) → i < g.flight → (flight_row fs i).guest < g.guests
  -- "no guest has one id twice among waiting and in flight"
  pub once_waiting : (i j : ℕ) → i < j → j < g.waiting → name (waiting_row ws i) ≡ name (waiting_row ws j) → ⊥
  pub once_in_flight : (i j : ℕ) → i < j → j < g.flight → flight_row fs i ≡ flight_row fs j → ⊥
  pub once_in_both : (i j : ℕ) → i < g.waiting → j < g.flight → name (waiting_row ws i) ≡ flight_row fs j → ⊥
  -- "tags are at most the ceiling"
  pub tags_fit : (i : ℕ) → i < g.waiting → ((waiting_row ws i).rtag ≤ ceiling) × ((waiting_row ws i).ltag ≤ ceiling) × ((waiting_row ws i).stag ≤ ceiling)
  -- document 02, K8: "a cost outside 1 to 64 is 18 .. one kept in a table is 3"
  pub costs_fit : (i : ℕ) → i < g.waiting → Fair (waiting_row ws i).cost
  -- "within a guest", each kind it has, and those it lacks. Document 02, K14: "Soundness then asks only that a guest's reservation tags do not fall"
  pub reservations : (h : ℕ) → h < g.guests
      → KeptAt (reserved (guest_row gs h).settings) Request.rtag no_gap (rspacing (guest_row gs h).settings) (waiting_row ws) g.waiting h (guest_row gs h).rnext
  pub limits : (h : ℕ) → h < g.guests
      → KeptAt (limited (guest_row gs h).settings) Request.ltag (lspacing (guest_row gs h).settings) (lspacing (guest_row gs h).settings) (waiting_row ws) g.waiting h (guest_row gs h).lnext
  pub shares : (h : ℕ) → h < g.guests
      → KeptAt true Request.stag (sspacing (guest_row gs h).settings) (sspacing (guest_row gs h).settings) (waiting_row ws) g.waiting h (guest_row gs h).snext
  -- "unused places are zero": every number of every place from the count to the capacity, and to the depth
  pub waiting-zeros : (i : ℕ) → g.waiting ≤ i → i < g.setup.capacity → (c : ℕ) → c < request_form.wide → get_or ws (i * request_form.wide + c) 0 ≡ 0
  pub flight_zeros : (i : ℕ) → g.flight ≤ i → i < g.setup.depth → (c : ℕ) → c < flight_form.wide → get_or fs (i * flight_form.wide + c) 0 ≡ 0
  -- an id is a "32-bit id": below 2^32
  pub waiting_ids : (i : ℕ) → i < g.waiting → (waiting_row ws i).id < 4294967296
  pub flight_ids : (i : ℕ) → i < g.flight → (flight_row fs i).id < 4294967296
