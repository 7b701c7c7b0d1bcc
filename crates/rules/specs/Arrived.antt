-- What an event does before the choice is made, described without computing it: document 01, "Arrival at time t", with completion and tick,
-- as facts about places; the share tag by document 02, K6.
use Rattle.std.specs.Prelude.{◌≡◌, Bool, true, false, ◌⊎◌, ℕ, ◌+◌, ◌-◌, ◌*◌, ◌≤◌, ◌<◌, max, min, length, get_or}
use Rattle.lists.specs.Tab.{remove_at}
use Rattle.rules.specs.Numbers.{down}
use Rattle.rules.specs.Tables.{Settings, Guest, Request, Flight, Table, reserved, limited, rplain, lplain, splain, rspacing, lspacing, sspacing, owner, name}
use Rattle.rules.specs.Events.{Arriving, Event, Arrival, Completion, Tick, called_by}
use Rattle.rules.specs.Chosen.{at}

-- "A guest is idle when nothing of it waits"
abbrev pub Idle : Table → ℕ → Type 0
Idle t g = (i : ℕ) → i < length t.waiting → (at t.waiting i).guest ≡ g → ⊥

-- guest g has "something waiting"
pub record Busy (t : Table) (g : ℕ) : Type 0 where
  pub place : ℕ
  pub inside : place < length t.waiting
  pub its_own : (at t.waiting place).guest ≡ g

-- "let m be the smallest share tag waiting": one that waits has it, and none has a smaller one
pub record Smallest (t : Table) (m : ℕ) : Type 0 where
  pub place : ℕ
  pub inside : place < length t.waiting
  pub its_tag : (at t.waiting place).stag ≡ m
  pub none_smaller : (i : ℕ) → i < length t.waiting → m ≤ (at t.waiting i).stag

-- a number "moves by t − m (up or down)", with nothing cut off at 0
abbrev pub Moved : (now m before after : ℕ) → Type 0
Moved now m before after = after + m ≡ before + now

-- the tag given, of a kind that the guest has or lacks: "Each tag it has is the larger of the next number and t." One that it lacks is 0
pub record Given (has : Bool) (now next tag : ℕ) : Type 0 where
  pub larger : has ≡ true → tag ≡ max next now
  pub none : has ≡ false → tag ≡ 0

-- how far back the share tags of a guest with these settings may lie, document 02, K6: "c share spacings"
abbrev pub reach : Settings → ℕ
reach s = s.credit * down s.shares

-- K6: "Let b be t minus c share spacings, or 0 if that is below 0."
pub record Back (s : Settings) (now b : ℕ) : Type 0 where
  pub behind : reach s ≤ now → b + reach s ≡ now
  pub cut_off : now ≤ reach s → b ≡ 0

-- document 02, K14: a next number is "raised by (delta − 1) spacings", or "by (rho − 1) spacings, so for rho 0 it falls by one, never below 0"
pub record Raised (count spacing before after : ℕ) : Type 0 where
  pub up_by : 1 ≤ count → after ≡ before + (count - 1) * spacing
  pub falls : count ≡ 0 → spacing ≤ before → after + spacing ≡ before
  pub cut_off : count ≡ 0 → before ≤ spacing → after ≡ 0

-- the guest that a request arrives at, with the next numbers that its tags are given by, once they are raised
abbrev pub arrives_at : Table → Arriving → Guest
arrives_at t a = owner t.guests a.guest

-- the request of u that stands behind all that wait in t
abbrev pub last_of : (t u : Table) → Request
last_of t u = at u.waiting (length t.waiting)

-- u is the table that an arrival of a at time now leaves of t, up to the choice
pub record Arrived (t : Table) (a : Arriving) (now : ℕ) (u : Table) : Type 0 where
  -- 1. "If the guest is idle and others have requests waiting: let m be the smallest share tag waiting. Every waiting share tag, and the next
  -- share number of every guest with something waiting, moves by t − m (up or down)."
  pub share_tags_move : Idle t a.guest → (m : ℕ) → Smallest t m → (i : ℕ) → i < length t.waiting
      → Moved now m (at t.waiting i).stag (at u.waiting i).stag
  pub share_nexts_move : Idle t a.guest → (m : ℕ) → Smallest t m → (g : ℕ) → g < length t.guests → Busy t g
      → Moved now m (owner t.guests g).snext (owner u.guests g).snext
  -- else they stay
  pub share_tags-stay : Busy t a.guest → (i : ℕ) → i < length t.waiting → (at u.waiting i).stag ≡ (at t.waiting i).stag
  pub share_nexts_stay : (g : ℕ) → g < length t.guests → (g ≡ a.guest → ⊥) → Busy t a.guest ⊎ Idle t g
      → (owner u.guests g).snext ≡ (owner t.guests g).snext
  -- 2. "Each tag it has is the larger of the next number and t", but the share tag by document 02, K6: "A busy guest's share tag is the larger of its next
  -- number and b; at an idle guest it is that number too, but not later than t."
  -- The next number n is by K14 "first raised"
  pub reservation_tag : (n : ℕ) → Raised a.rho (rplain (arrives_at t a).settings) (arrives_at t a).rnext n
      → Given (reserved (arrives_at t a).settings) now n (last_of t u).rtag
  pub limit_tag : (n : ℕ) → Raised a.delta (lplain (arrives_at t a).settings) (arrives_at t a).lnext n
      → Given (limited (arrives_at t a).settings) now n (last_of t u).ltag
  pub share_tag : (n b : ℕ) → Raised a.delta (splain (arrives_at t a).settings) (arrives_at t a).snext n → Back (arrives_at t a).settings now b
      → Busy t a.guest → (last_of t u).stag ≡ max n b
  pub share_tag-idle : (n b : ℕ) → Raised a.delta (splain (arrives_at t a).settings) (arrives_at t a).snext n → Back (arrives_at t a).settings now b
      → Idle t a.guest → (last_of t u).stag ≡ min now (max n b)
  -- 3. "Each next number becomes that tag plus the spacing", by document 02, K8: "tag plus cost times spacing"
  pub reservation_next : (owner u.guests a.guest).rnext ≡ (last_of t u).rtag + rspacing (arrives_at t a).settings (last_of t u)
  pub limit_next : (owner u.guests a.guest).lnext ≡ (last_of t u).ltag + lspacing (arrives_at t a).settings (last_of t u)
  pub share_next : (owner u.guests a.guest).snext ≡ (last_of t u).stag + sspacing (arrives_at t a).settings (last_of t u)
  -- 4. "The request is placed last among the waiting"
  pub one_more : length u.waiting ≡ length t.waiting + 1
  pub placed_last : name (last_of t u) ≡ called_by a
  -- K8: "Waiting requests keep their cost"
  pub cost_kept : (last_of t u).cost ≡ a.cost
  -- nothing else changes: those that waited stand where they stood, with their costs and their reservation and limit tags
  pub names-stay : (i : ℕ) → i < length t.waiting → name (at u.waiting i) ≡ name (at t.waiting i)
  pub reservation_tags-stay : (i : ℕ) → i < length t.waiting → (at u.waiting i).rtag ≡ (at t.waiting i).rtag
  pub costs_stay : (i : ℕ) → i < length t.waiting → (at u.waiting i).cost ≡ (at t.waiting i).cost
  pub limit_tags-stay : (i : ℕ) → i < length t.waiting → (at u.waiting i).ltag ≡ (at t.waiting i).ltag
  -- every guest has its settings, and the others have their reservation and limit numbers
  pub as_many_guests : length u.guests ≡ length t.guests
  pub settings-stay : (g : ℕ) → g < length t.guests → (owner u.guests g).settings ≡ (owner t.guests g).settings
  pub reservation_nexts_stay : (g : ℕ) → g < length t.guests → (g ≡ a.guest → ⊥) → (owner u.guests g).rnext ≡ (owner t.guests g).rnext
  pub limit_nexts_stay : (g : ℕ) → g < length t.guests → (g ≡ a.guest → ⊥) → (owner u.guests g).lnext ≡ (owner t.guests g).lnext
  -- the time is set, and what was set at opening and what is in flight are as they were
  pub time_set : u.time ≡ now
  pub setup_stays : u.setup ≡ t.setup
  pub flight_stays : u.flight ≡ t.flight

-- u is the table that a completion of f leaves of t: it "takes the named request out of flight", and those behind it "close up in the same way"
pub record Completed (t : Table) (f : Flight) (now : ℕ) (u : Table) : Type 0 where
  pub place : ℕ
  pub inside : place < length t.flight
  pub named : get_or t.flight place f ≡ f
  pub taken_out : u.flight ≡ remove_at place t.flight
  pub time_set : u.time ≡ now
  pub setup_stays : u.setup ≡ t.setup
  pub guests_stay : u.guests ≡ t.guests
  pub waiting_stays : u.waiting ≡ t.waiting

-- u is the table that a tick leaves of t: it "only sets the time"
pub record Ticked (t : Table) (now : ℕ) (u : Table) : Type 0 where
  pub time_set : u.time ≡ now
  pub setup_stays : u.setup ≡ t.setup
  pub guests_stay : u.guests ≡ t.guests
  pub waiting_stays : u.waiting ≡ t.waiting
  pub flight_stays : u.flight ≡ t.flight

-- u is the table that the event e leaves of t, up to the choice
abbrev pub Entered : Table → Event → Table → Type 0
Entered t (Arrival a now) u = Arrived t a now u
Entered t (Completion f now) u = Completed t f now u
Entered t (Tick now) u = Ticked t now u
