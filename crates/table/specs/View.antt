-- The lent numbers as a table of document 01, and a table written over the numbers. Where each number stands in its row, Columns says.
use Rattle.std.specs.Prelude.{ℕ, ◌*◌, ◌-◌, ◌≤◌, ◌≡◌, Bool, true, ◌&&◌, ◌||◌, List, [], ◌∷◌, ltb, eqb, length, get_or, take, drop, Option}
use Rattle.lists.specs.Words.{all}
use Rattle.lists.specs.Rows.{Form, rows_of, over_rows, Unused}
use Rattle.rules.specs.Tables.{Request, Table, names}
use Rattle.rules.specs.declared.Setup.{Setup}
use Rattle.rules.specs.declared.Settings.{Settings}
use Rattle.rules.specs.declared.Guest.{Guest}
use Rattle.rules.specs.declared.Flight.{Flight}
use Rattle.rules.specs.Sound.{counted, sound}
use Rattle.rules.specs.Choice.{Result}
use Rattle.rules.specs.declared.Gate.{Gate}
use Rattle.rules.specs.declared.Answer.{Answer}
use Rattle.rules.specs.declared.Outcome.{Outcome}
use Rattle.rules.specs.Waking.{told}
use Rattle.table.specs.declared.gates.Decision.{Decision}
use Rattle.table.specs.Columns.{RESERVATION, LIMIT, SHARES, RNEXT, LNEXT, SNEXT, CREDIT, LISTCREDIT, GUEST, ID, RTAG, LTAG, STAG, COST, guest_wide, settings_wide, waiting_wide, flight_wide}

-- a guest's settings as numbers
abbrev pub settings_form : Form Settings
settings_form =
    record {
      wide = settings_wide;
      read = λ v. record { reservation = get_or v RESERVATION 0; limit = get_or v LIMIT 0; shares = get_or v SHARES 0; credit = get_or v LISTCREDIT 0 };
      line = λ s. s.reservation ∷ s.limit ∷ s.shares ∷ s.credit ∷ [];
    }

-- a guest as numbers: its settings but for its credit, its next numbers, and its credit
abbrev pub guest_form : Form Guest
guest_form =
    record {
      wide = guest_wide;
      read = λ v. record { settings = record { reservation = get_or v RESERVATION 0; limit = get_or v LIMIT 0; shares = get_or v SHARES 0; credit = get_or v CREDIT 0 }; rnext = get_or v RNEXT 0; lnext = get_or v LNEXT 0; snext = get_or v SNEXT 0 };
      line = λ h. h.settings.reservation ∷ h.settings.limit ∷ h.settings.shares ∷ h.rnext ∷ h.lnext ∷ h.snext ∷ h.settings.credit ∷ [];
    }

-- a waiting request as numbers
abbrev pub request_form : Form Request
request_form =
    record {
      wide = waiting_wide;
      read = λ v. record { guest = get_or v GUEST 0; id = get_or v ID 0; rtag = get_or v RTAG 0; ltag = get_or v LTAG 0; stag = get_or v STAG 0; cost = get_or v COST 0 };
      line = λ q. q.guest ∷ q.id ∷ q.rtag ∷ q.ltag ∷ q.stag ∷ q.cost ∷ [];
    }

-- a request in flight as numbers
abbrev pub flight_form : Form Flight
flight_form = record { wide = flight_wide; read = λ v. record { guest = get_or v GUEST 0; id = get_or v ID 0 }; line = λ f. f.guest ∷ f.id ∷ [] }

-- the first n guests of the guest table
abbrev pub guests_of : List ℕ → ℕ → List Guest
guests_of = rows_of guest_form

-- the first n requests of the waiting table
abbrev pub waiting_of : List ℕ → ℕ → List Request
waiting_of = rows_of request_form

-- the first n requests of the flight table
abbrev pub flights_of : List ℕ → ℕ → List Flight
flights_of = rows_of flight_form

-- the name of guest g and id i
abbrev pub name_is : (g i : ℕ) → Flight
name_is g i = record { guest = g; id = i }

-- what stands where there is no name
abbrev pub nameless : Flight
nameless = name_is 0 0

-- THE VIEW: the table that a gate and three lent lists show
abbrev pub table_of : Gate → (gs ws fs : List ℕ) → Table
table_of g gs ws fs =
    record {
      setup = g.setup;
      time = g.time;
      guests = guests_of gs g.guests;
      waiting = waiting_of ws g.waiting;
      flight = flights_of fs g.flight;
    }

-- the gate of this setup and so many guests at a time, with so many waiting and so many in flight
abbrev pub gate_at : Setup → (guests time waiting flight : ℕ) → Gate
gate_at s n time w f = record { setup = s; guests = n; time = time; waiting = w; flight = f }

-- the gate of a table: its setup, its time and its counts
abbrev pub gate_of : Table → Gate
gate_of t = gate_at t.setup (length t.guests) t.time (length t.waiting) (length t.flight)

-- what an event comes to: the gate after it, and its answer
abbrev pub decision_of : Gate → Answer → Decision
decision_of g a = record { gate = g; answer = a }

-- the outcome of a call: the gate after it, its answer, and when to wake the gate
abbrev pub outcome_of : Gate → Answer → Option ℕ → Outcome
outcome_of g a w = record { gate = g; answer = a; wake = w }

-- an outcome and the three lent tables as a call hands them back
abbrev pub Handed : Type 0
Handed = Outcome × List ℕ × List ℕ × List ℕ

-- THE WAY BACK: a table and an answer written over what was lent, with the time to wake; places beyond what the settings need stay as they were
unfoldable pub handed : (gs ws fs : List ℕ) → Result → Handed
handed gs ws fs r = (
  outcome_of (gate_of r.table) r.answer (told r),
  over_rows guest_form (length r.table.guests) r.table.guests gs,
  over_rows request_form r.table.setup.capacity r.table.waiting ws,
  over_rows flight_form r.table.setup.depth r.table.flight fs,
)

-- guests, depth and capacity are in range, so that the lengths needed are known
abbrev pub countable : Gate → Bool
countable g = counted g.setup.depth g.guests g.setup.capacity

-- refusal 2: "a lent table .. is shorter than the settings need"; where the counts are out of range nothing is needed, and 3 is given
unfoldable pub short : Gate → (gs ws fs : List ℕ) → Bool
short g gs ws fs =
    countable g && (ltb (length gs) (g.guests * guest_wide) || ltb (length ws) (g.setup.capacity * waiting_wide) || ltb (length fs) (g.setup.depth * flight_wide))

-- every id is a number of 32 bits: document 01's ids are, and another number in a place for one is no request
abbrev pub identified : Table → Bool
identified t = all (λ f. ltb f.id 4294967296) (names t)

-- the places from row n to row cap, of s numbers each, hold zeros
abbrev pub zeroed : (s cap n : ℕ) → List ℕ → Bool
zeroed s cap n xs = all (λ x. eqb x 0) (take (cap * s - n * s) (drop (n * s) xs))

-- refusal 3, of lent numbers that suffice: the table is sound, every id has 32 bits, and "unused places are zero"
unfoldable pub sound_numbers : Gate → (gs ws fs : List ℕ) → Bool
sound_numbers g gs ws fs =
    sound (table_of g gs ws fs) && identified (table_of g gs ws fs)
    && zeroed waiting_wide g.setup.capacity g.waiting ws && zeroed flight_wide g.setup.depth g.flight fs

-- the unused places of the waiting table and of the flight table are zero
pub record Whole (g : Gate) (ws fs : List ℕ) : Type 0 where
  pub waiting_unused : Unused request_form g.setup.capacity g.waiting ws
  pub flight_unused : Unused flight_form g.setup.depth g.flight fs

-- what a call may rely on once lengths and soundness were judged
pub record Known (g : Gate) (gs ws fs : List ℕ) : Type 0 where
  pub guest_room : g.guests * guest_wide ≤ length gs
  pub waiting_room : g.setup.capacity * waiting_wide ≤ length ws
  pub flight_room : g.setup.depth * flight_wide ≤ length fs
  pub is_sound : sound (table_of g gs ws fs) ≡ true
  pub is_identified : identified (table_of g gs ws fs) ≡ true
  pub whole : Whole g ws fs
