-- What the public calls promise: the gate, the answer as the paper shows it, when to wake the gate, and every lent table after the call, as a function
-- of what was handed in. Refusals too. A call's promise is the one equation `seen (what it handed back) ≡ seen (called ..)`, or `seen (opened ..)`;
-- proofs/Once.antt shows that it admits one outcome only. It is stated once for every way in which a host lends its guests; at the end are its
-- names over numbers.
use Rattle.std.specs.Prelude.{ℕ, ◌*◌, Bool, not, ◌&&◌, ◌||◌, List, ltb, length}
use Rattle.lists.specs.Rows.{rows_of, over_rows}
use Rattle.rules.specs.Tables.{Table}
use Rattle.rules.specs.Answers.{Printed, shown, hour}
use Rattle.rules.specs.Sound.{sound}
use Rattle.rules.specs.declared.Settings.{Settings}
use Rattle.rules.specs.declared.Guest.{Guest}
use Rattle.rules.specs.Choice.{Result, choice}
use Rattle.rules.specs.Events.{enter}
use Rattle.rules.specs.declared.Event.{Event}
use Rattle.rules.specs.Refusals.{Verdict, accept, refuse, judged, tests, open_tests}
use Rattle.rules.specs.Run.{fresh}
use Rattle.rules.specs.Waking.{told, unsaid}
use Rattle.rules.specs.declared.Gate.{Gate}
use Rattle.rules.specs.declared.Outcome.{Outcome}
use Rattle.rules.specs.declared.Answer.{Answer}
use Rattle.rules.specs.declared.Answer.TheVariants.{Nothing, Refused}
use Rattle.table.specs.Columns.{guest_wide, settings_wide, waiting_wide, flight_wide}
use Rattle.table.specs.View.{gate_at, gate_of, outcome_of, settings_form, guest_form, request_form, flight_form, guests_of, waiting_of, flights_of, countable, identified, zeroed}

-- HOW GUESTS ARE LENT

-- a host lends its guests in a list of cells: what a cell is, how many of them n guests need, the first n guests that they show, and guests
-- written over them, where cells past those stay as they were
pub record Lending : Type 1 where
  pub Cell : Type 0
  pub needs : ℕ → ℕ
  pub shows : List Cell → ℕ → List Guest
  pub over : List Guest → List Cell → List Cell

-- as numbers, a row a guest
abbrev pub numbers : Lending
numbers = record { Cell = ℕ; needs = λ n. n * guest_wide; shows = guests_of; over = λ hs gs. over_rows guest_form (length hs) hs gs }

-- the settings of n guests, four numbers each
abbrev pub settings_in : List ℕ → ℕ → List Settings
settings_in ss n = rows_of settings_form ss n

-- the gate of an opening that is refused: nothing is open, and every call on it is refused
abbrev pub unopened : Gate
unopened = gate_at (record { depth = 0; capacity = 0; rule = 0 }) 0 0 0 0

module _ (v : Lending) where
  -- THE VIEW: the table that a gate, lent guests and two lent lists show
  abbrev pub table_in : Gate → List v.Cell → (ws fs : List ℕ) → Table
  table_in g gs ws fs =
      record {
        setup = g.setup;
        time = g.time;
        guests = v.shows gs g.guests;
        waiting = waiting_of ws g.waiting;
        flight = flights_of fs g.flight;
      }

  -- an outcome and the three lent tables as a call hands them back
  abbrev pub HandedIn : Type 0
  HandedIn = Outcome × List v.Cell × List ℕ × List ℕ

  -- THE WAY BACK: a table and an answer written over what was lent, with the time to wake; places beyond what the settings need stay as they were
  unfoldable pub handed_in : List v.Cell → (ws fs : List ℕ) → Result → HandedIn
  handed_in gs ws fs r = (
    outcome_of (gate_of r.table) r.answer (told r),
    v.over r.table.guests gs,
    over_rows request_form r.table.setup.capacity r.table.waiting ws,
    over_rows flight_form r.table.setup.depth r.table.flight fs,
  )

  -- all that a caller sees of a call: the gate, the answer as the paper shows it, the time to wake, and the three tables
  abbrev pub SeenIn : Type 0
  SeenIn = Gate × Printed × List ℕ × List v.Cell × List ℕ × List ℕ

  -- what a caller sees of what a call handed back
  abbrev pub seen_in : HandedIn → SeenIn
  seen_in h = (h.0.gate, shown h.0.answer, hour h.0.wake, h.1, h.2, h.3)

  -- AN EVENT

  -- refusal 2: "a lent table .. is shorter than the settings need"; where the counts are out of range nothing is needed, and 3 is given
  unfoldable pub short_in : Gate → List v.Cell → (ws fs : List ℕ) → Bool
  short_in g gs ws fs =
      countable g && (ltb (length gs) (v.needs g.guests) || ltb (length ws) (g.setup.capacity * waiting_wide) || ltb (length fs) (g.setup.depth * flight_wide))

  -- refusal 3, of lent tables that suffice: the table is sound, every id has 32 bits, and "unused places are zero"
  unfoldable pub sound_in : Gate → List v.Cell → (ws fs : List ℕ) → Bool
  sound_in g gs ws fs =
      sound (table_in g gs ws fs) && identified (table_in g gs ws fs)
      && zeroed waiting_wide g.setup.capacity g.waiting ws && zeroed flight_wide g.setup.depth g.flight fs

  -- "Every refusal changes no lent number and not the time." It carries no time to wake
  abbrev pub unchanged_in : Gate → List v.Cell → (ws fs : List ℕ) → Answer → HandedIn
  unchanged_in g gs ws fs a = (outcome_of g a unsaid, gs, ws, fs)

  -- what follows from a verdict on an event: at the table that is shown it is entered and the choice made; or nothing moves
  abbrev pub followed_in : Verdict → Event → Gate → List v.Cell → (ws fs : List ℕ) → HandedIn
  followed_in accept e g gs ws fs = handed_in gs ws fs (choice (enter (table_in g gs ws fs) e))
  followed_in (refuse r) e g gs ws fs = unchanged_in g gs ws fs (Refused r)

  -- how an event is judged: "Arrival: 2, 3, 4, 5, 6, 7, 8, 9. Completion: 2, 3, 4, 5, 6, 10. Tick: 2, 3, 5, 6."
  unfoldable pub judged_in : Event → Gate → List v.Cell → (ws fs : List ℕ) → Verdict
  judged_in e g gs ws fs = judged (tests (short_in g gs ws fs) (not (sound_in g gs ws fs)) (table_in g gs ws fs) e)

  -- THE PROMISE of an arrival, a completion and a tick: what the call hands back
  unfoldable pub called_in : Event → Gate → List v.Cell → (ws fs : List ℕ) → HandedIn
  called_in e g gs ws fs = followed_in (judged_in e g gs ws fs) e g gs ws fs

  -- AN OPENING, of depth d, n guests, capacity c and a rule, with the lent list ss of guest settings

  -- refusal 2 at opening: "a lent table, or at opening the lent list of guest settings, is shorter than the settings need"
  unfoldable pub open_short_in : (d n c : ℕ) (ss : List ℕ) → List v.Cell → (ws fs : List ℕ) → Bool
  open_short_in d n c ss gs ws fs =
      ltb (length ss) (n * settings_wide) || ltb (length gs) (v.needs n) || ltb (length ws) (c * waiting_wide) || ltb (length fs) (d * flight_wide)

  -- what follows from a verdict on an opening: "A fresh table", or nothing moves
  abbrev pub opened_by_in : Verdict → (d n c rule : ℕ) (ss : List ℕ) → List v.Cell → (ws fs : List ℕ) → HandedIn
  opened_by_in accept d n c rule ss gs ws fs = handed_in gs ws fs (record { table = fresh d c rule (settings_in ss n); answer = Nothing })
  opened_by_in (refuse r) d n c rule ss gs ws fs = unchanged_in unopened gs ws fs (Refused r)

  -- how an opening is judged: "depth, guests and capacity (1), lengths (2), guest settings (1)", the rule with the counts
  unfoldable pub opening_in : (d n c rule : ℕ) (ss : List ℕ) → List v.Cell → (ws fs : List ℕ) → Verdict
  opening_in d n c rule ss gs ws fs = judged (open_tests (open_short_in d n c ss gs ws fs) d n c rule (settings_in ss n))

  -- THE PROMISE of an opening: what the call hands back
  unfoldable pub opened_in : (d n c rule : ℕ) (ss : List ℕ) → List v.Cell → (ws fs : List ℕ) → HandedIn
  opened_in d n c rule ss gs ws fs = opened_by_in (opening_in d n c rule ss gs ws fs) d n c rule ss gs ws fs

-- OVER NUMBERS

-- what a caller sees
abbrev pub Seen : Type 0
Seen = SeenIn numbers

-- of what a call handed back
abbrev pub seen : HandedIn numbers → Seen
seen = seen_in numbers

-- a refusal
abbrev pub unchanged : Gate → (gs ws fs : List ℕ) → Answer → HandedIn numbers
unchanged = unchanged_in numbers

-- an event
abbrev pub called : Event → Gate → (gs ws fs : List ℕ) → HandedIn numbers
called = called_in numbers

-- an opening
abbrev pub opened : (d n c rule : ℕ) (ss gs ws fs : List ℕ) → HandedIn numbers
opened = opened_in numbers
