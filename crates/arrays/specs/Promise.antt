-- Document 02, K14, what the calls at one of several arrays promise: the gate, the answer, the time to wake, and every number of the three lent tables, of the
-- counters of all arrays and of the phases of this one after the call, as a function of what was handed in. Refusals too. They stand on the gate's own promise.
-- Words in quotes are K14's.
use Rattle.std.specs.Prelude.{ℕ, ◌*◌, max, Bool, not, ◌&&◌, ◌||◌, List, [], ◌∷◌, ltb, leb, length, get_or, if◌then◌else◌}
use Rattle.lists.specs.Tab.{remove_at}
use Rattle.rules.specs.Numbers.{within}
use Rattle.rules.specs.Sound.{counted, ruled}
use Rattle.rules.specs.Answers.{Printed, shown, hour, taken}
use Rattle.rules.specs.Waking.{unsaid}
use Rattle.rules.specs.Refusals.{Test, Verdict, accept, refuse, judged}
use Rattle.rules.specs.declared.Gate.{Gate}
use Rattle.rules.specs.declared.Flight.{Flight}
use Rattle.rules.specs.declared.Refusal.{Refusal}
use Rattle.rules.specs.declared.Refusal.TheVariants.{BadSetting, ShortTable, Unsound, UnknownGuest, NoArray}
use Rattle.rules.specs.declared.Answer.{Answer}
use Rattle.rules.specs.declared.Answer.TheVariants.{Refused}
use Rattle.rules.specs.declared.Event.{Event}
use Rattle.rules.specs.declared.Event.TheVariants.{Arrival, Completion, Tick}
use Rattle.rules.specs.declared.Outcome.{Outcome}
use Rattle.table.specs.View.{outcome_of, flights_of, countable}
use Rattle.gate.specs.Promise.{numbers, HandedIn, called, opened, unopened}
use Rattle.arrays.specs.declared.Site.{Site}
use Rattle.arrays.specs.declared.Ask.{Ask}
use Rattle.arrays.specs.declared.Ask.TheVariants.{Arrives, Completes, Ticks}
use Rattle.arrays.specs.Counters.{most_arrays, counter_wide, DELTA, RHO, row_of, counter_at, good_counters, counted_all, cleared_row, cleared_all}
use Rattle.arrays.specs.Phases.{by_reservation, in_step, phases_of, place_of, joined, phases_over}

-- what a call hands back: the outcome, the three lent tables, the counters and the phases
abbrev pub HandedAt : Type 0
HandedAt = Outcome × List ℕ × List ℕ × List ℕ × List ℕ × List ℕ

-- what the gate's own call handed back, with these counters and phases
abbrev pub with : HandedIn numbers → (cs ps : List ℕ) → HandedAt
with h cs ps = (h.0, h.1, h.2, h.3, cs, ps)

-- all that a caller sees of it: the gate, the answer as the paper shows it, the time to wake, the three tables, the counters and the phases
abbrev pub SeenAt : Type 0
SeenAt = Gate × Printed × List ℕ × List ℕ × List ℕ × List ℕ × List ℕ × List ℕ

-- what a caller sees of what a call handed back
abbrev pub seen_at : HandedAt → SeenAt
seen_at h = (h.0.gate, shown h.0.answer, hour h.0.wake, h.1, h.2, h.3, h.4, h.5)

-- a refusal leaves all as it stood
abbrev pub kept_at : Gate → (gs ws fs cs ps : List ℕ) → Refusal → HandedAt
kept_at g gs ws fs cs ps r = (outcome_of g (Refused r) unsaid, gs, ws, fs, cs, ps)

-- counters or phases are shorter than so many guests at so many arrays and a depth need
abbrev pub short_at : (arrays n d : ℕ) → (cs ps : List ℕ) → Bool
short_at m n d cs ps = ltb (length cs) (m * n * counter_wide) || ltb (length ps) d

-- 22: "on the host side 1 to 8 arrays, else 22"
abbrev pub arrays_test : (arrays : ℕ) → Test
arrays_test m = record { refusal = NoArray; holds = not (within 1 most_arrays m) }

-- 22: "an array not there"
abbrev pub array_test : Site → Test
array_test s = record { refusal = NoArray; holds = leb s.arrays s.array }

-- AN EVENT

-- "an unknown guest is 4, then an array not there 22"
abbrev pub place_tests : Site → Gate → Ask → List Test
place_tests s g (Arrives a now) = record { refusal = UnknownGuest; holds = leb g.guests a.guest } ∷ array_test s ∷ []
place_tests s g (Completes f now) = record { refusal = UnknownGuest; holds = leb g.guests f.guest } ∷ array_test s ∷ []
place_tests s g (Ticks now) = array_test s ∷ []

-- what is judged before the gate is asked. Counters and phases are lent numbers, and judged as document 01 judges a lent table: counts out of range "give 3 at
-- once", for no length is known; 2 where they are short; 3 where they are out of range, or out of step with the flight table
unfoldable pub ask_tests : Site → Gate → (cs ps : List ℕ) → Ask → List Test
ask_tests s g cs ps k =
    arrays_test s.arrays
    ∷ record { refusal = Unsound; holds = not (countable g) }
    ∷ record { refusal = ShortTable; holds = short_at s.arrays g.guests g.setup.depth cs ps }
    ∷ record { refusal = Unsound; holds = not (good_counters cs (s.arrays * g.guests) && in_step g.flight g.setup.depth ps) }
    ∷ place_tests s g k

-- the event that the gate is handed: an arrival with what was counted, "a delta of 0 goes out as 1"
abbrev pub handed_on : Site → Gate → (cs : List ℕ) → Ask → Event
handed_on s g cs (Arrives a now) =
    Arrival
    (record {
      guest = a.guest;
      id = a.id;
      cost = a.cost;
      delta = max 1 (counter_at cs (row_of g.guests s.array a.guest) DELTA);
      rho = counter_at cs (row_of g.guests s.array a.guest) RHO;
    })
    now
handed_on s g cs (Completes f now) = Completion f now
handed_on s g cs (Ticks now) = Tick now

-- where a request in flight stands at the array
abbrev pub place_at : Gate → (fs : List ℕ) → Flight → ℕ
place_at g fs f = place_of f (flights_of fs g.flight)

-- the counters after an accepted event: an arrival begins its guest's anew at this array; a completion counts for its guest at every array
abbrev pub counted_by : Site → Gate → (fs cs ps : List ℕ) → Ask → List ℕ
counted_by s g fs cs ps (Arrives a now) = cleared_row (row_of g.guests s.array a.guest) cs
counted_by s g fs cs ps (Completes f now) = counted_all s.arrays g.guests f.guest (by_reservation (get_or ps (place_at g fs f) 0)) cs
counted_by s g fs cs ps (Ticks now) = cs

-- the phases of those in flight when the choice is made: a completion takes its own out, and those behind it move down one place
abbrev pub still_flying : Gate → (fs ps : List ℕ) → Ask → List ℕ
still_flying g fs ps (Arrives a now) = phases_of ps g.flight
still_flying g fs ps (Completes f now) = remove_at (place_at g fs f) (phases_of ps g.flight)
still_flying g fs ps (Ticks now) = phases_of ps g.flight

-- the phases after an accepted event with this answer
abbrev pub phases_by : Gate → (fs ps : List ℕ) → Ask → Answer → List ℕ
phases_by g fs ps k a = phases_over g.setup.depth (joined a (still_flying g fs ps k)) ps

-- the gate's own call is handed on; where it is accepted, it is counted
abbrev pub counted_at : Bool → Site → Gate → (fs cs ps : List ℕ) → Ask → HandedIn numbers → HandedAt
counted_at took s g fs cs ps k h =
    if took then with h (counted_by s g fs cs ps k) (phases_by g fs ps k h.0.answer) else with h cs ps

-- what follows from a verdict: the gate is asked, or nothing moves
abbrev pub asked_by : Verdict → Site → Gate → (gs ws fs cs ps : List ℕ) → Ask → HandedAt
asked_by accept s g gs ws fs cs ps k =
    counted_at (taken (called (handed_on s g cs k) g gs ws fs).0.answer) s g fs cs ps k (called (handed_on s g cs k) g gs ws fs)
asked_by (refuse r) s g gs ws fs cs ps k = kept_at g gs ws fs cs ps r

-- THE PROMISE of an arrival, a completion and a tick at an array: what the call hands back
unfoldable pub asked : Site → Gate → (gs ws fs cs ps : List ℕ) → Ask → HandedAt
asked s g gs ws fs cs ps k = asked_by (judged (ask_tests s g cs ps k)) s g gs ws fs cs ps k

-- AN OPENING, of depth d, n guests, capacity c and a rule, with the lent list ss of guest settings

-- what is judged before the gate is opened: 22, then as document 01 judges an opening: "depth, guests and capacity (1), lengths (2)"; the rest is the gate's
unfoldable pub opening_tests : Site → (d n c rule : ℕ) → (cs ps : List ℕ) → List Test
opening_tests s d n c rule cs ps =
    arrays_test s.arrays
    ∷ array_test s
    ∷ record { refusal = BadSetting; holds = not (counted d n c) }
    ∷ record { refusal = BadSetting; holds = not (ruled rule) }
    ∷ record { refusal = ShortTable; holds = short_at s.arrays n d cs ps }
    ∷ []

-- the gate's own opening is handed on; where it is accepted, this array's counters and phases begin at 0: "since the start"
abbrev pub started_at : Bool → Site → (d n : ℕ) → (cs ps : List ℕ) → HandedIn numbers → HandedAt
started_at took s d n cs ps h = if took then with h (cleared_all n s.array n cs) (phases_over d [] ps) else with h cs ps

-- what follows from a verdict: the gate is opened, or nothing moves
abbrev pub begun_by : Verdict → Site → (d n c rule : ℕ) → (ss gs ws fs cs ps : List ℕ) → HandedAt
begun_by accept s d n c rule ss gs ws fs cs ps =
    started_at (taken (opened d n c rule ss gs ws fs).0.answer) s d n cs ps (opened d n c rule ss gs ws fs)
begun_by (refuse r) s d n c rule ss gs ws fs cs ps = kept_at unopened gs ws fs cs ps r

-- THE PROMISE of an opening at an array: what the call hands back
unfoldable pub begun : Site → (d n c rule : ℕ) → (ss gs ws fs cs ps : List ℕ) → HandedAt
begun s d n c rule ss gs ws fs cs ps = begun_by (judged (opening_tests s d n c rule cs ps)) s d n c rule ss gs ws fs cs ps
