-- What the functions of crates/counters, crates/phases and crates/sites do, one by one. Their own contracts, no promise of a public call.
use Rattle.std.specs.Prelude.{ℕ, ◌+◌, ◌-◌, ◌*◌, max, ◌<◌, not, ◌&&◌, List, [], ◌∷◌, leb, length, get_or, set, Ok, Err, Result}
use Rattle.lists.specs.Lines.{line_at}
use Rattle.lists.specs.Stores.{stores}
use Rattle.rules.specs.Refusals.{Test, Verdict, accept, refuse}
use Rattle.rules.specs.declared.Gate.{Gate}
use Rattle.rules.specs.declared.Refusal.TheVariants.{ShortTable, Unsound, UnknownGuest}
use Rattle.rules.specs.declared.Answer.{Answer}
use Rattle.rules.specs.declared.Answer.TheVariants.{Nothing, Sent, Refused}
use Rattle.rules.specs.declared.Arriving.{Arriving}
use Rattle.rules.specs.declared.Flight.{Flight}
use Rattle.table.specs.Columns.{flight_wide}
use Rattle.table.specs.View.{flight_form, countable}
use Rattle.arrays.specs.declared.Site.{Site}
use Rattle.arrays.specs.declared.Asking.{Asking}
use Rattle.arrays.specs.Counters.{DELTA, RHO, counter_at, good_counters}
use Rattle.arrays.specs.Phases.{phase_number, in_step}
use Rattle.arrays.specs.Promise.{short_at, arrays_test, array_test}
use Rattle.rules.specs.declared.Refusal.{Refusal}

-- JUDGING

-- what was found, as a verdict
abbrev pub verdict_of : Result Unit Refusal → Verdict
verdict_of (Ok _) = accept
verdict_of (Err r) = refuse r

-- the first tests of an event: of the arrays, the gate's counts, and what is lent beside its tables
abbrev pub lent_tests : Site → Gate → (cs ps : List ℕ) → List Test
lent_tests s g cs ps =
    arrays_test s.arrays
    ∷ record { refusal = Unsound; holds = not (countable g) }
    ∷ record { refusal = ShortTable; holds = short_at s.arrays g.guests g.setup.depth cs ps }
    ∷ record { refusal = Unsound; holds = not (good_counters cs (s.arrays * g.guests) && in_step g.flight g.setup.depth ps) }
    ∷ []

-- the tests of a guest at an array
abbrev pub guest_tests : Site → Gate → (guest : ℕ) → List Test
guest_tests s g n = record { refusal = UnknownGuest; holds = leb g.guests n } ∷ array_test s ∷ []

-- COUNTING

-- the request that the gate is handed, with what a row of counters says
abbrev pub arriving_of : List ℕ → (row : ℕ) → Asking → Arriving
arriving_of cs row a =
    record { guest = a.guest; id = a.id; cost = a.cost; delta = max 1 (counter_at cs row DELTA); rho = counter_at cs row RHO }

-- NOTING

-- the name of the request in flight at a place
abbrev pub name_at : List ℕ → (place : ℕ) → Flight
name_at fs i = flight_form.read (line_at flight_wide fs i)

-- the phases of n requests once the one at `place` has left: those behind it one place down, and 0 where the last stood
abbrev pub closed : (n place : ℕ) → List ℕ → List ℕ
closed n place ps = set (stores (λ k. place + k) (λ k. get_or ps (place + k + 1) 0) (n - 1 - place) ps) (n - 1) 0

-- the phases once the phase of what an answer sends stands at `place`
abbrev pub noted : Answer → (place : ℕ) → List ℕ → List ℕ
noted Nothing i ps = ps
noted (Sent p g d) i ps = set ps i (phase_number p)
noted (Refused r) i ps = ps

-- where an answer sends, there is such a place
abbrev pub Placed : Answer → (place : ℕ) → List ℕ → Type 0
Placed Nothing i ps = Unit {0}
Placed (Sent p g d) i ps = i < length ps
Placed (Refused r) i ps = Unit {0}
