-- What the gate's own theorems say of a call that it accepts: its tables are long enough, what it sends has a place, and what completes was in flight. Assumes nothing.
use Prim.Native.Nat.{ℕ, ◌*◌, ◌≤◌, ◌<◌}
use mathlib.Core.Path.{◌≡◌, refl, sym, ap, ◌∙◌}
use mathlib.Core.Bool.{Bool, true, false, false≢true}
use mathlib.Core.List.{List}
use lib.ListN.{length}
use borrow.Author.Tests.{ltb-true}
use Rattle.lists.specs.RowsLaws.{length-rows}
use Rattle.rules.specs.Answers.{taken}
use Rattle.rules.specs.declared.Gate.{Gate}
use Rattle.rules.specs.declared.Flight.{Flight}
use Rattle.rules.specs.declared.Phase.{Phase}
use Rattle.rules.specs.declared.Arriving.{Arriving}
use Rattle.rules.specs.declared.Answer.{Answer}
use Rattle.rules.specs.declared.Answer.TheVariants.{Nothing, Sent, Refused}
use Rattle.rules.specs.declared.Event.{Event}
use Rattle.rules.specs.declared.Event.TheVariants.{Arrival, Completion, Tick}
use Rattle.table.specs.Columns.{flight_wide}
use Rattle.table.specs.View.{countable, flight_form, flights_of, nameless}
use Rattle.gate.specs.Promise.{numbers, called}
use Rattle.gate.specs.Calls.{Host, firm, finds}
use Rattle.gate.proofs.Lending.{numbers-lawful, long_roomy}
use Rattle.gate.proofs.Runs.{firm-holds}
use Rattle.gate.proofs.InFlight.{flown_by}
use Rattle.gate.proofs.Demand3.{calls_no_place}
use Rattle.arrays.specs.Phases.{place_of}
use Rattle.arrays.proofs.PhaseLaws.{place-holds}

-- an answer that sends is no refusal, and sends something
sent_taken : (a : Answer) (p : Phase) (g i : ℕ) → a ≡ Sent p g i → taken a ≡ true
sent_taken a p g i e = ap taken e

sends : Answer → Bool
sends Nothing = false
sends (Sent p g i) = true
sends (Refused r) = false

module _ (e : Event) (g : Gate) (gs ws fs : List ℕ) where
  abbrev host : Host numbers
  host = record { gate = g; guests = gs; waiting = ws; flight = fs }

  -- an accepted call was made on tables that are long enough and sound
  pub taken-firm : taken (called e g gs ws fs).0.answer ≡ true → firm numbers host ≡ true
  taken-firm t = (flown_by numbers numbers-lawful host e t).firmly

  -- so the flight table has room for all that fly
  pub taken_long : countable g ≡ true → taken (called e g gs ws fs).0.answer ≡ true → g.setup.depth * flight_wide ≤ length fs
  taken_long c t = (long_roomy numbers numbers-lawful g gs ws fs c (firm-holds numbers numbers-lawful host (taken-firm t)).long).flight_room

  -- a call that sends found a place free
  pub sent_finds : (p : Phase) (n i : ℕ) → (called e g gs ws fs).0.answer ≡ Sent p n i → finds e g ≡ true
  unfolding sends
  sent_finds p n i s = go (finds e g) refl
    where
      t : taken (called e g gs ws fs).0.answer ≡ true
      t = sent_taken (called e g gs ws fs).0.answer p n i s

      go : (b : Bool) → finds e g ≡ b → finds e g ≡ true
      go true f = f
      go false f = absurd (false≢true (ap sends (sym (calls_no_place numbers numbers-lawful host e (taken-firm t) t f) ∙ s)))

-- by an arrival or a tick, fewer fly than there are places
pub arrival_room : (a : Arriving) (now : ℕ) (g : Gate) (gs ws fs : List ℕ) (p : Phase) (n i : ℕ) → (called (Arrival a now) g gs ws fs).0.answer ≡ Sent p n i → g.flight < g.setup.depth
arrival_room a now g gs ws fs p n i s = ltb-true g.flight g.setup.depth (sent_finds (Arrival a now) g gs ws fs p n i s)

pub tick_room : (now : ℕ) (g : Gate) (gs ws fs : List ℕ) (p : Phase) (n i : ℕ) → (called (Tick now) g gs ws fs).0.answer ≡ Sent p n i → g.flight < g.setup.depth
tick_room now g gs ws fs p n i s = ltb-true g.flight g.setup.depth (sent_finds (Tick now) g gs ws fs p n i s)

-- a completion that is accepted names a request in flight
pub completion_flies : (f : Flight) (now : ℕ) (g : Gate) (gs ws fs : List ℕ) → taken (called (Completion f now) g gs ws fs).0.answer ≡ true → place_of f (flights_of fs g.flight) < g.flight
completion_flies f now g gs ws fs t =
    let l = flights_of fs g.flight in
    let named = (flown_by numbers numbers-lawful (record { gate = g; guests = gs; waiting = ws; flight = fs }) (Completion f now) t).named in
    rw (length-rows flight_form fs g.flight) at (place-holds f nameless l named).0
