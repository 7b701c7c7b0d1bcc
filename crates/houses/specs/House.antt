-- A house of several arrays, and a run of calls at any of them, each handed what the last ones left: what proofs/Counted.antt and proofs/Demand3.antt speak of.
use Rattle.std.specs.Prelude.{ℕ, Bool, true, ◌&&◌, List, [], ◌∷◌, ltb, eqb, length, get_or, set, if◌then◌else◌}
use Rattle.rules.specs.Answers.{taken}
use Rattle.rules.specs.declared.Answer.{Answer}
use Rattle.rules.specs.declared.Event.{Event}
use Rattle.gate.specs.Promise.{numbers, unopened}
use Rattle.gate.specs.Calls.{Host, finds}
use Rattle.arrays.specs.declared.Site.{Site}
use Rattle.arrays.specs.declared.Ask.{Ask}
use Rattle.arrays.specs.declared.Ask.TheVariants.{Arrives, Completes, Ticks}
use Rattle.arrays.specs.Promise.{HandedAt, handed_on, asked}

-- what a house holds of one array: the gate with its three tables, and the phases of what is in flight there
pub record Array : Type 0 where
  pub host : Host numbers
  pub phases : List ℕ

-- what it holds of all: the counters, and each array
pub record House : Type 0 where
  pub counters : List ℕ
  pub arrays : List Array

-- a call: which array it names, and what it asks
pub record Deed : Type 0 where
  pub array : ℕ
  pub ask : Ask

-- what stands where there is no array: nothing is open
abbrev pub nowhere : Array
nowhere = record { host = record { gate = unopened; guests = []; waiting = []; flight = [] }; phases = [] }

-- array a of a house
abbrev pub array_at : House → ℕ → Array
array_at h a = get_or h.arrays a nowhere

-- array a, of as many as the house has
abbrev pub site_of : House → ℕ → Site
site_of h a = record { arrays = length h.arrays; array = a }

-- the event that the gate of its array is handed by a call
abbrev pub event_of : House → Deed → Event
event_of h d = handed_on (site_of h d.array) (array_at h d.array).host.gate h.counters d.ask

-- a call on what a house holds
abbrev pub call_at : House → Deed → HandedAt
call_at h d =
    asked (site_of h d.array) (array_at h d.array).host.gate (array_at h d.array).host.guests (array_at h d.array).host.waiting (array_at h d.array).host.flight
    h.counters (array_at h d.array).phases d.ask

-- the array that a call leaves
abbrev pub left_at : HandedAt → Array
left_at r = record { host = record { gate = r.0.gate; guests = r.1; waiting = r.2; flight = r.3 }; phases = r.5 }

-- what a house holds after a call: the array that was named and the counters as it left them, the other arrays as they were
abbrev pub holds_at : House → Deed → House
holds_at h d = record { counters = (call_at h d).4; arrays = set h.arrays d.array (left_at (call_at h d)) }

-- what a house holds after a run of calls
unfoldable pub held_at : House → List Deed → House
held_at h [] = h
held_at h (d ∷ ds) = held_at (holds_at h d) ds

-- the answers to a run of calls
unfoldable pub answers_at : House → List Deed → List Answer
answers_at h [] = []
answers_at h (d ∷ ds) = (call_at h d).0.answer ∷ answers_at (holds_at h d) ds

-- the id that a call brings, where it brings one, is a "32-bit id": the calls take no other
abbrev pub narrow_ask : Ask → Bool
narrow_ask (Arrives a now) = ltb a.id 4294967296
narrow_ask (Completes f now) = true
narrow_ask (Ticks now) = true

-- the same of a call at an array
abbrev pub narrow_deed : Deed → Bool
narrow_deed d = narrow_ask d.ask

-- a call is at array a, is accepted, and finds a place free there
abbrev pub free_deed : (a : ℕ) → House → Deed → Bool
free_deed a h d = eqb d.array a && taken (call_at h d).0.answer && finds (event_of h d) (array_at h d.array).host.gate

-- the answers to those calls of a run, in order
unfoldable pub free_at : (a : ℕ) → House → List Deed → List Answer
free_at a h [] = []
free_at a h (d ∷ ds) = if free_deed a h d then (call_at h d).0.answer ∷ free_at a (holds_at h d) ds else free_at a (holds_at h d) ds
