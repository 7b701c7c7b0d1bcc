-- An accepted event finds a sound table, and what it does before the choice keeps it sound. Assumes nothing.
use mathlib.Core.Path.{◌≡◌, refl}
use mathlib.Core.Bool.{Bool, true, false, not}
use mathlib.Core.List.{map}
use Prim.Native.Nat.{ℕ, ◌≤◌}
use native.Mathlib.Omega.{arith}
use lib.Dec.{ltb}
use lib.ListN.{length}
use borrow.Author.Tests.{leb-false, ltb-false, eqb-false, not-false}
use Rattle.lists.specs.Words.{without}
use Rattle.lists.specs.WordsLaws.{all_append, all_parts, all_without, length_without}
use Rattle.rules.specs.Numbers.{ceiling}
use Rattle.rules.specs.Tables.{Flight, Table, name, same, lacks, names}
use Rattle.rules.specs.Sound.{fair, spread, ranges, sound}
use Rattle.rules.specs.Events.{Event, Arrival, Completion, Tick, moment, called_by, placed, arrive_as, arrive, complete, wait, enter}
use Rattle.rules.specs.Refusals.{tests, event_tests, accepted}
use Rattle.rules.proofs.Judged.{condition, passed}
use Rattle.rules.proofs.Names.{distinct_without}
use Rattle.rules.proofs.Facts.{Sound, sound_is}
use Rattle.rules.proofs.ArriveSound.{arrive-sound}

-- A TICK AND A COMPLETION

-- a tick keeps a table sound
wait-sound : (now : ℕ) (t : Table) → Sound t → now ≤ ceiling → Sound (wait now t)
unfolding wait ranges
wait-sound now t s h =
    record {
      in_range = s.in_range;
      rule_known = s.rule_known;
      waiting-fits = s.waiting-fits;
      flight_fits = s.flight_fits;
      time_fits = h;
      guests_known = s.guests_known;
      names_once = s.names_once;
      tags_fit = s.tags_fit;
      costs_fit = s.costs_fit;
      guests_orderly = s.guests_orderly;
    }

-- a completion keeps a table sound
complete-sound : (now : ℕ) (f : Flight) (t : Table) → Sound t → now ≤ ceiling → Sound (complete now f t)
unfolding complete ranges
complete-sound now f t s h =
    let known : Flight → Bool = λ f. ltb f.guest (length t.guests) in
    let k = all_parts known (map name t.waiting) t.flight s.guests_known in
    record {
      in_range = s.in_range;
      rule_known = s.rule_known;
      waiting-fits = s.waiting-fits;
      flight_fits = omega (arith, length_without (same f) t.flight, s.flight_fits);
      time_fits = h;
      guests_known = all_append known (map name t.waiting) (without (same f) t.flight) k.0 (all_without known (same f) t.flight k.1);
      names_once = distinct_without (same f) (map name t.waiting) t.flight s.names_once;
      tags_fit = s.tags_fit;
      costs_fit = s.costs_fit;
      guests_orderly = s.guests_orderly;
    }

-- AN EVENT

-- an accepted event finds a sound table
pub accepted-finds : (t : Table) (e : Event) → accepted t e ≡ true → Sound t
accepted-finds t e h = sound_is t (not-false (sound t) (passed (tests false (not (sound t)) t e) h 3))

-- its time is not above the ceiling
pub accepted-fits : (t : Table) (e : Event) → accepted t e ≡ true → moment e ≤ ceiling
unfolding event_tests
accepted-fits t (Arrival a now) h = ltb-false ceiling now (passed (tests false (not (sound t)) t (Arrival a now)) h 5)
accepted-fits t (Completion f now) h = ltb-false ceiling now (passed (tests false (not (sound t)) t (Completion f now)) h 5)
accepted-fits t (Tick now) h = ltb-false ceiling now (passed (tests false (not (sound t)) t (Tick now)) h 5)

-- and not before the table's
pub accepted-later : (t : Table) (e : Event) → accepted t e ≡ true → t.time ≤ moment e
unfolding event_tests
accepted-later t (Arrival a now) h = ltb-false now t.time (passed (tests false (not (sound t)) t (Arrival a now)) h 6)
accepted-later t (Completion f now) h = ltb-false now t.time (passed (tests false (not (sound t)) t (Completion f now)) h 6)
accepted-later t (Tick now) h = ltb-false now t.time (passed (tests false (not (sound t)) t (Tick now)) h 6)

-- the choice is made at the event's own time
pub enter_time : (t : Table) (e : Event) → (enter t e).time ≡ moment e
unfolding enter arrive arrive_as placed complete wait
enter_time t (Arrival a now) = refl
enter_time t (Completion f now) = refl
enter_time t (Tick now) = refl

-- An accepted event enters the table soundly.
pub enter-sound : (t : Table) (e : Event) → accepted t e ≡ true → Sound (enter t e)
unfolding event_tests enter
enter-sound t (Arrival a now) h =
    let no : (n : ℕ) → condition n (tests false (not (sound t)) t (Arrival a now)) ≡ false = passed (tests false (not (sound t)) t (Arrival a now)) h in
    let s = accepted-finds t (Arrival a now) h in
    let full : length t.waiting ≡ t.setup.capacity → ⊥ = eqb-false (length t.waiting) t.setup.capacity (no 8) in
    arrive-sound t s now a (leb-false (length t.guests) a.guest (no 4)) (not-false (lacks (called_by a) (names t)) (no 7))
    (not-false (fair a.cost) (no 18)) (not-false (spread a.delta a.rho) (no 20)) (accepted-fits t (Arrival a now) h) (omega (arith, s.waiting-fits)) (no 9)
enter-sound t (Completion f now) h = complete-sound now f t (accepted-finds t (Completion f now) h) (accepted-fits t (Completion f now) h)
enter-sound t (Tick now) h = wait-sound now t (accepted-finds t (Tick now) h) (accepted-fits t (Tick now) h)
