-- Readings of document 02, K14, worked out through the calls: a house of two arrays and two guests, opened and run. Guest 0 has a reservation, guest 1 has none, so what
-- it sends goes by weight. Words in quotes are K14's. Assumes nothing.
use Prim.Native.Nat.{ℕ}
use mathlib.Core.Path.{◌≡◌, refl}
use mathlib.Core.Bool.{true}
use mathlib.Core.List.{List, [], ◌∷◌, map}
use Rattle.lists.specs.Lines.{lines_of, over}
use Rattle.lists.specs.Rows.{rows_of, over_rows}
use Rattle.rules.specs.Answers.{Printed, shown}
use Rattle.rules.specs.Refusals.{open_tests}
use Rattle.rules.specs.declared.Event.{Event}
use Rattle.rules.specs.declared.Event.TheVariants.{Arrival, Completion, Tick}
use Rattle.rules.proofs.Trials.{R, -, W, X, worked}
use Rattle.gate.specs.Promise.{handed_in, short_in, sound_in, judged_in, called_in, open_short_in, opening_in, opened_in}
use Rattle.arrays.specs.declared.Ask.TheVariants.{Arrives, Completes, Ticks}
use Rattle.arrays.specs.Counters.{good_counters, row_set, counted_all, cleared_all}
use Rattle.arrays.specs.Phases.{in_step, place_of, phases_over}
use Rattle.arrays.specs.Promise.{ask_tests, asked, opening_tests, begun}
use Rattle.houses.specs.House.{House, Deed, array_at, held_at, answers_at}
use Rattle.houses.specs.Opening.{Lent, opened_from, accepted_from, opened_all, accepted_all}
use Rattle.houses.proofs.Runs.{handed_to}

-- THE HOUSE

-- guest settings are the same at every array: a reservation of 1 a second for guest 0 and none for guest 1, no limit, shares 1, no credit
abbrev settings : List ℕ
settings = 1 ∷ 0 ∷ 1 ∷ 0 ∷ 0 ∷ 0 ∷ 1 ∷ 0 ∷ []

-- what is lent for an array of depth 2 and capacity 1
abbrev lent : Lent
lent =
    record {
      depth = 2;
      capacity = 1;
      rule = 1;
      guests = 0 ∷ 0 ∷ 0 ∷ 0 ∷ 0 ∷ 0 ∷ 0 ∷ 0 ∷ 0 ∷ 0 ∷ 0 ∷ 0 ∷ 0 ∷ 0 ∷ [];
      waiting = 0 ∷ 0 ∷ 0 ∷ 0 ∷ 0 ∷ 0 ∷ [];
      flight = 0 ∷ 0 ∷ 0 ∷ 0 ∷ [];
      phases = 0 ∷ 0 ∷ [];
    }

-- counters that held something before
abbrev before : List ℕ
before = 9 ∷ 9 ∷ 9 ∷ 9 ∷ 9 ∷ 9 ∷ 9 ∷ 9 ∷ []

abbrev house : House
house = opened_all 2 settings (lent ∷ lent ∷ []) before

-- ITS CALLS

-- guest g's id i arrives at array a
abbrev comes : (a g i now : ℕ) → Deed
comes a g i now = record { array = a; ask = Arrives (record { guest = g; id = i; cost = 1 }) now }

-- and completes there
abbrev leaves : (a g i now : ℕ) → Deed
leaves a g i now = record { array = a; ask = Completes (record { guest = g; id = i }) now }

-- both guests have a request at array 0, and it completes
abbrev first : List Deed
first = comes 0 0 1 0 ∷ comes 0 1 1 0 ∷ leaves 0 0 1 1 ∷ leaves 0 1 1 1 ∷ []

-- then each has one at array 1; guest 0 one more at array 0; those of guest 0 complete, that at array 1 first; it comes to array 1 again; and two that are refused
abbrev run : List Deed
run =
    comes 0 0 1 0 ∷ comes 0 1 1 0 ∷ leaves 0 0 1 1 ∷ leaves 0 1 1 1
    ∷ comes 1 0 7 1 ∷ comes 1 1 7 1 ∷ comes 0 0 2 1 ∷ leaves 1 0 7 2 ∷ leaves 0 0 2 2 ∷ comes 1 0 8 2
    ∷ leaves 0 0 2 3 ∷ comes 0 2 1 3 ∷ []

-- what a tick answers, on what array 0 of the house holds, lent as array a of m
abbrev tick_at : (m a : ℕ) → Printed
tick_at m a =
    let x = array_at house 0 in
    shown (asked (record { arrays = m; array = a }) x.host.gate x.host.guests x.host.waiting x.host.flight house.counters x.phases (Ticks 0)).0.answer

-- delta and rho of an arrival
abbrev spread_of : Event → List ℕ
spread_of (Arrival a now) = a.delta ∷ a.rho ∷ []
spread_of (Completion f now) = []
spread_of (Tick now) = []

-- THE READINGS

pub record Readings : Type 0 where
  pub opens : accepted_all 2 settings (lent ∷ lent ∷ []) before ≡ true
  -- "since the start": the counters are 0
  pub starts : house.counters ≡ 0 ∷ 0 ∷ 0 ∷ 0 ∷ 0 ∷ 0 ∷ 0 ∷ 0 ∷ []
  -- "completions anywhere": the two completions at array 0 count at both arrays, for rho only that which was "sent by reservation"
  pub counts : (held_at house first).counters ≡ 1 ∷ 1 ∷ 1 ∷ 0 ∷ 1 ∷ 1 ∷ 1 ∷ 0 ∷ []
  -- the answers; a second completion of a request is the gate's 10, "an unknown guest is 4"
  pub answers : map shown (answers_at house run) ≡ R 0 1 ∷ W 1 1 ∷ - ∷ - ∷ R 0 7 ∷ W 1 7 ∷ W 0 2 ∷ - ∷ - ∷ W 0 8 ∷ X 10 ∷ X 4 ∷ []
  -- what the gate of array 0 is handed: "a delta of 0 goes out as 1", and rho is 0
  pub array_0 : map spread_of (handed_to 0 house run) ≡ (1 ∷ 0 ∷ []) ∷ (1 ∷ 0 ∷ []) ∷ [] ∷ [] ∷ (1 ∷ 1 ∷ []) ∷ [] ∷ [] ∷ []
  -- and of array 1: of guest 0's two completions since its request there one had been sent by reservation
  pub array_1 : map spread_of (handed_to 1 house run) ≡ (1 ∷ 1 ∷ []) ∷ (1 ∷ 0 ∷ []) ∷ [] ∷ (2 ∷ 1 ∷ []) ∷ []
  -- what is counted afterwards: at array 1 guest 0 begins anew; refused calls count nothing
  pub left : (held_at house run).counters ≡ 2 ∷ 1 ∷ 1 ∷ 0 ∷ 0 ∷ 0 ∷ 0 ∷ 0 ∷ []
  -- "1 to 8 arrays, else 22", and "an array not there 22"
  pub nine_arrays : tick_at 9 0 ≡ X 22
  pub array_2_of_2 : tick_at 2 2 ≡ X 22
  pub array_1_of_2 : tick_at 2 1 ≡ -
  -- "both stop at 65,535"
  pub stops : counted_all 2 1 0 true (65535 ∷ 65535 ∷ 65534 ∷ 7 ∷ []) ≡ 65535 ∷ 65535 ∷ 65535 ∷ 8 ∷ []

-- they all hold
pub readings : Readings
unfolding worked open_tests lines_of over rows_of over_rows handed_in short_in sound_in judged_in called_in open_short_in opening_in opened_in good_counters row_set counted_all cleared_all in_step place_of phases_over ask_tests asked opening_tests begun held_at answers_at opened_from accepted_from handed_to
readings = record { opens = refl; starts = refl; counts = refl; answers = refl; array_0 = refl; array_1 = refl; left = refl; nine_arrays = refl; array_2_of_2 = refl; array_1_of_2 = refl; stops = refl }
