-- Words for the runs that the tables of readings compute: events, printed lines, the tags that wait after a run. Assumes nothing.
use mathlib.Core.List.{List, [], ◌∷◌, map}
use Prim.Native.Nat.{ℕ, ◌*◌}
use Rattle.lists.specs.Words.{lowest}
use Rattle.rules.specs.Numbers.{down, up}
use Rattle.rules.specs.Tables.{Settings, Guest, Request, Flight, Table, idle}
use Rattle.rules.specs.Answers.{Printed, shown}
use Rattle.rules.specs.Sound.{counted, settled, ranges, ruled, distinct, lawful, fair, spread, kept, orderly, sound}
use Rattle.rules.specs.Choice.{Result, due_at, open_at, passes_at, sending, earlier, renewed, dropped, by_weight, by_reservation, room, choice}
use Rattle.rules.specs.Events.{Event, Arrival, Completion, shifted, shifted_next, adjusted, back, share_tag, stamped, following, placed, raised, arrive_as, arrive, complete, wait, enter}
use Rattle.rules.specs.Refusals.{event_tests}
use Rattle.rules.specs.Run.{decided, step, after, answers, fresh}

-- milliseconds
abbrev pub ms : ℕ → ℕ
ms n = n * 1000000

-- settings from three numbers, with no credit
abbrev pub settings : (reservation limit shares : ℕ) → Settings
settings r l s = record { reservation = r; limit = l; shares = s; credit = 0 }

-- an arrival of guest g's id i at cost c, with this delta and rho, n ms after 0
abbrev pub comes_with : (cost delta rho g i : ℕ) → ℕ → Event
comes_with c d r g i n = Arrival (record { guest = g; id = i; cost = c; delta = d; rho = r }) (ms n)

-- with one and one
abbrev pub comes_for : (cost g i : ℕ) → ℕ → Event
comes_for c g i n = comes_with c 1 1 g i n

-- at cost 1
abbrev pub comes : (g i : ℕ) → ℕ → Event
comes g i n = comes_for 1 g i n

-- its completion, n ms after 0
abbrev pub ends : (g i : ℕ) → ℕ → Event
ends g i n = Completion (record { guest = g; id = i }) (ms n)

-- guest 0's ids 1, 2, 3 at 0, and then es
abbrev pub three : List Event → List Event
three es = comes 0 1 0 ∷ comes 0 2 0 ∷ comes 0 3 0 ∷ es

-- how the paper prints that nothing is sent
abbrev pub - : Printed
- = record { letter = 45; values = [] }

-- a send by reservation
abbrev pub R : ℕ → ℕ → Printed
R g i = record { letter = 82; values = g ∷ i ∷ [] }

-- a send by weight
abbrev pub W : ℕ → ℕ → Printed
W g i = record { letter = 87; values = g ∷ i ∷ [] }

-- a refusal
abbrev pub X : ℕ → Printed
X n = record { letter = 88; values = n ∷ [] }

-- a step; to unfold it is to unfold all that a step computes with
unfoldable pub worked : Table → Event → Result
unfolding down up lowest idle counted settled ranges ruled distinct lawful fair spread kept orderly sound due_at open_at passes_at sending earlier renewed dropped by_weight by_reservation room choice shifted shifted_next adjusted back share_tag stamped following placed raised arrive_as arrive complete wait enter event_tests decided step fresh
worked t e = step t e

-- what is printed of a run; to unfold it is to unfold all that a run computes with
unfoldable pub lines : Table → List Event → List Printed
unfolding worked after answers
lines t es = map shown (answers t es)

-- a number of each request that waits after a run
abbrev pub waiting_after : (Request → ℕ) → Table → List Event → List ℕ
waiting_after tag t es = map tag (after t es).waiting

-- a number of each guest after a run
abbrev pub guests_after : (Guest → ℕ) → Table → List Event → List ℕ
guests_after next t es = map next (after t es).guests

-- the requests in flight after a run, and the name of one
abbrev pub flight_after : Table → List Event → List Flight
flight_after t es = (after t es).flight

abbrev pub named : (g i : ℕ) → Flight
named g i = record { guest = g; id = i }
