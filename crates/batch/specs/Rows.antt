-- Document 02, K5: events and answers as rows of numbers in lent lists. An event has seven, with K8's cost and K14's delta and rho, an answer five.
use Rattle.std.specs.Prelude.{ℕ, ◌+◌, ◌*◌, ◌/◌, ◌&&◌, List, [], ◌∷◌, ◌++◌, ltb, eqb, length, get_or, drop, if◌then◌else◌, Some, None, Option}
use Rattle.lists.specs.Tab.{tab}
use Rattle.rules.specs.declared.Event.TheVariants.{Arrival, Completion, Tick}
use Rattle.rules.specs.declared.Outcome.{Outcome}
use Rattle.gate.specs.Replies.{reply_of}
use Rattle.gate.specs.declared.Reply.{Reply}
use Rattle.rules.specs.declared.Event.{Event}

-- EVENTS

-- where the kind of an event stands in its row
abbrev pub EVENT_KIND : ℕ
EVENT_KIND = 0

-- where its guest stands
abbrev pub EVENT_GUEST : ℕ
EVENT_GUEST = 1

-- where its id stands
abbrev pub EVENT_ID : ℕ
EVENT_ID = 2

-- where its time stands
abbrev pub EVENT_TIME : ℕ
EVENT_TIME = 3

-- where its cost stands
abbrev pub EVENT_COST : ℕ
EVENT_COST = 4

-- where its delta stands
abbrev pub EVENT_DELTA : ℕ
EVENT_DELTA = 5

-- where its rho stands
abbrev pub EVENT_RHO : ℕ
EVENT_RHO = 6

-- how many numbers it has
abbrev pub event_wide : ℕ
event_wide = 7

-- the most events of one call
abbrev pub most_events : ℕ
most_events = 256

-- an event of this kind (0 arrival, 1 completion, 2 tick), guest, id, time, cost, delta and rho. None, refusal 14, is an "event kind above 2, or a tick with non-zero guest or
-- id"; nor is a number of more than 32 bits an id. Only an arrival carries a cost, a delta and a rho, of any size until they are judged: another
-- event with one of them is none
unfoldable pub event_from : (kind guest id time cost delta rho : ℕ) → Option Event
event_from kind guest id time cost delta rho =
    if ltb id 4294967296
    then
    if eqb kind 0 then Some (Arrival (record { guest = guest; id = id; cost = cost; delta = delta; rho = rho }) time)
    else if eqb cost 0 && eqb delta 0 && eqb rho 0
    then
    if eqb kind 1 then Some (Completion (record { guest = guest; id = id }) time)
    else if eqb kind 2 && eqb guest 0 && eqb id 0 then Some (Tick time)
    else None
    else None
    else None

-- number j of row k
abbrev pub event_number : List ℕ → (k j : ℕ) → ℕ
event_number es k j = get_or es (k * event_wide + j) 0

-- the event of row k
abbrev pub event_at : List ℕ → ℕ → Option Event
event_at es k = event_from (event_number es k EVENT_KIND) (event_number es k EVENT_GUEST) (event_number es k EVENT_ID) (event_number es k EVENT_TIME)
    (event_number es k EVENT_COST) (event_number es k EVENT_DELTA) (event_number es k EVENT_RHO)

-- how many events a lent list has: numbers behind the last whole row are none
abbrev pub count_of : List ℕ → ℕ
count_of es = length es / event_wide

-- the events of a lent list
unfoldable pub events_in : List ℕ → List (Option Event)
events_in es = tab (count_of es) (event_at es)

-- ANSWERS

-- how many numbers an answer has: kind, guest, id, refusal, wake
abbrev pub answer_wide : ℕ
answer_wide = 5

-- an answer's numbers as a row
abbrev pub row_of : Reply → List ℕ
row_of r = r.kind ∷ r.guest ∷ r.id ∷ r.refusal ∷ r.wake ∷ []

-- what an outcome answers, as a row
abbrev pub line_of : Outcome → List ℕ
line_of o = row_of (reply_of o.answer o.wake)

-- the answers of outcomes, row behind row
unfoldable pub lines_of : List Outcome → List ℕ
lines_of [] = []
lines_of (o ∷ os) = line_of o ++ lines_of os

-- these rows from the front of a lent list on; the places past them stay as they were
abbrev pub answers_over : List Outcome → List ℕ → List ℕ
answers_over os bs = lines_of os ++ drop (length (lines_of os)) bs
