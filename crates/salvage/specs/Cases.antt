-- What K12's words say of each event, in plain facts about the bytes, beside the definitions that compute: the reasons as a list of cases, as
-- crates/trace/specs/Cases.antt has them for the lines; and when a salvage is refused. Words in quotes are K12's.
use Rattle.std.specs.Prelude.{ℕ, ◌+◌, ◌*◌, ◌<◌, ◌≡◌, List, [], ◌∷◌, ◌++◌, ◌⊎◌, length, get_or, take, drop}
use Rattle.lists.specs.Tab.{tab}
use Rattle.rules.specs.Numbers.{ceiling}
use Rattle.rules.specs.Refused.{Case, NoneHolds, RefusedExactly}
use Rattle.trace.specs.Little.{eight_at}
use Rattle.trace.specs.Header.{version_of}
use Rattle.trace.specs.Answers.{event_bytes, bytes_at}
use Rattle.trace.specs.Cases.{header_cases, Faulty}
use Rattle.salvage.specs.Fates.{farthest, reason_in, fate_at}
use Rattle.salvage.specs.Result.{Row, event_count, salvaged, list_of}

-- THE EVENTS of a trace

-- how many there are, a cut last one too
abbrev pub events_in : List ℕ → ℕ
events_in bs = event_count (event_bytes bs)

-- the reason for which event k is dropped, 0 where it is kept
abbrev pub reason_at : List ℕ → ℕ → ℕ
reason_at bs k = reason_in (fate_at (version_of bs) (event_bytes bs) k)

-- the time of event k, as its bytes have it
abbrev pub time_at : List ℕ → ℕ → ℕ
time_at bs k = eight_at (bytes_at bs k) 6

-- the bytes of each event, in order
abbrev pub pieces : List ℕ → List (List ℕ)
pieces bs = tab (events_in bs) (λ k. take 14 (bytes_at bs k))

-- the row of event k, counted from 0, for a reason
abbrev pub row_at : (k reason : ℕ) → Row
row_at k r = record { number = k + 1; reason = r }

-- THE REASONS, where `why` says for which reason each event is dropped, 0 where it is kept

-- event j is "the last kept" before event k
pub record LastKept (why : ℕ → ℕ) (j k : ℕ) : Type 0 where
  pub before : j < k
  pub kept : why j ≡ 0
  pub none-since : (i : ℕ) → j < i → i < k → why i ≡ 0 → ⊥

-- "kind or spare part, time above the ceiling, time behind the last kept, time more than 3,600 seconds ahead of the last kept, cut short", of which "a cut event has
-- only that one". "The first kept event is free of the last two time tests": before it there is no last kept
unfoldable pub drop_cases : (why : ℕ → ℕ) → List ℕ → (k : ℕ) → List Case
drop_cases why bs k =
    record { number = 5; condition = length (bytes_at bs k) < 14 }
    ∷ record { number = 1; condition = Faulty (version_of bs) (bytes_at bs k) }
    ∷ record { number = 2; condition = ceiling < time_at bs k }
    ∷ record { number = 3; condition = (j : ℕ) × LastKept why j k × (time_at bs k < time_at bs j) }
    ∷ record { number = 4; condition = (j : ℕ) × LastKept why j k × (time_at bs j + farthest < time_at bs k) }
    ∷ []

-- each event is kept exactly where no reason fits, and else dropped for "the first reason that fits"
abbrev pub Rightly : (why : ℕ → ℕ) → List ℕ → Type 0
Rightly why bs = (k : ℕ) → k < events_in bs → RefusedExactly (drop_cases why bs k) (λ n. (0 < n) × (why k ≡ n)) (why k ≡ 0)

-- "A trace in which no event meets a reason": all are kept, so the last kept is the event before
abbrev pub Clean : List ℕ → Type 0
Clean bs = (k : ℕ) → k < events_in bs → NoneHolds (drop_cases (λ i. 0) bs k)

-- THE REFUSALS

-- "header faults keep numbers 11, 12, 13 and 1; then 21, lent room for trace or list too short"
unfoldable pub room_cases : List ℕ → (room list : ℕ) → List Case
room_cases bs room list = record { number = 21; condition = (room < length (salvaged bs)) ⊎ (list < length (list_of bs)) } ∷ []

-- the whole list of them: the header's, and then this
abbrev pub salvage_cases : List ℕ → (room list : ℕ) → List Case
salvage_cases bs room list = header_cases bs ++ room_cases bs room list

-- WHAT IS LEFT of the answer, the room and the list

-- the bytes that an answer says are written
abbrev pub bytes_written : List ℕ × List ℕ × List ℕ → ℕ
bytes_written x = get_or x.0 1 0

-- the rows that it says are written
abbrev pub rows_written : List ℕ × List ℕ × List ℕ → ℕ
rows_written x = get_or x.0 2 0

-- "Room past the results is unchanged": room and list are as long as before, and behind what is written they are as they were, from the front where nothing is
pub record Untouched (x : List ℕ × List ℕ × List ℕ) (room list : List ℕ) : Type 0 where
  pub room_long : length x.1 ≡ length room
  pub room-behind : drop (bytes_written x) x.1 ≡ drop (bytes_written x) room
  pub list_long : length x.2 ≡ length list
  pub list_behind : drop (rows_written x * 2) x.2 ≡ drop (rows_written x * 2) list

-- THE OLD ORDER

-- the elements of a list stand in another in the same order, with others between them
pub data InOrder {A : Type 0} : List A → List A → Type 0 where
  none : InOrder [] []
  both : {x : A} {xs ys : List A} → InOrder xs ys → InOrder (x ∷ xs) (x ∷ ys)
  skip : {y : A} {xs ys : List A} → InOrder xs ys → InOrder xs (y ∷ ys)
