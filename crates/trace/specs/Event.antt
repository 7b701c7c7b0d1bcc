-- Document 01, "The trace": "Per event 14 bytes: kind (0 arrival, 1 completion, 2 tick), guest (8 bits), id (32), time (64)." Refusal 14:
-- "event kind above 2, or a tick with non-zero guest or id". Document 02, K9: in version 2 "the first byte of an event holds the kind in its low two bits
-- and the cost less one in the upper six; completions and ticks have zeros there", "14 also for a non-zero upper part or kind 3".
use Rattle.std.specs.Prelude.{ℕ, zero, suc, ◌+◌, ◌*◌, ◌/◌, ◌%◌, ◌&&◌, List, [], ◌∷◌, eqb, length, drop, if◌then◌else◌, Option, Some, None}
use Rattle.rules.specs.Answers.{number_of}
use Rattle.rules.specs.declared.Event.{Event}
use Rattle.rules.specs.declared.Event.TheVariants.{Arrival, Completion, Tick}
use Rattle.rules.specs.declared.Refusal.TheVariants.{BadEvent}
use Rattle.trace.specs.Little.{byte_at, four_at, eight_at}
use Rattle.trace.specs.Header.{is_two}

-- what was read: an event, or none where it is bad
abbrev pub Read : Type 0
Read = Option Event

-- the paper's number and values of an event: its kind, guest, id and time as they stand in the bytes, and the cost, delta and rho of an arrival, or 14 where it is bad
abbrev pub read_shown : Read → List ℕ
read_shown (Some (Arrival a time)) = 0 ∷ a.guest ∷ a.id ∷ time ∷ a.cost ∷ a.delta ∷ a.rho ∷ []
read_shown (Some (Completion f time)) = 1 ∷ f.guest ∷ f.id ∷ time ∷ 0 ∷ 0 ∷ 0 ∷ []
read_shown (Some (Tick time)) = 2 ∷ 0 ∷ 0 ∷ time ∷ 0 ∷ 0 ∷ 0 ∷ []
read_shown None = number_of BadEvent ∷ []

-- THE FIRST BYTE

-- the kind: in version 2 the "low two bits", in version 1 the byte
unfoldable pub kind_in : (version byte : ℕ) → ℕ
kind_in v b = if is_two v then b % 4 else b

-- the upper part, by K9 "the cost less one in the upper six"; a byte of version 1 has none, so its cost is 1
unfoldable pub upper_in : (version byte : ℕ) → ℕ
upper_in v b = if is_two v then b / 4 else 0

-- the first byte of an event of version 2
abbrev pub event_byte : (kind upper : ℕ) → ℕ
event_byte kind upper = upper * 4 + kind

-- AN EVENT

-- an event of this kind, upper part, guest, id and time. A trace is one array's, and has no delta and rho (document 02, K14): they are 1 and 1
unfoldable pub event_from : (kind upper guest id time : ℕ) → Read
event_from kind upper guest id time =
    if eqb kind 0 then Some (Arrival (record { guest = guest; id = id; cost = upper + 1; delta = 1; rho = 1 }) time)
    else if eqb kind 1 && eqb upper 0 then Some (Completion (record { guest = guest; id = id }) time)
    else if eqb kind 2 && eqb upper 0 && eqb guest 0 && eqb id 0 then Some (Tick time)
    else None

-- the event that stands at the front of the bytes of a trace of this version
unfoldable pub event_of : (version : ℕ) → List ℕ → Read
event_of v bs = event_from (kind_in v (byte_at bs 0)) (upper_in v (byte_at bs 0)) (byte_at bs 1) (four_at bs 2) (eight_at bs 6)

-- the first k events of the bytes
unfoldable pub events_of : (version k : ℕ) → List ℕ → List Read
events_of v zero bs = []
events_of v (suc k) bs = event_of v bs ∷ events_of v k (drop 14 bs)

-- how many whole events the bytes have, of either version
abbrev pub whole : List ℕ → ℕ
whole bs = length bs / 14
