-- Document 02, K12: "keep the good events and write them as a trace of the same version, with a list: event number, and why it was dropped (kind or spare part,
-- time above the ceiling, time behind the last kept, time more than 3,600 seconds ahead of the last kept, cut short), the first reason that fits; a cut event has
-- only that one. The first kept event is free of the last two time tests." What becomes of each event of a trace. Words in quotes are K12's.
use Rattle.std.specs.Prelude.{ℕ, zero, suc, ◌+◌, ◌*◌, List, ltb, length, drop, if◌then◌else◌, Some, None, Ok, Err, Option, Result}
use Rattle.rules.specs.Numbers.{ceiling}
use Rattle.rules.specs.Events.{moment}
use Rattle.trace.specs.Event.{event_of, Read}
use Rattle.salvage.specs.declared.Reason.TheVariants.{Bad, Above, Behind, Ahead, Cut}
use Rattle.salvage.specs.declared.Reason.{Reason}

-- THE REASONS, of which the first that fits is given

-- the number of a reason in the list
abbrev pub reason_number : Reason → ℕ
reason_number Bad = 1
reason_number Above = 2
reason_number Behind = 3
reason_number Ahead = 4
reason_number Cut = 5

-- the time of the last kept event, where one is kept
abbrev pub Last : Type 0
Last = Option ℕ

-- what becomes of an event: it is kept, and this is its time, or this is why it is dropped
abbrev pub Fate : Type 0
Fate = Result ℕ Reason

-- "3,600 seconds", in nanoseconds
abbrev pub farthest : ℕ
farthest = 3600000000000

-- 3, "time behind the last kept", and 4, "time more than 3,600 seconds ahead of the last kept", where the last kept event's time was u
abbrev pub from_time : (u time : ℕ) → Fate
from_time u t = if ltb t u then Err Behind else if ltb (u + farthest) t then Err Ahead else Ok t

-- the same, where one was kept; "The first kept event is free of the last two time tests."
abbrev pub from_last : Last → (time : ℕ) → Fate
from_last None t = Ok t
from_last (Some u) t = from_time u t

-- 2, "time above the ceiling", then these
abbrev pub by_time : Last → (time : ℕ) → Fate
by_time l t = if ltb ceiling t then Err Above else from_last l t

-- 1, "kind or spare part": whatever is 14 when it is read; then the time
abbrev pub by_read : Last → Read → Fate
by_read l (Some e) = by_time l (moment e)
by_read l None = Err Bad

-- what becomes of the event at the front of the bytes of a trace of this version: 5, "cut short", or by what is read; "a cut event has only that one"
unfoldable pub fate_of : (version : ℕ) → Last → List ℕ → Fate
fate_of v l bs = if ltb (length bs) 14 then Err Cut else by_read l (event_of v bs)

-- the paper's number of a reason, 0 where the event is kept
abbrev pub reason_in : Fate → ℕ
reason_in (Ok t) = 0
reason_in (Err r) = reason_number r

-- EVENT BY EVENT

-- the last kept after an event: this one, where it is kept; else the last before
abbrev pub after : Last → Fate → Last
after l (Ok t) = Some t
after l (Err r) = l

-- the last kept before event k of these bytes, counted from 0
unfoldable pub last_at : (version : ℕ) → List ℕ → ℕ → Last
last_at v bs zero = None
last_at v bs (suc k) = after (last_at v bs k) (fate_of v (last_at v bs k) (drop (k * 14) bs))

-- what becomes of event k
abbrev pub fate_at : (version : ℕ) → List ℕ → ℕ → Fate
fate_at v bs k = fate_of v (last_at v bs k) (drop (k * 14) bs)
