-- Document 02, K2: "With each accepted event we want the earliest time, now or later, at which a tick alone would send something, or a plain none
-- when no place is free or nothing waits." Words in quotes are K2's. What it is in plain facts is in Woken.antt.
use Rattle.std.specs.Prelude.{not, ◌&&◌, List, [], ◌∷◌, map, ℕ, max, min, eqb, if◌then◌else◌, Some, None, Option}
use Rattle.lists.specs.Words.{empty, lowest}
use Rattle.rules.specs.Tables.{Settings, Guest, Request, Table, reserved, limited, settings_of}
use Rattle.rules.specs.Choice.{Result, room}
use Rattle.rules.specs.Events.{Event}
use Rattle.rules.specs.Run.{step}
use Rattle.rules.specs.declared.Answer.{Answer}
use Rattle.rules.specs.declared.Answer.TheVariants.{Nothing, Sent, Refused}

-- a time to wake, or none

-- the time from which one phase or the other could send a request of a guest with these settings: at once where it is unlimited, else from its limit
-- tag on; under rule 1 from its reservation tag on where that is earlier. Under rule 2 neither phase sends it before its limit tag
unfoldable pub ready_at : (rule : ℕ) → Settings → Request → ℕ
ready_at rule s q = if limited s then (if reserved s && not (eqb rule 2) then min q.ltag q.rtag else q.ltag) else 0

-- the same, with the settings of its guest in the table
abbrev pub ready_in : (rule : ℕ) → List Guest → Request → ℕ
ready_in rule gs q = ready_at rule (settings_of gs q) q

-- the time from which the first of all that wait could go
abbrev pub soonest : Table → ℕ
soonest t = lowest (map (ready_in t.setup.rule t.guests) t.waiting)

-- WHEN TO WAKE: "now or later", or "none when no place is free or nothing waits"
unfoldable pub wake : Table → Option ℕ
wake t = if room t && not (empty t.waiting) then Some (max t.time (soonest t)) else None

-- what stands in a refusal, which carries no time to wake: what was said last still stands. A host that reads it all the same ticks at once
abbrev pub unsaid : Option ℕ
unsaid = Some 0

-- what an answer carries, at the table after it
abbrev pub tells_of : Answer → Table → Option ℕ
tells_of Nothing t = wake t
tells_of (Sent p g i) t = wake t
tells_of (Refused r) t = unsaid

-- what an event's outcome carries: "With each accepted event"
abbrev pub told : Result → Option ℕ
told r = tells_of r.answer r.table

-- what the outcomes of a run of events carry
unfoldable pub wakes : Table → List Event → List (Option ℕ)
wakes t [] = []
wakes t (e ∷ es) = told (step t e) ∷ wakes (step t e).table es
