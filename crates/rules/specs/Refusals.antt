-- Document 01, "Refusal numbers": each event's conditions with their numbers, in the order in which they are judged.
use Rattle.std.specs.Prelude.{Bool, true, false, not, ◌&&◌, List, [], ◌∷◌, ℕ, ltb, leb, eqb, length, if◌then◌else◌}
use Rattle.lists.specs.Words.{all}
use Rattle.rules.specs.Numbers.{ceiling}
use Rattle.rules.specs.Tables.{Settings, Request, Table, idle, lacks, names}
use Rattle.rules.specs.Sound.{counted, settled, ruled, lawful, fair, spread, sound}
use Rattle.rules.specs.Events.{Arriving, Event, Arrival, Completion, Tick, called_by, adjusted, stamped_for}
use Rattle.rules.specs.declared.Refusal.{Refusal}
use Rattle.rules.specs.declared.Refusal.TheVariants.{BadSetting, ShortTable, Unsound, UnknownGuest, TimeAboveCeiling, TimeBeforeLast, IdInUse, NoRoom, TagAboveCeiling, NotInFlight, BadCost, BadDelta}

-- a refusal, and whether its condition holds
pub record Test : Type 0 where
  pub refusal : Refusal
  pub holds : Bool

-- a call is accepted, or refused
pub data Verdict : Type 0 where
  accept : Verdict
  refuse : Refusal → Verdict

-- the refusal of the first condition that holds
abbrev pub judged : List Test → Verdict
judged [] = accept
judged (c ∷ cs) = if c.holds then refuse c.refusal else judged cs

-- 5, "time above the ceiling", and 6, "time before the last accepted time"; then the tests cs
abbrev pub time_tests : (now : ℕ) → Table → List Test → List Test
time_tests now t cs =
    record { refusal = TimeAboveCeiling; holds = ltb ceiling now }
    ∷ record { refusal = TimeBeforeLast; holds = ltb now t.time }
    ∷ cs

-- 4, "unknown guest", then the time, then the tests cs
abbrev pub guest_tests : (g now : ℕ) → Table → List Test → List Test
guest_tests g now t cs = record { refusal = UnknownGuest; holds = leb (length t.guests) g } ∷ time_tests now t cs

-- 9: "a tag given, or a share tag moved, would pass the ceiling", where q is the request with the tags given
abbrev pub passing_with : (idle : Bool) (now : ℕ) → Request → Table → Bool
passing_with idle now q t = not (all lawful (adjusted idle now t).waiting && lawful q)

-- 9 for the request that arrives
abbrev pub passing : (idle : Bool) (now : ℕ) → Arriving → Table → Bool
passing idle now a t = passing_with idle now (stamped_for idle now a t) t

-- an event's own tests: "Arrival: .. 4, 5, 6, 7, 8, 9. Completion: .. 4, 5, 6, 10. Tick: .. 5, 6." Document 02, K8: "a cost outside 1 to 64 is 18, after 6 and
-- before 7"; K14: "delta outside 1 to 65,535 or rho above delta is 20, after 18"
unfoldable pub event_tests : Table → Event → List Test
event_tests t (Arrival a now) =
    guest_tests a.guest now t
    (record { refusal = BadCost; holds = not (fair a.cost) }
    ∷ record { refusal = BadDelta; holds = not (spread a.delta a.rho) }
    ∷ record { refusal = IdInUse; holds = not (lacks (called_by a) (names t)) }
    ∷ record { refusal = NoRoom; holds = eqb (length t.waiting) t.setup.capacity }
    ∷ record { refusal = TagAboveCeiling; holds = passing (idle t a.guest) now a t }
    ∷ [])
event_tests t (Completion f now) = guest_tests f.guest now t (record { refusal = NotInFlight; holds = lacks f t.flight } ∷ [])
event_tests t (Tick now) = time_tests now t []

-- all tests of an event: "2, 3", then its own. That a lent table is short, or the table not sound, is told to this list: the lengths and the unused
-- places are the lent numbers', and `short` is false where guests, depth or capacity are out of range, so that those "give 3 at once".
abbrev pub tests : (short unsound : Bool) → Table → Event → List Test
tests short unsound t e = record { refusal = ShortTable; holds = short } ∷ record { refusal = Unsound; holds = unsound } ∷ event_tests t e

-- the tests of an opening: "depth, guests and capacity (1), lengths (2), guest settings (1)." The rule is judged with the counts
unfoldable pub open_tests : (short : Bool) (depth guests capacity rule : ℕ) → List Settings → List Test
open_tests short d n c r ss =
    record { refusal = BadSetting; holds = not (counted d n c) }
    ∷ record { refusal = BadSetting; holds = not (ruled r) }
    ∷ record { refusal = ShortTable; holds = short }
    ∷ record { refusal = BadSetting; holds = not (all settled ss) }
    ∷ []

-- the verdict on an event at a table that is not short
abbrev pub verdict : Table → Event → Verdict
verdict t e = judged (tests false (not (sound t)) t e)

-- the verdict accepts: no condition holds
abbrev pub is_accept : Verdict → Bool
is_accept accept = true
is_accept (refuse r) = false

-- the event is accepted
abbrev pub accepted : Table → Event → Bool
accepted t e = is_accept (verdict t e)
