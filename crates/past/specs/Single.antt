-- The gate of a single array, as it was before document 02, K14, over the same tables, events and answers: what K14 changed is said once more by document 01
-- and K8, and delta and rho are neither read nor judged; all else is shared. Words in quotes are document 01's. It is there for the theorems on runs: where
-- every delta and rho is 1, the gate of Run.antt is this one, and what holds of tables that are sound by the old rule.
use Rattle.std.specs.Prelude.{Bool, true, false, not, ◌&&◌, List, [], ◌∷◌, map, ℕ, ◌-◌, leb, eqb, length, set, if◌then◌else◌}
use Rattle.lists.specs.Words.{all, below}
use Rattle.rules.specs.Tables.{Request, Table, reserved, limited, rspacing, lspacing, sspacing, owner, of, mine, idle, lacks, names}
use Rattle.rules.specs.declared.Guest.{Guest}
use Rattle.rules.specs.Sound.{ranges, ruled, roomy, timely, known, distinct, lawful, fair, priced, kept}
use Rattle.rules.specs.Events.{called_by, adjusted, stamped, placed, complete, wait}
use Rattle.rules.specs.declared.Arriving.{Arriving}
use Rattle.rules.specs.declared.Event.{Event}
use Rattle.rules.specs.declared.Event.TheVariants.{Arrival, Completion, Tick}
use Rattle.rules.specs.Choice.{Result, Pick, nobody, picked, least, due, open?, sending, earlier, drop_of, room}
use Rattle.rules.specs.Refusals.{Test, Verdict, accept, refuse, judged, guest_tests, passing_with, event_tests}
use Rattle.rules.specs.declared.Phase.TheVariants.{Reservation, Weight}
use Rattle.rules.specs.declared.Refusal.TheVariants.{ShortTable, Unsound, IdInUse, NoRoom, TagAboveCeiling, BadCost}
use Rattle.rules.specs.declared.Answer.{Answer}
use Rattle.rules.specs.declared.Answer.TheVariants.{Nothing, Sent, Refused}

-- SOUND

-- all three kinds of the guest h, of which the requests l wait: "each later waiting request's tag of each kind it has is at least the earlier one's plus the
-- spacing", reservation tags too
unfoldable pub orderly_single : Guest → List Request → Bool
orderly_single h l =
    kept (reserved h.settings) Request.rtag (rspacing h.settings) (rspacing h.settings) l h.rnext
    && kept (limited h.settings) Request.ltag (lspacing h.settings) (lspacing h.settings) l h.lnext
    && kept true Request.stag (sspacing h.settings) (sspacing h.settings) l h.snext

-- "A table is sound when": all of it
unfoldable pub sound_single : Table → Bool
sound_single t =
    ranges t && ruled t.setup.rule && roomy t && timely t && known t && distinct (names t) && all lawful t.waiting && all priced t.waiting
    && below (length t.guests) (λ g. orderly_single (owner t.guests g) (mine g t.waiting))

-- ARRIVAL

-- the request that arrives, with the tags that its guest's next numbers give: nothing is raised
abbrev pub stamped_single : (idle : Bool) (now : ℕ) → Arriving → Table → Request
stamped_single idle now a t = stamped idle now a (owner t.guests a.guest)

-- what an event does before the choice is made
unfoldable pub enter_single : Table → Event → Table
enter_single t (Arrival a now) = placed now (stamped_single (idle t a.guest) now a t) (adjusted (idle t a.guest) now t)
enter_single t (Completion f now) = complete now f t
enter_single t (Tick now) = wait now t

-- THE CHOICE

-- the guest h with its next reservation number dropped by d
unfoldable pub sooner : ℕ → Guest → Guest
sooner d h = record { settings = h.settings; rnext = h.rnext - d; lnext = h.lnext; snext = h.snext }

-- "Then every reservation tag still waiting of that guest, and its next reservation number, drops"
unfoldable pub dropped_single : Request → Table → Table
dropped_single q t =
    record {
      setup = t.setup;
      time = t.time;
      guests = set t.guests q.guest (sooner (drop_of t q) (owner t.guests q.guest));
      waiting = map (λ p. if of q.guest p then earlier (drop_of t q) p else p) t.waiting;
      flight = t.flight;
    }

-- the weight phase: the send and the drop; "Else nothing"
unfoldable pub by_weight_single : Table → Pick → Result
by_weight_single t nobody = record { table = t; answer = Nothing }
by_weight_single t (picked q w) = record { table = dropped_single q (sending t q w); answer = Sent Weight q.guest q.id }

-- the reservation phase: the send; "Else weight phase"
unfoldable pub by_reservation_single : Table → Pick → Result
by_reservation_single t nobody = by_weight_single t (least (open? t) Request.stag t.waiting)
by_reservation_single t (picked q w) = record { table = sending t q w; answer = Sent Reservation q.guest q.id }

-- "If in flight equals depth, nothing is sent. Otherwise at most one"
unfoldable pub choice_single : Table → Result
choice_single t = if room t then by_reservation_single t (least (due t) Request.rtag t.waiting) else record { table = t; answer = Nothing }

-- REFUSALS AND A RUN

-- "Arrival: .. 4, 5, 6, 7, 8, 9", and 18 before 7: there is no test of delta and rho
unfoldable pub event_tests_single : Table → Event → List Test
event_tests_single t (Arrival a now) =
    guest_tests a.guest now t
    (record { refusal = BadCost; holds = not (fair a.cost) }
    ∷ record { refusal = IdInUse; holds = not (lacks (called_by a) (names t)) }
    ∷ record { refusal = NoRoom; holds = eqb (length t.waiting) t.setup.capacity }
    ∷ record { refusal = TagAboveCeiling; holds = passing_with (idle t a.guest) now (stamped_single (idle t a.guest) now a t) t }
    ∷ [])
event_tests_single t (Completion f now) = event_tests t (Completion f now)
event_tests_single t (Tick now) = event_tests t (Tick now)

-- the verdict on an event at a table that is not short: "2, 3", then its own tests
abbrev pub verdict_single : Table → Event → Verdict
verdict_single t e =
    judged (record { refusal = ShortTable; holds = false } ∷ record { refusal = Unsound; holds = not (sound_single t) } ∷ event_tests_single t e)

-- "then the choice is made", or "Every refusal changes no lent number and not the time."
unfoldable pub decided_single : Verdict → Table → Event → Result
decided_single accept t e = choice_single (enter_single t e)
decided_single (refuse r) t e = record { table = t; answer = Refused r }

-- one event at a table: the table afterwards, and the answer
unfoldable pub step_single : Table → Event → Result
step_single t e = decided_single (verdict_single t e) t e

-- the table after a run of events
unfoldable pub after_single : Table → List Event → Table
after_single t [] = t
after_single t (e ∷ es) = after_single (step_single t e).table es

-- the answers to a run of events
unfoldable pub answers_single : Table → List Event → List Answer
answers_single t [] = []
answers_single t (e ∷ es) = (step_single t e).answer ∷ answers_single (step_single t e).table es

-- DELTA AND RHO

-- the event, where it is an arrival, has a delta and a rho of 1, by document 02, K14: "One and one"
abbrev pub one_and_one : Event → Bool
one_and_one (Arrival a now) = eqb a.delta 1 && eqb a.rho 1
one_and_one (Completion f now) = true
one_and_one (Tick now) = true

-- the event, where it is an arrival, has a rho of at least 1: its guest's next reservation number does not fall
abbrev pub rho_some : Event → Bool
rho_some (Arrival a now) = leb 1 a.rho
rho_some (Completion f now) = true
rho_some (Tick now) = true
