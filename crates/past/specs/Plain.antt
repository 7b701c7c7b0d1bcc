-- The gate without costs, as it was before document 02, K8, over the same tables, events and answers: what reads a spacing is said once more with the
-- plain spacings of document 01, and no cost, delta or rho is read or judged; all else is shared with the gate of a single array (Single.antt) or of Run.antt.
-- Words in quotes are document 01's. It is there for one theorem: where every cost, delta and rho is 1, the gate of Run.antt is this one.
use Rattle.std.specs.Prelude.{Bool, true, false, not, ◌&&◌, List, [], ◌∷◌, ◌++◌, map, ℕ, ◌+◌, leb, eqb, length, set, if◌then◌else◌}
use Rattle.lists.specs.Words.{all, below}
use Rattle.rules.specs.Numbers.{ceiling, second}
use Rattle.rules.specs.Tables.{Request, Table, reserved, limited, rplain, lplain, splain, owner, settings_of, of, mine, idle, lacks, names}
use Rattle.rules.specs.declared.Guest.{Guest}
use Rattle.rules.specs.Sound.{ranges, ruled, roomy, timely, known, distinct, lawful, apart}
use Rattle.rules.specs.Events.{called_by, adjusted, complete, wait}
use Rattle.rules.specs.declared.Event.{Event}
use Rattle.rules.specs.declared.Event.TheVariants.{Arrival, Completion, Tick}
use Rattle.rules.specs.Choice.{Result, Pick, nobody, picked, least, due, open?, sending, earlier, room}
use Rattle.rules.specs.Refusals.{Test, Verdict, accept, refuse, judged, guest_tests, passing_with, event_tests}
use Rattle.past.specs.Single.{stamped_single, sooner}
use Rattle.rules.specs.declared.Phase.TheVariants.{Reservation, Weight}
use Rattle.rules.specs.declared.Refusal.TheVariants.{ShortTable, Unsound, IdInUse, NoRoom, TagAboveCeiling}
use Rattle.rules.specs.declared.Answer.{Answer}
use Rattle.rules.specs.declared.Answer.TheVariants.{Nothing, Sent, Refused}

-- SOUND

-- "for an idle guest it is at most the ceiling plus 1,000,000,000"
abbrev pub plain_bound : ℕ
plain_bound = ceiling + second

-- "for a guest with something waiting, each next number it has is its last waiting tag plus the spacing; for an idle guest" it is bounded
abbrev pub follows_plain : (tag : Request → ℕ) (spacing : ℕ) → List Request → ℕ → Bool
follows_plain tag d [] n = leb n plain_bound
follows_plain tag d (q ∷ []) n = eqb n (tag q + d)
follows_plain tag d (q ∷ p ∷ l) n = follows_plain tag d (p ∷ l) n

-- "each later waiting request's tag of each kind it has is at least the earlier one's plus the spacing"; of a kind that the guest lacks, "meaningless
-- numbers .. are zero"
unfoldable pub kept_plain : (has : Bool) (tag : Request → ℕ) (spacing : ℕ) → List Request → (next : ℕ) → Bool
kept_plain true tag d l n = apart tag (λ q. d) l && follows_plain tag d l n
kept_plain false tag d l n = eqb n 0 && all (λ q. eqb (tag q) 0) l

-- all three kinds of the guest h, of which the requests l wait
unfoldable pub orderly_plain : Guest → List Request → Bool
orderly_plain h l =
    kept_plain (reserved h.settings) Request.rtag (rplain h.settings) l h.rnext
    && kept_plain (limited h.settings) Request.ltag (lplain h.settings) l h.lnext
    && kept_plain true Request.stag (splain h.settings) l h.snext

-- "A table is sound when": all of it
unfoldable pub sound_plain : Table → Bool
sound_plain t =
    ranges t && ruled t.setup.rule && roomy t && timely t && known t && distinct (names t) && all lawful t.waiting
    && below (length t.guests) (λ g. orderly_plain (owner t.guests g) (mine g t.waiting))

-- ARRIVAL

-- "Each next number becomes that tag plus the spacing."
unfoldable pub following_plain : Request → Guest → Guest
following_plain q h =
    record { settings = h.settings; rnext = q.rtag + rplain h.settings; lnext = q.ltag + lplain h.settings; snext = q.stag + splain h.settings }

-- "The request is placed last among the waiting"
unfoldable pub placed_plain : (now : ℕ) → Request → Table → Table
placed_plain now q t =
    record {
      setup = t.setup;
      time = now;
      guests = set t.guests q.guest (following_plain q (owner t.guests q.guest));
      waiting = t.waiting ++ (q ∷ []);
      flight = t.flight;
    }

-- what an event does before the choice is made: a completion and a tick read no spacing
unfoldable pub enter_plain : Table → Event → Table
enter_plain t (Arrival a now) = placed_plain now (stamped_single (idle t a.guest) now a t) (adjusted (idle t a.guest) now t)
enter_plain t (Completion f now) = complete now f t
enter_plain t (Tick now) = wait now t

-- THE CHOICE

-- "Then every reservation tag still waiting of that guest, and its next reservation number, drops by its reservation spacing, if it has one."
unfoldable pub dropped_plain : Request → Table → Table
dropped_plain q t =
    record {
      setup = t.setup;
      time = t.time;
      guests = set t.guests q.guest (sooner (rplain (settings_of t.guests q)) (owner t.guests q.guest));
      waiting = map (λ p. if of q.guest p then earlier (rplain (settings_of t.guests q)) p else p) t.waiting;
      flight = t.flight;
    }

-- the weight phase: the send and the drop; "Else nothing"
unfoldable pub by_weight_plain : Table → Pick → Result
by_weight_plain t nobody = record { table = t; answer = Nothing }
by_weight_plain t (picked q w) = record { table = dropped_plain q (sending t q w); answer = Sent Weight q.guest q.id }

-- the reservation phase: the send; "Else weight phase"
unfoldable pub by_reservation_plain : Table → Pick → Result
by_reservation_plain t nobody = by_weight_plain t (least (open? t) Request.stag t.waiting)
by_reservation_plain t (picked q w) = record { table = sending t q w; answer = Sent Reservation q.guest q.id }

-- "If in flight equals depth, nothing is sent. Otherwise at most one"
unfoldable pub choice_plain : Table → Result
choice_plain t = if room t then by_reservation_plain t (least (due t) Request.rtag t.waiting) else record { table = t; answer = Nothing }

-- REFUSALS AND A RUN

-- "Arrival: .. 4, 5, 6, 7, 8, 9": there is no test of a cost; a completion's and a tick's tests read none
unfoldable pub event_tests_plain : Table → Event → List Test
event_tests_plain t (Arrival a now) =
    guest_tests a.guest now t
    (record { refusal = IdInUse; holds = not (lacks (called_by a) (names t)) }
    ∷ record { refusal = NoRoom; holds = eqb (length t.waiting) t.setup.capacity }
    ∷ record { refusal = TagAboveCeiling; holds = passing_with (idle t a.guest) now (stamped_single (idle t a.guest) now a t) t }
    ∷ [])
event_tests_plain t (Completion f now) = event_tests t (Completion f now)
event_tests_plain t (Tick now) = event_tests t (Tick now)

-- the verdict on an event at a table that is not short: "2, 3", then its own tests
abbrev pub verdict_plain : Table → Event → Verdict
verdict_plain t e =
    judged (record { refusal = ShortTable; holds = false } ∷ record { refusal = Unsound; holds = not (sound_plain t) } ∷ event_tests_plain t e)

-- "then the choice is made", or "Every refusal changes no lent number and not the time."
unfoldable pub decided_plain : Verdict → Table → Event → Result
decided_plain accept t e = choice_plain (enter_plain t e)
decided_plain (refuse r) t e = record { table = t; answer = Refused r }

-- one event at a table: the table afterwards, and the answer
unfoldable pub step_plain : Table → Event → Result
step_plain t e = decided_plain (verdict_plain t e) t e

-- the table after a run of events
unfoldable pub after_plain : Table → List Event → Table
after_plain t [] = t
after_plain t (e ∷ es) = after_plain (step_plain t e).table es

-- the answers to a run of events
unfoldable pub answers_plain : Table → List Event → List Answer
answers_plain t [] = []
answers_plain t (e ∷ es) = (step_plain t e).answer ∷ answers_plain (step_plain t e).table es

-- WHERE EVERY COST IS 1

-- the waiting request has cost 1
abbrev pub costs_one : Request → Bool
costs_one q = eqb q.cost 1

-- the event, where it is an arrival, has cost 1
abbrev pub brings_one : Event → Bool
brings_one (Arrival a now) = eqb a.cost 1
brings_one (Completion f now) = true
brings_one (Tick now) = true
