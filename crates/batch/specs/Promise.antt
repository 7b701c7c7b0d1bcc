-- Document 02, K5, what the call of many events promises: "Take them in one call, with one answer for each event in a lent buffer, exactly as if they came
-- one by one, a bad kind being 14, refused ones passed over." The gate, every number of every lent table and every number of the answers after the call, as a
-- function of what was handed in, for every way in which a host lends its guests. Words in quotes are K5's.
use Rattle.std.specs.Prelude.{ℕ, ◌*◌, List, [], ◌∷◌, ltb, length, Ok, Err, Result, Some, None, Option}
use Rattle.rules.specs.Answers.{number_of}
use Rattle.rules.specs.Refusals.{Test, Verdict, accept, refuse, judged}
use Rattle.rules.specs.declared.Gate.{Gate}
use Rattle.rules.specs.declared.Refusal.TheVariants.{BadEvent, AnswersShort, TooManyEvents}
use Rattle.rules.specs.declared.Answer.TheVariants.{Refused}
use Rattle.rules.specs.declared.Outcome.{Outcome}
use Rattle.gate.specs.Promise.{Lending, numbers, HandedIn, unchanged_in}
use Rattle.gate.specs.Calls.{Host, holds, call}
use Rattle.batch.specs.declared.Batched.{Batched}
use Rattle.batch.specs.Rows.{count_of, events_in, most_events, answer_wide, answers_over}
use Rattle.rules.specs.declared.Refusal.{Refusal}
use Rattle.rules.specs.declared.Event.{Event}

-- the tests of the whole call: "16, answer buffer short, before all others; 17, more than 256 events, next"
unfoldable pub batch_tests : (events answers : List ℕ) → List Test
batch_tests es bs =
    record { refusal = AnswersShort; holds = ltb (length bs) (count_of es * answer_wide) }
    ∷ record { refusal = TooManyEvents; holds = ltb most_events (count_of es) }
    ∷ []

-- the number of what was found of the whole call: 0 where nothing stands against it, else the paper's number of the refusal
abbrev pub found_of : Result Unit Refusal → ℕ
found_of (Ok _) = 0
found_of (Err r) = number_of r

module _ (v : Lending) where
  -- what a host holds: a gate and three lent tables
  abbrev pub host_of : Gate → List v.Cell → (ws fs : List ℕ) → Host v
  host_of g gs ws fs = record { gate = g; guests = gs; waiting = ws; flight = fs }

  -- one event of a batch on what a host holds: "a bad kind being 14", which moves nothing; any other event is a call
  abbrev pub one : Option Event → Host v → HandedIn v
  one (Some e) h = call v e h
  one None h = unchanged_in v h.gate h.guests h.waiting h.flight (Refused BadEvent)

  -- what a host holds after events, "one by one"
  unfoldable pub held_after : Host v → List (Option Event) → Host v
  held_after h [] = h
  held_after h (r ∷ rs) = held_after (holds v (one r h)) rs

  -- what they come to, "one answer for each event"
  unfoldable pub outcomes : Host v → List (Option Event) → List Outcome
  outcomes h [] = []
  outcomes h (r ∷ rs) = (one r h).0 ∷ outcomes (holds v (one r h)) rs

  -- what a call of many events hands back: the gate with what was found, the three tables, and the answers
  abbrev pub BatchIn : Type 0
  BatchIn = Batched × List v.Cell × List ℕ × List ℕ × List ℕ

  -- all events done: each answer in its place, "spare answer places stay unchanged"
  abbrev pub ran_in : Host v → List (Option Event) → List ℕ → BatchIn
  ran_in h rs bs = (
    record { gate = (held_after h rs).gate; found = Ok tt },
    (held_after h rs).guests,
    (held_after h rs).waiting,
    (held_after h rs).flight,
    answers_over (outcomes h rs) bs,
  )

  -- what follows from a verdict on the whole call: every event is done, or "the whole call" is refused, "with nothing done"
  abbrev pub batched_by : Verdict → (events : List ℕ) → Host v → (answers : List ℕ) → BatchIn
  batched_by accept es h bs = ran_in h (events_in es) bs
  batched_by (refuse r) es h bs = (record { gate = h.gate; found = Err r }, h.guests, h.waiting, h.flight, bs)

  -- THE PROMISE: what the call hands back
  unfoldable pub batched_in : (events : List ℕ) → Gate → List v.Cell → (ws fs answers : List ℕ) → BatchIn
  batched_in es g gs ws fs bs = batched_by (judged (batch_tests es bs)) es (host_of g gs ws fs) bs

  -- all that a caller sees of it: the gate, the number of what was found, the three tables, and the answers
  abbrev pub SeenBatchIn : Type 0
  SeenBatchIn = Gate × ℕ × List v.Cell × List ℕ × List ℕ × List ℕ

  -- what a caller sees of what a call handed back
  abbrev pub seen_batch_in : BatchIn → SeenBatchIn
  seen_batch_in b = (b.0.gate, found_of b.0.found, b.1, b.2, b.3, b.4)

-- OVER NUMBERS

-- what a caller sees
abbrev pub seen_batch : BatchIn numbers → SeenBatchIn numbers
seen_batch = seen_batch_in numbers

-- the call
abbrev pub batched : (events : List ℕ) → Gate → (gs ws fs answers : List ℕ) → BatchIn numbers
batched = batched_in numbers
