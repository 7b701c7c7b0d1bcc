-- A run of batches, each handed what the last one left, beside a run of calls; and what the whole-call refusals are in plain facts. For every way in which
-- guests are lent.
use Rattle.std.specs.Prelude.{ℕ, ◌*◌, ◌<◌, ◌≡◌, Bool, true, ◌&&◌, List, [], ◌∷◌, ◌++◌, length, if◌then◌else◌, Some, None, Option}
use Rattle.rules.specs.Answers.{taken}
use Rattle.rules.specs.Refused.{Case}
use Rattle.rules.specs.Refusals.{judged, is_accept}
use Rattle.rules.specs.declared.Event.{Event}
use Rattle.rules.specs.declared.Answer.{Answer}
use Rattle.rules.specs.declared.Outcome.{Outcome}
use Rattle.gate.specs.Promise.{Lending}
use Rattle.gate.specs.Calls.{Host, holds, call, finds, narrow}
use Rattle.batch.specs.declared.Batched.{Batched}
use Rattle.batch.specs.Rows.{count_of, events_in, most_events, answer_wide}
use Rattle.batch.specs.Promise.{found_of, BatchIn, host_of, batch_tests, batched_in}

-- THE WHOLE CALL

-- its refusals: document 02, K5, "16, answer buffer short, before all others; 17, more than 256 events, next"
unfoldable pub batch_cases : (events answers : List ℕ) → List Case
batch_cases es bs =
    record { number = 16; condition = length bs < count_of es * answer_wide }
    ∷ record { number = 17; condition = most_events < count_of es }
    ∷ []

-- the whole call is refused with number n
abbrev pub Refuses : Batched → ℕ → Type 0
Refuses b n = (found_of b.found ≡ n) × (n ≡ 0 → ⊥)

-- it is not refused
abbrev pub Takes : Batched → Type 0
Takes b = found_of b.found ≡ 0

-- EVENTS AND CALLS

-- the events among what was read, the bad ones passed over
unfoldable pub goods : List (Option Event) → List Event
goods [] = []
goods (Some e ∷ rs) = e ∷ goods rs
goods (None ∷ rs) = goods rs

-- what the events among them came to
unfoldable pub good : List (Option Event) → List Outcome → List Outcome
good [] os = []
good (r ∷ rs) [] = []
good (Some e ∷ rs) (o ∷ os) = o ∷ good rs os
good (None ∷ rs) (o ∷ os) = good rs os

-- the id, where there is one, has 32 bits
abbrev pub narrow_read : Option Event → Bool
narrow_read (Some e) = narrow e
narrow_read None = true

-- A RUN OF BATCHES

-- the lent lists of a batch: its events, and the room for its answers
pub record Batch : Type 0 where
  pub events : List ℕ
  pub answers : List ℕ

-- the events that a batch does: all of them, or none where the whole call is refused
abbrev pub done_by : Batch → List (Option Event)
done_by b = if is_accept (judged (batch_tests b.events b.answers)) then events_in b.events else []

-- those of a run of batches, one behind the other
unfoldable pub all_done : List Batch → List (Option Event)
all_done [] = []
all_done (b ∷ bs) = done_by b ++ all_done bs

module _ (v : Lending) where
  -- what a host holds after a batch
  abbrev pub leaves : BatchIn v → Host v
  leaves b = host_of v b.0.gate b.1 b.2 b.3

  -- a batch on what a host holds
  abbrev pub batch : Batch → Host v → BatchIn v
  batch b h = batched_in v b.events h.gate h.guests h.waiting h.flight b.answers

  -- what a host holds after a run of batches
  unfoldable pub held_batches : Host v → List Batch → Host v
  held_batches h [] = h
  held_batches h (b ∷ bs) = held_batches (leaves (batch b h)) bs

  -- the answers to the events that are accepted and find a place free, in order
  unfoldable pub free_answers : Host v → List (Option Event) → List Answer
  free_answers h [] = []
  free_answers h (Some e ∷ rs) =
      if taken (call v e h).0.answer && finds e h.gate
      then (call v e h).0.answer ∷ free_answers (holds v (call v e h)) rs
      else free_answers (holds v (call v e h)) rs
  free_answers h (None ∷ rs) = free_answers h rs
