-- What the lines of a trace with a good header say: its events, by the bytes they stand in, and an answer for each.
use Rattle.std.specs.Prelude.{ℕ, ◌*◌, false, List, [], ◌∷◌, ◌++◌, get_or, drop, if◌then◌else◌, Some, None}
use Rattle.rules.specs.Tables.{Table}
use Rattle.rules.specs.Answers.{taken}
use Rattle.rules.specs.declared.Event.{Event}
use Rattle.rules.specs.Run.{fresh}
use Rattle.rules.specs.Order.{brings}
use Rattle.turns.specs.Turn.{finds_room}
use Rattle.rules.specs.declared.Refusal.TheVariants.{EventCut}
use Rattle.rules.specs.declared.Answer.{Answer}
use Rattle.rules.specs.declared.Answer.TheVariants.{Nothing, Refused}
use Rattle.trace.specs.Header.{version_of, depth_of, guests_of, capacity_of, rule_of, body, settings_in}
use Rattle.trace.specs.Event.{events_of, whole, Read}
use Rattle.trace.specs.Printed.{answered, answers_to, table_after}

-- what f says of the event that was read; where it is bad, `bad`
abbrev pub by_event {ℓ} : {A : Type ℓ} → (bad : A) → (Event → A) → Read → A
by_event bad f (Some e) = f e
by_event bad f None = bad

-- THE EVENTS of a trace

-- the bytes of its events: those behind the header
abbrev pub event_bytes : List ℕ → List ℕ
event_bytes bs = drop (body (version_of bs) (guests_of bs)) bs

-- the bytes from event k on, counted from 0; "Per event 14 bytes"
abbrev pub bytes_at : List ℕ → ℕ → List ℕ
bytes_at bs k = drop (k * 14) (event_bytes bs)

-- the fresh table that the header opens
abbrev pub opening : List ℕ → Table
opening bs = fresh (depth_of bs) (capacity_of bs) (rule_of bs) (settings_in bs)

-- the table that event k finds: the fresh one, after the events before it
abbrev pub table_at : List ℕ → ℕ → Table
table_at bs k = table_after (opening bs) (events_of (version_of bs) k (event_bytes bs))

-- the whole events among these bytes, as they are read in a trace of this version
abbrev pub reads_of : (version : ℕ) → List ℕ → List Read
reads_of v bs = events_of v (whole bs) bs

-- THE ANSWERS, one to a line

-- the answer to a cut last event, of which these bytes are there
abbrev pub cut_answer : List ℕ → List Answer
cut_answer [] = []
cut_answer (b ∷ bs) = Refused EventCut ∷ []

-- the answers to the events of these bytes from the table t on: to each whole one, and to a cut last one
abbrev pub answers_from : (version : ℕ) → Table → List ℕ → List Answer
answers_from v t bs = answers_to t (reads_of v bs) ++ cut_answer (drop (whole bs * 14) bs)

-- the answers of a trace
abbrev pub answers_of : List ℕ → List Answer
answers_of bs = answers_from (version_of bs) (opening bs) (event_bytes bs)

-- the answer to event k
abbrev pub answer_at : List ℕ → ℕ → Answer
answer_at bs k = get_or (answers_of bs) k Nothing

-- ORDER of acceptance, read off the events and the answers

-- the ids of guest g that events bring and their answers accept, in order of acceptance
unfoldable pub accepted_ids : ℕ → List Read → List Answer → List ℕ
accepted_ids g [] l = []
accepted_ids g (r ∷ rs) [] = []
accepted_ids g (r ∷ rs) (a ∷ l) = (if taken a then by_event [] (brings g) r else []) ++ accepted_ids g rs l

-- DEMAND 3

-- demand 3: of the answers to events from the table t on, those to "the accepted events that find a place free at the array (a completion
-- frees its own first)"
unfoldable pub free_answers : Table → List Read → List Answer → List Answer
free_answers t [] l = []
free_answers t (r ∷ rs) [] = []
free_answers t (r ∷ rs) (a ∷ l) =
    if by_event false (finds_room t) r then a ∷ free_answers (answered t r).table rs l else free_answers (answered t r).table rs l

-- of the answers of a trace from event k on, those to these events
abbrev pub free_from : List ℕ → ℕ → List Answer
free_from bs k = free_answers (table_at bs k) (reads_of (version_of bs) (bytes_at bs k)) (drop k (answers_of bs))

-- WHAT A LIMIT IS WORTH

-- of the answers to what was read, those to events: what is bad is none
unfoldable pub to_events : List Read → List Answer → List Answer
to_events [] l = []
to_events (r ∷ rs) [] = []
to_events (r ∷ rs) (a ∷ l) = by_event [] (λ e. a ∷ []) r ++ to_events rs l

-- of the answers of a trace from event k on, those to events
abbrev pub answers_after : List ℕ → ℕ → List Answer
answers_after bs k = to_events (reads_of (version_of bs) (bytes_at bs k)) (drop k (answers_of bs))
