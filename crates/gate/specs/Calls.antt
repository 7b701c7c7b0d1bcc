-- A run of calls, each handed what the last one left, for every way in which guests are lent: what proofs/Runs.antt, Order.antt and Demand3.antt speak of.
use Rattle.std.specs.Prelude.{ℕ, suc, ◌-◌, Bool, true, not, ◌&&◌, List, [], ◌∷◌, ◌++◌, ltb, take, drop, if◌then◌else◌, Option}
use Rattle.lists.specs.Lines.{line_at}
use Rattle.rules.specs.Tables.{Request, Table}
pub use Rattle.rules.specs.Answers.{taken}
use Rattle.rules.specs.declared.Event.{Event}
use Rattle.rules.specs.declared.Event.TheVariants.{Arrival, Completion, Tick}
use Rattle.rules.specs.Order.{brings}
use Rattle.turns.specs.Turn.{is_due, ahead}
use Rattle.rules.specs.declared.Gate.{Gate}
use Rattle.rules.specs.declared.Answer.{Answer}
use Rattle.table.specs.Columns.{waiting_wide}
use Rattle.table.specs.View.{request_form}
use Rattle.gate.specs.Promise.{Lending, HandedIn, table_in, short_in, sound_in, called_in}

-- the event's id, where it brings one, is a "32-bit id": the calls take no other
abbrev pub narrow : Event → Bool
narrow (Arrival a now) = ltb a.id 4294967296
narrow (Completion f now) = true
narrow (Tick now) = true

-- ORDER of acceptance, read off the events and the answers alone

-- the ids of guest n that a run accepts, in order of acceptance
unfoldable pub took : ℕ → List Event → List Answer → List ℕ
took n [] got = []
took n (e ∷ es) [] = []
took n (e ∷ es) (a ∷ got) = (if taken a then brings n e else []) ++ took n es got

-- DEMAND 3, read off the gates and the answers

-- demand 3: an event that is accepted at the gate g finds "a place free at the array (a completion frees its own first)"
abbrev pub finds : Event → Gate → Bool
finds (Arrival a now) g = ltb g.flight g.setup.depth
finds (Completion f now) g = ltb (g.flight - 1) g.setup.depth
finds (Tick now) g = ltb g.flight g.setup.depth

-- A RUN OF CALLS

module _ (v : Lending) where
  -- what a host holds between calls: the gate, and its three tables
  pub record Host : Type 0 where
    pub gate : Gate
    pub guests : List v.Cell
    pub waiting : List ℕ
    pub flight : List ℕ

  -- what a host holds after a call
  abbrev pub holds : HandedIn v → Host
  holds h = record { gate = h.0.gate; guests = h.1; waiting = h.2; flight = h.3 }

  -- a call on what a host holds
  abbrev pub call : Event → Host → HandedIn v
  call e h = called_in v e h.gate h.guests h.waiting h.flight

  -- what a host holds after a run of calls
  unfoldable pub held : Host → List Event → Host
  held h [] = h
  held h (e ∷ es) = held (holds (call e h)) es

  -- the answers to a run of calls
  unfoldable pub replies : Host → List Event → List Answer
  replies h [] = []
  replies h (e ∷ es) = (call e h).0.answer ∷ replies (holds (call e h)) es

  -- what the outcomes of a run of calls carry: when to wake the gate, after each
  unfoldable pub wakings : Host → List Event → List (Option ℕ)
  wakings h [] = []
  wakings h (e ∷ es) = (call e h).0.wake ∷ wakings (holds (call e h)) es

  -- the table that is shown
  abbrev pub shows : Host → Table
  shows h = table_in v h.gate h.guests h.waiting h.flight

  -- the tables are long enough, and sound
  abbrev pub firm : Host → Bool
  firm h = not (short_in v h.gate h.guests h.waiting h.flight) && sound_in v h.gate h.guests h.waiting h.flight

  -- the answers to the calls of a run that are accepted and find a place free, in order
  unfoldable pub free_replies : Host → List Event → List Answer
  free_replies h [] = []
  free_replies h (e ∷ es) =
      if taken (call e h).0.answer && finds e h.gate
      then (call e h).0.answer ∷ free_replies (holds (call e h)) es
      else free_replies (holds (call e h)) es

  -- the waiting request at place i, from its numbers
  abbrev pub standing : Host → ℕ → Request
  standing h i = request_form.read (line_at waiting_wide h.waiting i)

  -- demand 3: the request at place i is "a waiting request whose reservation tag is at or before that time"
  abbrev pub due_there : Host → ℕ → Bool
  due_there h i = is_due (shows h) (standing h i)

  -- demand 3: the waiting requests that stand before the one at place i "by reservation tag, equal tags by order of acceptance"
  abbrev pub ahead_of : Host → ℕ → List Request
  ahead_of h i = ahead (shows h) (standing h i) (take i (shows h).waiting) (drop (suc i) (shows h).waiting)
