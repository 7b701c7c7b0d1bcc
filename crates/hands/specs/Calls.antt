-- A run of calls through C, each handed what the last one left: the gate's seven numbers and the three tables, as a host holds them.
use Rattle.std.specs.Prelude.{ℕ, ◌≡◌, Bool, not, ◌&&◌, List, [], ◌∷◌, eqb, if◌then◌else◌}
use Rattle.rules.specs.Tables.{Table}
use Rattle.rules.specs.declared.Event.{Event}
use Rattle.gate.specs.Promise.{numbers, called}
use Rattle.gate.specs.Calls.{Host, shows, finds}
use Rattle.gate.specs.declared.Reply.{Reply}
use Rattle.gate.specs.Replies.{Four, four}
use Rattle.batch.specs.Batches.{Batch, batch}
use Rattle.hands.specs.Host.{gate_in, hosted, batch_hosted}

-- what a host in C holds between calls: the gate's seven numbers, and its three tables
pub record Lent : Type 0 where
  pub seven : List ℕ
  pub guests : List ℕ
  pub waiting : List ℕ
  pub flight : List ℕ

-- the same with the gate that the seven numbers are
abbrev pub inside : Lent → Host numbers
inside h = record { gate = gate_in h.seven; guests = h.guests; waiting = h.waiting; flight = h.flight }

-- the table that is shown
abbrev pub shown_by : Lent → Table
shown_by h = shows numbers (inside h)

-- a call through C on what a host holds: the answer's five numbers, the seven of the gate, and the three tables
abbrev pub through : Event → Lent → Reply × List ℕ × List ℕ × List ℕ × List ℕ
through e h = hosted h.seven (called e (gate_in h.seven) h.guests h.waiting h.flight)

-- what a host holds after it
abbrev pub kept : Reply × List ℕ × List ℕ × List ℕ × List ℕ → Lent
kept b = record { seven = b.1; guests = b.2; waiting = b.3; flight = b.4 }

-- what it holds after a run of calls
unfoldable pub held_by : Lent → List Event → Lent
held_by h [] = h
held_by h (e ∷ es) = held_by (kept (through e h)) es

-- the first four numbers of each answer to a run of calls
unfoldable pub fours : Lent → List Event → List Four
fours h [] = []
fours h (e ∷ es) = four (through e h).0 ∷ fours (kept (through e h)) es

-- the fifth of each: when to wake the gate
unfoldable pub fifths : Lent → List Event → List ℕ
fifths h [] = []
fifths h (e ∷ es) = (through e h).0.wake ∷ fifths (kept (through e h)) es

-- an answer's numbers are a refusal with number n: kind 3, and the number
abbrev pub Refuses : Reply → ℕ → Type 0
Refuses r n = (r.kind ≡ 3) × (r.refusal ≡ n)

-- they are no refusal
abbrev pub Takes : Reply → Type 0
Takes r = r.kind ≡ 3 → ⊥

-- the same as a test
abbrev pub takes : Reply → Bool
takes r = not (eqb r.kind 3)

-- the first four numbers of the answers to the calls of a run that are accepted and find a place free, in order
unfoldable pub free_fours : Lent → List Event → List Four
free_fours h [] = []
free_fours h (e ∷ es) =
    if takes (through e h).0 && finds e (gate_in h.seven)
    then four (through e h).0 ∷ free_fours (kept (through e h)) es
    else free_fours (kept (through e h)) es

-- BATCHES (document 02, K5)

-- what a batch hands back through C: 0 or the number of the refusal, the seven numbers, the three tables and the answers
abbrev pub BackBatch : Type 0
BackBatch = ℕ × List ℕ × List ℕ × List ℕ × List ℕ × List ℕ

-- a batch through C on what a host holds
abbrev pub through_batch : Batch → Lent → BackBatch
through_batch b h = batch_hosted h.seven (batch numbers b (inside h))

-- what a host holds after it
abbrev pub kept_batch : BackBatch → Lent
kept_batch b = record { seven = b.1; guests = b.2; waiting = b.3; flight = b.4 }

-- what it holds after a run of batches
unfoldable pub held_by_batches : Lent → List Batch → Lent
held_by_batches h [] = h
held_by_batches h (b ∷ bs) = held_by_batches (kept_batch (through_batch b h)) bs

-- a batch is refused as a whole with number n
abbrev pub RefusesBatch : BackBatch → ℕ → Type 0
RefusesBatch b n = (b.0 ≡ n) × (n ≡ 0 → ⊥)

-- it is not
abbrev pub TakesBatch : BackBatch → Type 0
TakesBatch b = b.0 ≡ 0
