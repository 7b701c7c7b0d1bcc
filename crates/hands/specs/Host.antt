-- The calls as a host in C sees them: the gate as seven numbers, the answer as five.
use Rattle.std.specs.Prelude.{ℕ, List, get_or, set, Ok, Err, Result}
use Rattle.rules.specs.declared.Gate.{Gate}
use Rattle.rules.specs.declared.Answer.{Answer}
use Rattle.rules.specs.declared.Answer.TheVariants.{Nothing, Sent, Refused}
use Rattle.table.specs.View.{gate_at, Handed}
use Rattle.gate.specs.Promise.{numbers}
use Rattle.gate.specs.Replies.{reply_of}
use Rattle.batch.specs.Promise.{found_of, BatchIn}
use Rattle.gate.specs.declared.Reply.{Reply}
use Rattle.arrays.specs.declared.Site.{Site}
use Rattle.arrays.specs.Promise.{HandedAt}
use Rattle.rules.specs.declared.Refusal.{Refusal}

-- the gate that seven numbers are: depth, guests, capacity, time, waiting, flight, rule
abbrev pub gate_in : List ℕ → Gate
gate_in v = gate_at (record { depth = get_or v 0 0; capacity = get_or v 2 0; rule = get_or v 6 0 }) (get_or v 1 0) (get_or v 3 0) (get_or v 4 0) (get_or v 5 0)

-- the seven numbers of a gate, written over those that were lent
abbrev pub gate_over : Gate → List ℕ → List ℕ
gate_over g v = set (set (set (set (set (set (set v 0 g.setup.depth) 1 g.guests) 2 g.setup.capacity) 3 g.time) 4 g.waiting) 5 g.flight) 6 g.setup.rule

-- the seven numbers after a call: a refusal leaves them as they stood
abbrev pub written : Answer → Gate → List ℕ → List ℕ
written Nothing g v = gate_over g v
written (Sent p n i) g v = gate_over g v
written (Refused r) g v = v

-- THE PROMISE: the answer, the seven numbers and the three tables after a call that hands back h
abbrev pub hosted : List ℕ → Handed → Reply × List ℕ × List ℕ × List ℕ × List ℕ
hosted v h = (reply_of h.0.answer h.0.wake, written h.0.answer h.0.gate v, h.1, h.2, h.3)

-- A BATCH (document 02, K5)

-- the seven numbers after a batch: one that is refused as a whole leaves them as they stood
abbrev pub found_written : Result Unit Refusal → Gate → List ℕ → List ℕ
found_written (Ok _) g v = gate_over g v
found_written (Err r) g v = v

-- THE PROMISE: 0 or the number of the refusal, the seven numbers, the three tables and the answers after a batch that hands back b
abbrev pub batch_hosted : List ℕ → BatchIn numbers → ℕ × List ℕ × List ℕ × List ℕ × List ℕ × List ℕ
batch_hosted v b = (found_of b.0.found, found_written b.0.found b.0.gate v, b.1, b.2, b.3, b.4)

-- A HOUSE OF SEVERAL ARRAYS (document 02, K14)

-- array a of m
abbrev pub site_at : (m a : ℕ) → Site
site_at m a = record { arrays = m; array = a }

-- THE PROMISE: the answer, the seven numbers, the three tables, the counters and the phases after a call at an array that hands back h
abbrev pub house_hosted : List ℕ → HandedAt → Reply × List ℕ × List ℕ × List ℕ × List ℕ × List ℕ × List ℕ
house_hosted v h = (reply_of h.0.answer h.0.wake, written h.0.answer h.0.gate v, h.1, h.2, h.3, h.4, h.5)
