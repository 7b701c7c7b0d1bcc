-- What a call over lent numbers hands back: a function of the table that they show, written over them.
use Rattle.std.specs.Prelude.{ℕ, ◌+◌, ◌-◌, ◌≡◌, List, length}
use Rattle.lists.specs.Rows.{over_rows}
use Rattle.rules.specs.Tables.{Request, Table}
use Rattle.rules.specs.Choice.{Result, least, due, open?, by_reservation, by_weight}
use Rattle.rules.specs.declared.Gate.{Gate}
use Rattle.rules.specs.declared.Phase.{Phase}
use Rattle.rules.specs.declared.Refusal.{Refusal}
use Rattle.rules.specs.declared.Answer.TheVariants.{Sent, Refused}
use Rattle.rules.specs.declared.Outcome.{Outcome}
use Rattle.rules.specs.Waking.{unsaid}
use Rattle.table.specs.declared.gates.Decision.{Decision}
use Rattle.table.specs.View.{gate_at, decision_of, outcome_of, guest_form, request_form, flight_form, table_of, gate_of, Handed, handed}

-- a gate and the three tables
abbrev pub Lent : Type 0
Lent = Gate × List ℕ × List ℕ × List ℕ

-- the table u, written over the lent numbers
abbrev pub written : (gs ws fs : List ℕ) → Table → Lent
written gs ws fs u = (
  gate_of u,
  over_rows guest_form (length u.guests) u.guests gs,
  over_rows request_form u.setup.capacity u.waiting ws,
  over_rows flight_form u.setup.depth u.flight fs,
)

-- what a call that does f to the table hands back
abbrev pub does : (Table → Result) → Gate → (gs ws fs : List ℕ) → Handed
does f g gs ws fs = handed gs ws fs (f (table_of g gs ws fs))

-- what a choice or a step that does f to the table leaves: the decision d, and the numbers hs, vs and es
pub record Leaves (f : Table → Result) (g : Gate) (gs ws fs : List ℕ) (d : Decision) (hs vs es : List ℕ) : Type 0 where
  pub shows : (d.gate, hs, vs, es) ≡ written gs ws fs (f (table_of g gs ws fs)).table
  pub answers : d.answer ≡ (f (table_of g gs ws fs)).answer

-- the weight phase
abbrev pub weight_phase : Table → Result
weight_phase t = by_weight t (least (open? t) Request.stag t.waiting)

-- the reservation phase, with the weight phase behind it
abbrev pub reservation_phase : Table → Result
reservation_phase t = by_reservation t (least (due t) Request.rtag t.waiting)

-- the gate once a request went from the waiting to the array
abbrev pub sent_gate : Gate → Gate
sent_gate g = gate_at g.setup g.guests g.time (g.waiting - 1) (g.flight + 1)

-- the gate at another time
abbrev pub timed_gate : ℕ → Gate → Gate
timed_gate now g = gate_at g.setup g.guests now g.waiting g.flight

-- the gate at a time, once a request left the array
abbrev pub freed_gate : ℕ → Gate → Gate
freed_gate now g = gate_at g.setup g.guests now g.waiting (g.flight - 1)

-- the gate at a time, once a request stands among the waiting
abbrev pub placed_gate : ℕ → Gate → Gate
placed_gate now g = gate_at g.setup g.guests now (g.waiting + 1) g.flight

-- a refusal, the gate as it stood
abbrev pub refusing : Refusal → Gate → Outcome
refusing why g = outcome_of g (Refused why) unsaid

-- a send, the gate after it
abbrev pub sending : Phase → (guest id : ℕ) → Gate → Decision
sending phase n i g = decision_of (sent_gate g) (Sent phase n i)
