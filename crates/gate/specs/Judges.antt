-- What crates/calling/src/numbers.rt and crates/opens/src/lib.rt find before a call moves anything. Contracts of their functions, no promise of a public call.
use Rattle.std.specs.Prelude.{ℕ, ◌*◌, ◌≤◌, ◌≡◌, List, length, Ok, Err, Result}
use Rattle.rules.specs.declared.Event.{Event}
use Rattle.rules.specs.Refusals.{accept, refuse}
use Rattle.rules.specs.declared.Gate.{Gate}
use Rattle.rules.specs.declared.Answer.TheVariants.{Refused}
use Rattle.rules.specs.declared.Outcome.{Outcome}
use Rattle.rules.specs.Waking.{unsaid}
use Rattle.rules.specs.declared.Refusal.{Refusal}
use Rattle.table.specs.Columns.{guest_wide, waiting_wide, flight_wide, settings_wide, most_guests, most_depth, most_capacity}
use Rattle.table.specs.View.{gate_at, outcome_of, Known}
use Rattle.gate.specs.Promise.{numbers, unchanged, called, unopened, opening_in}

-- what `judge` finds of lent tables is true: they are known to be sound, or every call on them is refused so
abbrev pub Judges : Gate → (gs ws fs : List ℕ) → Result Unit Refusal → Type 0
Judges g gs ws fs (Ok _) = Known g gs ws fs
Judges g gs ws fs (Err r) = (e : Event) → called e g gs ws fs ≡ unchanged g gs ws fs (Refused r)

-- the lent lists of an opening are as long as depth d, n guests and capacity c need, and these lie in their ranges
pub record OpenRoom (d n c : ℕ) (ss gs ws fs : List ℕ) : Type 0 where
  pub settings : n * settings_wide ≤ length ss
  pub guests : n * guest_wide ≤ length gs
  pub waiting : c * waiting_wide ≤ length ws
  pub flight : d * flight_wide ≤ length fs
  pub most : (d ≤ most_depth) × (n ≤ most_guests) × (c ≤ most_capacity)

-- what `judge_opening` finds is true: the opening is accepted, or it is refused so
abbrev pub JudgesOpening : (d n c rule : ℕ) (ss gs ws fs : List ℕ) → Result Unit Refusal → Type 0
JudgesOpening d n c rule ss gs ws fs (Ok _) = (opening_in numbers d n c rule ss gs ws fs ≡ accept) × OpenRoom d n c ss gs ws fs
JudgesOpening d n c rule ss gs ws fs (Err r) = opening_in numbers d n c rule ss gs ws fs ≡ refuse r

-- the gate of a fresh table with depth d, n guests, capacity c and this rule
abbrev pub fresh_gate : (d n c rule : ℕ) → Gate
fresh_gate d n c rule = gate_at (record { depth = d; capacity = c; rule = rule }) n 0 0 0

-- what a refused opening answers
abbrev pub not_opened : Refusal → Outcome
not_opened r = outcome_of unopened (Refused r) unsaid
