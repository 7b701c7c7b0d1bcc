-- What the functions of crates/bulk do to what a host holds and to the answers, row by row. Their own contracts, no promise of a public call.
use Rattle.std.specs.Prelude.{ℕ, ◌*◌, ◌≡◌, List, Option}
use Rattle.std.proofs.lemmas.List.Edits.{sets}
use Rattle.rules.specs.declared.Event.{Event}
use Rattle.gate.specs.Promise.{numbers}
use Rattle.gate.specs.Calls.{Host, holds}
use Rattle.batch.specs.Rows.{events_in, answer_wide, line_of, answers_over}
use Rattle.batch.specs.Promise.{one, held_after, outcomes}
use Rattle.rules.specs.declared.Event.{Event}

-- an event is done, and its answer written in row k
abbrev pub turn : Option Event → ℕ → Host numbers → List ℕ → Host numbers × List ℕ
turn r k h bs = (holds numbers (one numbers r h), sets bs (k * answer_wide) (line_of (one numbers r h).0))

-- every event is done, and its answer written in its row
pub record Ran (es : List ℕ) (h : Host numbers) (bs : List ℕ) (h' : Host numbers) (bs' : List ℕ) : Type 0 where
  pub hold : h' ≡ held_after numbers h (events_in es)
  pub answers : bs' ≡ answers_over (outcomes numbers h (events_in es)) bs
