-- DEMAND 3 of the printed answers of a trace: at any event, a waiting request whose reservation is due goes by reservation, after exactly those that
-- stand before it, where the trace's rule is 1, as it is in version 1; and under rule 2 as document 02, K7, has it. Words in quotes are demand 3's. Assumes nothing.
use Prim.Native.Nat.{ℕ, ◌*◌, ◌≤◌}
use mathlib.Core.Path.{◌≡◌, refl, ap, ◌∙◌}
use mathlib.Core.Bool.{true}
use mathlib.Core.List.{List, [], ◌∷◌, ◌++◌, Permᴰ}
use lib.ListN.{length, drop}
use Rattle.lists.specs.Words.{if◌then◌else◌}
use Rattle.rules.specs.Tables.{Request, Table}
use Rattle.rules.specs.declared.Event.{Event}
use Rattle.rules.specs.Refused.{NoneHolds}
use Rattle.rules.specs.Run.{step}
use Rattle.turns.specs.Turn.{is_due, ahead, sorted, finds_room, at_free, InTurn}
use Rattle.turns.specs.TurnAt.{TurnKept}
use Rattle.turns.proofs.Demand3.{demand_3}
use Rattle.turns.proofs.TurnAt.{demand_3_places}
use Rattle.rules.specs.declared.Answer.{Answer}
use Rattle.trace.specs.Header.{version_of, rule_of}
use Rattle.trace.specs.Event.{whole, Read}
use Rattle.trace.specs.Printed.{answered, answers_to}
use Rattle.trace.specs.Answers.{event_bytes, bytes_at, opening, table_at, reads_of, cut_answer, free_answers, free_from}
use Rattle.trace.specs.Cases.{header_cases}
use Rattle.trace.proofs.Runs.{run}
use Rattle.trace.proofs.Answers.{answers-later}
use Rattle.trace.proofs.LineExactly.{table-sound}
use Rattle.trace.proofs.RuleOne.{rule_kept}
use Rattle.std.specs.Prelude.{Some, None}

-- one event
free_event : (t : Table) (e : Event) (l m : List Answer) → l ≡ m
    → (if finds_room t e then (step t e).answer ∷ l else l) ≡ (if finds_room t e then (step t e).answer ∷ m else m)
free_event t e l m p = λ j. if finds_room t e then (step t e).answer ∷ p j else p j

-- the answers at the events that find a place free are those of the run of the good events, whatever answers stand behind theirs
free-run : (rs : List Read) (t : Table) (more : List Answer) → free_answers t rs (answers_to t rs ++ more) ≡ at_free t (run rs)
unfolding free_answers answers_to at_free answered
free-run [] t more = refl
free-run (Some e ∷ rs) t more = free_event t e _ _ (free-run rs (step t e).table more)
free-run (None ∷ rs) t more = free-run rs t more

-- the answers of a trace from event k on
free_from_lem : (bs : List ℕ) (k : ℕ) → k ≤ whole (event_bytes bs) → free_from bs k ≡ at_free (table_at bs k) (run (reads_of (version_of bs) (bytes_at bs k)))
free_from_lem bs k h =
    let b = bytes_at bs k in
    ap (free_answers (table_at bs k) (reads_of (version_of bs) b)) (answers-later (version_of bs) (opening bs) (event_bytes bs) k h)
    ∙ free-run (reads_of (version_of bs) b) (table_at bs k) (cut_answer (drop (whole b * 14) b))

-- "the accepted events that find a place free at the array .. send exactly those k first, then this request at the (k+1)th, each by reservation": x waits
-- and is due when event i comes, with those of a accepted before it and those of b after it
pub trace_demand_3 : (bs : List ℕ) → NoneHolds (header_cases bs) → rule_of bs ≡ 1 → (i : ℕ) → i ≤ whole (event_bytes bs) → (a b : List Request) (x : Request)
    → (table_at bs i).waiting ≡ a ++ x ∷ b → is_due (table_at bs i) x ≡ true
    → (those : List Request) × (those ≡ sorted (ahead (table_at bs i) x a b)) × Permᴰ those (ahead (table_at bs i) x a b)
    × (length those ≡ length (ahead (table_at bs i) x a b)) × InTurn those x (free_from bs i)
trace_demand_3 bs good one i h a b x w due =
    let d = demand_3 (table_at bs i) a b x (run (reads_of (version_of bs) (bytes_at bs i))) (table-sound bs good i) (rule_kept bs i ∙ one) w due in
    (d.0, d.1, d.2, d.3, rw (free_from_lem bs i h) d.4)

-- The same by places, under the rule of the trace: the request at place i of those that wait is due when event k comes.
pub trace_demand_3_places : (bs : List ℕ) → NoneHolds (header_cases bs) → (k : ℕ) → k ≤ whole (event_bytes bs) → (i : ℕ) → TurnKept (table_at bs k) i (free_from bs k)
trace_demand_3_places bs good k h i = rw (free_from_lem bs k h) (demand_3_places (table_at bs k) i (run (reads_of (version_of bs) (bytes_at bs k))) (table-sound bs good k))
