-- WHAT A LIMIT IS WORTH, of the printed answers of a trace, from any of its events on. Document 02, K11. Assumes nothing.
use Prim.Native.Nat.{ℕ, ◌*◌, ◌≤◌}
use mathlib.Core.Path.{◌≡◌, refl, ap}
use mathlib.Core.List.{List, [], ◌∷◌, ◌++◌}
use lib.ListN.{drop}
use Rattle.rules.specs.Tables.{Table}
use Rattle.rules.specs.Refused.{NoneHolds}
use Rattle.rules.specs.Run.{step, answers}
use Rattle.rules.specs.declared.Answer.{Answer}
use Rattle.worth.specs.Worth.{Worth}
use Rattle.worth.proofs.Worth.{limit_worth}
use Rattle.trace.specs.Event.{whole, Read}
use Rattle.trace.specs.Header.{version_of}
use Rattle.trace.specs.Printed.{answered, answers_to}
use Rattle.trace.specs.Answers.{event_bytes, bytes_at, opening, table_at, reads_of, cut_answer, to_events, answers_after}
use Rattle.trace.specs.Cases.{header_cases}
use Rattle.trace.proofs.Runs.{run}
use Rattle.trace.proofs.Answers.{answers-later}
use Rattle.trace.proofs.LineExactly.{table-sound}
use Rattle.std.specs.Prelude.{Some, None}

-- the answers to events are those of the run of the good ones, whatever answers stand behind theirs
to-run : (rs : List Read) (t : Table) (more : List Answer) → to_events rs (answers_to t rs ++ more) ≡ answers t (run rs)
unfolding to_events answers_to answers answered
to-run [] t more = refl
to-run (Some e ∷ rs) t more = ap ((step t e).answer ∷◌) (to-run rs (step t e).table more)
to-run (None ∷ rs) t more = to-run rs t more

-- of a trace with a good header, from event k on, counted from 0
pub trace_worth : (bs : List ℕ) → NoneHolds (header_cases bs) → (k : ℕ) → k ≤ whole (event_bytes bs)
    → Worth (table_at bs k) (run (reads_of (version_of bs) (bytes_at bs k))) (answers_after bs k)
trace_worth bs good k h =
    let b = bytes_at bs k in
    let rs = reads_of (version_of bs) b in
    rw (answers-later (version_of bs) (opening bs) (event_bytes bs) k h, to-run rs (table_at bs k) (cut_answer (drop (whole b * 14) b)))
    (limit_worth (table_at bs k) (run rs) (table-sound bs good k))
