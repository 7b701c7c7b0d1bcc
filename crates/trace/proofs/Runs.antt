-- The answers to events as they were read are those of a run of the rules over the good ones, with refusal 14 in the place of each bad one; so
-- what is proved of runs holds of a trace. Assumes nothing.
use mathlib.Core.Path.{◌≡◌, refl, ap}
use mathlib.Core.List.{List, [], ◌∷◌, ◌++◌}
use lib.ListN.{length, take, drop}
use Rattle.lists.specs.Words.{if◌then◌else◌, empty}
use Rattle.rules.specs.Tables.{Table}
use Rattle.rules.specs.declared.Event.{Event}
use Rattle.rules.specs.Run.{step, after, answers}
use Rattle.rules.specs.declared.Refusal.TheVariants.{BadEvent}
use Rattle.rules.specs.declared.Answer.{Answer}
use Rattle.rules.specs.declared.Answer.TheVariants.{Refused}
use Rattle.trace.specs.Printed.{answered, answers_to, table_after}
use Rattle.std.specs.Prelude.{Some, None}
use Rattle.trace.specs.Event.{Read}

-- what an event that was read means to the rules: an event, or none where it is bad
abbrev pub meant : Read → List Event
meant (Some e) = e ∷ []
meant None = []

-- the run of a list of events that were read
abbrev pub run : List Read → List Event
run [] = []
run (e ∷ es) = meant e ++ run es

-- the answers to the good events, with 14 in the place of each bad one
abbrev pub woven : List Read → List Answer → List Answer
woven [] l = []
woven (e ∷ es) l = (if empty (meant e) then Refused BadEvent ∷ [] else take 1 l) ++ woven es (drop (length (meant e)) l)

-- "Refused events are passed over": the table is the one after the run
pub table-run : (t : Table) (es : List Read) → table_after t es ≡ after t (run es)
unfolding table_after after answered
table-run t [] = refl
table-run t (Some e ∷ es) = table-run (step t e).table es
table-run t (None ∷ es) = table-run t es

-- the answers are those to the run
pub answers-run : (t : Table) (es : List Read) → answers_to t es ≡ woven es (answers t (run es))
unfolding answers_to answers answered
answers-run t [] = refl
answers-run t (Some e ∷ es) = ap (λ (l : List Answer). (step t e).answer ∷ l) (answers-run (step t e).table es)
answers-run t (None ∷ es) = ap (λ (l : List Answer). Refused BadEvent ∷ l) (answers-run t es)
