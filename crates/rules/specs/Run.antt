-- One event, as it is answered: "then the choice is made", or "Every refusal changes no lent number and not the time." A run of events. And the
-- table that an opening gives: "A fresh table has time 0, nothing waiting or in flight, all next numbers 0."
use Rattle.std.specs.Prelude.{List, [], ◌∷◌, map, ℕ}
use Rattle.rules.specs.Tables.{Settings, Guest, Table}
use Rattle.rules.specs.Choice.{Result, choice}
use Rattle.rules.specs.Events.{Event, enter}
use Rattle.rules.specs.Refusals.{Verdict, accept, refuse, verdict}
use Rattle.rules.specs.declared.Answer.{Answer}
use Rattle.rules.specs.declared.Answer.TheVariants.{Refused}

-- what follows from a verdict: "then the choice is made", or "Every refusal changes no lent number and not the time."
unfoldable pub decided : Verdict → Table → Event → Result
decided accept t e = choice (enter t e)
decided (refuse r) t e = record { table = t; answer = Refused r }

-- one event at a table: the table afterwards, and the answer
unfoldable pub step : Table → Event → Result
step t e = decided (verdict t e) t e

-- the table after a run of events
unfoldable pub after : Table → List Event → Table
after t [] = t
after t (e ∷ es) = after (step t e).table es

-- the answers to a run of events
unfoldable pub answers : Table → List Event → List Answer
answers t [] = []
answers t (e ∷ es) = (step t e).answer ∷ answers (step t e).table es

-- a guest of a fresh table: "all next numbers 0"
abbrev pub newcomer : Settings → Guest
newcomer s = record { settings = s; rnext = 0; lnext = 0; snext = 0 }

-- "A fresh table" of these settings
unfoldable pub fresh : (depth capacity rule : ℕ) → List Settings → Table
fresh d c r ss = record { setup = record { depth = d; capacity = c; rule = r }; time = 0; guests = map newcomer ss; waiting = []; flight = [] }
