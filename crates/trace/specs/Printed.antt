-- Document 01, "The trace": what is printed for a whole trace. "Number 14 is judged before the event's other refusals. Refused events are
-- passed over; a cut last event is a line with its number and `X 15`."
use Rattle.std.specs.Prelude.{ℕ, ◌+◌, ◌*◌, List, [], ◌∷◌, ◌++◌, drop, Some, None, Ok, Err}
use Rattle.rules.specs.Tables.{Table}
use Rattle.rules.specs.Choice.{Result}
use Rattle.rules.specs.Run.{step, fresh}
use Rattle.rules.specs.declared.Refusal.TheVariants.{BadEvent, EventCut}
use Rattle.rules.specs.declared.Answer.{Answer}
use Rattle.rules.specs.declared.Answer.TheVariants.{Refused}
use Rattle.trace.specs.Header.{body, settings_in, header_of, Header}
use Rattle.trace.specs.Event.{events_of, whole, Read}
use Rattle.lines.specs.Line.{line_of, refusal_line, title_line}
use Rattle.trace.specs.declared.Opened.{Opened}

-- an event as it was read, at a table: a bad one is refused 14 and changes nothing
unfoldable pub answered : Table → Read → Result
answered t (Some e) = step t e
answered t None = record { table = t; answer = Refused BadEvent }

-- the answers to a run of events
unfoldable pub answers_to : Table → List Read → List Answer
answers_to t [] = []
answers_to t (e ∷ es) = (answered t e).answer ∷ answers_to (answered t e).table es

-- the table after it
unfoldable pub table_after : Table → List Read → Table
table_after t [] = t
table_after t (e ∷ es) = table_after (answered t e).table es

-- a line for each answer, the first of which has the number after n
unfoldable pub lines_from : ℕ → List Answer → List ℕ
lines_from n [] = []
lines_from n (a ∷ l) = line_of (n + 1) a ++ lines_from (n + 1) l

-- where the reading stands: the trace's version, bytes that are not judged yet, the table, and the number of the last event
pub record Place : Type 0 where
  pub version : ℕ
  pub bytes : List ℕ
  pub table : Table
  pub number : ℕ

-- the whole events among the bytes
abbrev pub events : Place → List Read
events p = events_of p.version (whole p.bytes) p.bytes

-- their lines
unfoldable pub lines : Place → List ℕ
lines p = lines_from p.number (answers_to p.table (events p))

-- where the reading stands once they are judged
unfoldable pub left : Place → Place
left p =
    record {
      version = p.version;
      bytes = drop (whole p.bytes * 14) p.bytes;
      table = table_after p.table (events p);
      number = p.number + whole p.bytes;
    }

-- "a cut last event is a line with its number and `X 15`": of n events before it and these bytes
unfoldable pub cut : ℕ → List ℕ → List ℕ
cut n [] = []
cut n (b ∷ bs) = line_of (n + 1) (Refused EventCut)

-- the lines of all events, where no bytes come any more
unfoldable pub finished : Place → List ℕ
finished p = lines p ++ cut (left p).number (left p).bytes

-- where the reading of events begins: at the fresh table that the header opens
abbrev pub begun : Opened → List ℕ → Place
begun o bs =
    record { version = o.version; bytes = drop (body o.version o.guests) bs; table = fresh o.depth o.capacity o.rule (settings_in bs); number = 0 }

-- "A bad header prints the one line `trace refused` and the number. Otherwise the header line `event answer`, then a line for each event"
abbrev pub printed_by : Header → List ℕ → List ℕ
printed_by (Err r) bs = refusal_line r
printed_by (Ok o) bs = title_line ++ finished (begun o bs)

-- WHAT IS PRINTED: from the bytes of a whole trace to the bytes that the program prints
unfoldable pub printed : List ℕ → List ℕ
printed bs = printed_by (header_of bs) bs
