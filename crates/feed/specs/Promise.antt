-- What the feed promises, in the words of what is printed of a trace: the lines, the tables, and where the reading stands afterwards.
use Rattle.std.specs.Prelude.{ℕ, ◌+◌, ◌/◌, ◌≤◌, min, ◌≡◌, List, length}
use Rattle.rules.specs.Tables.{Table}
use Rattle.rules.specs.declared.Gate.{Gate}
use Rattle.table.specs.View.{table_of, Known}
use Rattle.table.specs.Does.{written}
use Rattle.lines.specs.Line.{line_of, LINE}
use Rattle.lines.specs.Put.{Put}
use Rattle.trace.specs.Event.{events_of, whole, Read}
use Rattle.trace.specs.Printed.{answered, answers_to, table_after, lines_from, Place, lines, left}

-- where the reading stands: the trace's version, the bytes that are left, the table that the lent numbers show, and the number of the last event
abbrev pub place_of : (version : ℕ) → List ℕ → ℕ → Gate → (gs ws fs : List ℕ) → Place
place_of v bs number g gs ws fs = record { version = v; bytes = bs; table = table_of g gs ws fs; number = number }

-- the lent numbers show the table u now, written over what they were, and are known again
pub record Became (u : Table) (gs ws fs : List ℕ) (g' : Gate) (gs' ws' fs' : List ℕ) : Type 0 where
  pub tables : (g', gs', ws', fs') ≡ written gs ws fs u
  pub known : Known g' gs' ws' fs'

-- one event e was judged, and its line stands in the buffer from `at` on
pub record Judged (e : Read) (number : ℕ) (g : Gate) (gs ws fs : List ℕ) (g' : Gate) (gs' ws' fs' : List ℕ) (at : ℕ) (out : List ℕ) (next : ℕ) (out' : List ℕ) : Type 0 where
  pub became : Became (answered (table_of g gs ws fs) e).table gs ws fs g' gs' ws' fs'
  pub line : Put at (line_of number (answered (table_of g gs ws fs) e).answer) out next out'
  pub short : next ≤ at + LINE

-- a run of events was judged: all whole ones of the bytes, or as many as surely have room; their lines stand at the front of the buffer
pub record FedBy (v : ℕ) (bs : List ℕ) (number : ℕ) (g : Gate) (gs ws fs : List ℕ) (g' : Gate) (gs' ws' fs' out out' : List ℕ) (events bytes : ℕ) : Type 0 where
  pub taken : events ≡ min (whole bs) (length out / LINE)
  pub became : Became (table_after (table_of g gs ws fs) (events_of v events bs)) gs ws fs g' gs' ws' fs'
  pub lines : Put 0 (lines_from number (answers_to (table_of g gs ws fs) (events_of v events bs))) out bytes out'
  pub room : bytes ≤ length out

-- all whole events of the bytes were judged: the lines are those of where the reading stood, and it stands where they leave it
pub record Turned (v : ℕ) (bs : List ℕ) (number : ℕ) (g : Gate) (gs ws fs : List ℕ) (rest : List ℕ) (number' : ℕ) (g' : Gate) (gs' ws' fs' out : List ℕ) (bytes : ℕ) (out' : List ℕ) : Type 0 where
  pub place : place_of v rest number' g' gs' ws' fs' ≡ left (place_of v bs number g gs ws fs)
  pub became : Became (left (place_of v bs number g gs ws fs)).table gs ws fs g' gs' ws' fs'
  pub lines : Put 0 (lines (place_of v bs number g gs ws fs)) out bytes out'
  pub room : bytes ≤ length out
