-- What the beginning of a trace promises: the reading stands where the events begin, at the fresh table that the header opens.
use Rattle.std.specs.Prelude.{ℕ, ◌≤◌, ◌≡◌, List, length, drop}
use Rattle.rules.specs.Run.{fresh}
use Rattle.rules.specs.declared.Gate.{Gate}
use Rattle.table.specs.Columns.{guests_long, settings_long, waiting_long, flight_long}
use Rattle.table.specs.View.{table_of, Known}
use Rattle.trace.specs.Header.{body, settings_in}
use Rattle.trace.specs.declared.Opened.{Opened}

-- room for the largest settings: 64 guests, capacity 1,024, depth 64
pub record Largest (ss gs ws fs : List ℕ) : Type 0 where
  pub settings : settings_long ≤ length ss
  pub guests : guests_long ≤ length gs
  pub waiting : waiting_long ≤ length ws
  pub flight : flight_long ≤ length fs

-- of the first bytes bs only those of events are left, and the tables are known and show the fresh table
pub record Begins (o : Opened) (bs rest : List ℕ) (g : Gate) (gs ws fs : List ℕ) : Type 0 where
  pub bytes : rest ≡ drop (body o.version o.guests) bs
  pub table : table_of g gs ws fs ≡ fresh o.depth o.capacity o.rule (settings_in bs)
  pub known : Known g gs ws fs
