-- What the functions of crates/ties and crates/hears tell each other.
use Rattle.std.specs.Prelude.{ℕ, ◌≤◌, ◌≡◌, Bool, true, List, eqb, length, if◌then◌else◌, Option, Some, None}
use Rattle.rules.specs.Numbers.{ceiling}
use Rattle.rules.specs.Tables.{Table}
use Rattle.rules.specs.Choice.{Result}
use Rattle.rules.specs.Chosen.{at}
use Rattle.rules.specs.declared.Gate.{Gate}
use Rattle.rules.specs.declared.Phase.{Phase}
use Rattle.rules.specs.declared.Phase.TheVariants.{Reservation, Weight}
use Rattle.rules.specs.declared.Answer.{Answer}
use Rattle.rules.specs.declared.Answer.TheVariants.{Sent}
use Rattle.table.specs.Columns.{RTAG, STAG}
use Rattle.table.specs.View.{table_of, Known}
use Rattle.lines.specs.Line.{line_of}
use Rattle.judge.specs.Judging.{Heard, follows, wrong, tag_in, named, place_from, leads, heard_in}
use Rattle.judge.specs.declared.Said.{Said}
use Rattle.judge.specs.declared.Told.{Told}

-- A LINE

-- how many bytes a line has, where a test of it holds
abbrev pub size_if : Bool → List ℕ → Option ℕ
size_if b xs = if b then Some (length xs) else None

-- what was heard, of its parts
abbrev pub said_of : Gate → Answer → (long : Option ℕ) → Said
said_of g a long = record { gate = g; answer = a; long = long }

-- A PHASE

-- where the tag by which a phase chooses stands in a row
abbrev pub tag_column : Phase → ℕ
tag_column Reservation = RTAG
tag_column Weight = STAG

-- the latest limit tag that passes in a phase; an unlimited guest's limit tags are 0
abbrev pub latest_in : Phase → Gate → ℕ
latest_in Reservation g = if eqb g.setup.rule 2 then g.time else ceiling
latest_in Weight g = g.time

-- a tag that the reservation phase picks is at or before the time
abbrev pub Timely : Phase → (tag : ℕ) → Gate → Type 0
Timely Reservation tag g = tag ≤ g.time
Timely Weight tag g = Unit {0}

-- the tables are known, whatever is in flight
abbrev pub Lending : Gate → (gs ws : List ℕ) → Type 0
Lending g gs ws = (fs : List ℕ) × Known g gs ws fs

-- of the requests that tie with the one at `place`, this one is the first whose line the lines begin with, and its line is so long
pub record Names (n : ℕ) (ls : List ℕ) (p : Phase) (t : Table) (place : ℕ) (r : Told) : Type 0 where
  pub one : place_from (named n ls p t (tag_in p (at t.waiting place))) 0 t.waiting ≡ Some r.place
  pub size : r.long ≡ length (line_of n (Sent p (at t.waiting r.place).guest (at t.waiting r.place).id))

-- what is told: that one, or that the lines begin with the line of none
abbrev pub Tells : (n : ℕ) (ls : List ℕ) → Phase → Table → (place : ℕ) → Option Told → Type 0
Tells n ls p t place (Some r) = Names n ls p t place r
Tells n ls p t place None = place_from (named n ls p t (tag_in p (at t.waiting place))) 0 t.waiting ≡ None

-- the lines say that this one goes, which is the first waiting of its guest; or they are wrong
abbrev pub Finds : (n : ℕ) (ls : List ℕ) → Phase → Table → (place : ℕ) → Option Told → Type 0
Finds n ls p t place (Some r) = Names n ls p t place r × (leads t.waiting r.place ≡ true)
Finds n ls p t place None = heard_in n ls p t (tag_in p (at t.waiting place)) ≡ wrong

-- WHAT IS LEFT

-- the lent numbers show the table of a result, and are known
pub record Sends (r : Result) (g : Gate) (gs ws fs : List ℕ) : Type 0 where
  pub shows : table_of g gs ws fs ≡ r.table
  pub known : Known g gs ws fs

-- the lines follow with a result, whose line is so long, and the lent numbers follow it
pub record Followed (h : Heard) (n : ℕ) (g : Gate) (long : ℕ) (gs ws fs : List ℕ) : Type 0 where
  pub result : Result
  pub says : h ≡ follows result
  pub sends : Sends result g gs ws fs
  pub size : long ≡ length (line_of n result.answer)

-- what was heard, where a was due, and the lent numbers became gs, ws and fs
pub record Hears (h : Heard) (a : Answer) (n : ℕ) (r : Said) (gs ws fs : List ℕ) : Type 0 where
  pub due : r.answer ≡ a
  pub errs : r.long ≡ None → h ≡ wrong
  pub goes : (long : ℕ) → r.long ≡ Some long → Followed h n r.gate long gs ws fs
