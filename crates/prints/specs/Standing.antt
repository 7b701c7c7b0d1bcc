-- Where the program stands in its trace, by what it has read and written so far, and how it ends.
use Rattle.std.specs.Prelude.{ℕ, ◌≤◌, ◌<◌, ◌≡◌, Bool, false, List, ◌++◌, length}
use Rattle.rules.specs.Tables.{Table}
use Rattle.port.specs.Tape.{Tape, Holds}
use Rattle.port.specs.Moves.{Goes, brought}
use Rattle.port.specs.declared.Moved.TheVariants.{Bytes}
use Rattle.stream.specs.Runs.{Emits}
use Rattle.stream.specs.Outcome.{MOST, May, Ran}
use Rattle.stream.specs.declared.End.{End}
use Rattle.trace.specs.Printed.{Place, lines, left, finished, printed}
use Rattle.trace.specs.Reads.{more}
use Rattle.std.specs.declared.ops.ControlFlow.{ControlFlow}
use Rattle.std.specs.declared.ops.ControlFlow.TheVariants.{Continue, Break}

-- THE PROGRAM: what was written is right, and all of it where the program ends well
abbrev pub Decided : End → ℕ → Type 0
Decided end n = Ran printed MOST end n

-- what is printed is what was written, and then what is printed from the place p on, whatever comes yet
abbrev pub Stands : Tape → Place → Type 0
Stands t p = (later : List ℕ) → May t later → printed (t.read ++ later) ≡ t.wrote ++ finished (more p later)

-- the reading stands at the place p; the last read said that there are no more bytes, or it did not
pub record Standing (ended : Bool) (n : ℕ) (p : Place) : Type 0 where
  pub tape : Tape
  pub held : Holds n tape
  pub mark : tape.ended ≡ ended
  pub stands : Stands tape p

-- a turn from the place p to the place q: all whole events are judged, and their lines written, or a write failed
pub record Went (written : Bool) (p q : Place) (n n' : ℕ) : Type 0 where
  pub place : q ≡ left p
  pub emits : Emits written (lines p) n n'

-- no whole event is left: of the event behind number there are the bytes bs, and more may come
abbrev pub Rests : (n number : ℕ) → List ℕ → Type 0
Rests n number bs = (v : ℕ) × (u : Table) × Standing false n (record { version = v; bytes = bs; table = u; number = number })

-- what follows a turn: the first bytes of bs were read, or the program ends
abbrev pub Follows : ControlFlow End ℕ → List ℕ → (n n' : ℕ) → Type 0
Follows (Continue k) bs n n' = (0 < k) × (k ≤ length bs) × Goes (brought (Bytes k) bs) n n'
Follows (Break end) bs n n' = Decided end n'
