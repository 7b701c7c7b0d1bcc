-- What the promise of `run` says of a run, in short. Assumes nothing.
use Prim.Native.Nat.{ℕ}
use mathlib.Core.Path.{◌≡◌}
use mathlib.Core.Bool.{true}
use Rattle.port.specs.Tape.{Tape, Holds}
use Rattle.stream.specs.Outcome.{MOST, Begins}
use Rattle.stream.specs.declared.End.{End}
use Rattle.stream.specs.declared.End.TheVariants.{Whole}
use Rattle.stream.proofs.Outcomes.{ran_whole, ran_beginning}
use Rattle.trace.specs.Printed.{printed}
use Rattle.prints.specs.Standing.{Decided}

-- THE PROGRAM: where it ends well, and the input has ended, what was written is what is printed of all the bytes that were read
pub whole : (n : ℕ) → Decided Whole n → (t : Tape) × Holds n t × (t.ended ≡ true → t.wrote ≡ printed t.read)
whole = ran_whole printed MOST

-- and however it ends, what was written is a beginning of that
pub beginning : (end : End) (n : ℕ) → Decided end n → (t : Tape) × Holds n t × Begins t.wrote (printed t.read)
beginning end n = ran_beginning printed MOST n end
