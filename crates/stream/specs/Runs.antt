-- What a run of reads or of writes does to the tape: a buffer filled, bytes written.
use Rattle.std.specs.Prelude.{Result, Ok, Err, ℕ, ◌≤◌, ◌≡◌, Bool, true, false, List, ◌++◌, ltb, length, take}
use Rattle.port.specs.Tape.{Tape, Holds}
use Rattle.port.specs.Moves.{Goes}
use Rattle.stream.specs.declared.ReadFailed.{ReadFailed}

-- the first k bytes of a buffer were read; where that is not all of it, there are no more
abbrev pub filled : ℕ → List ℕ → Tape → Tape
filled k bs t = record { read = t.read ++ take k bs; wrote = t.wrote; ended = ltb k (length bs); failed = t.failed }

-- a buffer that holds bs now was filled from an input that had not ended, or a read failed
abbrev pub Fills : Result ℕ ReadFailed → List ℕ → (n n' : ℕ) → Type 0
Fills (Ok k) bs n n' = (k ≤ length bs) × ((t : Tape) → Holds n t → t.ended ≡ false → Holds n' (filled k bs t))
Fills (Err e) bs n n' = (t : Tape) → Holds n t → t.ended ≡ false → (u : Tape) × Holds n' u × (u.wrote ≡ t.wrote) × (u.failed ≡ true)

-- the bytes xs were written
abbrev pub written : List ℕ → Tape → Tape
written xs t = record { read = t.read; wrote = t.wrote ++ xs; ended = t.ended; failed = t.failed }

-- the bytes xs were written, and then a write failed
abbrev pub stopped : List ℕ → Tape → Tape
stopped xs t = record { read = t.read; wrote = t.wrote ++ xs; ended = t.ended; failed = true }

-- the bytes bs were written: all of them, or a beginning, and then a write failed
abbrev pub Emits : Bool → List ℕ → (n n' : ℕ) → Type 0
Emits true bs n n' = Goes (written bs) n n'
Emits false bs n n' = (t : Tape) → Holds n t → (k : ℕ) × Holds n' (stopped (take k bs) t)
