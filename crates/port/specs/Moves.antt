-- What a call does to the tape; of one call of C's read or write, by what it answered.
use Rattle.std.specs.Prelude.{◌≡◌, ℕ, ◌+◌, ◌%◌, ◌^◌, ◌<◌, ◌≤◌, Result, Ok, true, false, List, ◌++◌, take}
use Rattle.tape.specs.Tape.{Tape, Holds}
use Rattle.port.specs.declared.Moved.{Moved}
use Rattle.port.specs.declared.Moved.TheVariants.{Bytes, Nothing, Failed}

-- whatever tape the count n was of, the count n' is of what f makes of it
abbrev pub Goes : (Tape → Tape) → (n n' : ℕ) → Type 0
Goes f n n' = (t : Tape) → Holds n t → Holds n' (f t)

-- a read into a buffer that holds bs now: its first bytes came, or there are no more, or it failed
abbrev pub brought : Moved → List ℕ → Tape → Tape
brought (Bytes n) bs t = record { read = t.read ++ take n bs; wrote = t.wrote; ended = false; failed = t.failed }
brought Nothing bs t = record { read = t.read; wrote = t.wrote; ended = true; failed = t.failed }
brought Failed bs t = record { read = t.read; wrote = t.wrote; ended = t.ended; failed = true }

-- a write of the bytes bs: the first of them were taken, or it failed; one that takes none has failed
abbrev pub took : Moved → List ℕ → Tape → Tape
took (Bytes n) bs t = record { read = t.read; wrote = t.wrote ++ take n bs; ended = t.ended; failed = t.failed }
took Nothing bs t = record { read = t.read; wrote = t.wrote; ended = t.ended; failed = true }
took Failed bs t = record { read = t.read; wrote = t.wrote; ended = t.ended; failed = true }

-- bytes that were moved are at least one and at most n
abbrev pub Within : Moved → ℕ → Type 0
Within (Bytes k) n = (0 < k) × (k ≤ n)
Within Nothing n = Unit {0}
Within Failed n = Unit {0}

-- what one call did, by what std answered: so many bytes, or none
abbrev pub Answers : {E : Type 0} → Moved → Result ℕ E → Type 0
Answers (Bytes k) a = (a ≡ Ok k) × (0 < k)
Answers Nothing a = a ≡ Ok 0
Answers Failed a = Unit {0}

-- the count moved on by the bytes, and stayed where there were none
abbrev pub Counts : Moved → (n n' : ℕ) → Type 0
Counts (Bytes k) n n' = n' ≡ (n + k) % 2 ^ 64
Counts Nothing n n' = n' ≡ n
Counts Failed n n' = n' ≡ n
