-- Document 02, K13: what a reading of the board's counter does to the clock, and what is told. Times are nanoseconds. Words in quotes are K13's.
use Rattle.std.specs.Prelude.{ℕ, ◌+◌, ◌-◌, ◌*◌, ◌%◌, Bool, ◌==◌, nat_lt, if◌then◌else◌}
use Rattle.rules.specs.Numbers.{ceiling}
use Rattle.rules.specs.Answers.{number_of}
use Rattle.rules.specs.declared.Refusal.TheVariants.{TimeAboveCeiling}
use Rattle.clock.specs.declared.Clock.{Clock}
use Rattle.clock.specs.declared.Told.{Told}

-- "The new board counts microseconds in 32 bits and starts again from zero.": after so many
abbrev pub wrap : ℕ
wrap = 4294967296

-- "the difference of the two readings across the wrap"
abbrev pub across : (last reading : ℕ) → ℕ
across last reading = (reading + wrap - last) % wrap

-- "elapsed time is the difference of the two readings across the wrap, times 1,000"
abbrev pub elapsed : (last reading : ℕ) → ℕ
elapsed last reading = across last reading * 1000

-- the clock of these three numbers
abbrev pub clock_of : (time last started : ℕ) → Clock
clock_of time last started = record { time = time; last = last; started = started }

-- no reading was taken yet
abbrev pub fresh : Clock → Bool
fresh c = c.started == 0

-- the time that a reading comes to: "the first setting time 0", a later one by what has elapsed
abbrev pub time_at : Clock → ℕ → ℕ
time_at c reading = if fresh c then 0 else c.time + elapsed c.last reading

-- "Keep one clock record that each reading moves on": to its time, with the reading kept; from the first on it is started
abbrev pub moved : Clock → ℕ → Clock
moved c reading = clock_of (time_at c reading) reading (if fresh c then 1 else c.started)

-- what is told: 0 or the number of the refusal, and the time
abbrev pub tells : (refusal time : ℕ) → Told
tells refusal time = record { refusal = refusal; time = time }

-- of a clock that was moved on its time is told
abbrev pub moved_to : Clock → Told × Clock
moved_to c = (tells 0 c.time, c)

-- THE PROMISE: what is told, and the clock afterwards. "Refusals: a reading that would pass the ceiling is 5 and leaves the record."
abbrev pub doing : Clock → ℕ → Told × Clock
doing c reading =
    if nat_lt ceiling (time_at c reading)
    then (tells (number_of TimeAboveCeiling) 0, c)
    else moved_to (moved c reading)
