-- Document 02, K13: what the theorems say of a clock, in facts and over runs of readings. Words in quotes are K13's.
use Rattle.std.specs.Prelude.{◌≡◌, ℕ, ◌+◌, ◌-◌, ◌*◌, ◌%◌, ◌<◌, ◌≤◌, List, [], ◌∷◌, map, ◌≢◌, if◌then◌else◌}
use Rattle.rules.specs.Numbers.{ceiling}
use Rattle.rules.specs.Refused.{Case}
use Rattle.clock.specs.declared.Clock.{Clock}
use Rattle.clock.specs.declared.Told.{Told}
use Rattle.clock.specs.Reading.{wrap, elapsed, clock_of, fresh, doing}

-- REFUSALS

-- a reading was taken before
abbrev pub Started : Clock → Type 0
Started c = c.started ≡ 0 → ⊥

-- "Refusals: a reading that would pass the ceiling is 5", in plain facts
abbrev pub clock_cases : Clock → ℕ → List Case
clock_cases c r = record { number = 5; condition = Started c × (ceiling < c.time + elapsed c.last r) } ∷ []

-- what is told is a refusal with number n
abbrev pub Refuses : Told → ℕ → Type 0
Refuses s n = (s.refusal ≡ n) × (n ≢ 0)

-- it is none
abbrev pub Takes : Told → Type 0
Takes s = s.refusal ≡ 0

-- RUNS

-- what each reading of a run is told, and the clock after it
unfoldable pub run : Clock → List ℕ → List (Told × Clock)
run c [] = []
run c (r ∷ rs) = doing c r ∷ run (doing c r).1 rs

-- the clock after a run
unfoldable pub after : Clock → List ℕ → Clock
after c [] = c
after c (r ∷ rs) = after (doing c r).1 rs

-- the time of the clock after each reading of a run
abbrev pub times : Clock → List ℕ → List ℕ
times c rs = map (λ (p : Told × Clock). p.1.time) (run c rs)

-- the time from which a clock goes on: "the first setting time 0"
abbrev pub begins : Clock → ℕ
begins c = if fresh c then 0 else c.time

-- no number of the list is below the one before it, the first not below x
unfoldable pub Rising : ℕ → List ℕ → Type 0
Rising x [] = Unit {0}
Rising x (y ∷ l) = (x ≤ y) × Rising y l

-- THE TRUE TIME

-- what the board shows at an instant, in microseconds: it "counts microseconds in 32 bits and starts again from zero"
abbrev pub shows : ℕ → ℕ
shows u = u % wrap

-- "It is right where readings are less than 4,294,967,296 microseconds apart": instants after s, each so near to the one before it
unfoldable pub Near : ℕ → List ℕ → Type 0
Near s [] = Unit {0}
Near s (u ∷ us) = (s ≤ u) × (u - s < wrap) × Near u us

-- the true time at the instant u of a clock that was first read at the instant t, in nanoseconds
abbrev pub since : ℕ → ℕ → ℕ
since t u = (u - t) * 1000

-- at no instant of the list it passes the ceiling
unfoldable pub Within : ℕ → List ℕ → Type 0
Within t [] = Unit {0}
Within t (u ∷ us) = (since t u ≤ ceiling) × Within t us

-- the clock that has the true time at the instant u, when the board was last read
abbrev pub true_at : ℕ → ℕ → Clock
true_at t u = clock_of (since t u) (shows u) 1
