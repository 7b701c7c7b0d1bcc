-- The refusals of the calls at one of several arrays in plain facts, in the order in which they are judged: those of document 02, K14, and then the gate's own.
-- Words in quotes are K14's.
use Rattle.std.specs.Prelude.{ℕ, ◌*◌, ◌≤◌, ◌<◌, ◌≡◌, not, List, [], ◌∷◌, ◌++◌, ◌⊎◌, length, get_or}
use Rattle.rules.specs.Numbers.{most_delta}
use Rattle.rules.specs.Refused.{Case, Countable, Ruled, call_cases, open_cases}
use Rattle.rules.specs.declared.Gate.{Gate}
use Rattle.gate.specs.Promise.{numbers, short_in, sound_in, table_in, settings_in, open_short_in}
use Rattle.arrays.specs.declared.Site.{Site}
use Rattle.arrays.specs.declared.Ask.{Ask}
use Rattle.arrays.specs.declared.Ask.TheVariants.{Arrives, Completes, Ticks}
use Rattle.arrays.specs.Counters.{most_arrays, counter_wide, DELTA, RHO, counter_at}
use Rattle.arrays.specs.Promise.{handed_on}

-- "1 to 8 arrays"
abbrev pub Several : (arrays : ℕ) → Type 0
Several m = (1 ≤ m) × (m ≤ most_arrays)

-- counters or phases are too short
abbrev pub Short : (arrays n d : ℕ) → (cs ps : List ℕ) → Type 0
Short m n d cs ps = (length cs < m * n * counter_wide) ⊎ (length ps < d)

-- a row of counters that is out of range: delta above 65,535, or rho above delta
abbrev pub Astray : List ℕ → (row : ℕ) → Type 0
Astray cs row = (most_delta < counter_at cs row DELTA) ⊎ (counter_at cs row DELTA < counter_at cs row RHO)

-- a place whose phase is out of step, where n requests fly: one of them without a phase, or a phase with none of them
abbrev pub Stray : (n : ℕ) → List ℕ → (i : ℕ) → Type 0
Stray n ps i = ((i < n) × (get_or ps i 0 ≡ 1 → ⊥) × (get_or ps i 0 ≡ 2 → ⊥)) ⊎ ((n ≤ i) × (get_or ps i 0 ≡ 0 → ⊥))

-- counters out of range, or phases out of step with a flight table of d places in which n requests fly
abbrev pub Wrong : (rows n d : ℕ) → (cs ps : List ℕ) → Type 0
Wrong rows n d cs ps = ((row : ℕ) × (row < rows) × Astray cs row) ⊎ ((d < n) ⊎ ((i : ℕ) × (i < d) × Stray n ps i))

-- "an unknown guest is 4, then an array not there 22"
abbrev pub place_cases : Site → Gate → Ask → List Case
place_cases s g (Arrives a now) = record { number = 4; condition = g.guests ≤ a.guest } ∷ record { number = 22; condition = s.arrays ≤ s.array } ∷ []
place_cases s g (Completes f now) = record { number = 4; condition = g.guests ≤ f.guest } ∷ record { number = 22; condition = s.arrays ≤ s.array } ∷ []
place_cases s g (Ticks now) = record { number = 22; condition = s.arrays ≤ s.array } ∷ []

-- an event's own, then the gate's
unfoldable pub ask_cases : Site → Gate → (gs ws fs cs ps : List ℕ) → Ask → List Case
ask_cases s g gs ws fs cs ps k =
    record { number = 22; condition = Several s.arrays → ⊥ }
    ∷ record { number = 3; condition = Countable g.setup.depth g.guests g.setup.capacity → ⊥ }
    ∷ record { number = 2; condition = Short s.arrays g.guests g.setup.depth cs ps }
    ∷ record { number = 3; condition = Wrong (s.arrays * g.guests) g.flight g.setup.depth cs ps }
    ∷ place_cases s g k
    ++ call_cases (short_in numbers g gs ws fs) (not (sound_in numbers g gs ws fs)) (table_in numbers g gs ws fs) (handed_on s g cs k)

-- an opening's own, then the gate's
unfoldable pub opening_cases : Site → (d n c rule : ℕ) → (ss gs ws fs cs ps : List ℕ) → List Case
opening_cases s d n c rule ss gs ws fs cs ps =
    record { number = 22; condition = Several s.arrays → ⊥ }
    ∷ record { number = 22; condition = s.arrays ≤ s.array }
    ∷ record { number = 1; condition = Countable d n c → ⊥ }
    ∷ record { number = 1; condition = Ruled rule → ⊥ }
    ∷ record { number = 2; condition = Short s.arrays n d cs ps }
    ∷ open_cases (open_short_in numbers d n c ss gs ws fs) d n c rule (settings_in ss n)
