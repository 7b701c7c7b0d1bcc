-- Which number refuses a move when, in plain facts about the bytes, beside the tests of Moves.antt: a list of cases, as crates/trace/specs/Cases.antt has
-- them for the lines; and which event is named with it. Words in quotes are K9's.
use Rattle.std.specs.Prelude.{ℕ, ◌+◌, ◌%◌, ◌<◌, ◌≡◌, length}
use mathlib.Core.List.{List, [], ◌∷◌, ◌++◌, Memᴰ}
use Rattle.rules.specs.declared.Settings.{Settings}
use Rattle.rules.specs.Refused.{Case, NoneHolds}
use Rattle.trace.specs.Little.{byte_at}
use Rattle.trace.specs.Header.{version_of, rule_of, settings_in}
use Rattle.trace.specs.Event.{kind_in, upper_in, whole}
use Rattle.trace.specs.Answers.{event_bytes, bytes_at}
use Rattle.trace.specs.Cases.{header_cases_for, Faulty}
use Rattle.moved.specs.Result.{moved_to}

-- the event at the front of the bytes is an arrival of another cost than 1: "the cost less one in the upper six"
abbrev pub Dear : (version : ℕ) → List ℕ → Type 0
Dear v bs = (kind_in v (byte_at bs 0) ≡ 0) × (0 < upper_in v (byte_at bs 0))

-- what version 1 can say: "rule 1, credit 0, cost 1"
pub record Sayable (bs : List ℕ) : Type 0 where
  pub rule : rule_of bs ≡ 1
  pub credits : (s : Settings) → Memᴰ s (settings_in bs) → s.credit ≡ 0
  pub costs : (k : ℕ) → k < whole (event_bytes bs) → Dear (version_of bs) (bytes_at bs k) → ⊥

-- "header faults, a trace of the wrong version being 12, then the first event with 14 or 15; 19, a version 2 trace that has another rule, credit or cost
-- cannot go back; 21, room too short, last"
unfoldable pub body_cases : (to : ℕ) → List ℕ → (room : ℕ) → List Case
body_cases to bs room =
    record { number = 14; condition = (k : ℕ) × (k < whole (event_bytes bs)) × Faulty (version_of bs) (bytes_at bs k) }
    ∷ record { number = 15; condition = 0 < length (event_bytes bs) % 14 }
    ∷ record { number = 19; condition = Sayable bs → ⊥ }
    ∷ record { number = 21; condition = room < length (moved_to to bs) }
    ∷ []

-- the whole list of them: the header's, with one version alone taken, and then these
abbrev pub move_cases : (from to : ℕ) → List ℕ → (room : ℕ) → List Case
move_cases from to bs room = header_cases_for from from bs ++ body_cases to bs room

-- the number e is that of the first event of n of which P is so
pub record FirstEvent (P : ℕ → Type 0) (n e : ℕ) : Type 0 where
  pub place : ℕ
  pub numbered : e ≡ place + 1
  pub there : place < n
  pub so : P place
  pub none_before : (j : ℕ) → j < place → P j → ⊥

-- a trace that reading refuses nothing of, in plain facts: "well-formed"
pub record WellFormed (version : ℕ) (bs : List ℕ) : Type 0 where
  pub header : NoneHolds (header_cases_for version version bs)
  pub events : (k : ℕ) → k < whole (event_bytes bs) → Faulty (version_of bs) (bytes_at bs k) → ⊥
  pub uncut : length (event_bytes bs) % 14 ≡ 0
