-- Which refusal number a trace's header line and an event's line show when, in plain facts about its bytes, beside the tests of Header.antt and
-- the reading of Event.antt: lists of cases, as crates/rules/specs/Refused.antt has them for the calls.
use Rattle.std.specs.Prelude.{ℕ, ◌≤◌, ◌<◌, ◌≡◌, ◌⊎◌, length, take}
use mathlib.Core.List.{List, [], ◌∷◌, Memᴰ}
use Rattle.rules.specs.Tables.{Table}
use Rattle.rules.specs.declared.Settings.{Settings}
use Rattle.rules.specs.Refused.{Case, Countable, Ruled, Good, event_cases}
use Rattle.trace.specs.Little.{byte_at, four_at}
use Rattle.trace.specs.Header.{mark, first_version, last_version, version_of, depth_of, guests_of, capacity_of, rule_of, body, settings_in}
use Rattle.trace.specs.Event.{kind_in, upper_in, event_of}
use Rattle.trace.specs.Answers.{by_event}

-- the cases of a header: "9 bytes present (13), 11, 12, counts (1), guest records present (13), guest settings (1)", and of the rule, by K9, "(absent: 13, right after
-- 12; judged with the counts)", where the versions from one to another are taken
unfoldable pub header_cases_for : (from to : ℕ) → List ℕ → List Case
header_cases_for from to bs =
    record { number = 13; condition = length bs < 9 }
    ∷ record { number = 11; condition = take 3 bs ≡ mark → ⊥ }
    ∷ record { number = 12; condition = (from ≤ version_of bs) × (version_of bs ≤ to) → ⊥ }
    ∷ record { number = 13; condition = length bs < body (version_of bs) 0 }
    ∷ record { number = 1; condition = Countable (depth_of bs) (guests_of bs) (capacity_of bs) × Ruled (rule_of bs) → ⊥ }
    ∷ record { number = 13; condition = length bs < body (version_of bs) (guests_of bs) }
    ∷ record { number = 1; condition = (s : Settings) × Memᴰ s (settings_in bs) × (Good s → ⊥) }
    ∷ []

-- the cases of a header that is read
abbrev pub header_cases : List ℕ → List Case
header_cases = header_cases_for first_version last_version

-- 14: "event kind above 2, or a tick with non-zero guest or id", and by K9 "a non-zero upper part" of an event that is no arrival, of the event at the front of
-- the bytes. Kind 3 is above 2; a byte of version 1 has no upper part
abbrev pub Faulty : (version : ℕ) → List ℕ → Type 0
Faulty v bs =
    (2 < kind_in v (byte_at bs 0))
    ⊎ ((0 < kind_in v (byte_at bs 0)) × (0 < upper_in v (byte_at bs 0)))
    ⊎ ((kind_in v (byte_at bs 0) ≡ 2) × ((0 < byte_at bs 1) ⊎ (0 < four_at bs 2)))

-- the cases of the event at the front of the bytes, at a sound table t: 15, "last event cut short"; 14, which "is judged before the event's other
-- refusals"; then those of the event that was read. Of 2 and 3 none is there: a trace has no lent tables, and finds each of its own sound
unfoldable pub line_cases : (version : ℕ) → Table → List ℕ → List Case
line_cases v t bs =
    record { number = 15; condition = length bs < 14 }
    ∷ record { number = 14; condition = Faulty v bs }
    ∷ by_event [] (event_cases t) (event_of v bs)
