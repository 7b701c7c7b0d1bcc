-- Document 01's example trace, whole, and headers that are refused: what is printed, byte by byte. Assumes nothing.
use Prim.Native.Nat.{ℕ}
use mathlib.Core.Path.{◌≡◌, refl}
use mathlib.Core.List.{List, [], ◌∷◌, ◌++◌}
use Rattle.lists.specs.Words.{lowest}
use Rattle.rules.specs.Numbers.{down, up}
use Rattle.rules.specs.Tables.{idle}
use Rattle.rules.specs.Sound.{counted, settled, ranges, distinct, lawful, fair, spread, kept, orderly, ruled, sound}
use Rattle.rules.specs.Choice.{due_at, open_at, passes_at, sending, earlier, renewed, dropped, by_weight, by_reservation, room, choice}
use Rattle.rules.specs.Events.{shifted, shifted_next, adjusted, back, share_tag, stamped, following, placed, raised, arrive_as, arrive, complete, wait, enter}
use Rattle.rules.specs.Refusals.{event_tests}
use Rattle.rules.specs.Run.{decided, step, fresh}
use Rattle.trace.specs.Header.{same, body, rule_in, credit_at, header_tests_for}
use Rattle.trace.specs.Event.{kind_in, upper_in, event_from, event_of, events_of}
use Rattle.lines.specs.Line.{decimal_in, line_of, trace_refused, refusal_line, title_line}
use Rattle.trace.specs.Printed.{answered, answers_to, table_after, lines_from, lines, left, cut, finished, printed}

-- "depth 4, one guest (reservation 100, limit 250, shares 1), capacity 8"; "arrivals of ids 1, 2, 3, 4 at 0; ticks at 4, 8, 10, 9; completion
-- of id 1 at 10, twice", and these times in ms
abbrev pub example : List ℕ
example =
    83 ∷ 71 ∷ 81 ∷ 1 ∷ 0 ∷ 4 ∷ 1 ∷ 8 ∷ 0
    ∷ 100 ∷ 0 ∷ 0 ∷ 0 ∷ 250 ∷ 0 ∷ 0 ∷ 0 ∷ 1 ∷ 0 ∷ 0 ∷ 0
    ∷ 0 ∷ 0 ∷ 1 ∷ 0 ∷ 0 ∷ 0 ∷ 0 ∷ 0 ∷ 0 ∷ 0 ∷ 0 ∷ 0 ∷ 0 ∷ 0
    ∷ 0 ∷ 0 ∷ 2 ∷ 0 ∷ 0 ∷ 0 ∷ 0 ∷ 0 ∷ 0 ∷ 0 ∷ 0 ∷ 0 ∷ 0 ∷ 0
    ∷ 0 ∷ 0 ∷ 3 ∷ 0 ∷ 0 ∷ 0 ∷ 0 ∷ 0 ∷ 0 ∷ 0 ∷ 0 ∷ 0 ∷ 0 ∷ 0
    ∷ 0 ∷ 0 ∷ 4 ∷ 0 ∷ 0 ∷ 0 ∷ 0 ∷ 0 ∷ 0 ∷ 0 ∷ 0 ∷ 0 ∷ 0 ∷ 0
    ∷ 2 ∷ 0 ∷ 0 ∷ 0 ∷ 0 ∷ 0 ∷ 0 ∷ 9 ∷ 61 ∷ 0 ∷ 0 ∷ 0 ∷ 0 ∷ 0
    ∷ 2 ∷ 0 ∷ 0 ∷ 0 ∷ 0 ∷ 0 ∷ 0 ∷ 18 ∷ 122 ∷ 0 ∷ 0 ∷ 0 ∷ 0 ∷ 0
    ∷ 2 ∷ 0 ∷ 0 ∷ 0 ∷ 0 ∷ 0 ∷ 128 ∷ 150 ∷ 152 ∷ 0 ∷ 0 ∷ 0 ∷ 0 ∷ 0
    ∷ 2 ∷ 0 ∷ 0 ∷ 0 ∷ 0 ∷ 0 ∷ 64 ∷ 84 ∷ 137 ∷ 0 ∷ 0 ∷ 0 ∷ 0 ∷ 0
    ∷ 1 ∷ 0 ∷ 1 ∷ 0 ∷ 0 ∷ 0 ∷ 128 ∷ 150 ∷ 152 ∷ 0 ∷ 0 ∷ 0 ∷ 0 ∷ 0
    ∷ 1 ∷ 0 ∷ 1 ∷ 0 ∷ 0 ∷ 0 ∷ 128 ∷ 150 ∷ 152 ∷ 0 ∷ 0 ∷ 0 ∷ 0 ∷ 0 ∷ []

-- "Output, whole", a line of it in each line here
abbrev pub text : List ℕ
text =
    101 ∷ 118 ∷ 101 ∷ 110 ∷ 116 ∷ 32 ∷ 97 ∷ 110 ∷ 115 ∷ 119 ∷ 101 ∷ 114 ∷ 10
    ∷ 49 ∷ 32 ∷ 82 ∷ 32 ∷ 48 ∷ 32 ∷ 49 ∷ 10
    ∷ 50 ∷ 32 ∷ 45 ∷ 10
    ∷ 51 ∷ 32 ∷ 45 ∷ 10
    ∷ 52 ∷ 32 ∷ 45 ∷ 10
    ∷ 53 ∷ 32 ∷ 87 ∷ 32 ∷ 48 ∷ 32 ∷ 50 ∷ 10
    ∷ 54 ∷ 32 ∷ 87 ∷ 32 ∷ 48 ∷ 32 ∷ 51 ∷ 10
    ∷ 55 ∷ 32 ∷ 82 ∷ 32 ∷ 48 ∷ 32 ∷ 52 ∷ 10
    ∷ 56 ∷ 32 ∷ 88 ∷ 32 ∷ 54 ∷ 10
    ∷ 57 ∷ 32 ∷ 45 ∷ 10
    ∷ 49 ∷ 48 ∷ 32 ∷ 88 ∷ 32 ∷ 49 ∷ 48 ∷ 10 ∷ []

-- document 01's example, byte by byte
pub example-printed : printed example ≡ text
unfolding lowest down up idle counted settled ranges distinct lawful fair spread kept orderly sound ruled due_at open_at passes_at sending earlier renewed dropped by_weight by_reservation room choice shifted shifted_next adjusted back share_tag stamped following placed raised arrive_as arrive complete wait enter event_tests decided step fresh same body rule_in credit_at header_tests_for kind_in upper_in event_from event_of events_of decimal_in line_of answered answers_to table_after lines_from lines left cut finished printed
example-printed = refl

-- HEADERS AND EVENTS THAT ARE REFUSED

-- a line `trace refused` with these digits
abbrev refused : List ℕ → List ℕ
refused ds = trace_refused ++ (32 ∷ (ds ++ (10 ∷ [])))

-- a record of one guest: reservation, limit and shares in one byte each
abbrev guest : (reservation limit shares : ℕ) → List ℕ
guest r l s = r ∷ 0 ∷ 0 ∷ 0 ∷ l ∷ 0 ∷ 0 ∷ 0 ∷ s ∷ 0 ∷ 0 ∷ 0 ∷ []

-- depth 1, one guest, capacity 8
abbrev opening : List ℕ
opening = 83 ∷ 71 ∷ 81 ∷ 1 ∷ 0 ∷ 1 ∷ 1 ∷ 8 ∷ 0 ∷ []

-- headers of which each breaks the next rule as well, one that is just good, and bad events
pub record Refusals : Type 0 where
  pub nothing_there : printed [] ≡ refused (49 ∷ 51 ∷ [])
  pub eight-bytes : printed (83 ∷ 71 ∷ 82 ∷ 1 ∷ 0 ∷ 1 ∷ 1 ∷ 8 ∷ []) ≡ refused (49 ∷ 51 ∷ [])
  pub mark-first : printed (83 ∷ 71 ∷ 82 ∷ 2 ∷ 0 ∷ 1 ∷ 1 ∷ 8 ∷ 0 ∷ []) ≡ refused (49 ∷ 49 ∷ [])
  pub then_version : printed (83 ∷ 71 ∷ 81 ∷ 1 ∷ 1 ∷ 0 ∷ 1 ∷ 8 ∷ 0 ∷ []) ≡ refused (49 ∷ 50 ∷ [])
  pub then_counts : printed (83 ∷ 71 ∷ 81 ∷ 1 ∷ 0 ∷ 65 ∷ 1 ∷ 8 ∷ 0 ∷ []) ≡ refused (49 ∷ [])
  pub then-records : printed (opening ++ (9 ∷ 0 ∷ 0 ∷ 0 ∷ 8 ∷ 0 ∷ 0 ∷ 0 ∷ 1 ∷ 0 ∷ 0 ∷ [])) ≡ refused (49 ∷ 51 ∷ [])
  pub then-settings : printed (opening ++ (guest 9 8 1 ++ (3 ∷ []))) ≡ refused (49 ∷ [])
  pub equal_is_good : printed (opening ++ guest 8 8 1) ≡ title_line
  -- a kind above 2 of an unknown guest, a tick with an id, a tick with a guest, and an event that is cut short
  pub bad_events : printed
      (opening ++ (guest 0 0 1
      ++ (3 ∷ 9 ∷ 1 ∷ 0 ∷ 0 ∷ 0 ∷ 0 ∷ 0 ∷ 0 ∷ 0 ∷ 0 ∷ 0 ∷ 0 ∷ 255
      ∷ 2 ∷ 0 ∷ 1 ∷ 0 ∷ 0 ∷ 0 ∷ 0 ∷ 0 ∷ 0 ∷ 0 ∷ 0 ∷ 0 ∷ 0 ∷ 0
      ∷ 2 ∷ 1 ∷ 0 ∷ 0 ∷ 0 ∷ 0 ∷ 0 ∷ 0 ∷ 0 ∷ 0 ∷ 0 ∷ 0 ∷ 0 ∷ 0
      ∷ 2 ∷ [])))
      ≡ title_line ++ (49 ∷ 32 ∷ 88 ∷ 32 ∷ 49 ∷ 52 ∷ 10 ∷ 50 ∷ 32 ∷ 88 ∷ 32 ∷ 49 ∷ 52 ∷ 10 ∷ 51 ∷ 32 ∷ 88 ∷ 32 ∷ 49 ∷ 52 ∷ 10 ∷ 52 ∷ 32 ∷ 88 ∷ 32 ∷ 49 ∷ 53 ∷ 10 ∷ [])

-- and they are so printed
pub refusals : Refusals
unfolding counted ruled settled same body rule_in credit_at header_tests_for kind_in upper_in event_from event_of events_of decimal_in line_of refusal_line answered answers_to table_after lines_from lines left cut finished printed
refusals =
    record {
      nothing_there = refl;
      eight-bytes = refl;
      mark-first = refl;
      then_version = refl;
      then_counts = refl;
      then-records = refl;
      then-settings = refl;
      equal_is_good = refl;
      bad_events = refl;
    }
