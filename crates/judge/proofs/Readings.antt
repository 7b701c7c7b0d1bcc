-- Readings of the judge: one trace, and lines of it, byte by byte. Depth 1, two guests without reservation or limit and with shares 1, capacity 8, all at time 0:
-- guest 0's id 1 arrives and is sent, its id 2 and guest 1's id 7 arrive and wait with equal share tags; then guest 0's id 1 completes, and its id 2. Assumes nothing.
use Prim.Native.Nat.{ℕ}
use mathlib.Core.Path.{◌≡◌, refl}
use mathlib.Core.List.{List, [], ◌∷◌, ◌++◌}
use Rattle.lists.specs.Words.{lowest}
use Rattle.rules.specs.Numbers.{down, up}
use Rattle.rules.specs.Tables.{idle}
use Rattle.rules.specs.Sound.{counted, settled, ranges, distinct, lawful, fair, spread, kept, orderly, ruled, sound}
use Rattle.rules.specs.Choice.{due_at, open_at, passes_at, sending, earlier, renewed, dropped, by_weight, by_reservation, room, choice}
use Rattle.rules.specs.Events.{shifted, shifted_next, adjusted, back, share_tag, stamped, following, placed, raised, arrive_as, arrive, complete, wait, enter}
use Rattle.rules.specs.Refusals.{event_tests}
use Rattle.rules.specs.Run.{decided, step, fresh}
use Rattle.rules.specs.declared.Refusal.TheVariants.{HeaderCut}
use Rattle.lines.specs.Line.{decimal_in, line_of, refusal_line, title_line}
use Rattle.trace.specs.Header.{same, body, rule_in, credit_at, header_tests_for}
use Rattle.trace.specs.Event.{kind_in, upper_in, event_from, event_of, events_of}
use Rattle.trace.specs.Printed.{answered}
use Rattle.judge.specs.Judging.{told, leads, heard_in, heard_choice, heard, wrong_at, accepted, judged_from, judged_of}

abbrev trace : List ℕ
trace =
    83 ∷ 71 ∷ 81 ∷ 1 ∷ 0 ∷ 1 ∷ 2 ∷ 8 ∷ 0
    ∷ 0 ∷ 0 ∷ 0 ∷ 0 ∷ 0 ∷ 0 ∷ 0 ∷ 0 ∷ 1 ∷ 0 ∷ 0 ∷ 0
    ∷ 0 ∷ 0 ∷ 0 ∷ 0 ∷ 0 ∷ 0 ∷ 0 ∷ 0 ∷ 1 ∷ 0 ∷ 0 ∷ 0
    ∷ 0 ∷ 0 ∷ 1 ∷ 0 ∷ 0 ∷ 0 ∷ 0 ∷ 0 ∷ 0 ∷ 0 ∷ 0 ∷ 0 ∷ 0 ∷ 0
    ∷ 0 ∷ 0 ∷ 2 ∷ 0 ∷ 0 ∷ 0 ∷ 0 ∷ 0 ∷ 0 ∷ 0 ∷ 0 ∷ 0 ∷ 0 ∷ 0
    ∷ 0 ∷ 1 ∷ 7 ∷ 0 ∷ 0 ∷ 0 ∷ 0 ∷ 0 ∷ 0 ∷ 0 ∷ 0 ∷ 0 ∷ 0 ∷ 0
    ∷ 1 ∷ 0 ∷ 1 ∷ 0 ∷ 0 ∷ 0 ∷ 0 ∷ 0 ∷ 0 ∷ 0 ∷ 0 ∷ 0 ∷ 0 ∷ 0
    ∷ 1 ∷ 0 ∷ 2 ∷ 0 ∷ 0 ∷ 0 ∷ 0 ∷ 0 ∷ 0 ∷ 0 ∷ 0 ∷ 0 ∷ 0 ∷ 0 ∷ []

-- `event answer`, `1 W 0 1`, `2 -`, `3 -`
abbrev start : List ℕ
start = title_line ++ (49 ∷ 32 ∷ 87 ∷ 32 ∷ 48 ∷ 32 ∷ 49 ∷ 10 ∷ 50 ∷ 32 ∷ 45 ∷ 10 ∷ 51 ∷ 32 ∷ 45 ∷ 10 ∷ [])

-- `4 W 0 2`: the tie goes to the earlier, as ours does
abbrev ours4 : List ℕ
ours4 = 52 ∷ 32 ∷ 87 ∷ 32 ∷ 48 ∷ 32 ∷ 50 ∷ 10 ∷ []

-- `4 W 1 7`: the tie goes to the other guest
abbrev theirs4 : List ℕ
theirs4 = 52 ∷ 32 ∷ 87 ∷ 32 ∷ 49 ∷ 32 ∷ 55 ∷ 10 ∷ []

-- `5 W 1 7`: id 2 was in flight and completes, and guest 1's goes
abbrev sent5 : List ℕ
sent5 = 53 ∷ 32 ∷ 87 ∷ 32 ∷ 49 ∷ 32 ∷ 55 ∷ 10 ∷ []

-- `5 X 10`: id 2 still waits
abbrev refused5 : List ℕ
refused5 = 53 ∷ 32 ∷ 88 ∷ 32 ∷ 49 ∷ 48 ∷ 10 ∷ []

-- `5 -`
abbrev silent5 : List ℕ
silent5 = 53 ∷ 32 ∷ 45 ∷ 10 ∷ []

pub record Readings : Type 0 where
  -- two outputs of one trace, both right: each is judged at the tables of its own choices
  pub ours : judged_of trace (start ++ (ours4 ++ sent5)) ≡ accepted
  pub theirs : judged_of trace (start ++ (theirs4 ++ refused5)) ≡ accepted
  -- what is right after one choice is wrong after the other: line 6, and what was due there
  pub mixed : judged_of trace (start ++ (theirs4 ++ sent5)) ≡ wrong_at 6 (3, 0, 0, 10)
  pub mixed_back : judged_of trace (start ++ (ours4 ++ refused5)) ≡ wrong_at 6 (2, 1, 7, 0)
  -- nothing sent where a send was due
  pub silent : judged_of trace (start ++ (ours4 ++ silent5)) ≡ wrong_at 6 (2, 1, 7, 0)
  -- a line is missing, a line is surplus, a last line lacks byte 10, and a carriage return is no part of a line
  pub missing : judged_of trace (start ++ ours4) ≡ wrong_at 6 (2, 1, 7, 0)
  pub surplus : judged_of trace (start ++ (ours4 ++ (sent5 ++ (54 ∷ [])))) ≡ wrong_at 7 (4, 0, 0, 0)
  pub unended : judged_of trace (start ++ (ours4 ++ (53 ∷ 32 ∷ 87 ∷ 32 ∷ 49 ∷ 32 ∷ 55 ∷ []))) ≡ wrong_at 6 (2, 1, 7, 0)
  pub returned : judged_of trace (start ++ (ours4 ++ (53 ∷ 32 ∷ 87 ∷ 32 ∷ 49 ∷ 32 ∷ 55 ∷ 13 ∷ 10 ∷ []))) ≡ wrong_at 6 (2, 1, 7, 0)
  -- the header line, and that of no trace at all
  pub no_lines : judged_of trace [] ≡ wrong_at 1 (0, 0, 0, 0)
  pub no_trace : judged_of [] (refusal_line HeaderCut) ≡ accepted
  pub no_trace_titled : judged_of [] title_line ≡ wrong_at 1 (3, 0, 0, 13)

pub readings : Readings
unfolding lowest down up idle counted settled ranges distinct lawful fair spread kept orderly sound ruled due_at open_at passes_at sending earlier renewed dropped by_weight by_reservation room choice shifted shifted_next adjusted back share_tag stamped following placed raised arrive_as arrive complete wait enter event_tests decided step fresh same body rule_in credit_at header_tests_for kind_in upper_in event_from event_of events_of decimal_in line_of refusal_line answered told leads heard_in heard_choice heard judged_from judged_of
readings =
    record {
      ours = refl;
      theirs = refl;
      mixed = refl;
      mixed_back = refl;
      silent = refl;
      missing = refl;
      surplus = refl;
      unended = refl;
      returned = refl;
      no_lines = refl;
      no_trace = refl;
      no_trace_titled = refl;
    }
