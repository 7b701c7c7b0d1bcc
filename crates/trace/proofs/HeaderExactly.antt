-- Each number of a bad header is printed exactly where its condition holds and none before it does; where none holds, the header line and the lines
-- of the events are. Assumes nothing.
use Prim.Native.Nat.{ℕ}
use mathlib.Core.Path.{◌≡◌, refl, sym, ap, ◌∙◌}
use mathlib.Core.Bool.{false≢true}
use mathlib.Core.List.{List, ◌++◌}
use native.Mathlib.Omega.{arith}
use lib.ListN.{length, get_or, take}
use Rattle.rules.specs.Answers.{number_of}
use Rattle.rules.specs.Refusals.{Verdict, accept, refuse, judged, is_accept}
use Rattle.rules.specs.Refused.{RefusedExactly, NoneHolds}
use Rattle.rules.proofs.Judged.{Tested, end, ◌and◌, judged-none}
use Rattle.rules.proofs.Conditions.{less, negated, means, counted_means, ruled_means, settled_means, both_mean, within_means}
use Rattle.rules.proofs.Refused.{Tells, exactly}
use Rattle.lines.specs.Line.{title_line, refused_with, refusal_line}
use Rattle.lines.proofs.Decimal.{refused_once}
use Rattle.trace.specs.Header.{mark, first_version, last_version, body, version_of, depth_of, guests_of, capacity_of, rule_of, settings_in, header_tests_for, header_tests, header_by}
use Rattle.trace.specs.Printed.{lines_from, printed_by, printed}
use Rattle.trace.specs.Answers.{answers_of}
use Rattle.trace.specs.Cases.{header_cases_for, header_cases}
use Rattle.trace.proofs.HeaderLaws.{same_is}
use Rattle.trace.proofs.Answers.{printed-lines}

-- the tests of a header
pub header_tested : (from to : ℕ) (bs : List ℕ) → Tested (header_tests_for from to bs) (header_cases_for from to bs)
unfolding header_tests_for header_cases_for
header_tested from to bs =
    (less (length bs) 9).holds
    and (negated (means (same_is (take 3 bs) mark))).holds
    and (negated (means (within_means from to (version_of bs)))).holds
    and (less (length bs) (body (version_of bs) 0)).holds
    and (negated (means (both_mean (counted_means (depth_of bs) (guests_of bs) (capacity_of bs)).holds (ruled_means (rule_of bs)).holds))).holds
    and (less (length bs) (body (version_of bs) (guests_of bs))).holds
    and (negated (settled_means (settings_in bs))).holds
    and end

-- a header is good where no condition holds
pub header_good : (bs : List ℕ) → NoneHolds (header_cases bs) → judged (header_tests bs) ≡ accept
header_good bs n = (judged-none (header_tested first_version last_version bs)).1 n

-- what is printed tells the verdict
header_tells : (bs : List ℕ) → Tells (judged (header_tests bs)) (λ n. printed bs ≡ refused_with n) (printed bs ≡ title_line ++ lines_from 0 (answers_of bs))
unfolding printed refusal_line
header_tells bs = go (judged (header_tests bs)) refl
  where
    first : List ℕ → ℕ
    first l = get_or l 0 0

    go : (v : Verdict) → judged (header_tests bs) ≡ v → Tells v (λ n. printed bs ≡ refused_with n) (printed bs ≡ title_line ++ lines_from 0 (answers_of bs))
    go accept e =
        record {
          number = λ n. (λ p. absurd (omega (arith, ap first (sym (printed-lines bs e) ∙ p))), λ g. absurd g);
          accepting = (λ p. refl, λ p. printed-lines bs e);
        }
    go (refuse r) e =
        let shows : printed bs ≡ refused_with (number_of r) = ap (λ (v : Verdict). printed_by (header_by v bs) bs) e in
        record {
          number = λ n. (λ p. refused_once (number_of r) n (sym shows ∙ p), λ g. shows ∙ ap refused_with g);
          accepting = (λ p. absurd (omega (arith, ap first (sym shows ∙ p))), λ p. absurd (false≢true (ap is_accept p)));
        }

-- "A bad header prints the one line `trace refused` and the number. Otherwise the header line `event answer`, then a line for each event"
pub header_exactly : (bs : List ℕ) → RefusedExactly (header_cases bs) (λ n. printed bs ≡ refused_with n) (printed bs ≡ title_line ++ lines_from 0 (answers_of bs))
header_exactly bs = exactly (header_tested first_version last_version bs) (header_tells bs)
