-- Answers to a run of events as they were read, the table after it and the lines: runs join, and one event more. `step` stays shut, so a new
-- rule leaves this file alone. Assumes nothing.
use Prim.Native.Nat.{ℕ, suc, ◌+◌, ◌*◌}
use mathlib.Core.Path.{◌≡◌, refl, sym, ap, ◌∙◌}
use mathlib.Core.List.{List, [], ◌∷◌, ◌++◌, append_assoc, append-nil}
use native.Mathlib.Omega.{arith}
use native.Mathlib.Nat.{add-zero}
use lib.ListN.{length, drop}
use Rattle.rules.specs.Tables.{Table}
use Rattle.rules.specs.declared.Answer.{Answer}
use Rattle.lines.specs.Line.{line_of}
use Rattle.trace.specs.Event.{event_of, events_of, Read}
use Rattle.trace.specs.Printed.{answered, answers_to, table_after, lines_from}
use Rattle.trace.proofs.EventLaws.{events_snoc, length-events}

-- TWO RUNS

pub answers-append : (t : Table) (xs ys : List Read) → answers_to t (xs ++ ys) ≡ answers_to t xs ++ answers_to (table_after t xs) ys
unfolding answers_to table_after
answers-append t [] ys = refl
answers-append t (x ∷ xs) ys = ap ((answered t x).answer ∷◌) (answers-append (answered t x).table xs ys)

pub table-append : (t : Table) (xs ys : List Read) → table_after t (xs ++ ys) ≡ table_after (table_after t xs) ys
unfolding table_after
table-append t [] ys = refl
table-append t (x ∷ xs) ys = table-append (answered t x).table xs ys

pub length-answers : (t : Table) (es : List Read) → length (answers_to t es) ≡ length es
unfolding answers_to
length-answers t [] = refl
length-answers t (e ∷ es) = ap suc (length-answers (answered t e).table es)

pub lines-append : (n : ℕ) (xs ys : List Answer) → lines_from n (xs ++ ys) ≡ lines_from n xs ++ lines_from (n + length xs) ys
unfolding lines_from
lines-append n [] ys = rw add-zero
lines-append n (x ∷ xs) ys =
    let e : n + 1 + length xs ≡ n + suc (length xs) = omega arith in
    ap (λ (l : List ℕ). line_of (n + 1) x ++ l) (lines-append (n + 1) xs ys ∙ ap (λ (k : ℕ). lines_from (n + 1) xs ++ lines_from k ys) e)
    ∙ sym (append_assoc (line_of (n + 1) x) (lines_from (n + 1) xs) (lines_from (n + suc (length xs)) ys))

-- the lines of two runs, the second of which goes on from the first
pub lines_runs : (n : ℕ) (t : Table) (xs ys : List Read) → lines_from n (answers_to t (xs ++ ys)) ≡ lines_from n (answers_to t xs) ++ lines_from (n + length xs) (answers_to (table_after t xs) ys)
lines_runs n t xs ys =
    ap (lines_from n) (answers-append t xs ys)
    ∙ lines-append n (answers_to t xs) (answers_to (table_after t xs) ys)
    ∙ ap (λ (k : ℕ). lines_from n (answers_to t xs) ++ lines_from (n + k) (answers_to (table_after t xs) ys)) (length-answers t xs)

-- ONE EVENT MORE of the bytes, as a loop goes over them

pub table_more : (v : ℕ) (t : Table) (k : ℕ) (bs : List ℕ) → table_after t (events_of v (k + 1) bs) ≡ (answered (table_after t (events_of v k bs)) (event_of v (drop (k * 14) bs))).table
unfolding table_after
table_more v t k bs = ap (table_after t) (events_snoc v k bs) ∙ table-append t (events_of v k bs) (event_of v (drop (k * 14) bs) ∷ [])

pub lines_more : (v n : ℕ) (t : Table) (k : ℕ) (bs : List ℕ)
    → lines_from n (answers_to t (events_of v (k + 1) bs)) ≡ lines_from n (answers_to t (events_of v k bs)) ++ line_of (n + k + 1) (answered (table_after t (events_of v k bs)) (event_of v (drop (k * 14) bs))).answer
unfolding answers_to lines_from
lines_more v n t k bs =
    ap (λ (es : List Read). lines_from n (answers_to t es)) (events_snoc v k bs)
    ∙ lines_runs n t (events_of v k bs) (event_of v (drop (k * 14) bs) ∷ [])
    ∙ ap (λ (j : ℕ). lines_from n (answers_to t (events_of v k bs)) ++ (line_of (n + j + 1) (answered (table_after t (events_of v k bs)) (event_of v (drop (k * 14) bs))).answer ++ [])) (length-events v k bs)
    ∙ ap (λ (l : List ℕ). lines_from n (answers_to t (events_of v k bs)) ++ l) (append-nil _)
