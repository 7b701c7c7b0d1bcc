-- What the number of a line counts: before line n stand n - 1 bytes 10, each of which ends a line; a printed line has one, its last byte. Assumes nothing.
use Prim.Native.Nat.{ℕ, suc, ◌+◌}
use mathlib.Core.Path.{◌≡◌, refl, ap, ◌∙◌}
use mathlib.Core.Bool.{Bool, true, false, not}
use mathlib.Core.List.{List, [], ◌∷◌, ◌++◌, map}
use native.Mathlib.Omega.{arith}
use lib.Dec.{eqb}
use lib.ListN.{length}
use borrow.Author.Tests.{not-true}
use Rattle.lists.specs.Words.{if◌then◌else◌}
use Rattle.lists.specs.WordsLaws.{both}
use Rattle.rules.specs.Answers.{number_of}
use Rattle.rules.specs.Choice.{Result}
use Rattle.rules.specs.declared.Answer.{Answer}
use Rattle.lines.specs.Line.{decimal_of, spaced, answer_of, line_of, trace_refused, refusal_line}
use Rattle.trace.specs.Header.{header_of, Header}
use Rattle.trace.specs.Printed.{lines_from}
use Rattle.judge.specs.Acceptable.{head_by, head_line, lines_of}
use Rattle.judge.proofs.Bytes.{free, digits_free, spaced-free, answer_free}
use Rattle.std.specs.Prelude.{Ok, Err}

-- how many bytes 10 there are
abbrev pub ends : List ℕ → ℕ
ends [] = 0
ends (x ∷ xs) = if eqb x 10 then suc (ends xs) else ends xs

ends-append : (xs ys : List ℕ) → ends (xs ++ ys) ≡ ends xs + ends ys
ends-append [] ys = omega arith
ends-append (x ∷ xs) ys = go (eqb x 10) (ends-append xs ys)
  where
    go : (b : Bool) → ends (xs ++ ys) ≡ ends xs + ends ys → (if b then suc (ends (xs ++ ys)) else ends (xs ++ ys)) ≡ (if b then suc (ends xs) else ends xs) + ends ys
    go true e = omega arith
    go false e = e

-- where none is 10 there are none
ends-free : (xs : List ℕ) → free 10 xs ≡ true → ends xs ≡ 0
ends-free [] h = refl
ends-free (x ∷ xs) h = let c = both (not (eqb x 10)) (free 10 xs) h in rw (not-true (eqb x 10) c.0) (ends-free xs c.1)

-- a line ends once
pub line-ends : (n : ℕ) (a : Answer) → ends (line_of n a) ≡ 1
unfolding line_of
line-ends n a =
    ends-append (decimal_of n) (32 ∷ (answer_of a ++ (10 ∷ [])))
    ∙ (let i = ends-free (decimal_of n) (digits_free 10 (omega arith) n n) in let j = ends-append (answer_of a) (10 ∷ []) in let k = ends-free (answer_of a) (answer_free a) in omega (arith, i, j, k))

-- and so does the header line
head_ends : (h : Header) → ends (head_by h) ≡ 1
unfolding refusal_line
head_ends (Ok o) = refl
head_ends (Err r) =
    ends-append trace_refused (spaced (number_of r ∷ []) ++ (10 ∷ []))
    ∙ (let j = ends-append (spaced (number_of r ∷ [])) (10 ∷ []) in let k = ends-free (spaced (number_of r ∷ [])) (spaced-free (number_of r ∷ [])) in omega (arith, j, k))

lines_end : (n : ℕ) (l : List Answer) → ends (lines_from n l) ≡ length l
unfolding lines_from
lines_end n [] = refl
lines_end n (a ∷ l) = ends-append (line_of (n + 1) a) (lines_from (n + 1) l) ∙ (let i = line-ends (n + 1) a in let j = lines_end (n + 1) l in omega (arith, i, j))

length-answers : (rs : List Result) → length (map Result.answer rs) ≡ length rs
length-answers [] = refl
length-answers (r ∷ rs) = ap suc (length-answers rs)

-- Behind the header line and the lines of these results, as many lines have ended as the next one's number says: `later` numbers it `length rs + 2`.
pub lines-counted : (bs : List ℕ) (rs : List Result) → ends (head_line bs ++ lines_of rs) ≡ length rs + 1
lines-counted bs rs =
    ends-append (head_line bs) (lines_of rs)
    ∙ (let i = head_ends (header_of bs) in let j = lines_end 0 (map Result.answer rs) ∙ length-answers rs in omega (arith, i, j))
