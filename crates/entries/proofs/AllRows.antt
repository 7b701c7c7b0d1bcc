-- A walk over rows of numbers, from the last to the first, that tests each: what it knows, and what a turn and the end say.
-- One law for every width and every test, and what a test of the rows says of the entries. Assumes nothing.
use Prim.Native.Nat.{ℕ, ◌-◌, ◌≤◌, ◌<◌}
use mathlib.Core.Path.{◌≡◌, sym, ap, ◌∙◌}
use mathlib.Core.Bool.{Bool, true, false}
use mathlib.Core.List.{List, []}
use native.Mathlib.Omega.{arith}
use lib.ListN.{drop}
use Rattle.lists.specs.Words.{all}
use Rattle.lists.specs.Walks.{all_start, all-next, all_end}
use Rattle.lists.specs.WordsLaws.{place_not, all_of_map}
use Rattle.lists.specs.Lines.{line_at, lines_of}
use Rattle.lists.specs.LinesLaws.{length-lines, line_is}
use Rattle.lists.specs.Rows.{Form, rows_of}

-- the entries pass exactly where their rows do
pub entries_are : {A : Type 0} (f : Form A) (ok : A → Bool) (xs : List ℕ) (n : ℕ) → all (λ v. ok (f.read v)) (lines_of f.wide xs n) ≡ all ok (rows_of f xs n)
unfolding rows_of
entries_are f ok xs n = sym (all_of_map ok f.read (lines_of f.wide xs n))

module _ (wide : ℕ) (ok : List ℕ → Bool) (xs : List ℕ) (n : ℕ) where
  -- every row from i on has passed
  abbrev pub Passed : ℕ → Type 0
  Passed i = (i ≤ n) × (all ok (drop i (lines_of wide xs n)) ≡ true)

  -- the test of the row before place i
  abbrev pub passes_before : ℕ → Bool
  passes_before i = ok (line_at wide xs (i - 1))

  -- before the first turn
  pub rows_start : Passed n
  rows_start = (omega arith, all_start ok (lines_of wide xs n) [] n (omega (arith, length-lines wide xs n)))

  module _ (i : ℕ) (s : Passed i) (more : 0 < i) where
    -- the row passes
    pub rows_next : passes_before i ≡ true → Passed (i - 1)
    rows_next e = (
      omega arith,
      all-next ok (lines_of wide xs n) [] i more (omega (arith, length-lines wide xs n)) (ap ok (line_is wide xs n (i - 1) (omega arith)) ∙ e) s.1,
    )

    -- it does not
    pub rows_fail : passes_before i ≡ false → false ≡ all ok (lines_of wide xs n)
    rows_fail e =
        sym
        (place_not ok (lines_of wide xs n) [] (i - 1) (omega (arith, length-lines wide xs n)) (ap ok (line_is wide xs n (i - 1) (omega arith)) ∙ e))

  -- at the first row all have passed
  pub rows_end : (i : ℕ) → Passed i → i ≤ 0 → true ≡ all ok (lines_of wide xs n)
  rows_end i s done = all_end ok (lines_of wide xs n) [] i done s.1
