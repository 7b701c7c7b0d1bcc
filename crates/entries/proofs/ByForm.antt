-- A walk over the rows of a form, from the last to the first, that tests each by its numbers: what it knows, and what a turn and the end say.
-- One law for every form and every test, beside the one over rows of numbers in AllRows. Assumes nothing.
use Prim.Native.Nat.{ℕ, ◌-◌, ◌≤◌, ◌<◌}
use mathlib.Core.Path.{◌≡◌, sym, ap, ◌∙◌}
use mathlib.Core.Bool.{Bool, true, false}
use mathlib.Core.List.{List, []}
use native.Mathlib.Omega.{arith}
use lib.ListN.{drop}
use Rattle.lists.specs.Words.{all}
use Rattle.lists.specs.Walks.{all_start, all-next, all_end}
use Rattle.lists.specs.WordsLaws.{place_not}
use Rattle.lists.specs.Lines.{line_at}
use Rattle.lists.specs.Rows.{Form, rows_of}
use Rattle.lists.specs.RowsLaws.{length-rows, row-at}

module _ {A : Type 0} (f : Form A) (ok : A → Bool) (xs : List ℕ) (n : ℕ) where
  -- every row from i on has passed
  abbrev pub Passed : ℕ → Type 0
  Passed i = (i ≤ n) × (all ok (drop i (rows_of f xs n)) ≡ true)

  -- the test of the row before place i
  abbrev pub passes_before : ℕ → Bool
  passes_before i = ok (f.read (line_at f.wide xs (i - 1)))

  -- before the first turn
  pub rows_start : Passed n
  rows_start = (omega arith, all_start ok (rows_of f xs n) (f.read []) n (omega (arith, length-rows f xs n)))

  module _ (i : ℕ) (s : Passed i) (more : 0 < i) where
    -- the row passes
    pub rows_next : passes_before i ≡ true → Passed (i - 1)
    rows_next e = (
      omega arith,
      all-next ok (rows_of f xs n) (f.read []) i more (omega (arith, length-rows f xs n)) (ap ok (row-at f xs n (i - 1) (omega arith)) ∙ e) s.1,
    )

    -- it does not
    pub rows_fail : passes_before i ≡ false → false ≡ all ok (rows_of f xs n)
    rows_fail e =
        sym
        (place_not ok (rows_of f xs n) (f.read []) (i - 1) (omega (arith, length-rows f xs n)) (ap ok (row-at f xs n (i - 1) (omega arith)) ∙ e))

  -- at the first row all have passed
  pub rows_end : (i : ℕ) → Passed i → i ≤ 0 → true ≡ all ok (rows_of f xs n)
  rows_end i s done = all_end ok (rows_of f xs n) (f.read []) i done s.1
