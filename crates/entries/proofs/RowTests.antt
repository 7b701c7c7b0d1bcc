-- The tests of a row of numbers, by the numbers that stand in the table at its columns. Assumes nothing.
use Prim.Native.Nat.{ℕ, ◌+◌, ◌*◌, ◌<◌}
use mathlib.Core.Path.{◌≡◌}
use mathlib.Core.List.{List}
use native.Mathlib.Omega.{arith}
use lib.ListN.{get_or}
use Rattle.lists.specs.Tab.{get_or-tab}
use Rattle.lists.specs.Lines.{line_at}
use Rattle.rules.specs.Sound.{settled}
use Rattle.table.specs.Columns.{RESERVATION, LIMIT, SHARES, GUEST, ID}
use Rattle.table.specs.View.{name_is}
use Rattle.entries.specs.Tests.{named, named_row, settings_are, settled_row}

module _ (wide : ℕ) (xs : List ℕ) (k : ℕ) where
  -- the number in column j of row k
  abbrev pub cell : ℕ → ℕ
  cell j = get_or xs (k * wide + j) 0

  -- it stands there in the row
  cell_is : (j : ℕ) → j < wide → get_or (line_at wide xs k) j 0 ≡ cell j
  cell_is j h = get_or-tab wide cell j 0 h

  -- the name that the row begins with
  pub named_is : (n : ℕ) → ID < wide → named_row n (line_at wide xs k) ≡ named n (name_is (cell GUEST) (cell ID))
  named_is n h = rw (cell_is GUEST (omega arith), cell_is ID h)

  -- the settings that it begins with
  pub settled_is : (c : ℕ) → SHARES < wide → c < wide → settled_row c (line_at wide xs k) ≡ settled (settings_are (cell RESERVATION) (cell LIMIT) (cell SHARES) (cell c))
  settled_is c h l = rw (cell_is RESERVATION (omega arith), cell_is LIMIT (omega arith), cell_is SHARES h, cell_is c l)
