-- Where the table of the waiting rows stands in a window.
use Rattle.std.specs.Prelude.{ℕ, ◌+◌, ◌-◌, ◌*◌, ◌≤◌, ◌≡◌, List, length, get_or, take, drop}
use Rattle.table.specs.Columns.{waiting_wide}

-- how many sends a window has room for before the table goes back to its front
abbrev pub spare : ℕ
spare = 256

-- a table of `size` numbers stands in the window from row `start` on, and behind it there are only zeros
pub record Window (size start : ℕ) (window ws : List ℕ) : Type 0 where
  pub fits : start * waiting_wide + size ≤ length window
  pub shows : take (start * waiting_wide + size - start * waiting_wide) (drop (start * waiting_wide) window) ≡ ws
  pub rest : (j : ℕ) → start * waiting_wide + size ≤ j → get_or window j 0 ≡ 0
