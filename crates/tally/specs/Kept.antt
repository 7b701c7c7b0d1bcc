-- The lent numbers as a page: the tables, a row of the book for each waiting request, and a row of figures for each guest. And what is known of
-- those rows while a trace is read.
use Rattle.std.specs.Prelude.{◌≡◌, ℕ, ◌+◌, ◌*◌, ◌^◌, ◌<◌, ◌≤◌, List, length}
use Rattle.lists.specs.Tab.{tab}
use Rattle.rules.specs.declared.Gate.{Gate}
use Rattle.table.specs.Columns.{GUEST, ID, LTAG, waiting_at}
use Rattle.table.specs.View.{table_of}
use Rattle.book.specs.Book.{Entry}
use Rattle.book.specs.Figures.{Figures}
use Rattle.book.specs.Page.{Page}
use Rattle.tally.specs.Columns.{SINCE, LIMITED, note_wide, ARRIVALS, COMPLETIONS, RESERVED, WEIGHED, AHEAD, UPPER, LOWER, LONGEST, figures_wide, note_at, figure_at}

-- the entry of note k
abbrev pub entry_at : List ℕ → ℕ → Entry
entry_at bk k = record { guest = note_at bk k GUEST; id = note_at bk k ID; time = note_at bk k SINCE }

-- the book of the first n notes
abbrev pub book_of : List ℕ → ℕ → List Entry
book_of bk n = tab n (entry_at bk)

-- the figures of guest k; the sum is upper · 2^64 + lower
abbrev pub figures_in : List ℕ → ℕ → Figures
figures_in fg k =
    record {
      arrivals = figure_at fg k ARRIVALS;
      completions = figure_at fg k COMPLETIONS;
      reservation = figure_at fg k RESERVED;
      weight = figure_at fg k WEIGHED;
      ahead = figure_at fg k AHEAD;
      longest = figure_at fg k LONGEST;
      summed = figure_at fg k UPPER * 2 ^ 64 + figure_at fg k LOWER;
    }

-- the figures of the first n guests
abbrev pub figures_of : List ℕ → ℕ → List Figures
figures_of fg n = tab n (figures_in fg)

-- THE PAGE that the lent numbers show
abbrev pub page_of : Gate → (gs ws fs bk fg : List ℕ) → Page
page_of g gs ws fs bk fg = record { table = table_of g gs ws fs; book = book_of bk g.waiting; figures = figures_of fg g.guests }

-- note k of the book is of the waiting request k
pub record Matches (ws bk : List ℕ) (k : ℕ) : Type 0 where
  pub guest : note_at bk k GUEST ≡ waiting_at ws k GUEST
  pub id : note_at bk k ID ≡ waiting_at ws k ID
  pub ltag : note_at bk k LIMITED ≡ waiting_at ws k LTAG

-- what is known of book and figures after at most n events: each waiting request has its note, at its place, with a time that is not ahead; and what
-- grows by one at the most is at most n
pub record Kept (n : ℕ) (g : Gate) (ws bk fg : List ℕ) : Type 0 where
  pub book_room : g.setup.capacity * note_wide ≤ length bk
  pub figures_room : g.guests * figures_wide ≤ length fg
  pub matches : (k : ℕ) → k < g.waiting → Matches ws bk k
  pub past : (k : ℕ) → k < g.waiting → note_at bk k SINCE ≤ g.time
  pub few : (k j : ℕ) → k < g.guests → j ≤ UPPER → figure_at fg k j ≤ n
