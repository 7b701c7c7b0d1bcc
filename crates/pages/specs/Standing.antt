-- Where the program stands in its trace, by what it has read so far, and how it ends. Nothing is written before the end.
use Rattle.std.specs.Prelude.{ℕ, ◌+◌, ◌*◌, ◌≤◌, ◌<◌, ◌≡◌, Bool, List, [], ◌++◌, length}
use Rattle.rules.specs.Tables.{Table}
use Rattle.rules.specs.declared.Gate.{Gate}
use Rattle.table.specs.Columns.{most_guests}
use Rattle.table.specs.View.{Known}
use Rattle.book.specs.Page.{Page}
use Rattle.book.specs.Balance.{Balanced}
use Rattle.tally.specs.Columns.{ARRIVALS, COMPLETIONS, RESERVED, WEIGHED, figures_wide, figure_at}
use Rattle.tally.specs.Kept.{figures_of, page_of, Kept}
use Rattle.port.specs.Tape.{Tape, Holds}
use Rattle.stream.specs.Outcome.{MOST, May, Ran, Last}
use Rattle.stream.specs.declared.End.{End}
use Rattle.pages.specs.Sheet.{Stand, closing, figures_lines, sheet_of}

-- THE PROGRAM: what was written is right, and all of it where the program ends well
abbrev pub Listed : End → ℕ → Type 0
Listed end n = Ran sheet_of MOST end n

-- the most bytes of a guest's line: eleven numbers of twenty digits, ten spaces, byte 10
abbrev pub SHEETLINE : ℕ
SHEETLINE = 231

-- where the reading stands: the trace's version, the bytes that are left, and the page that the lent numbers show
abbrev pub stand_of : (version : ℕ) → List ℕ → Gate → (gs ws fs bk fg : List ℕ) → Stand
stand_of v bs g gs ws fs bk fg = record { version = v; bytes = bs; page = page_of g gs ws fs bk fg }

-- the lent numbers are known, after at most n events
pub record Firm (n : ℕ) (g : Gate) (gs ws fs bk fg : List ℕ) : Type 0 where
  pub known : Known g gs ws fs
  pub kept : Kept n g ws bk fg

-- more bytes have come
abbrev pub more : Stand → List ℕ → Stand
more s later = record { version = s.version; bytes = s.bytes ++ later; page = s.page }

-- the page was begun at a table on which nothing waited and nothing was in flight, and is in balance with it
pub record Fair (p : Page) : Type 0 where
  pub first : Table
  pub unwaited : first.waiting ≡ []
  pub unflown : first.flight ≡ []
  pub balanced : Balanced first p

-- nothing is written, and the sheet is the one that closes the reading at s, whatever comes yet; the last read said that there are no more bytes,
-- or it did not
pub record Standing (ended : Bool) (n : ℕ) (s : Stand) : Type 0 where
  pub tape : Tape
  pub held : Holds n tape
  pub mark : tape.ended ≡ ended
  pub wrote : tape.wrote ≡ []
  pub stands : (later : List ℕ) → May tape later → sheet_of (tape.read ++ later) ≡ closing (more s later)
  pub fair : Fair s.page

-- of the guests whose figures stand in these rows none was sent more than arrived, and none completed more than was sent
abbrev pub Owing : ℕ → List ℕ → Type 0
Owing known fg =
    (k : ℕ) → k < known
    → (figure_at fg k RESERVED + figure_at fg k WEIGHED ≤ figure_at fg k ARRIVALS) × (figure_at fg k COMPLETIONS ≤ figure_at fg k RESERVED + figure_at fg k WEIGHED)

-- all is read, and the lines of the figures of the first `known` guests are the last bytes
pub record Closes (n known : ℕ) (fg : List ℕ) : Type 0 where
  pub few : known ≤ most_guests
  pub room : known * figures_wide ≤ length fg
  pub owing : Owing known fg
  pub last : Last sheet_of n (figures_lines 0 (figures_of fg known))
