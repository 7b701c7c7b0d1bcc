-- Document 02, K1: "From a trace, print one line for each guest in order, with its number and then, parted by one space:" its figures. "The sum is
-- two 64-bit numbers, upper first. A bad header prints as in 01."
use Rattle.std.specs.Prelude.{ℕ, ◌+◌, ◌-◌, ◌*◌, ◌/◌, ◌%◌, ◌^◌, List, [], ◌∷◌, ◌++◌, drop, Some, None, Ok, Err}
use Rattle.rules.specs.Run.{fresh}
use Rattle.lines.specs.Line.{decimal_of, spaced, refusal_line}
use Rattle.trace.specs.Header.{body, settings_in, header_of, Header}
use Rattle.trace.specs.Event.{events_of, whole, Read}
use Rattle.book.specs.Figures.{Figures}
use Rattle.book.specs.Page.{Page, turned, first_page}
use Rattle.book.specs.Balance.{sends}
use Rattle.trace.specs.declared.Opened.{Opened}

-- WHAT A LINE SAYS

-- Document 02, K1: "how many are left waiting": arrivals less what was sent
abbrev pub still_waiting : Figures → ℕ
still_waiting f = f.arrivals - sends f

-- and in flight: what was sent less what completed
abbrev pub still_flying : Figures → ℕ
still_flying f = sends f - f.completions

-- the numbers behind a guest's own, in the order of the request
abbrev pub values : Figures → List ℕ
values f =
    f.arrivals ∷ f.completions ∷ f.reservation ∷ f.weight ∷ f.ahead ∷ f.longest ∷ f.summed / 2 ^ 64 ∷ f.summed % 2 ^ 64 ∷ still_waiting f ∷ still_flying f ∷ []

-- the line of guest k
unfoldable pub figures_line : ℕ → Figures → List ℕ
figures_line k f = decimal_of k ++ (spaced (values f) ++ (10 ∷ []))

-- a line for each guest, the first of which is guest k
unfoldable pub figures_lines : ℕ → List Figures → List ℕ
figures_lines k [] = []
figures_lines k (f ∷ l) = figures_line k f ++ figures_lines (k + 1) l

-- READING A TRACE

-- an event as it was read turns the page; a bad one is passed over
abbrev pub read : Page → Read → Page
read p (Some e) = turned p e
read p None = p

-- the page after a run of events as they were read
unfoldable pub page_after : Page → List Read → Page
page_after p [] = p
page_after p (e ∷ es) = page_after (read p e) es

-- where the reading stands: the trace's version, bytes that are not judged yet, and the page
pub record Stand : Type 0 where
  pub version : ℕ
  pub bytes : List ℕ
  pub page : Page

-- where it stands once the whole events among the bytes are judged
unfoldable pub onward : Stand → Stand
onward s =
    record {
      version = s.version;
      bytes = drop (whole s.bytes * 14) s.bytes;
      page = page_after s.page (events_of s.version (whole s.bytes) s.bytes);
    }

-- the sheet where no bytes come any more: those of a cut last event are passed over
unfoldable pub closing : Stand → List ℕ
closing s = figures_lines 0 (onward s).page.figures

-- where the reading of events begins: at the fresh table that the header opens
abbrev pub begun_sheet : Opened → List ℕ → Stand
begun_sheet o bs = record { version = o.version; bytes = drop (body o.version o.guests) bs; page = first_page (fresh o.depth o.capacity o.rule (settings_in bs)) }

-- Document 02, K1: "A bad header prints as in 01." Otherwise the lines of all guests
abbrev pub sheet_by : Header → List ℕ → List ℕ
sheet_by (Err r) bs = refusal_line r
sheet_by (Ok o) bs = closing (begun_sheet o bs)

-- THE SHEET: from the bytes of a whole trace to the bytes that the program prints
unfoldable pub sheet_of : List ℕ → List ℕ
sheet_of bs = sheet_by (header_of bs) bs
