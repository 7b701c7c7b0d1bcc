-- A trace that comes in reads: "The program reads standard input through a buffer of 4,096 bytes." What is printed as they come.
use Rattle.std.specs.Prelude.{ℕ, List, [], ◌∷◌, ◌++◌, leb, length, if◌then◌else◌, Ok, Err}
use Rattle.trace.specs.Header.{header_of, Header}
use Rattle.lines.specs.Line.{refusal_line, title_line}
use Rattle.trace.specs.Printed.{Place, lines, left, finished, begun}

-- the reads, one behind the other
unfoldable pub joined : List (List ℕ) → List ℕ
joined [] = []
joined (r ∷ rs) = r ++ joined rs

-- more bytes have come
abbrev pub more : Place → List ℕ → Place
more p r = record { version = p.version; bytes = p.bytes ++ r; table = p.table; number = p.number }

-- the lines of events as they come: the whole ones are judged before each read, and the bytes of an unfinished one stay
unfoldable pub as_read : Place → List (List ℕ) → List ℕ
as_read p [] = finished p
as_read p (r ∷ rs) = lines p ++ as_read (more (left p) r) rs

-- what is printed where the first bytes are judged as a header
abbrev pub printed_first : Header → List ℕ → List (List ℕ) → List ℕ
printed_first (Err r) bs rs = refusal_line r
printed_first (Ok o) bs rs = title_line ++ as_read (begun o bs) rs

-- what is printed of a trace that comes in reads: the header is judged once `room` bytes are there or no more come
unfoldable pub printed_reads : (room : ℕ) → List ℕ → List (List ℕ) → List ℕ
printed_reads room bs [] = printed_first (header_of bs) bs []
printed_reads room bs (r ∷ rs) = if leb room (length bs) then printed_first (header_of bs) bs (r ∷ rs) else printed_reads room (bs ++ r) rs
