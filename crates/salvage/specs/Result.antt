-- Document 02, K12: what comes out of a trace with a good header: its bytes without those of the dropped events, and the list of these. Words in quotes are K12's.
use Rattle.std.specs.Prelude.{ℕ, zero, suc, ◌+◌, ◌*◌, ◌/◌, List, [], ◌∷◌, ◌++◌, length, take, drop, Ok, Err}
use Rattle.trace.specs.Header.{body, version_of, guests_of}
use Rattle.trace.specs.Answers.{event_bytes}
use Rattle.salvage.specs.Fates.{fate_at, Fate, reason_number}

-- ONE EVENT

-- its bytes, where it is kept
abbrev pub bytes_by : Fate → List ℕ → List ℕ
bytes_by (Ok t) bs = bs
bytes_by (Err r) bs = []

-- a row of the list: "event number, and why it was dropped"
pub record Row : Type 0 where
  pub number : ℕ
  pub reason : ℕ

-- its row, where it is dropped
abbrev pub row_by : Fate → (number : ℕ) → List Row
row_by (Ok t) n = []
row_by (Err r) n = record { number = n; reason = reason_number r } ∷ []

-- THE FIRST k EVENTS of the bytes of events

-- the bytes of those that are kept
unfoldable pub kept_of : (version : ℕ) → List ℕ → ℕ → List ℕ
kept_of v bs zero = []
kept_of v bs (suc k) = kept_of v bs k ++ bytes_by (fate_at v bs k) (take 14 (drop (k * 14) bs))

-- the rows of those that are dropped, events being numbered from 1
unfoldable pub rows_of : (version : ℕ) → List ℕ → ℕ → List Row
rows_of v bs zero = []
rows_of v bs (suc k) = rows_of v bs k ++ row_by (fate_at v bs k) (k + 1)

-- how many events the bytes have: the whole ones, and a cut last one
abbrev pub event_count : List ℕ → ℕ
event_count bs = (length bs + 13) / 14

-- THE TRACE

-- the bytes of its kept events
abbrev pub kept_in : List ℕ → List ℕ
kept_in bs = kept_of (version_of bs) (event_bytes bs) (event_count (event_bytes bs))

-- the rows of its dropped events
abbrev pub rows_in : List ℕ → List Row
rows_in bs = rows_of (version_of bs) (event_bytes bs) (event_count (event_bytes bs))

-- WHAT COMES OUT: the header and the records as they stand, then the kept events
unfoldable pub salvaged : List ℕ → List ℕ
salvaged bs = take (body (version_of bs) (guests_of bs)) bs ++ kept_in bs

-- rows as numbers, two for each
unfoldable pub flat : List Row → List ℕ
flat [] = []
flat (r ∷ rs) = r.number ∷ r.reason ∷ flat rs

-- AND THE LIST
abbrev pub list_of : List ℕ → List ℕ
list_of bs = flat (rows_in bs)
