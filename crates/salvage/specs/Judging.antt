-- What the functions within the crate tell each other.
use Rattle.std.specs.Prelude.{ℕ, ◌≤◌, ◌≡◌, List, length, take, Ok, Err}
use Rattle.trace.specs.Header.{mark, body, version_of, guests_of}
use Rattle.salvage.specs.Result.{kept_of, rows_of, event_count, salvaged, list_of}
use Rattle.salvage.specs.Fates.{Fate}

-- how many bytes of the result an event has: none where it is dropped
abbrev pub bytes_for : Fate → ℕ
bytes_for (Ok t) = 14
bytes_for (Err r) = 0

-- how many rows of the list it has: one where it is dropped
abbrev pub rows_for : Fate → ℕ
rows_for (Ok t) = 0
rows_for (Err r) = 1

-- what has to be so where an event is kept
abbrev pub IfKept : Fate → Type 0 → Type 0
IfKept (Ok t) P = P
IfKept (Err r) P = Unit {0}

-- what has to be so where it is dropped
abbrev pub IfDropped : Fate → Type 0 → Type 0
IfDropped (Ok t) P = Unit {0}
IfDropped (Err r) P = P

-- all events of the bytes were looked at: the bytes that are kept, and the rows
pub record Tallied (version : ℕ) (bs : List ℕ) (bytes rows : ℕ) : Type 0 where
  pub bytes_is : bytes ≡ length (kept_of version bs (event_count bs))
  pub rows_is : rows ≡ length (rows_of version bs (event_count bs))

-- a trace of this version, whose events begin at a place
pub record Begun (version at : ℕ) (bs : List ℕ) : Type 0 where
  pub version_is : version ≡ version_of bs
  pub at_is : at ≡ body (version_of bs) (guests_of bs)
  pub marked : take 3 bs ≡ mark
  pub long : 9 ≤ at
  pub whole : at ≤ length bs

-- it has room for its result and for the list
pub record Roomy (bs : List ℕ) (room list : ℕ) : Type 0 where
  pub trace : length (salvaged bs) ≤ room
  pub rows : length (list_of bs) ≤ list
