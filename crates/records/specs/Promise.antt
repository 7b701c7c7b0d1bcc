-- What the public calls over a lent slice of guest records promise: what every call promises (crates/gate/specs/Promise.antt), with the records
-- themselves in the statement. A record is a guest, and n guests need n of them.
use Rattle.std.specs.Prelude.{ℕ, List, ◌++◌, length, get_or, drop}
use Rattle.lists.specs.Tab.{tab}
use Rattle.rules.specs.declared.Event.{Event}
use Rattle.rules.specs.declared.Guest.{Guest}
use Rattle.rules.specs.declared.Gate.{Gate}
use Rattle.gate.specs.Promise.{Lending, HandedIn, SeenIn, seen_in, called_in, opened_in}
use Rattle.packs.specs.Records.{blank}

-- the first n guests of the lent records; a place past the end shows a blank one, and is refused before it is looked at
unfoldable pub guests_in : List Guest → ℕ → List Guest
guests_in rs n = tab n (λ k. get_or rs k blank)

-- guests written over lent records: those past them stay as they were
abbrev pub over_records : (hs rs : List Guest) → List Guest
over_records hs rs = hs ++ drop (length hs) rs

-- guests are lent as records, one a guest
abbrev pub records : Lending
records = record { Cell = Guest; needs = λ n. n; shows = guests_in; over = over_records }

-- what a caller sees
abbrev pub seen : HandedIn records → SeenIn records
seen = seen_in records

-- THE PROMISE of an arrival, a completion and a tick
abbrev pub called : Event → Gate → List Guest → (ws fs : List ℕ) → HandedIn records
called = called_in records

-- THE PROMISE of an opening
abbrev pub opened : (d n c rule : ℕ) (ss : List ℕ) → List Guest → (ws fs : List ℕ) → HandedIn records
opened = opened_in records
