-- The rules of soundness that look at one guest or one request, by its numbers.
use Rattle.std.specs.Prelude.{ℕ, Bool, ◌&&◌, List, ltb, get_or}
use Rattle.rules.specs.Tables.{Request}
use Rattle.rules.specs.declared.Settings.{Settings}
use Rattle.rules.specs.declared.Guest.{Guest}
use Rattle.rules.specs.declared.Flight.{Flight}
use Rattle.rules.specs.Sound.{settled, lawful, priced}
use Rattle.table.specs.Columns.{RESERVATION, LIMIT, SHARES, GUEST, ID}
use Rattle.table.specs.View.{name_is}

-- settings from four numbers
abbrev pub settings_are : ℕ → ℕ → ℕ → ℕ → Settings
settings_are r l s c = record { reservation = r; limit = l; shares = s; credit = c }

-- the guest's settings lie in the ranges
abbrev pub settled_guest : Guest → Bool
settled_guest h = settled h.settings

-- its tags are at most the ceiling, and its cost is fair
abbrev pub fits : Request → Bool
fits q = lawful q && priced q

-- a request with these tags and this cost
abbrev pub stamped_as : (rtag ltag stag cost : ℕ) → Request
stamped_as r l s c = record { guest = 0; id = 0; rtag = r; ltag = l; stag = s; cost = c }

-- of n guests the name's guest exists, and its id has 32 bits
abbrev pub named : ℕ → Flight → Bool
named n f = ltb f.guest n && ltb f.id 4294967296

-- the name that a row begins with: of n guests its guest exists, and its id has 32 bits
abbrev pub named_row : ℕ → List ℕ → Bool
named_row n v = named n (name_is (get_or v GUEST 0) (get_or v ID 0))

-- the settings that a row begins with lie in the ranges, with the credit that stands in column c
abbrev pub settled_row : ℕ → List ℕ → Bool
settled_row c v = settled (settings_are (get_or v RESERVATION 0) (get_or v LIMIT 0) (get_or v SHARES 0) (get_or v c 0))
