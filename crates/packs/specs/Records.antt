-- How many of the lent guest records a call looks at, and a call over numbers on the rows of those.
use Rattle.std.specs.Prelude.{ℕ, ◌*◌, min, List, ◌++◌, take, drop}
use Rattle.rules.specs.declared.Guest.{Guest}
use Rattle.table.specs.Columns.{guest_wide, most_guests}
use Rattle.table.specs.View.{Handed}

-- the record that stands where none is lent
abbrev pub blank : Guest
blank = record { settings = record { reservation = 0; limit = 0; shares = 0; credit = 0 }; rnext = 0; lnext = 0; snext = 0 }

-- how many of the lent records a call looks at: no more than the settings ask for, than are lent, and than there may be guests
abbrev pub in_use : (wanted lent : ℕ) → ℕ
in_use wanted lent = min wanted (min lent most_guests)

-- what a call over numbers hands back where it is handed the first rows of a list, one row a record, and the rest of the list stays
abbrev pub in_part : (count : ℕ) → List ℕ → (List ℕ → Handed) → Handed
in_part count xs does = let h = does (take (count * guest_wide) xs) in (h.0, h.1 ++ drop (count * guest_wide) xs, h.2, h.3)
