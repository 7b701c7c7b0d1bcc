-- The row that a phase holds of those looked at: by the smallest tag, and of equal tags the earliest.
use Rattle.std.specs.Prelude.{ℕ, ◌<◌, Bool, ◌&&◌, ◌||◌, List, ltb, eqb, if◌then◌else◌, Some, None, Option}
use Rattle.table.specs.Columns.{RESERVATION, RTAG, LTAG, guest_at, waiting_at}
use Rattle.heads.specs.declared.Held.{Held}

-- at this time neither phase could send row j, of guest g: its limit tag is not reached, nor, where its guest has a reservation, its reservation tag
pub record Barred (gs ws : List ℕ) (g j time : ℕ) : Type 0 where
  pub limited : time < waiting_at ws j LTAG
  pub undue : 0 < guest_at gs g RESERVATION → time < waiting_at ws j RTAG

-- the row at `place` goes before the one that is held
abbrev pub before : Held → (place tag : ℕ) → Bool
before h place tag = ltb tag h.tag || (eqb tag h.tag && ltb place h.place)

-- what is held once the row at `place` is looked at
unfoldable pub nearer : Held → (place tag : ℕ) → Held
nearer h place tag = if before h place tag then record { place = place; tag = tag } else h

-- the place that is held, where it is one of the first `count`
unfoldable pub found_in : Held → (count : ℕ) → Option ℕ
found_in h count = if ltb h.place count then Some h.place else None
