-- What a weight send does to the reservation numbers of its guest, by the numbers.
use Rattle.std.specs.Prelude.{ℕ, ◌-◌, ◌*◌, ◌≡◌, List}
use Rattle.rules.specs.Numbers.{down}
use Rattle.table.specs.Columns.{RESERVATION, RNEXT, guest_at}
use Rattle.drops.specs.declared.Fall.{Fall}

-- f is the fall of guest g after a weight send at cost c
pub record Falls (g c : ℕ) (gs : List ℕ) (f : Fall) : Type 0 where
  pub spacing : f.spacing ≡ down (guest_at gs g RESERVATION)
  pub by : f.by ≡ c * f.spacing
  pub next : f.next ≡ guest_at gs g RNEXT - f.by
