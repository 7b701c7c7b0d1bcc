-- What the test of soundness asks of its caller: the counts lie in their ranges, and the lent tables are long enough for them. It asks nothing of the numbers.
use Rattle.std.specs.Prelude.{ℕ, ◌*◌, ◌≤◌, List, length}
use Rattle.rules.specs.Refused.{Countable}
use Rattle.rules.specs.declared.Gate.{Gate}
use Rattle.table.specs.Columns.{guest_wide, flight_wide, waiting_wide}

-- depth, guests and capacity lie in their ranges, and the lent tables are long enough for them
pub record Fitting (gate : Gate) (gs ws fs : List ℕ) : Type 0 where
  pub counts : Countable gate.setup.depth gate.guests gate.setup.capacity
  pub guest_room : gate.guests * guest_wide ≤ length gs
  pub waiting_room : gate.setup.capacity * waiting_wide ≤ length ws
  pub flight_room : gate.setup.depth * flight_wide ≤ length fs
