-- Counts in range and tables that are not too short are what the test of soundness asks. Assumes nothing.
use Prim.Native.Nat.{ℕ, ◌*◌}
use mathlib.Core.Path.{◌≡◌}
use mathlib.Core.Bool.{true, false, ◌||◌}
use mathlib.Core.List.{List}
use lib.Dec.{ltb}
use lib.ListN.{length}
use borrow.Author.Tests.{ltb-false}
use Rattle.lists.specs.WordsLaws.{neither}
use Rattle.rules.specs.declared.Gate.{Gate}
use Rattle.rules.proofs.Conditions.{counted_means}
use Rattle.table.specs.Columns.{guest_wide, flight_wide, waiting_wide}
use Rattle.table.specs.View.{countable, short}
use Rattle.sound.specs.Fitting.{Fitting}

-- a gate in range whose tables are not too short
pub fitting : (gate : Gate) (gs ws fs : List ℕ) → countable gate ≡ true → short gate gs ws fs ≡ false → Fitting gate gs ws fs
unfolding short
fitting gate gs ws fs c s =
    let h : ltb (length gs) (gate.guests * guest_wide) || ltb (length ws) (gate.setup.capacity * waiting_wide) || ltb (length fs) (gate.setup.depth * flight_wide) ≡ false = rw c at s in
    let p = neither (ltb (length gs) (gate.guests * guest_wide) || ltb (length ws) (gate.setup.capacity * waiting_wide)) (ltb (length fs) (gate.setup.depth * flight_wide)) h in
    let q = neither (ltb (length gs) (gate.guests * guest_wide)) (ltb (length ws) (gate.setup.capacity * waiting_wide)) p.0 in
    record {
      counts = (counted_means gate.setup.depth gate.guests gate.setup.capacity).holds.0 c;
      guest_room = ltb-false (length gs) (gate.guests * guest_wide) q.0;
      waiting_room = ltb-false (length ws) (gate.setup.capacity * waiting_wide) q.1;
      flight_room = ltb-false (length fs) (gate.setup.depth * flight_wide) p.1;
    }
