use Rattle.std.proofs.Common.{arith}
use Rattle.rules.specs.Numbers.{down}
use Rattle.rules.proofs.Spacings.{down_le, cost_le}
use Rattle.table.specs.Columns.{RESERVATION, guest_at}
use Rattle.drops.proofs.fall_after.Goals as goal

pub overflow_mul-by : goal.overflow_mul-by
overflow_mul-by c =
    let a = c.args in
    let r = guest_at a.guests.now a.guest RESERVATION in
    record { fits = rw c.spacing-spacing.ensures (omega (arith, cost_le a.cost (down r) c.requires.1 (down_le r))) }
