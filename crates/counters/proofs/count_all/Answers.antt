use Rattle.arrays.proofs.Rows.{counted_none, counted_next}
use Rattle.counters.proofs.count_all.Goals as goal

pub loop-array-init : goal.loop-array-init
loop-array-init c = counted_none _ _ _ _

pub loop-array-preserved : goal.loop-array-preserved
loop-array-preserved c =
    let a = c.args in
    counted_next c.loop-array.array a.guests a.guest a.reserved a.counters.now c.loop-array.counters _ c.loop-array.invariant c.count_row.ensures
