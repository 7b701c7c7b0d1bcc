use Rattle.std.proofs.Common.{◌≡◌}
use Rattle.arrays.specs.Counters.{counted_all}
use Rattle.counters.proofs.count_all.Given as goal

-- it counts at the arrays up to the one looked at
abbrev pub invariant-loop-array : goal.invariant-loop-array
invariant-loop-array l = l.counters ≡ counted_all l.array l.guests l.guest l.reserved l.initial.counters
