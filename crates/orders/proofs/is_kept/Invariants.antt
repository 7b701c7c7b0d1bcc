-- One walk over the requests: what is left of the test of every guest still comes to the same. The gap of a guest that has a floor stands in the list.
use Rattle.entries.specs.Kinds.{gap_at, Gaps}
use Rattle.orders.proofs.OneKind.{Walked}
use Rattle.orders.proofs.is_kept.Given as goal

abbrev pub invariant-loop-i : goal.invariant-loop-i
invariant-loop-i l =
    Walked l.guests l.known l.waiting l.count l.kind l.lows l.floors l.i × Gaps (gap_at l.guests l.kind) l.known l.gaps l.floors
