-- No row before the place reached has the name.
use Rattle.walks.specs.WalksRows.{NoneBefore}
use Rattle.walks.proofs.flight.find_flight.Given as goal

abbrev pub invariant-loop-place : goal.invariant-loop-place
invariant-loop-place l = NoneBefore l.flight l.count l.guest l.id l.place
