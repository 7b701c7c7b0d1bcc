-- The loop knows that no row of the guest before the next one is this request; that next one is further on at each turn.
use Rattle.index.proofs.Laws.{ahead}
use Rattle.seeks.specs.Sought.{Sought}
use Rattle.seeks.proofs.own_rows.Given as goal

abbrev pub invariant-loop-next : goal.invariant-loop-next
invariant-loop-next l = Sought l.waiting l.count l.guest l.id l.next

abbrev pub decreases-loop-next : goal.decreases-loop-next
decreases-loop-next l = ahead l.count l.next
