-- `soonest` meets its contract. After some rows the walk holds the smallest time of them, which is still ahead; a row whose guest is marked stands
-- behind an earlier one. Assumes nothing.
use Prim.Native.Nat.{◌≤◌}
use Rattle.walks.specs.Unseen.{mark_in, unseen}
use Rattle.wakes.specs.Ready.{InReady}
use Rattle.wakes.proofs.soonest.Given as goal

abbrev pub invariant-loop-row : goal.invariant-loop-row
invariant-loop-row l = InReady l.queue.guests.now l.queue.waiting.now l.queue.known l.queue.count l.queue.time l.rule l.seen l.first l.row × (unseen (mark_in l.seen) l.queue.known ≤ l.left)
