-- `soonest` meets its contract. After some guests the loop holds the smallest time of their rows, which is still ahead. Assumes nothing.
use Rattle.alarms.specs.Woken.{Woken}
use Rattle.alarms.proofs.soonest.Given as goal

abbrev pub invariant-loop-g : goal.invariant-loop-g
invariant-loop-g l = Woken l.queue.guests.now l.queue.waiting.now l.queue.known l.queue.count l.queue.time l.rule l.g l.first
