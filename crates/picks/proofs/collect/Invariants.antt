-- `collect` meets its contract: each guest of a row that was passed has its bit, and the first row of each is collected. Assumes nothing.
use Prim.Native.Nat.{◌<◌}
use Rattle.picks.specs.Collected.{Collecting}
use Rattle.picks.proofs.collect.Given as goal

abbrev pub invariant-loop-row : goal.invariant-loop-row
invariant-loop-row l = Collecting l.queue.waiting.now l.queue.known l.rows l.seen l.n l.row × (l.row < l.queue.count → l.n < l.queue.known)
