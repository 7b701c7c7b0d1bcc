-- `among` meets its contract: the rows up to the last one looked at are passed, and those up to the next stand behind others. Assumes nothing.
use Rattle.looks.specs.InLine.{Passed}
use Rattle.picks.specs.Collected.{next}
use Rattle.picks.proofs.among.Given as goal

abbrev pub invariant-loop-at : goal.invariant-loop-at
invariant-loop-at l = let q = l.queue in Passed q.guests.now q.waiting.now q.known q.count q.time l.latest (next l.rows l.at-index) l.best
