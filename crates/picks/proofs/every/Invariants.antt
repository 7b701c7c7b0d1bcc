-- `every` meets its contract: the rows before the one reached are passed. Assumes nothing.
use Rattle.looks.specs.InLine.{Passed}
use Rattle.picks.proofs.every.Given as goal

abbrev pub invariant-loop-place : goal.invariant-loop-place
invariant-loop-place l = let q = l.queue in Passed q.guests.now q.waiting.now q.known q.count q.time l.latest l.place l.best
