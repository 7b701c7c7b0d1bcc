-- `first_in_line` meets its contract. After some guests the loop holds for each phase the row of theirs that goes first. Assumes nothing.
use Rattle.rules.specs.Numbers.{ceiling}
use Rattle.rules.specs.Tables.{Request}
use Rattle.walks.specs.WalksRows.{due_in, open_in}
use Rattle.heads.specs.Leading.{Leading}
use Rattle.heads.proofs.first_in_line.Given as goal

abbrev pub invariant-loop-g : goal.invariant-loop-g
invariant-loop-g l =
    let q = l.queue in
    Leading (due_in q.guests.now q.known q.time l.latest) Request.rtag q.waiting.now q.count q.time l.g l.due × Leading (open_in q.time) Request.stag q.waiting.now q.count ceiling l.g l.spare
