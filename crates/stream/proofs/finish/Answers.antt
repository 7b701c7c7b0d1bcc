use Rattle.stream.specs.Outcome.{MOST}
use Rattle.stream.proofs.Outcomes.{last_next, next_unwritten}
use Rattle.stream.proofs.finish.Goals as goal

pub returns-then-not-emit : goal.returns-then-not-emit
returns-then-not-emit g c =
    let a = c.args in
    next_unwritten g.prints MOST a.log.now c.emit.new.log a.bytes.now c.emit.result c.emit.ensures (last_next g.prints a.log.now a.bytes.now c.requires) c.if-not-emit.true
