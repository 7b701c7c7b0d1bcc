use Rattle.tape.specs.Tape.{started}
use Rattle.port.proofs.start.Goals as goal

pub returns : goal.returns
returns c = started
