-- `ties::hear_plain` meets its contract. Assumes nothing.
use mathlib.Core.Path.{ap}
use Rattle.judge.specs.Hearing.{said_of}
use Rattle.ties.proofs.hear_plain.Goals as goal

pub returns : goal.returns
returns c = ap (said_of c.args.gate c.args.answer) c.says-long.ensures
