-- `wrong_at` meets its contract: an answer's first four numbers. Assumes nothing.
use mathlib.Core.Path.{ap}
use Rattle.gate.specs.declared.Reply.{Reply}
use Rattle.judge.specs.Judging.{wrong_at}
use Rattle.judges.proofs.wrong_at.Goals as goal

pub returns : goal.returns
returns c = ap (λ (r : Reply). wrong_at c.args.line (r.kind, r.guest, r.id, r.refusal)) c.five_of-due.ensures
